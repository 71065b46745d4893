-- What refuses a tick and a move is a walk that is too far, and what refuses a record a tick that is too large. Assumes nothing.
use mathlib.Core.Path.{◌≡◌, refl, sym, ◌∙◌}
use mathlib.Core.Bool.{Bool, true, false, cond}
use mathlib.Core.List.{List}
use Prim.Native.Nat.{ℕ}
use lib.Dec.{leb}
use lib.Ieee.{Float, ne}
use Rattle.std.specs.Prelude.{Option, Result, Ok, Err}
use Rattle.num_convert.specs.Number.{c0}
use Rattle.num_vec2.specs.Vec2.{vdistance, vlength}
use Rattle.num_vec2.specs.declared.vec2.{vec2}
use Rattle.game_refusals.specs.declared.Refusal.{Refusal}
use Rattle.game_refusals.specs.declared.Refusal.TheVariants.{TooFar, TickTooLarge}
use Rattle.game_records.specs.declared.CharacterCore.{CharacterCore}
use Rattle.game_records.specs.declared.PlayerInput.{PlayerInput}
use Rattle.game_tuning.specs.declared.Tuning.{Tuning}
use Rattle.map_tiles.specs.declared.point.Tile.{Tile}
use Rattle.map_tiles.specs.declared.tiles.Sides.{Sides}
use Rattle.map_lines.specs.Limit.{most_turns}
use Rattle.map_lines.specs.Line.{line_turns, walk_line}
use Rattle.map_walks.specs.Move.{box_turns, walk_box}
use Rattle.map_walks.specs.declared.moves.Body.{Body}
use Rattle.character_hook.specs.Flying.{struck_on, flown}
use Rattle.character_hook.specs.Hook.{tick_of}
use Rattle.character_hook.specs.declared.flying.Way.{Way}
use Rattle.character_hook.specs.declared.flying.Way.TheVariants.{Still, Along}
use Rattle.character_hook.specs.declared.hook.Hook.{Hook}
use Rattle.character_hook.specs.declared.hook.Hook.TheVariants.{Retracted, Idle, Flying, Grabbed, Attached, Retracting0, Retracting1, Retracting2}
use Rattle.character_hook.specs.declared.hooking.Flight.{Flight}
use Rattle.character_walk.specs.Walking.{unramped, ramped_move, player_turns}
use Rattle.character.specs.Records.{most_tick, core_of, to_net}
use Rattle.character.specs.Tick.{caught, flight, ticked, tick_at}
use Rattle.character.specs.Walk.{player_walk, rested, after_box, move_at}
use Rattle.character.specs.declared.Character.{Character}
use Rattle.character.specs.declared.Slot.{Slot}

-- of an answer that a test decides
pub one_of_two : {A : Type 0} (b : Bool) (a : A) (r e : Refusal) → cond b (Ok a) (Err r) ≡ Err e → e ≡ r
one_of_two true a r e h = cc
one_of_two false a r e h = cc

-- ---- the line of a hook, and a tick
pub line_refused : (s : Sides) (ts : List ℕ) (from to : vec2) (e : Refusal) → walk_line s ts from to ≡ Err e → e ≡ TooFar
unfolding walk_line
line_refused s ts from to e h = one_of_two (leb (line_turns (vdistance from to)) most_turns) _ TooFar e h

struck_refused : (from : vec2) (f : Flight) (w : Result (Option (vec2 × Tile)) Refusal) (e : Refusal) → struck_on from f w ≡ Err e → w ≡ Err e
struck_refused from f (Ok hit) e h = cc
struck_refused from f (Err r) e h = cc

pub flown_refused : (h : Hook) (p : vec2) (s : Sides) (ts : List ℕ) (t : Tuning) (e : Refusal) → flown h p s ts t ≡ Err e → e ≡ TooFar
unfolding flown
flown_refused Retracted p s ts t e h = cc
flown_refused Idle p s ts t e h = cc
flown_refused (Flying from d) p s ts t e h = line_refused s ts from _ e (struck_refused from _ _ e h)
flown_refused (Grabbed c k) p s ts t e h = cc
flown_refused (Attached a) p s ts t e h = cc
flown_refused (Retracting0 a) p s ts t e h = cc
flown_refused (Retracting1 a) p s ts t e h = cc
flown_refused (Retracting2 a) p s ts t e h = cc

caught_refused : (n : ℕ) (w : Result Way Refusal) (id : ℕ) (ss : List Slot) (hooking : Float) (e : Refusal) → caught n w id ss hooking ≡ Err e → w ≡ Err e
unfolding caught
caught_refused n (Err r) id ss hooking e h = cc
caught_refused n (Ok (Still g)) id ss hooking e h = cc
caught_refused n (Ok (Along from to g)) id ss hooking e h = cc

pub flight_refused : (n : ℕ) (h : Hook) (p : vec2) (id : ℕ) (ss : List Slot) (s : Sides) (ts : List ℕ) (t : Tuning) (e : Refusal) → flight n h p id ss s ts t ≡ Err e → e ≡ TooFar
flight_refused n h p id ss s ts t e q = flown_refused h p s ts t e (caught_refused n _ id ss t.player_hooking e q)

ticked_refused : (n : ℕ) (c : Character) (b : Bool) (id : ℕ) (ss : List Slot) (t : Tuning) (f : Result Hook Refusal) (e : Refusal) → ticked n c b id ss t f ≡ Err e → f ≡ Err e
ticked_refused n c b id ss t (Err r) e h = cc
ticked_refused n c b id ss t (Ok g) e h = cc

pub tick_refused : (n : ℕ) (c : Character) (id : ℕ) (ss : List Slot) (s : Sides) (ts : List ℕ) (i : PlayerInput) (t : Tuning) (e : Refusal) → tick_at n c id ss s ts i t ≡ Err e → e ≡ TooFar
unfolding tick_at
tick_refused n c id ss s ts i t e h = flown_refused _ _ s ts t e (caught_refused n _ id ss _ e (ticked_refused n _ _ id ss t _ e h))

-- ---- the box, the walk among the others, and a move
pub box_refused : (s : Sides) (ts : List ℕ) (at vel box : vec2) (e : Refusal) → walk_box s ts at vel box ≡ Err e → e ≡ TooFar
unfolding walk_box
box_refused s ts at vel box e h = one_of_two (leb (box_turns (vlength vel)) most_turns) _ TooFar e h

unramped_refused : (r : Float) (b : Result Body Refusal) (e : Refusal) → unramped r b ≡ Err e → b ≡ Err e
unramped_refused r (Err q) e h = h
unramped_refused r (Ok b) e h = cc

pub ramped_refused : (s : Sides) (ts : List ℕ) (p v : vec2) (t : Tuning) (e : Refusal) → ramped_move s ts p v t ≡ Err e → e ≡ TooFar
unfolding ramped_move
ramped_refused s ts p v t e h = box_refused s ts _ _ _ e (unramped_refused _ _ e h)

pub player_refused : (n : ℕ) (ss : List Slot) (id : ℕ) (from to : vec2) (collision : Float) (e : Refusal) → player_walk n ss id from to collision ≡ Err e → e ≡ TooFar
unfolding player_walk
player_refused n ss id from to collision e h = go _ (ne collision c0) h
  where
    go : (p : vec2) (b : Bool) → cond b (cond (leb (player_turns (vdistance from to)) most_turns) (Ok p) (Err TooFar)) (Ok to) ≡ Err e → e ≡ TooFar
    go p true q = one_of_two (leb (player_turns (vdistance from to)) most_turns) p TooFar e q
    go p false q = cc

pub rested_refused : (c : Character) (v : vec2) (w : Result vec2 Refusal) (e : Refusal) → rested c v w ≡ Err e → w ≡ Err e
rested_refused c v (Err r) e h = cc
rested_refused c v (Ok p) e h = cc

pub move_refused : (n : ℕ) (c : Character) (id : ℕ) (ss : List Slot) (s : Sides) (ts : List ℕ) (t : Tuning) (e : Refusal) → move_at n c id ss s ts t ≡ Err e → e ≡ TooFar
unfolding move_at
move_refused n c id ss s ts t e h = go (ramped_move s ts c.pos c.vel t) refl h
  where
    go : (b : Result Body Refusal) → ramped_move s ts c.pos c.vel t ≡ b → after_box n c id ss t b ≡ Err e → e ≡ TooFar
    go (Err r) q k = let z : r ≡ e = cc in sym z ∙ ramped_refused s ts c.pos c.vel t r q
    go (Ok b) q k = player_refused n ss id c.pos b.pos t.player_collision e (rested_refused c b.vel _ e k)

-- ---- a record
pub net_refused : (c : Character) (e : Refusal) → to_net c ≡ Err e → e ≡ TickTooLarge
unfolding to_net
net_refused c e h = one_of_two (leb (tick_of c.hook) most_tick) _ TickTooLarge e h
