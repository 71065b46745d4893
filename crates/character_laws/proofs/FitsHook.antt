-- After a tick the place of a hook is a pair of f32 values, where it was. Assumes nothing.
use Prim.Native.Nat.{ℕ, ◌+◌}
use mathlib.Core.List.{List}
use lib.Dec.{ltb}
use lib.Ieee.{Float, binary32, lt, ne, div}
use lib.IntN.{ℤ, pos}
use Rattle.base_turns.specs.Turns.{Turn, more, stop, run}
use Rattle.base_turns.proofs.Kept.{Ends, run-kept}
use Rattle.num_convert.specs.Convert.{i32_to_f32}
use Rattle.num_convert.specs.Number.{c0}
use Rattle.num_vec2.specs.Vec2.{vmul, vsub, vmix, vdistance}
use Rattle.num_vec2.specs.declared.vec2.{vec2}
use Rattle.game_records.specs.declared.PlayerInput.{PlayerInput}
use Rattle.game_tuning.specs.Tuning.{hold_of}
use Rattle.game_tuning.specs.declared.Tuning.{Tuning}
use Rattle.map_tiles.specs.Map.{check_point}
use Rattle.map_tiles.specs.declared.point.Tile.{Tile}
use Rattle.map_tiles.specs.declared.point.Tile.TheVariants.{Open, Normal, Deadly, Unhookable}
use Rattle.map_tiles.specs.declared.tiles.Sides.{Sides}
use Rattle.map_lines.specs.Limit.{most_turns}
use Rattle.map_lines.specs.Line.{line_turns, or_hit, line_turn, or_nothing, line_hit, walk_line}
use Rattle.character_motion.specs.Controls.{grounded}
use Rattle.character_hook.specs.Hooking.{fired, fire, fly, strike, grab, retract, hold}
use Rattle.character_hook.specs.Flying.{struck_on, flown}
use Rattle.character_hook.specs.declared.hook.Hook.{Hook}
use Rattle.character_hook.specs.declared.hook.Hook.TheVariants.{Retracted, Idle, Flying, Grabbed, Attached, Retracting0, Retracting1, Retracting2}
use Rattle.character_hook.specs.declared.hooking.Flight.{Flight}
use Rattle.character_hook.specs.declared.hooking.Nearest.{Nearest}
use Rattle.character_hook.specs.declared.flying.Way.{Way}
use Rattle.character_hook.specs.declared.flying.Way.TheVariants as way
use Rattle.character.specs.Tick.{steer, nearest, caught, flight, hooked, ticked, tick_at}
use Rattle.character.specs.declared.Character.{Character}
use Rattle.character.specs.declared.Slot.{Slot}
use Rattle.character_laws.proofs.Choices.{either}
use Rattle.num_order.proofs.Vectors.{FitsPair}
use Rattle.character_laws.proofs.FitsTick.{add_pair}
use Rattle.character_laws.proofs.Others.{Then}
use mathlib.Core.Bool.{Bool}
use lib.Dec.{leb}
use Rattle.std.specs.Prelude.{Option, None, Result, Ok, Err}
use Rattle.game_refusals.specs.declared.Refusal.{Refusal}
use Rattle.std.specs.Prelude.{Some}

abbrev pub FitsPlace : Hook → Type 0
FitsPlace Retracted = Unit {0}
FitsPlace Idle = Unit {0}
FitsPlace (Flying p d) = FitsPair p
FitsPlace (Grabbed c t) = Unit {0}
FitsPlace (Attached p) = FitsPair p
FitsPlace (Retracting0 p) = FitsPair p
FitsPlace (Retracting1 p) = FitsPair p
FitsPlace (Retracting2 p) = FitsPair p

-- ---- the button and the flight
fired_place : (h : Hook) (p d : vec2) → FitsPlace h → FitsPlace (fired h p d)
unfolding fired
fired_place Retracted p d f = tt
fired_place Idle p d f = add_pair _ _
fired_place (Flying a b) p d f = f
fired_place (Grabbed c t) p d f = tt
fired_place (Attached a) p d f = f
fired_place (Retracting0 a) p d f = f
fired_place (Retracting1 a) p d f = f
fired_place (Retracting2 a) p d f = f

fire_place : (h : Hook) (pressed : Bool) (p d : vec2) → FitsPlace h → FitsPlace (fire h pressed p d)
unfolding fire
fire_place h pressed p d f = either FitsPlace pressed (fired_place h p d f) tt

fly_place : (p d c : vec2) (t : Tuning) → FitsPlace (fly p d c t).hook
unfolding fly
fly_place p d c t = either (λ (f : Flight). FitsPlace f.hook) (lt t.hook_length _) (add_pair _ _) (add_pair _ _)

-- a point of a line
pub mix_pair : (a b : vec2) (v : Float) → FitsPair (vmix a b v)
unfolding vmix
mix_pair a b v = add_pair a (vmul (vsub b a) v)

abbrev FitsHit : Option (vec2 × Tile) → Type 0
FitsHit None = Unit {0}
FitsHit (Some h) = FitsPair h.0

hit_place : (s : Sides) (ts : List ℕ) (from to : vec2) (dist : Float) (n : ℕ) → FitsHit (line_hit s ts from to dist n)
unfolding line_hit line_turn
hit_place s ts from to dist n = ends (run (line_turn s ts from to dist) n 0 tt) (run-kept (line_turn s ts from to dist) (λ i u. Unit {0}) (λ h. FitsPair h.0) (λ i u k. go (vmix from to (div binary32 (i32_to_f32 (pos i)) dist)) (mix_pair from to _) (check_point s ts (vmix from to (div binary32 (i32_to_f32 (pos i)) dist)))) n 0 tt tt)
  where
    go : (p : vec2) → FitsPair p → (t : Tile) → Ends (λ u. Unit {0}) (λ (h : vec2 × Tile). FitsPair h.0) (or_hit p t)
    go p f Open = tt
    go p f Normal = f
    go p f Deadly = tt
    go p f Unhookable = f

    ends : (a : Turn (Unit {0}) (vec2 × Tile)) → Ends (λ u. Unit {0}) (λ (h : vec2 × Tile). FitsPair h.0) a → FitsHit (or_nothing a)
    ends (more u) k = tt
    ends (stop h) k = k

strike_place : (h : Hook) (hit : Option (vec2 × Tile)) → FitsPlace h → FitsHit hit → FitsPlace (strike h hit)
unfolding strike
strike_place h None f k = f
strike_place h (Some (p, Open)) f k = f
strike_place h (Some (p, Normal)) f k = k
strike_place h (Some (p, Deadly)) f k = f
strike_place h (Some (p, Unhookable)) f k = k

-- the hook after its flight
abbrev FitsWay : Result Way Refusal → Type 0
FitsWay (Err e) = Unit {0}
FitsWay (Ok (way.Still h)) = FitsPlace h
FitsWay (Ok (way.Along from to h)) = FitsPlace h

line_place : (s : Sides) (ts : List ℕ) (a : vec2) (f : Flight) → FitsPlace f.hook → FitsWay (struck_on a f (walk_line s ts a f.to))
unfolding walk_line
line_place s ts a f k = let n = line_turns (vdistance a f.to) in either (λ (w : Result (Option (vec2 × Tile)) Refusal). FitsWay (struck_on a f w)) (leb n most_turns) (strike_place f.hook _ k (hit_place s ts a f.to (vdistance a f.to) n)) tt

flown_place : (h : Hook) (p : vec2) (s : Sides) (ts : List ℕ) (t : Tuning) → FitsPlace h → FitsWay (flown h p s ts t)
unfolding flown retract
flown_place Retracted p s ts t f = tt
flown_place Idle p s ts t f = tt
flown_place (Flying a d) p s ts t f = line_place s ts a (fly a d p t) (fly_place a d p t)
flown_place (Grabbed c m) p s ts t f = tt
flown_place (Attached a) p s ts t f = f
flown_place (Retracting0 a) p s ts t f = f
flown_place (Retracting1 a) p s ts t f = f
flown_place (Retracting2 a) p s ts t f = tt

-- ---- who is met, and one more tick
hold_place : (z : ℤ) (h : Hook) → FitsPlace h → FitsPlace (hold h z)
unfolding hold
hold_place z Retracted f = tt
hold_place z Idle f = tt
hold_place z (Flying a d) f = f
hold_place z (Grabbed c t) f = either FitsPlace (ltb (hold_of z) (t + 1)) tt tt
hold_place z (Attached a) f = f
hold_place z (Retracting0 a) f = f
hold_place z (Retracting1 a) f = f
hold_place z (Retracting2 a) f = f

grab_place : (h : Hook) (best : Option Nearest) → FitsPlace h → FitsPlace (grab h best)
unfolding grab
grab_place h None f = f
grab_place h (Some m) f = tt

abbrev FitsFlight : Result Hook Refusal → Type 0
FitsFlight (Err e) = Unit {0}
FitsFlight (Ok h) = FitsPlace h

caught_place : (n : ℕ) (w : Result Way Refusal) (id : ℕ) (ss : List Slot) (hooking : Float) → FitsWay w → FitsFlight (caught n w id ss hooking)
unfolding caught
caught_place n (Err e) id ss hooking f = tt
caught_place n (Ok (way.Still h)) id ss hooking f = f
caught_place n (Ok (way.Along from to h)) id ss hooking f = either FitsPlace (ne hooking c0) (grab_place h (nearest n ss id from to) f) f

-- ---- the tick, which leaves the character where it is
pub tick_place : (n : ℕ) (c : Character) (id : ℕ) (ss : List Slot) (s : Sides) (ts : List ℕ) (i : PlayerInput) (t : Tuning) → FitsPair c.pos → FitsPlace c.hook → Then (λ a. FitsPair a.me.pos × FitsPlace a.me.hook) (tick_at n c id ss s ts i t)
unfolding tick_at steer hooked
tick_place n c id ss s ts i t p f =
    let on_ground = grounded s ts c.pos in
    let d = steer c on_ground i t in
    go d on_ground p (flight n d.hook c.pos id ss s ts t) (caught_place n (flown d.hook c.pos s ts t) id ss t.player_hooking (flown_place d.hook c.pos s ts t (fire_place c.hook _ c.pos _ f)))
  where
    go : (d : Character) (on_ground : Bool) → FitsPair d.pos → (f : Result Hook Refusal) → FitsFlight f → Then (λ a. FitsPair a.me.pos × FitsPlace a.me.hook) (ticked n d on_ground id ss t f)
    go d on_ground q (Err e) k = tt
    go d on_ground q (Ok h) k = (q, hold_place t.hook_hold h k)
