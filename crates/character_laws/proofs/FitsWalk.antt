-- After a move the character's place is a pair of f32 values, where it was, whatever player collision is. Assumes nothing.
use Prim.Native.Nat.{ℕ}
use mathlib.Core.Bool.{Bool, true, false, cond, ◌||◌}
use mathlib.Core.List.{List}
use lib.Dec.{leb}
use lib.Ieee.{Float, binary32, mul, div, lt, ne}
use lib.IntN.{pos}
use Rattle.base_turns.specs.Turns.{Turn, more, stop, next, run}
use Rattle.base_turns.proofs.Kept.{Ends, run-kept, fold-kept}
use Rattle.num_convert.specs.Convert.{i32_to_f32}
use Rattle.num_convert.specs.Number.{c0, c1}
use Rattle.num_ramp.specs.Ramp.{velocity_ramp}
use Rattle.num_vec2.specs.Vec2.{vnew, vadd, vmul, vmix, vlength, vdistance}
use Rattle.num_vec2.specs.declared.vec2.{vec2}
use Rattle.game_tuning.specs.declared.Tuning.{Tuning}
use Rattle.map_tiles.specs.Box.{check_box, character_box}
use Rattle.map_tiles.specs.declared.tiles.Sides.{Sides}
use Rattle.map_lines.specs.Limit.{most_turns}
use Rattle.map_walks.specs.Move.{body_of, box_turns, blocked, box_turn, box_turns_taken, walk_box}
use Rattle.map_walks.specs.declared.moves.Body.{Body}
use Rattle.character_walk.specs.Walking.{c50, player_turns, rest_at, unramped, ramped_move}
use Rattle.character.specs.Tick.{slot_at}
use Rattle.character.specs.Walk.{is_close, slot_turn, walk_turn, or_to, walk_among, player_walk, rested, after_box, move_at}
use Rattle.character.specs.declared.Character.{Character}
use Rattle.character.specs.declared.Slot.{Slot}
use Rattle.character_laws.proofs.Choices.{either}
use Rattle.character_laws.proofs.FitsHook.{mix_pair}
use Rattle.num_order.proofs.Vectors.{FitsPair}
use Rattle.character_laws.proofs.FitsTick.{add_pair}
use Rattle.character_laws.proofs.Held.{Rests}
use Rattle.std.specs.Prelude.{Result, Ok, Err}
use Rattle.game_refusals.specs.declared.Refusal.{Refusal}

-- ---- the box
abbrev FitsBox : Result Body Refusal → Type 0
FitsBox (Err e) = Unit {0}
FitsBox (Ok b) = FitsPair b.pos

module _ (s : Sides) (ts : List ℕ) (size : vec2) where
  blocked_place : (b : Body) (new : vec2) → FitsPair b.pos → FitsPair new → FitsPair (blocked s ts b new size).pos
  unfolding blocked
  blocked_place b new h k = go (check_box s ts (vnew b.pos.x new.y) size) (check_box s ts (vnew new.x b.pos.y) size)
    where
      go : (hit_y hit_x : Bool) → FitsPair (cond (hit_y || hit_x) (body_of (cond hit_x b.pos.x new.x) (cond hit_y b.pos.y new.y) (cond hit_x c0 b.vel.x) (cond hit_y c0 b.vel.y)) (body_of b.pos.x b.pos.y c0 c0)).pos
      go true true = h
      go true false = (k.0, h.1)
      go false true = (h.0, k.1)
      go false false = h

  turn_place : (fraction : Float) (b : Body) → FitsPair b.pos → FitsPair (box_turn s ts fraction size b).pos
  unfolding box_turn
  turn_place fraction b h =
      let new = vadd b.pos (vmul b.vel fraction) in
      let k = add_pair b.pos (vmul b.vel fraction) in
      either (λ (c : Body). FitsPair c.pos) (check_box s ts new size) (blocked_place b new h k) k

  box_place : (p v : vec2) → FitsPair p → FitsBox (walk_box s ts p v size)
  unfolding walk_box box_turns_taken
  box_place p v h =
      let n = box_turns (vlength v) in
      let f = div binary32 c1 (i32_to_f32 (pos n)) in
      either FitsBox (leb n most_turns) (fold-kept (λ i. box_turn s ts f size) (λ (b : Body). FitsPair b.pos) (λ i. turn_place f) n 0 (record { pos = p; vel = v }) h) tt

unramped_place : (r : Float) (b : Result Body Refusal) → FitsBox b → FitsBox (unramped r b)
unramped_place r (Err e) h = tt
unramped_place r (Ok b) h = h

ramped_place : (s : Sides) (ts : List ℕ) (p v : vec2) (t : Tuning) → FitsPair p → FitsBox (ramped_move s ts p v t)
unfolding ramped_move
ramped_place s ts p v t h =
    let r = velocity_ramp (mul binary32 (vlength v) c50) t.velramp_start t.velramp_range t.velramp_curvature in
    let u = vnew (mul binary32 v.x r) v.y in
    unramped_place r (walk_box s ts p u character_box) (box_place s ts character_box p u h)

-- ---- the player walk
module _ (n : ℕ) (ss : List Slot) (id : ℕ) (from to : vec2) (a : FitsPair from) (b : FitsPair to) where
  rest_place : (fraction : Float) (last p q : vec2) → FitsPair last → FitsPair (rest_at fraction last from to p q)
  unfolding rest_at
  rest_place fraction last p q k = either FitsPair (lt c0 fraction) k (either FitsPair (lt (vdistance p q) (vdistance to q)) b a)

  slots_place : (last : vec2) (fraction : Float) (p : vec2) → FitsPair last → Ends (λ u. Unit {0}) FitsPair (run (slot_turn ss id from to last fraction p) n 0 tt)
  slots_place last fraction p k = run-kept (slot_turn ss id from to last fraction p) (λ i u. Unit {0}) FitsPair (λ j u z. either (Ends (λ v. Unit {0}) FitsPair) (is_close (slot_at ss j) id j p) (rest_place fraction last p (slot_at ss j).character.pos k) tt) n 0 tt tt

  point_place : (p : vec2) → FitsPair p → (r : Turn (Unit {0}) vec2) → Ends (λ u. Unit {0}) FitsPair r → Ends FitsPair FitsPair (next (λ u. more p) r)
  point_place p f (more u) k = f
  point_place p f (stop q) k = k

  walk_turn_place : (distance : Float) (i : ℕ) (last : vec2) → FitsPair last → Ends FitsPair FitsPair (walk_turn n ss id from to distance i last)
  walk_turn_place distance i last k =
      let fraction = div binary32 (i32_to_f32 (pos i)) distance in
      point_place (vmix from to fraction) (mix_pair from to fraction) (run (slot_turn ss id from to last fraction (vmix from to fraction)) n 0 tt) (slots_place last fraction (vmix from to fraction) k)

  or_to_lem : (r : Turn vec2 vec2) → Ends FitsPair FitsPair r → FitsPair (or_to to r)
  or_to_lem (more p) k = b
  or_to_lem (stop p) k = k

  abbrev FitsAmong : Result vec2 Refusal → Type 0
  FitsAmong (Err e) = Unit {0}
  FitsAmong (Ok p) = FitsPair p

  among_place : (collision : Float) → FitsAmong (player_walk n ss id from to collision)
  unfolding player_walk walk_among
  among_place collision =
      let d = vdistance from to in
      either FitsAmong (ne collision c0)
      (either FitsAmong (leb (player_turns d) most_turns) (or_to_lem (run (walk_turn n ss id from to d) (player_turns d) 0 from) (run-kept (walk_turn n ss id from to d) (λ i. FitsPair) FitsPair (walk_turn_place d) (player_turns d) 0 from a)) tt)
      b

-- ---- the move
pub move_place : (n : ℕ) (c : Character) (id : ℕ) (ss : List Slot) (s : Sides) (ts : List ℕ) (t : Tuning) → FitsPair c.pos → Rests (λ d. FitsPair d.pos) (move_at n c id ss s ts t)
unfolding move_at
move_place n c id ss s ts t h = go (ramped_move s ts c.pos c.vel t) (ramped_place s ts c.pos c.vel t h)
  where
    on : (v to : vec2) (k : FitsPair to) (w : Result vec2 Refusal) → FitsAmong n ss id c.pos to h k w → Rests (λ d. FitsPair d.pos) (rested c v w)
    on v to k (Err e) f = tt
    on v to k (Ok p) f = f

    go : (b : Result Body Refusal) → FitsBox b → Rests (λ d. FitsPair d.pos) (after_box n c id ss t b)
    go (Err e) k = tt
    go (Ok b) k = on b.vel b.pos k (player_walk n ss id c.pos b.pos t.player_collision) (among_place n ss id c.pos b.pos h k t.player_collision)
