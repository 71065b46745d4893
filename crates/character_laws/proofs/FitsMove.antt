-- After a move with player collision 0 position and velocity are pairs of f32 values, where they were. Assumes nothing.
use mathlib.Core.Path.{◌≡◌, sym, ◌∙◌, subst}
use mathlib.Core.Bool.{Bool, true, false, cond, ◌||◌}
use mathlib.Core.List.{List}
use Prim.Native.Nat.{ℕ}
use lib.Dec.{T, leb}
use lib.IntN.{pos}
use lib.Ieee.{Float, binary32, fits, mul, div, ne}
use lib.Ieee.Bits.{of_bits-fits}
use lib.Ieee.Fits.{mul-fits}
use Rattle.base_turns.proofs.Kept.{fold-kept}
use Rattle.num_convert.specs.Number.{c0, c1}
use Rattle.num_convert.specs.Convert.{i32_to_f32}
use Rattle.num_vec2.specs.Vec2.{vnew, vadd, vmul, vlength}
use Rattle.num_vec2.specs.declared.vec2.{vec2}
use Rattle.num_order.proofs.Vectors.{FitsPair}
use Rattle.map_lines.specs.Limit.{most_turns}
use Rattle.map_tiles.specs.declared.tiles.Sides.{Sides}
use Rattle.game_tuning.specs.declared.Tuning.{Tuning}
use Rattle.map_tiles.specs.Box.{check_box, character_box}
use Rattle.num_ramp.specs.Ramp.{velocity_ramp}
use Rattle.map_walks.specs.declared.moves.Body.{Body}
use Rattle.map_walks.specs.Move.{body_of, box_turns, blocked, box_turn, box_turns_taken, walk_box}
use Rattle.character_walk.specs.Walking.{c50, unramped, ramped_move}
use Rattle.character.specs.declared.Character.{Character}
use Rattle.character.specs.declared.Slot.{Slot}
use Rattle.character.specs.Walk.{move_at}
use Rattle.character_laws.proofs.Choices.{either}
use Rattle.character_laws.proofs.FitsTick.{add_pair}
use Rattle.character_laws.proofs.Moved.{with_box, move-alone}
use Rattle.std.specs.Prelude.{Result, Ok, Err}
use Rattle.game_refusals.specs.declared.Refusal.{Refusal}

abbrev FitsBody : Body → Type 0
FitsBody b = FitsPair b.pos × FitsPair b.vel

-- a refusal has no body to ask about
abbrev FitsBox : Result Body Refusal → Type 0
FitsBox (Err e) = Unit {0}
FitsBox (Ok b) = FitsBody b

abbrev FitsMoved : Result Character Refusal → Type 0
FitsMoved (Err e) = Unit {0}
FitsMoved (Ok d) = FitsPair d.pos × FitsPair d.vel

module _ (s : Sides) (ts : List ℕ) (size : vec2) where
  blocked_fits : (b : Body) (new : vec2) → FitsBody b → FitsPair new → FitsBody (blocked s ts b new size)
  unfolding blocked
  blocked_fits b new h k = go (check_box s ts (vnew b.pos.x new.y) size) (check_box s ts (vnew new.x b.pos.y) size)
    where
      z : T (fits binary32 c0)
      z = of_bits-fits binary32 0

      go : (hit_y hit_x : Bool) → FitsBody (cond (hit_y || hit_x) (body_of (cond hit_x b.pos.x new.x) (cond hit_y b.pos.y new.y) (cond hit_x c0 b.vel.x) (cond hit_y c0 b.vel.y)) (body_of b.pos.x b.pos.y c0 c0))
      go true true = (h.0, (z, z))
      go true false = ((k.0, h.0.1), (h.1.0, z))
      go false true = ((h.0.0, k.1), (z, h.1.1))
      go false false = (h.0, (z, z))

  turn_fits : (fraction : Float) (b : Body) → FitsBody b → FitsBody (box_turn s ts fraction size b)
  unfolding box_turn
  turn_fits fraction b h =
      let new = vadd b.pos (vmul b.vel fraction) in
      let k = add_pair b.pos (vmul b.vel fraction) in
      either FitsBody (check_box s ts new size) (blocked_fits b new h k) (k, h.1)

  turns_fits : (b : Body) (n : ℕ) → FitsBody b → FitsBody (box_turns_taken s ts b size n)
  unfolding box_turns_taken
  turns_fits b n h = let f = div binary32 c1 (i32_to_f32 (pos n)) in fold-kept (λ i. box_turn s ts f size) FitsBody (λ i. turn_fits f) n 0 b h

  walk_fits : (p v : vec2) → FitsPair p → FitsPair v → FitsBox (walk_box s ts p v size)
  unfolding walk_box
  walk_fits p v h k = let n = box_turns (vlength v) in either FitsBox (leb n most_turns) (turns_fits (record { pos = p; vel = v }) n (h, k)) tt

-- the ramp taken back, and the character where the box is
unramped_fits : (r : Float) (c : Character) (m : Result Body Refusal) → FitsBox m → FitsMoved (with_box c (unramped r m))
unramped_fits r c (Err e) h = tt
unramped_fits r c (Ok b) h = (h.0, (mul-fits binary32 b.vel.x (div binary32 c1 r), h.1.1))

ramped_fits : (s : Sides) (ts : List ℕ) (c : Character) (t : Tuning) → FitsPair c.pos → FitsPair c.vel → FitsMoved (with_box c (ramped_move s ts c.pos c.vel t))
unfolding ramped_move
ramped_fits s ts c t h k =
    let r = velocity_ramp (mul binary32 (vlength c.vel) c50) t.velramp_start t.velramp_range t.velramp_curvature in
    let v = vnew (mul binary32 c.vel.x r) c.vel.y in
    unramped_fits r c (walk_box s ts c.pos v character_box) (walk_fits s ts character_box c.pos v h (mul-fits binary32 c.vel.x r, k.1))

-- a move with player collision 0
pub move_fits : (n : ℕ) (c d : Character) (id : ℕ) (ss : List Slot) (s : Sides) (ts : List ℕ) (t : Tuning) → ne t.player_collision c0 ≡ false
    → FitsPair c.pos → FitsPair c.vel → move_at n c id ss s ts t ≡ Ok d → FitsPair d.pos × FitsPair d.vel
move_fits n c d id ss s ts t e h k q = subst FitsMoved (sym (move-alone n c id ss s ts t e) ∙ q) (ramped_fits s ts c t h k)
