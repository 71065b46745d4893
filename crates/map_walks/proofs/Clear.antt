-- A clear box stays clear through its walk, whatever its velocity. Assumes nothing.
use mathlib.Core.Path.{◌≡◌, refl, subst}
use mathlib.Core.Bool.{Bool, true, false, cond, ◌||◌}
use mathlib.Core.List.{List}
use Prim.Native.Nat.{ℕ}
use native.Mathlib.Omega.{arith}
use lib.Dec.{leb}
use lib.IntN.{pos}
use lib.Ieee.{Float, binary32, div}
use Rattle.num_convert.specs.Convert.{i32_to_f32}
use Rattle.num_vec2.specs.declared.vec2.{vec2}
use Rattle.num_convert.specs.Number.{c0, c1}
use Rattle.num_vec2.specs.Vec2.{vnew, vadd, vmul, vlength}
use Rattle.base_turns.proofs.Kept.{fold-kept}
use Rattle.map_tiles.specs.declared.tiles.Sides.{Sides}
use Rattle.map_lines.specs.Limit.{most_turns}
use Rattle.map_tiles.specs.Box.{check_box, Clear}
use Rattle.map_walks.specs.declared.moves.Body.{Body}
use Rattle.std.specs.Prelude.{Ok, Err}
use Rattle.game_refusals.specs.declared.Refusal.TheVariants.{TooFar}
use Rattle.map_walks.specs.Move.{body_of, box_turns, blocked, box_turn, box_turns_taken, walk_box}

module _ (s : Sides) (ts : List ℕ) (box : vec2) where
  blocked_clear : (b : Body) (new : vec2) → Clear s ts b.pos box → Clear s ts (blocked s ts b new box).pos box
  unfolding blocked
  blocked_clear b new h = go (check_box s ts (vnew b.pos.x new.y) box) (check_box s ts (vnew new.x b.pos.y) box) refl refl
    where
      go : (hit_y hit_x : Bool) → check_box s ts (vnew b.pos.x new.y) box ≡ hit_y → check_box s ts (vnew new.x b.pos.y) box ≡ hit_x
          → Clear s ts (cond (hit_y || hit_x) (body_of (cond hit_x b.pos.x new.x) (cond hit_y b.pos.y new.y) (cond hit_x c0 b.vel.x) (cond hit_y c0 b.vel.y)) (body_of b.pos.x b.pos.y c0 c0)).pos box
      go true true p q = h
      go true false p q = q
      go false true p q = p
      go false false p q = h

  turn_clear : (fraction : Float) (b : Body) → Clear s ts b.pos box → Clear s ts (box_turn s ts fraction box b).pos box
  unfolding box_turn
  turn_clear fraction b h = go (check_box s ts (vadd b.pos (vmul b.vel fraction)) box) refl
    where
      go : (hit : Bool) → check_box s ts (vadd b.pos (vmul b.vel fraction)) box ≡ hit → Clear s ts (cond hit (blocked s ts b (vadd b.pos (vmul b.vel fraction)) box) (record { pos = vadd b.pos (vmul b.vel fraction); vel = b.vel })).pos box
      go true e = blocked_clear b (vadd b.pos (vmul b.vel fraction)) h
      go false e = e

  turns_clear : (b : Body) (n : ℕ) → Clear s ts b.pos box → Clear s ts (box_turns_taken s ts b box n).pos box
  unfolding box_turns_taken
  turns_clear b n h = fold-kept (λ i. box_turn s ts (div binary32 c1 (i32_to_f32 (pos n))) box) (λ c. Clear s ts c.pos box) (λ i c k. turn_clear (div binary32 c1 (i32_to_f32 (pos n))) c k) n 0 b h

  pub walk_clear : (at vel : vec2) (b : Body) → Clear s ts at box → walk_box s ts at vel box ≡ Ok b → Clear s ts b.pos box
  unfolding walk_box
  walk_clear at vel b h e = go (leb (box_turns (vlength vel)) most_turns) e
    where
      go : (t : Bool) → cond t (Ok (box_turns_taken s ts (record { pos = at; vel = vel }) box (box_turns (vlength vel)))) (Err TooFar) ≡ Ok b → Clear s ts b.pos box
      go true q = let p : box_turns_taken s ts (record { pos = at; vel = vel }) box (box_turns (vlength vel)) ≡ b = cc in subst (λ (c : Body). Clear s ts c.pos box) p (turns_clear (record { pos = at; vel = vel }) (box_turns (vlength vel)) h)
      go false q = let z : ◌≡◌ {A = ℕ} 0 1 = cc in absurd (omega arith)
