-- A stuck box without velocity is a fixed point of the turns. Assumes nothing.
use mathlib.Core.Path.{◌≡◌, refl, sym, ap, ◌∙◌}
use mathlib.Core.Bool.{Bool, true, false, cond, ◌&&◌, ◌||◌}
use mathlib.Core.List.{List}
use Prim.Native.Nat.{ℕ, zero, suc, ◌<◌}
use native.Mathlib.Omega.{arith}
use lib.Ieee.{Float, eq}
use Rattle.num_convert.specs.Number.{c0}
use Rattle.num_vec2.specs.declared.vec2.{vec2}
use Rattle.base_turns.specs.Turns.{fold}
use Rattle.base_turns.proofs.Parts.{fold_fixed}
use Rattle.base_turns.proofs.Tests.{both}
use Rattle.map_tiles.specs.declared.tiles.Sides.{Sides}
use Rattle.map_tiles.specs.Box.{check_box}
use Rattle.map_walks.specs.declared.moves.Body.{Body}
use Rattle.map_walks.specs.Move.{blocked, body_of, box_turn}
use Rattle.map_walks.specs.Way.{at_rest, hit_x, hit_y, is_stuck, new_pos, stays_at_rest, turns_taken}

module _ (s : Sides) (ts : List ℕ) (fraction : Float) (box : vec2) where
  stuck : (b : Body) → is_stuck s ts fraction box b ≡ true → box_turn s ts fraction box b ≡ at_rest b
  unfolding is_stuck box_turn blocked
  stuck b h =
      let p = both (check_box s ts (new_pos fraction b) box) (hit_y s ts fraction box b && hit_x s ts fraction box b) h in
      let q = both (hit_y s ts fraction box b) (hit_x s ts fraction box b) p.1 in
      simp (p.0, q.0, q.1)

  pub stays_at_rest_lem : (n : ℕ) (b : Body) → 0 < n → stays_at_rest s ts fraction box b ≡ true → turns_taken s ts fraction box n b ≡ at_rest b
  unfolding stays_at_rest turns_taken fold
  stays_at_rest_lem zero b l h = absurd (omega arith)
  stays_at_rest_lem (suc n) b l h =
      let x = both (eq b.vel.x c0) (eq b.vel.y c0 && (is_stuck s ts fraction box b && is_stuck s ts fraction box (at_rest b))) h in
      let y = both (eq b.vel.y c0) (is_stuck s ts fraction box b && is_stuck s ts fraction box (at_rest b)) x.1 in
      let z = both (is_stuck s ts fraction box b) (is_stuck s ts fraction box (at_rest b)) y.1 in
      ap (fold (λ i. box_turn s ts fraction box) n 1) (stuck b z.0) ∙ fold_fixed (box_turn s ts fraction box) n 1 (at_rest b) (stuck (at_rest b) z.1)
