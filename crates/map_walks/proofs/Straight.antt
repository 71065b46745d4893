-- A box whose way is seen to be clear goes straight to its end, with its velocity kept. Assumes nothing.
use mathlib.Core.Path.{◌≡◌, refl, sym, ap, ◌∙◌, subst}
use mathlib.Core.Bool.{Bool, true, false, cond}
use mathlib.Core.List.{List}
use Prim.Native.Nat.{ℕ, zero, suc, ◌+◌, ◌-◌, ◌≤◌, ◌<◌, zero-le, suc-le-suc}
use native.Mathlib.Omega.{arith}
use lib.Ieee.{Float, binary32}
use Rattle.num_vec2.specs.declared.vec2.{vec2}
use Rattle.num_vec2.specs.Vec2.{vnew, vadd, vmul}
use Rattle.num_order.proofs.Walks.{along, along_between}
use Rattle.num_order.proofs.Vectors.{FitsPair}
use Rattle.base_turns.specs.Turns.{fold}
use Rattle.base_turns.proofs.Parts.{fold-parts}
use Rattle.map_tiles.specs.declared.tiles.Sides.{Sides}
use Rattle.map_tiles.specs.Box.{check_box}
use Rattle.map_walks.specs.declared.moves.Body.{Body}
use Rattle.map_walks.specs.Move.{blocked, box_turn}
use Rattle.map_walks.specs.Way.{is_clear_way, turns_taken, way_end}
use Rattle.map_walks.proofs.Ways.{Seen, seen}

-- n steps from p, by their coordinates
abbrev steps : vec2 → ℕ → ℕ → vec2 → vec2
steps d n i p = fold (λ j q. vadd q d) n i p

by_coordinates : (d : vec2) (n i : ℕ) (p : vec2) → steps d n i p ≡ vnew (along binary32 d.x n i p.x) (along binary32 d.y n i p.y)
unfolding fold vadd
by_coordinates d zero i p = refl
by_coordinates d (suc n) i p = by_coordinates d n (suc i) (vadd p d)

module _ (s : Sides) (ts : List ℕ) (box v : vec2) (fraction : Float) where
  abbrev at : vec2 → Body
  at p = record { pos = p; vel = v }

  -- a turn that meets nothing, and turns none of which does
  turn_straight : (p : vec2) → check_box s ts (vadd p (vmul v fraction)) box ≡ false → box_turn s ts fraction box (at p) ≡ at (vadd p (vmul v fraction))
  unfolding box_turn
  turn_straight p h = ap (λ (b : Bool). cond b (blocked s ts (at p) (vadd p (vmul v fraction)) box) (at (vadd p (vmul v fraction)))) h

  turns_straight : (n i : ℕ) (p : vec2) → ((k : ℕ) → k < n → check_box s ts (steps (vmul v fraction) (suc k) i p) box ≡ false) → fold (λ j. box_turn s ts fraction box) n i (at p) ≡ at (steps (vmul v fraction) n i p)
  unfolding fold
  turns_straight zero i p h = refl
  turns_straight (suc n) i p h =
      ap (fold (λ j. box_turn s ts fraction box) n (suc i)) (turn_straight p (h 0 (suc-le-suc zero-le)))
      ∙ turns_straight n (suc i) (vadd p (vmul v fraction)) (λ k l. h (suc k) (suc-le-suc l))

-- every place on the way lies between its ends
pub straight : (s : Sides) (ts : List ℕ) (fraction : Float) (box : vec2) (n : ℕ) (b : Body) (end : vec2) → FitsPair b.pos → end ≡ way_end b.pos (vmul b.vel fraction) n → is_clear_way s ts b.pos end box ≡ true
    → turns_taken s ts fraction box n b ≡ record { pos = end; vel = b.vel }
unfolding turns_taken way_end
straight s ts fraction box n b end t e k =
    let p = b.pos in
    let d = vmul b.vel fraction in
    let w : Seen s ts p (vnew (along binary32 d.x n 0 p.x) (along binary32 d.y n 0 p.y)) box = seen s ts p _ box (subst (λ (q : vec2). is_clear_way s ts p q box ≡ true) (e ∙ by_coordinates d n 0 p) k) in
    turns_straight s ts box b.vel fraction n 0 p
    (λ m l. subst (λ (q : vec2). check_box s ts q box ≡ false) (sym (by_coordinates d (suc m) 0 p))
    (w.clear _ (along_between binary32 d.x (suc m) n 0 p.x l t.0 w.end_x) (along_between binary32 d.y (suc m) n 0 p.y l t.1 w.end_y)))
    ∙ ap (λ (q : vec2). record { pos = q; vel = b.vel }) (sym e)

-- ---- turns in two parts
module _ (s : Sides) (ts : List ℕ) (fraction : Float) (box : vec2) where
  pub in_parts : (n left : ℕ) (b : Body) → n ≤ left → (m : Body) → m ≡ turns_taken s ts fraction box n b → turns_taken s ts fraction box left b ≡ turns_taken s ts fraction box (left - n) m
  unfolding turns_taken
  in_parts n left b h m e =
      let f = box_turn s ts fraction box in
      ap (λ (k : ℕ). fold (λ i. f) k 0 b) (both n left h) ∙ fold-parts f n (left - n) 0 0 0 b ∙ ap (fold (λ i. f) (left - n) 0) (sym e)
    where
      both : (n left : ℕ) → n ≤ left → left ≡ n + (left - n)
      both n left h = omega arith

  pub none_left : (left : ℕ) (b : Body) → left ≤ 0 → turns_taken s ts fraction box left b ≡ b
  unfolding turns_taken fold
  none_left zero b h = refl
  none_left (suc n) b h = absurd (omega arith)
