-- A difference and the one the other way round have the same square, so a distance is the same both ways. Assumes nothing.
use mathlib.Core.Path.{◌≡◌, refl, sym, ap, ap₂, ◌∙◌}
use mathlib.Core.Bool.{Bool, true, false, not, ◌&&◌, beq, cond}
use Prim.Native.Nat.{ℕ, ◌+◌, ◌-◌, ◌*◌}
use native.Mathlib.Nat.{mul_comm}
use native.Mathlib.Omega.{arith}
use lib.Dec.{ltb}
use lib.Ieee.{Float, nan, inf, fin, Format, binary32, up, down, round, sum, neg, add, sub, mul}
use borrow.Author.Tests.{ltb-true, ltb-false}
use Rattle.num_root.specs.Root.{root}
use Rattle.num_vec2.specs.Vec2.{vsub, vlength, vdistance}
use Rattle.num_vec2.specs.declared.vec2.{vec2}
use Rattle.num_order.proofs.Rounded.{round-neg}

module _ (f : Format) where
  neg_square : (x : Float) → mul f (neg x) (neg x) ≡ mul f x x
  unfolding neg mul
  neg_square nan = refl
  neg_square (inf true) = refl
  neg_square (inf false) = refl
  neg_square (fin true m e) = refl
  neg_square (fin false m e) = refl

  -- the square of what a fraction rounds to, whatever its sign
  abbrev square : Bool → ℕ → ℕ → Float
  square s a c = mul f (round f s a c) (round f s a c)

  sign_square : (s : Bool) (a c : ℕ) → square s a c ≡ square false a c
  sign_square false a c = refl
  sign_square true a c = ap₂ (mul f) (round-neg f a c) (round-neg f a c) ∙ neg_square (round f false a c)

  -- the size of a sum of ±a and ±b, over c
  abbrev size : Bool → Bool → ℕ → ℕ → ℕ
  size s t a b = cond (beq s t) (a + b) (a - b + (b - a))

  sum_square : (s t : Bool) (a b c : ℕ) → mul f (sum f s a t b c) (sum f s a t b c) ≡ square false (size s t a b) c
  unfolding sum
  sum_square s t a b c = go (beq s t) (ltb a b) refl
    where
      go : (e l : Bool) → ltb a b ≡ l →
          let z = cond e (round f s (a + b) c) (cond l (round f t (b - a) c) (round f (s && ltb b a) (a - b) c)) in
          mul f z z ≡ square false (cond e (a + b) (a - b + (b - a))) c
      go true l h = sign_square s (a + b) c
      go false true h = sign_square t (b - a) c ∙ ap (λ (n : ℕ). square false n c) (omega (arith, ltb-true a b h))
      go false false h = sign_square (s && ltb b a) (a - b) c ∙ ap (λ (n : ℕ). square false n c) (omega (arith, ltb-false a b h))

  size_back : (s t : Bool) (a b : ℕ) → size s (not t) a b ≡ size t (not s) b a
  size_back true true a b = omega arith
  size_back true false a b = omega arith
  size_back false true a b = omega arith
  size_back false false a b = omega arith

  sub_square : (x y : Float) → mul f (sub f x y) (sub f x y) ≡ mul f (sub f y x) (sub f y x)
  unfolding sub add neg mul
  sub_square nan nan = refl
  sub_square nan (inf t) = refl
  sub_square nan (fin t n d) = refl
  sub_square (inf s) nan = refl
  sub_square (inf true) (inf true) = refl
  sub_square (inf true) (inf false) = refl
  sub_square (inf false) (inf true) = refl
  sub_square (inf false) (inf false) = refl
  sub_square (inf true) (fin t n d) = refl
  sub_square (inf false) (fin t n d) = refl
  sub_square (fin s m e) nan = refl
  sub_square (fin s m e) (inf true) = refl
  sub_square (fin s m e) (inf false) = refl
  sub_square (fin s m e) (fin t n d) =
      let a = m * up e * down d in
      let b = n * up d * down e in
      sum_square s (not t) a b (down e * down d)
      ∙ ap₂ (square false) (size_back s t a b) (mul_comm (down e) (down d))
      ∙ sym (sum_square t (not s) b a (down d * down e))

pub distance_symmetric : (p q : vec2) → vdistance p q ≡ vdistance q p
unfolding vdistance vlength vsub
distance_symmetric p q = ap (root binary32) (ap₂ (add binary32) (sub_square binary32 q.x p.x) (sub_square binary32 q.y p.y))
