-- What a branch on a bit of k leaves, by the definition. Assumes nothing.
use Rattle.std.proofs.Common.{◌≡◌, ℕ, ◌/◌, ◌%◌, ◌^◌, Bool, cond, ap, eq-eqb, ne_eqb}
use lib.Ieee.{Float}
use Rattle.num_ramp.specs.Power.{bit}

module _ (k i : ℕ) (a b : Float) where
  pub set : k / 2 ^ i % 2 ≡ 1 → cond (bit k i) a b ≡ a
  set h = ap (λ (t : Bool). cond t a b) (eq-eqb (k / 2 ^ i % 2) 1 h)

  pub clear : (k / 2 ^ i % 2 ≡ 1 → ⊥) → cond (bit k i) a b ≡ b
  clear h = ap (λ (t : Bool). cond t a b) (ne_eqb (k / 2 ^ i % 2) 1 h)
