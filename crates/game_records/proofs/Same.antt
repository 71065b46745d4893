-- The test of two whole numbers: it holds where they are equal, and only there. Assumes nothing.
use mathlib.Core.Bool.{Bool, true, false, true≢false}
use mathlib.Core.Path.{◌≡◌, refl, sym, ap}
use lib.IntN.{ℤ, pos, negsuc}
use borrow.Author.Tests.{eqb-true, eq-eqb}
use Rattle.game_records.specs.Numbers.{same_number}

pub number_same : (x y : ℤ) → same_number x y ≡ true → x ≡ y
number_same (pos a) (pos b) e = ap pos (eqb-true a b e)
number_same (negsuc a) (negsuc b) e = ap negsuc (eqb-true a b e)
number_same (pos a) (negsuc b) e = absurd (true≢false (sym e))
number_same (negsuc a) (pos b) e = absurd (true≢false (sym e))

pub number_self : (x : ℤ) → same_number x x ≡ true
number_self (pos a) = eq-eqb a a refl
number_self (negsuc a) = eq-eqb a a refl

pub number_differs : (x y : ℤ) → (x ≡ y → ⊥) → same_number x y ≡ false
number_differs x y h = go (same_number x y) refl
  where
    go : (b : Bool) → same_number x y ≡ b → b ≡ false
    go true e = absurd (h (number_same x y e))
    go false e = refl
