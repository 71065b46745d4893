-- A whole number as a seat's id. Assumes nothing.
use mathlib.Core.Path.{◌≡◌, refl, sym, ◌∙◌}
use mathlib.Core.Bool.{true, false, true≢false}
use Prim.Native.Nat.{ℕ, zero, suc, ◌<◌, ◌^◌}
use native.Mathlib.Nat.{lt_of_lt_of_le}
use native.Mathlib.Omega.{arith}
use lib.Dec.{T, eqb, lit≤}
use lib.IntN.{ℤ, pos, negsuc, nat_abs}
use lib.Signed.{le_z, non_neg, mag}
use borrow.Author.Tests.{le-leb}
use mir.Facts.{Fits-of_lt}
use mir.Syntax.{w32}
use mir.Val.{Fits}
use Rattle.role_rule.specs.Roles.{is_id, allowed, may_ask}
use Rattle.role_rule.specs.declared.Ask.{Ask}
use Rattle.role_rule.specs.declared.Role.TheVariants.{Seat}

pub whole : (z : ℤ) → le_z (pos 0) z ≡ true → mag z < 2 ^ 31 → T (non_neg z) × Fits w32 (nat_abs z)
whole (pos k) e h = (tt, Fits-of_lt {w = w32} (lt_of_lt_of_le h (lit≤ tt)))
whole (negsuc k) e h = absurd (true≢false (sym e))

pub id_is : (k : ℕ) (z : ℤ) → le_z (pos 0) z ≡ true → eqb (nat_abs z) k ≡ is_id k z
id_is k (pos j) e = refl
id_is k (negsuc j) e = absurd (true≢false (sym e))

pub no_id : (k : ℕ) (z : ℤ) → le_z (pos 0) z ≡ false → false ≡ is_id k z
no_id k (pos j) e = absurd (true≢false (sym (le-leb 0 j (omega arith)) ∙ e))
no_id k (negsuc j) e = refl

-- ---- the number of a role
pub seat_asks : (z : ℤ) (a : Ask) → le_z (pos 0) z ≡ true → allowed (Seat (nat_abs z)) a ≡ may_ask z a
unfolding may_ask
seat_asks (pos k) a e = refl
seat_asks (negsuc k) a e = absurd (true≢false (sym e))

pub nobody_asks : (z : ℤ) (a : Ask) → le_z (pos 0) z ≡ false → (z ≡ negsuc 0 → ⊥) → (z ≡ negsuc 1 → ⊥) → false ≡ may_ask z a
unfolding may_ask
nobody_asks (pos k) a e f g = absurd (true≢false (sym (le-leb 0 k (omega arith)) ∙ e))
nobody_asks (negsuc zero) a e f g = absurd (f refl)
nobody_asks (negsuc (suc zero)) a e f g = absurd (g refl)
nobody_asks (negsuc (suc (suc k))) a e f g = refl
