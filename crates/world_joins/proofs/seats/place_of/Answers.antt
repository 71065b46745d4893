use mathlib.Core.Path.{◌≡◌, refl, sym, ap}
use mathlib.Core.Bool.{Bool, true, false, cond, true≢false}
use Prim.Native.Nat.{ℕ, ◌≤◌, ◌<◌, ◌^◌}
use native.Mathlib.Omega.{arith}
use native.Mathlib.Nat.{lt_of_lt_of_le}
use lib.Dec.{T, lit≤}
use lib.IntN.{ℤ, pos, negsuc, nat_abs}
use lib.Signed.{lt_z, non_neg, mag}
use mir.Facts.{to_z-of_z, Fits-of_lt}
use mir.Syntax.{w64}
use mir.Val.{Fits}
use borrow.Author.Tests.{lt-ltb, le-ltb, ltb-true}
use Rattle.world.specs.Calls.{place_of}
use Rattle.world_joins.proofs.seats.place_of.Goals as goal

below : (n : ℕ) (z : ℤ) → lt_z z (pos 0) ≡ true → n ≡ place_of n z
unfolding place_of
below n (negsuc k) e = refl
below n (pos k) e = let h : k < 0 = ltb-true k 0 e in absurd (omega arith)

inside : (n : ℕ) (z : ℤ) → lt_z z (pos 0) ≡ false → nat_abs z < n → nat_abs z ≡ place_of n z
unfolding place_of
inside n (pos k) e h = sym (ap (λ (b : Bool). cond b k n) (lt-ltb k n h))
inside n (negsuc k) e h = absurd (true≢false e)

outside : (n : ℕ) (z : ℤ) → lt_z z (pos 0) ≡ false → n ≤ nat_abs z → n ≡ place_of n z
unfolding place_of
outside n (pos k) e h = sym (ap (λ (b : Bool). cond b k n) (le-ltb k n h))
outside n (negsuc k) e h = refl

whole : (z : ℤ) → lt_z z (pos 0) ≡ false → mag z < 2 ^ 31 → T (non_neg z) × Fits w64 (nat_abs z)
whole (pos k) e h = (tt, Fits-of_lt {w = w64} (lt_of_lt_of_le h (lit≤ tt)))
whole (negsuc k) e h = absurd (true≢false e)

pub returns-then-z-lt0 : goal.returns-then-z-lt0
returns-then-z-lt0 c = below _ c.args.z (rw (to_z-of_z c.ranges.z) at c.if-z-lt0.true)

pub overflow_cast-k : goal.overflow_cast-k
overflow_cast-k c = rw (to_z-of_z c.ranges.z) (whole c.args.z (rw (to_z-of_z c.ranges.z) at c.if-z-lt0.false) c.ranges.z.sfits)

pub returns-then-k-count : goal.returns-then-k-count
returns-then-k-count c = rw (to_z-of_z c.ranges.z) (inside _ c.args.z (rw (to_z-of_z c.ranges.z) at c.if-z-lt0.false) (rw (to_z-of_z c.ranges.z) at c.if-k-count.true))

pub returns-else-k-count : goal.returns-else-k-count
returns-else-k-count c = outside _ c.args.z (rw (to_z-of_z c.ranges.z) at c.if-z-lt0.false) (rw (to_z-of_z c.ranges.z) at c.if-k-count.false)
