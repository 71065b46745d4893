-- The hook's hold: what a number stands for is one of 1 to 60, and a hold stands for itself. Assumes nothing.
use Prim.Native.Nat.{◌≤◌}
use mathlib.Core.Bool.{Bool, true, false, cond, ◌&&◌, true≢false}
use mathlib.Core.Path.{◌≡◌, refl, sym}
use lib.Dec.{leb, lit≤}
use lib.IntN.{ℤ, pos, negsuc, nat_abs}
use lib.Signed.{le_z}
use native.Mathlib.Omega.{arith}
use Rattle.std.proofs.lemmas.Bool.Decides.{nat_tests}
use Rattle.std.specs.Int.{int_max, int_min}
use borrow.Author.Tests.{leb-true}
use Rattle.game_constants.specs.Constants.{max_hook_grab_time}
use Rattle.game_tuning.specs.Tuning.{is_hold, hold_of}

pub hold_most : (z : ℤ) → hold_of z ≤ max_hook_grab_time
unfolding hold_of
hold_most (pos n) = go (leb 1 n) (leb n max_hook_grab_time) refl
  where
    go : (b d : Bool) → leb n max_hook_grab_time ≡ d → cond b (cond d n max_hook_grab_time) 1 ≤ max_hook_grab_time
    go false d e = lit≤ tt
    go true true e = leb-true n max_hook_grab_time e
    go true false e = lit≤ tt
hold_most (negsuc k) = lit≤ tt

-- ---- as the code tests it

pub below : (z : ℤ) → le_z (pos 1) z ≡ false → false ≡ is_hold z
unfolding is_hold
below (pos n) e = rw e refl
below (negsuc k) e = refl

pub tested : (z : ℤ) → le_z (pos 1) z ≡ true → leb (nat_abs z) max_hook_grab_time ≡ is_hold z
unfolding is_hold
tested (pos n) e = rw e refl
tested (negsuc k) e = absurd (true≢false (sym e))

pub clamped : (z : ℤ) → int_max (pos 1) (int_min z (pos max_hook_grab_time)) ≡ pos (hold_of z)
unfolding hold_of
clamped (pos n) = grind (arith, nat_tests)
clamped (negsuc k) = refl

-- a hold stands for itself
pub hold_is : (z : ℤ) → is_hold z ≡ true → pos (hold_of z) ≡ z
unfolding is_hold hold_of
hold_is (pos n) e = go (leb 1 n) (leb n max_hook_grab_time) e
  where
    go : (b d : Bool) → b && d ≡ true → pos (cond b (cond d n max_hook_grab_time) 1) ≡ pos n
    go true true e = refl
    go true false e = absurd (true≢false (sym e))
    go false d e = absurd (true≢false (sym e))
hold_is (negsuc k) e = absurd (true≢false (sym e))
