use mathlib.Core.Path.{◌≡◌, refl, sym, ◌∙◌}
use mathlib.Core.Bool.{Bool, true, false, true≢false}
use Prim.Native.Nat.{ℕ, suc, ◌≤◌, ◌<◌}
use native.Mathlib.Omega.{arith}
use lib.Dec.{leb}
use lib.IntN.{ℤ, pos, negsuc}
use lib.Signed.{le_z}
use mir.Facts.{to_z-of_z}
use borrow.Author.Tests.{le-leb, lt-leb, leb-true, leb-false}
use Rattle.world.specs.Calls.{is_in_reach}
use Rattle.world_joins.proofs.joins.in_reach.Goals as goal

below : (k : ℕ) → leb k 99999 ≡ leb (suc k) 100000
below k = go (leb k 99999) refl
  where
    go : (b : Bool) → leb k 99999 ≡ b → b ≡ leb (suc k) 100000
    go true e = sym (le-leb (suc k) 100000 (let h : k ≤ 99999 = leb-true k 99999 e in omega arith))
    go false e = sym (lt-leb (suc k) 100000 (let h : 99999 < k = leb-false k 99999 e in omega arith))

upper : (z : ℤ) → le_z (negsuc 99999) z ≡ true → le_z z (pos 100000) ≡ is_in_reach z
unfolding is_in_reach
upper (pos k) e = refl
upper (negsuc k) e = sym e ∙ below k

lower : (z : ℤ) → le_z (negsuc 99999) z ≡ false → le_z (negsuc 99999) z ≡ is_in_reach z
unfolding is_in_reach
lower (pos k) e = absurd (true≢false e)
lower (negsuc k) e = below k

pub returns-then-z-geminus100000 : goal.returns-then-z-geminus100000
returns-then-z-geminus100000 c = rw (to_z-of_z c.ranges.z) (upper c.args.z (rw (to_z-of_z c.ranges.z) at c.if-z-geminus100000.true))

pub returns-else-z-geminus100000 : goal.returns-else-z-geminus100000
returns-else-z-geminus100000 c = rw (to_z-of_z c.ranges.z) (lower c.args.z (rw (to_z-of_z c.ranges.z) at c.if-z-geminus100000.false))
