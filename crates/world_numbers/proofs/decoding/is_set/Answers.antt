use mathlib.Core.Bool.{not}
use mathlib.Core.Path.{◌≡◌, refl, sym, ap, ◌∙◌}
use Prim.Native.Nat.{ℕ, zero, suc}
use native.Mathlib.Omega.{arith}
use lib.Dec.{eqb}
use lib.IntN.{ℤ, pos, negsuc}
use mir.Facts.{to_z-of_z}
use mir.Syntax.{w32}
use mir.Val.{SFits, to_z, of_z}
use borrow.Author.Tests.{ne_eqb}
use Rattle.world_numbers.specs.Decoding.{is_set}
use Rattle.world_numbers.proofs.decoding.is_set.Goals as goal

-- a number whose bits are 0 is 0
zero_bits : (z : ℤ) → SFits w32 z → of_z w32 z ≡ 0 → z ≡ pos 0
zero_bits z f e = sym (to_z-of_z f) ∙ ap (to_z w32) e

present_is : (z : ℤ) → SFits w32 z → not (eqb (of_z w32 z) 0) ≡ is_set z
unfolding is_set
present_is (pos zero) f = refl
present_is (pos (suc k)) f = ap not (ne_eqb _ 0 (λ e. let h = zero_bits (pos (suc k)) f e in let n : ◌≡◌ {A = ℕ} (suc k) 0 = cc in omega arith))
present_is (negsuc k) f = ap not (ne_eqb _ 0 (λ e. let h = zero_bits (negsuc k) f e in let n : ◌≡◌ {A = ℕ} 1 0 = cc in omega arith))

pub returns : goal.returns
returns c = present_is c.args.z c.ranges.z
