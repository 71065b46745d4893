use mathlib.Core.Path.{◌≡◌, refl}
use Prim.Native.Nat.{ℕ}
use native.Mathlib.Omega.{arith}
use lib.Dec.{eqb}
use lib.IntN.{ℤ, pos, negsuc}
use mir.Syntax.{w32}
use mir.Val.{SFits, of_z}
use borrow.Author.Tests.{ne_eqb}
use Rattle.character_hook.proofs.States.{by_bits}
use Rattle.world_buffers.specs.Leaving.{is_attached}
use Rattle.world_buffers.proofs.leaving.is_attached.Goals as goal

state_is : (z : ℤ) → SFits w32 z → eqb (of_z w32 z) 5 ≡ is_attached z
unfolding is_attached
state_is (pos n) f = refl
state_is (negsuc n) f = ne_eqb _ 5 (λ e. let h = by_bits (negsuc n) 5 f e in let z : ◌≡◌ {A = ℕ} 0 1 = cc in omega arith)

pub returns : goal.returns
returns c = state_is c.args.state c.ranges.state
