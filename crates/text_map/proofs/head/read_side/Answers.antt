use mathlib.Core.Path.{refl}
use native.Mathlib.Omega.{arith}
use borrow.Author.Rules.{rules}
use Rattle.text_map.proofs.Heads.{no_number, no-side, a-side}
use Rattle.text_map.proofs.head.read_side.Goals as goal

pub returns-in_err-n : goal.returns-in_err-n
returns-in_err-n c = rw c.from_residual.ensures (no_number _ _ _ c.in_err-n.ensures refl)

pub returns-then-n-lt1 : goal.returns-then-n-lt1
returns-then-n-lt1 c = let out = c.then-n-lt1.either in no-side _ _ _ c.in_ok-n.ensures _ _ refl (search rules) (λ i. omega (arith, out))

pub returns : goal.returns
returns c = a-side _ _ _ c.in_ok-n.ensures _ _ refl c.if-n-lt1.false c.if-n-gt1024.false
