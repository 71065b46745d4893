use mathlib.Core.Path.{refl, ap, ◌∙◌}
use native.Mathlib.Omega.{arith}
use Prim.Native.Nat.{◌+◌}
use lib.ListN.{set, length-set, take}
use Rattle.base_rows.specs.Put.{put}
use Rattle.base_rows.proofs.Puts.{put_none, put_next}
use Rattle.base_rows.proofs.copy.Goals as goal

pub loop-i-init : goal.loop-i-init
loop-i-init g c = (omega arith, refl, refl, put_none _ _)

pub loop-i-preserved : goal.loop-i-preserved
loop-i-preserved g c =
    let i = c.loop-i.i in
    let d = c.args.numbers.now in
    let at = c.args.at in
    let w = c.args.row.now in
    let x = c.index-row-i.result in
    (omega arith, refl, length-set c.loop-i.numbers (at + i) x ∙ c.loop-i.invariant.2, ap (λ l. set l (at + i) x) c.loop-i.invariant.3 ∙ ap (λ y. set (put d at (take i w)) (at + i) y) c.index-row-i.is ∙ put_next d at w i x (omega arith) (omega arith))
