use Prim.Native.Nat.{◌*◌}
use mathlib.Core.Path.{ap, ◌∙◌}
use native.Mathlib.Omega.{arith}
use Rattle.world_numbers.proofs.RowsIn.{to_end}
use Rattle.send_numbers.specs.Copies.{copy_count, copy_in}
use Rattle.send_numbers.proofs.copies.copy_at.Goals as goal

pub returns : goal.returns
returns c =
    let a = c.args in
    c.copy_of.ensures ∙ ap copy_in (to_end (copy_count * a.id) a.numbers.now (omega arith))
