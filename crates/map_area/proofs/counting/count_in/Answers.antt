use Rattle.std.proofs.Common.{arith}
use Rattle.map_totals.specs.Area.{minus, count_in}
use Rattle.map_area.proofs.Wraps.{less, wraps}
use Rattle.map_area.proofs.counting.count_in.Goals as goal

pub returns : goal.returns
unfolding count_in
returns c =
    let all = c.entry_at-all in
    let beside = c.entry_at-beside in
    let above = c.entry_at-above in
    let both = c.entry_at-both in
    let x = c.wrapping_sub_u32 in
    let y = c.wrapping_sub_u32-2 in
    let z = c.wrapping_add_u32 in
    rw (← all.ensures, ← beside.ensures, ← above.ensures, ← both.ensures)
    (wraps all.result (minus beside.result) (minus above.result) both.result x.result y.result z.result
    (less all.result beside.result x.result (omega arith) (omega arith) (omega arith) x.ensures.value)
    (less x.result above.result y.result (omega arith) (omega arith) (omega arith) y.ensures.value)
    z.ensures.value)
