use mathlib.Core.Path.{refl}
use borrow.Author.Rules.{rules}
use Rattle.world_buffers.proofs.telling.write_step.Goals as goal

pub returns : goal.returns
returns c n =
    let a = c.args in
    c.tell_step.ensures (record { number = 0; world = a.next; records = a.told.records; removed = a.told.removed }) (record { count = search rules; records = c.encode_records.ensures; marked = c.marks_of-marks.ensures }) n refl refl
