use mir.Syntax.{w32}
use mir.ValLaws.{to_z-of_z}
use Rattle.text_writing.proofs.output_lines.put_record.Goals as goal

pub returns : goal.returns
returns c =
    let s = c in
    let a = s.args in
    rw (to_z-of_z w32 a.call s.ranges.call, to_z-of_z w32 a.answer s.ranges.answer, to_z-of_z w32 a.id s.ranges.id, c.core_numbers-numbers.ensures) at c.put_values.ensures
