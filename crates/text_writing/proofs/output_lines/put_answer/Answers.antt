use mir.Syntax.{w32}
use mir.ValLaws.{to_z-of_z}
use Rattle.text_writing.proofs.output_lines.put_answer.Goals as goal

pub returns : goal.returns
returns c =
    let s = c in
    rw (to_z-of_z w32 s.args.call s.ranges.call, to_z-of_z w32 s.args.answer s.ranges.answer) at c.put_values.ensures
