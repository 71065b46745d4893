use mathlib.Core.Path.{◌≡◌, refl, sym, ap, ap₂, ◌∙◌}
use mir.Facts.{to_z-of_z}
use mir.Syntax.{w32}
use mir.Val.{to_z}
use Rattle.character.specs.Tick.{seats}
use Rattle.text_writing.proofs.Sizes.{put_as}
use Rattle.text_writing.proofs.Unrecorded.{answer_as_signed, unrecorded_told}
use Rattle.text_writing.specs.Answers.{told_bytes}
use Rattle.text_writing.specs.Output.{answer_bytes}
use Rattle.world.specs.Answered.{Stepped, answered}
use Rattle.world.specs.Run.{told_by}
use Rattle.session_run.proofs.session_lines.put_call.Goals as goal

pub returns-in_default : goal.returns-in_default
returns-in_default c =
    let r = c.make_change_as in
    let number = ap (to_z w32) c.number_of_answer-number.ensures ∙ answer_as_signed r.result in
    let told = sym (unrecorded_told seats c.args.call (answered r.new.world r.result)) ∙ ap (λ (a : Stepped). told_bytes seats c.args.call (told_by a)) r.ensures in
    (ap (λ (a : Stepped). a.world) r.ensures, put_as (ap₂ answer_bytes (to_z-of_z c.ranges.call) number ∙ told) refl c.put_answer.ensures)
