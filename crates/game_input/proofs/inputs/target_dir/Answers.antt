use mathlib.Core.Path.{◌≡◌, ap, ◌∙◌}
use Rattle.num_convert.proofs.Signed.{read}
use Rattle.num_convert.specs.Convert.{i32_to_f32}
use Rattle.game_input.specs.Inputs.{target_dir}
use Rattle.game_input.proofs.inputs.target_dir.Goals as goal

pub returns : goal.returns
unfolding target_dir
returns c =
    let t = c.before.before.before.before.before.struct_told-1.given in
    let i = c.before.before.before.before.before.before.args.input in
    let x : c.before.before.before.before.i32_to_f32.result ≡ i32_to_f32 i.target_x = c.before.before.before.before.i32_to_f32.ensures ∙ ap i32_to_f32 (read _ t.1.0.1) in
    let y : c.before.before.i32_to_f32-2.result ≡ i32_to_f32 i.target_y = c.before.before.i32_to_f32-2.ensures ∙ ap i32_to_f32 (read _ t.1.1.0.1) in
    simp (← x, ← y, ← c.before.new.ensures, ← c.normalize.ensures)
