use mathlib.Core.Path.{ap, ◌∙◌}
use Rattle.num_convert.proofs.Signed.{read}
use Rattle.character_hook.specs.Hooking.{hold}
use Rattle.send_alone.proofs.hooked_alone.Goals as goal

pub returns : goal.returns
returns c =
    let a = c.args in
    simp (c.with_hook-me.ensures, ← (c.hold.ensures ∙ ap (hold a.hook) (read a.tuning.hook_hold c.struct_told-1.given.1.1.1.1.1.1.1.1.1.1.1.1.1.1.1.1.1.1.0.1)), ← c.clamp_speed-clamped.ensures, ← c.dragged-vel.ensures)
