use mathlib.Core.Path.{ap, ◌∙◌}
use borrow.Author.Rules.{rules}
use Rattle.num_convert.proofs.Signed.{read}
use Rattle.character_hook.specs.Hooking.{hold}
use Rattle.character.specs.Tick.{hooked}
use Rattle.character.proofs.Character.hooked.Goals as goal

pub returns : goal.returns
unfolding hooked
returns c = λ ss places.
    let a = c.args in
    simp (← c.dragged-vel.ensures, ← (c.hold-held.ensures ∙ ap (hold a.hook) (read a.tuning.hook_hold c.struct_told-1.given.1.1.1.1.1.1.1.1.1.1.1.1.1.1.1.1.1.1.0.1)), ← c.meet_all-met.ensures ss places, c.with_hook-self.ensures, ← c.clamp_speed-clamped.ensures)
