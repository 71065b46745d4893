use Prim.Native.Nat.{ℕ}
use mathlib.Core.Bool.{true≢false}
use mathlib.Core.Path.{sym, ap, ap₂, ◌∙◌}
use borrow.Author.Tests.{eqb-true}
use Rattle.character_hook.specs.declared.hook.Hook.TheVariants.{Flying, Grabbed, Attached, Retracting0, Retracting1, Retracting2}
use Rattle.test_states.proofs.Told.{point_in, retracted_in, idle_in, flying_in, grabbed_in, attached_in, retracting0_in, retracting1_in, retracting2_in}
use Rattle.test_states.proofs.states.is_hook.Goals as goal

pub returns-in-Retracted : goal.returns-in-Retracted
returns-in-Retracted c h = c.in-Retracted.is ∙ sym (retracted_in _ (sym c.nth.ensures ∙ eqb-true _ _ h))

pub returns-in-Idle : goal.returns-in-Idle
returns-in-Idle c h = c.in-Idle.is ∙ sym (idle_in _ (sym c.nth-in-Idle.ensures ∙ eqb-true _ _ h))

pub returns-then-is_pos_case : goal.returns-then-is_pos_case
returns-then-is_pos_case c h =
    let e = c.is_pos_case.ensures c.if-is_pos_case.true in
    c.in-Flying.is ∙ ap₂ Flying e.1 (point_in (c.is_point.ensures h) c.nth-then-is_pos_case.ensures c.nth-then-is_pos_case-2.ensures) ∙ sym (flying_in _ e.0)

pub returns-else-is_pos_case : goal.returns-else-is_pos_case
returns-else-is_pos_case c h = absurd (true≢false (sym h ∙ c.if-is_pos_case.false))

pub returns-in-Grabbed : goal.returns-in-Grabbed
returns-in-Grabbed c h =
    let e = c.is_grabbed.ensures h in
    c.in-Grabbed.is ∙ ap₂ (λ (i t : ℕ). Grabbed (record { 0 = i }) t) (sym e.1) (sym e.2) ∙ sym (grabbed_in _ e.0)

pub returns-in-Attached : goal.returns-in-Attached
returns-in-Attached c h = let e = c.is_pos_case-in-Attached.ensures h in c.in-Attached.is ∙ ap Attached e.1 ∙ sym (attached_in _ e.0)

pub returns-in-Retracting0 : goal.returns-in-Retracting0
returns-in-Retracting0 c h = let e = c.is_pos_case-in-Retracting0.ensures h in c.in-Retracting0.is ∙ ap Retracting0 e.1 ∙ sym (retracting0_in _ e.0)

pub returns-in-Retracting1 : goal.returns-in-Retracting1
returns-in-Retracting1 c h = let e = c.is_pos_case-in-Retracting1.ensures h in c.in-Retracting1.is ∙ ap Retracting1 e.1 ∙ sym (retracting1_in _ e.0)

pub returns-in-Retracting2 : goal.returns-in-Retracting2
returns-in-Retracting2 c h = let e = c.is_pos_case-in-Retracting2.ensures h in c.in-Retracting2.is ∙ ap Retracting2 e.1 ∙ sym (retracting2_in _ e.0)
