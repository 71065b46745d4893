use Prim.Native.Nat.{ℕ}
use mathlib.Core.Path.{sym, ap, ap₂, ◌∙◌}
use Rattle.character_hook.specs.declared.hook.Hook.TheVariants.{Flying, Grabbed, Attached, Retracting0, Retracting1, Retracting2}
use Rattle.test_states.proofs.Told.{point_in, retracted_in, idle_in, flying_in, grabbed_in, attached_in, retracting0_in, retracting1_in, last_in}
use Rattle.test_states.proofs.states.hook_of.Goals as goal

pub returns-in-0 : goal.returns-in-0
returns-in-0 c = sym (retracted_in _ (sym c.nth-3.ensures ∙ c.in-0.is))

pub returns-in-1 : goal.returns-in-1
returns-in-1 c = sym (idle_in _ (sym c.nth-3.ensures ∙ c.in-1.is))

pub returns-in-2 : goal.returns-in-2
returns-in-2 c = ap₂ Flying (point_in c.point-pos.ensures c.nth.ensures c.nth-2.ensures) (point_in c.point.ensures c.nth-in-2.ensures c.nth-in-2-2.ensures) ∙ sym (flying_in _ (sym c.nth-3.ensures ∙ c.in-2.is))

pub returns-in-3 : goal.returns-in-3
returns-in-3 c = ap₂ (λ (i t : ℕ). Grabbed (record { 0 = i }) t) c.nth-in-3.ensures c.nth-in-3-2.ensures ∙ sym (grabbed_in _ (sym c.nth-3.ensures ∙ c.in-3.is))

pub returns-in-4 : goal.returns-in-4
returns-in-4 c = ap Attached (point_in c.point-pos.ensures c.nth.ensures c.nth-2.ensures) ∙ sym (attached_in _ (sym c.nth-3.ensures ∙ c.in-4.is))

pub returns-in-5 : goal.returns-in-5
returns-in-5 c = ap Retracting0 (point_in c.point-pos.ensures c.nth.ensures c.nth-2.ensures) ∙ sym (retracting0_in _ (sym c.nth-3.ensures ∙ c.in-5.is))

pub returns-in-6 : goal.returns-in-6
returns-in-6 c = ap Retracting1 (point_in c.point-pos.ensures c.nth.ensures c.nth-2.ensures) ∙ sym (retracting1_in _ (sym c.nth-3.ensures ∙ c.in-6.is))

pub returns-in_default : goal.returns-in_default
returns-in_default c =
    let w = c.in_default.in_default-own.rest in
    ap Retracting2 (point_in c.point-pos.ensures c.nth.ensures c.nth-2.ensures) ∙ sym (last_in _ _ (sym c.nth-3.ensures) w.0.0.0.0.0.0.1 w.0.0.0.0.0.1 w.0.0.0.0.1 w.0.0.0.1 w.0.0.1 w.0.1 w.1)
