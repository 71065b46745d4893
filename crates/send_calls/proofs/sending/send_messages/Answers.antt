use Prim.Native.Nat.{◌<◌}
use mathlib.Core.List.{List, [], ◌∷◌}
use mathlib.Core.Path.{refl, sym, ap, ◌∙◌}
use lib.ListN.{set}
use Rattle.base_turns.specs.Turns.{fold}
use native.Mathlib.Omega.{arith}
use Rattle.character.specs.Tick.{seats}
use Rattle.send_rule.specs.Send.{most_passed, filled, sending_of, send_messages}
use Rattle.send_rule.specs.declared.Copy.{Copy}
use Rattle.send_rule.specs.declared.Passed.TheVariants.{Mark}
use Rattle.send_calls.proofs.Messages.{turn, sends_first, room, sends, not_due, nobody, sends_last}
use Rattle.send_calls.proofs.sending.send_messages.Goals.{After-item}
use Rattle.send_calls.proofs.sending.send_messages.Goals.{then-slot+then-due, then-slot+else-due, else-slot}
use Rattle.send_calls.proofs.sending.send_messages.Goals as goal

pub loop-k-init : goal.loop-k-init
unfolding filled
loop-k-init c = sends_first _ _ _ _ (rw c.item-items.ensures refl)

pub bounds-slots-k : goal.bounds-slots-k
bounds-slots-k c = omega arith

pub bounds-all-k : goal.bounds-all-k
bounds-all-k c = omega arith

pub bounds-records-k : goal.bounds-records-k
bounds-records-k c = omega arith

pub bounds-all-k-then-due : goal.bounds-all-k-then-due
bounds-all-k-then-due c = omega arith

below : (c : After-item) → c.loop-k.count < most_passed seats
below c = let l = c.loop-k in room _ _ _ l.k l.all l.items l.count l.invariant c.loop-k-test.true

pub offset_bounds-items-count : goal.offset_bounds-items-count
offset_bounds-items-count c = let b = below c in omega (arith, b)

pub bounds-items-count : goal.bounds-items-count
bounds-items-count c = below c

pub overflow_add-count : goal.overflow_add-count
overflow_add-count c = let b = below c in omega (arith, b)

pub overflow_step-k : goal.overflow_step-k
overflow_step-k c = omega arith

pub loop-k-smaller : goal.loop-k-smaller
loop-k-smaller c = omega arith

pub loop-k-preserved : goal.loop-k-preserved
loop-k-preserved c =
    let l = c.loop-k in
    let h = c.loop-k-test.true in
    elim c.if-slot.branch [
      | then-slot+then-due w ↦ sends _ _ _ l.k l.all l.items l.count l.invariant h _ _ _ w.if-slot.true (sym w.due.ensures ∙ w.if-due.true) (w.all-is ∙ ap (set l.all l.k) w.copy_of.ensures) (w.items-is ∙ ap (set l.items l.count) w.item.ensures) w.count-is
      | then-slot+else-due w ↦ not_due _ _ _ l.k l.all l.items l.count l.invariant h _ _ _ w.if-slot.true (sym w.due.ensures ∙ w.if-due.false) w.all-is w.items-is w.count-is
      | else-slot w ↦ nobody _ _ _ l.k l.all l.items l.count l.invariant h _ _ _ w.if-slot.false w.all-is w.items-is w.count-is
    ]

pub returns : goal.returns
unfolding send_messages
returns c =
    let a = c.args in
    let l = sends_last a.world.slots a.told.records _ _ _ _ _ c.loop-k.invariant c.loop-k-test.false in
    (l.0 ∙ ap (λ (cs : List Copy). sending_of seats (fold (turn a.world.slots a.told.records cs) seats 0 (record { copies = cs; passed = Mark ∷ [] }))) c.step_copies-all.ensures, l.1)
