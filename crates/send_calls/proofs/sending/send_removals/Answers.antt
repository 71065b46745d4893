use Prim.Native.Nat.{◌≤◌, ◌<◌}
use mathlib.Core.Path.{ap, ◌∙◌}
use native.Mathlib.Omega.{arith}
use lib.ListN.{set}
use mir.Facts.{to_z-of_z}
use mir.Syntax.{w32}
use Rattle.world.specs.Calls.{place_of}
use Rattle.world.specs.declared.Removed.{Removed}
use Rattle.character.specs.Tick.{seats}
use Rattle.send_rule.specs.Send.{most_passed}
use Rattle.send_calls.proofs.Removals.{drops_first, has-seat, room, drops, drops_last}
use Rattle.send_calls.proofs.sending.send_removals.Goals.{After-item, In-loop-i}
use Rattle.send_calls.proofs.sending.send_removals.Goals.{then-at-lt-SEATS, else-at-lt-SEATS}
use Rattle.send_calls.proofs.sending.send_removals.Goals as goal

pub loop-i-init : goal.loop-i-init
loop-i-init c = let p = c.requires in drops_first _ _ p.0 p.1

short : (c : In-loop-i) → c.args.removed.count ≤ seats
short c = let p = c.requires.2 in let e = ap (λ (q : Removed). q.count) p.ids in omega (arith, e, p.fits)

pub offset_bounds-ids-i : goal.offset_bounds-ids-i
offset_bounds-ids-i c = let e = short c in omega (arith, e, c.loop-i-test.true)

pub bounds-ids-i : goal.bounds-ids-i
bounds-ids-i c = let e = short c in omega (arith, e, c.loop-i-test.true)

pub bounds-copies-at : goal.bounds-copies-at
bounds-copies-at c = omega arith

below : (c : After-item) → c.loop-i.count < most_passed seats
below c = let l = c.loop-i in let a = c.args in room a.removed a.sending c.requires.2 l.i c.loop-i-test.true l.copies l.items l.count l.invariant

pub offset_bounds-items-count : goal.offset_bounds-items-count
offset_bounds-items-count c = let b = below c in omega (arith, b)

pub bounds-items-count : goal.bounds-items-count
bounds-items-count c = below c

pub overflow_add-count : goal.overflow_add-count
overflow_add-count c = let b = below c in omega (arith, b)

pub overflow_step-i : goal.overflow_step-i
overflow_step-i c = omega arith

pub loop-i-smaller : goal.loop-i-smaller
loop-i-smaller c = omega arith

pub loop-i-preserved : goal.loop-i-preserved
loop-i-preserved c =
    let a = c.args in
    let l = c.loop-i in
    let h = c.loop-i-test.true in
    let p = c.requires.2 in
    let v = c.place_of-at.ensures ∙ ap (place_of seats) (to_z-of_z {w = w32} (record { sfits = c.place_of-arg-1.given })) in
    elim c.if-at-lt-SEATS.branch [
      | then-at-lt-SEATS w ↦ drops a.removed a.sending p l.i h l.copies l.items l.count l.invariant c.place_of-at.result _ _ _ v (w.copies-is ∙ ap (set l.copies c.place_of-at.result) w.no_copy.ensures) (w.items-is ∙ ap (set l.items l.count) w.item.ensures) w.count-is
      | else-at-lt-SEATS w ↦ let s = has-seat a.removed a.sending p l.i h in absurd (omega (arith, s, v, w.if-at-lt-SEATS.false))
    ]

pub returns : goal.returns
returns c = let q = c in drops_last q.args.removed q.args.sending q.requires.2 _ _ _ _ c.loop-i.invariant c.loop-i-test.false
