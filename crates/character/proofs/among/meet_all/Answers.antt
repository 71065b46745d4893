use mathlib.Core.Logic.{inl, inr, ⊎_elim}
use mathlib.Core.Path.{refl, sym, ap, ◌∙◌}
use Prim.Native.Nat.{◌-◌, ◌<◌}
use native.Mathlib.Omega.{arith}
use borrow.Author.Rules.{rules}
use Rattle.base_turns.proofs.Loop.{Left, always, fold_first, turn_on, fold_end}
use Rattle.base_turns.specs.Turns.{fold, more}
use Rattle.character_hook.specs.Hook.{id_of}
use Rattle.character_meeting.specs.Meeting.{meet}
use Rattle.character.specs.Places.{place_at, Among}
use Rattle.character.specs.Tick.{seats, meet_turn, meet_all}
use Rattle.character.proofs.Held.{left_out}
use Rattle.character.proofs.Scan.{through}
use Rattle.character.proofs.Seat.{seat_turn}
use Rattle.character.proofs.among.meet_all.Goals.{then-may_meet+then-present-j+then-j-id, then-may_meet+then-present-j+else-j-id, then-may_meet+else-present-j, else-may_meet}
use Rattle.character.proofs.among.meet_all.Goals as goal

pub loop-j-init : goal.loop-j-init
loop-j-init c = λ ss places. fold_first

pub overflow_add-j : goal.overflow_add-j
overflow_add-j c = omega arith

pub loop-j-smaller-then-none_met : goal.loop-j-smaller-then-none_met
loop-j-smaller-then-none_met c = omega arith

pub loop-j-preserved-then-none_met : goal.loop-j-preserved-then-none_met
loop-j-preserved-then-none_met c = λ ss places.
    let l = c.loop-j in
    let a = c.args in
    let row = c.none_met.ensures c.if-none_met.true in
    let held = c.held_seat-held.ensures in
    let turn = meet_turn ss a.id a.pos a.hook a.tuning in
    through (λ k. Left (always turn) seats k l.vel (more (fold turn seats 0 a.vel))) 8 l.j
    (λ k b e left.
    let m : k < seats = omega (arith, row.row) in
    turn_on left m
    (ap more (seat_turn seats ss a.present.now a.xs.now a.ys.now places a.id k m (place_at a.xs.now a.ys.now k) refl (λ q v. meet a.pos v a.hook q (id_of k) a.tuning) l.vel l.vel
    (inr (inr (inr (λ o. sym (left_out seats a.id a.pos l.vel a.hook (place_at a.xs.now a.ys.now k) k a.tuning m o (rw held at (row.none k b e))))), refl)))))
    (l.invariant ss places)

pub offset_bounds-xs-j : goal.offset_bounds-xs-j
offset_bounds-xs-j c = omega arith

pub offset_bounds-ys-j : goal.offset_bounds-ys-j
offset_bounds-ys-j c = omega arith

pub overflow_cast-cid : goal.overflow_cast-cid
overflow_cast-cid c = omega arith

pub overflow_add-j-else-none_met : goal.overflow_add-j-else-none_met
overflow_add-j-else-none_met c = omega arith

pub loop-j-smaller : goal.loop-j-smaller
loop-j-smaller c = omega arith

pub loop-j-preserved : goal.loop-j-preserved
loop-j-preserved c = λ ss places.
    let b = c in
    let l = b.loop-j in
    let a = b.args in
    let h = b.loop-j-test.true in
    let place = c.new-place in
    let far = sym c.may_meet.ensures in
    turn_on (l.invariant ss places) h
    (ap more (seat_turn seats ss a.present.now a.xs.now a.ys.now places a.id l.j h place.result place.ensures (λ q v. meet a.pos v a.hook q (id_of l.j) a.tuning) l.vel c.if-may_meet.vel
    (elim c.if-may_meet.branch [
      | then-may_meet+then-present-j+then-j-id w ↦ inl (w.if-present-j.true, w.if-j-id.true, w.vel-is ∙ w.meet-vel.ensures)
      | then-may_meet+then-present-j+else-j-id w ↦ inr (inl w.if-j-id.false, w.vel-is)
      | then-may_meet+else-present-j w ↦ inr (inr (inl w.if-present-j.false), w.vel-is)
      | else-may_meet w ↦ inr (inr (inr (λ o. sym (left_out seats a.id a.pos l.vel a.hook place.result l.j a.tuning h o (rw b.held_seat-held.ensures at (far ∙ w.if-may_meet.false))))), w.vel-is)
    ])))

pub returns : goal.returns
unfolding meet_all
returns c = λ ss places. sym (fold_end (c.loop-j.invariant ss places) c.loop-j-test.false)
