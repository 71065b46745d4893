use mathlib.Core.Logic.{inl, inr, ⊎_elim}
use mathlib.Core.Path.{refl, sym, ap, ◌∙◌, subst}
use Prim.Native.Nat.{◌-◌}
use native.Mathlib.Omega.{arith}
use lib.Dec.{T}
use borrow.Author.Rules.{rules}
use Rattle.base_turns.proofs.Loop.{Left, always, fold_first, turn_on, fold_end}
use Rattle.base_turns.specs.Turns.{fold, more}
use Rattle.num_order.proofs.Vectors.{FitsPair}
use Rattle.character_hook.specs.Hook.{id_of}
use Rattle.character_hook.specs.Hooking.{nearer}
use Rattle.character_walk.proofs.Unmet.{unmet}
use Rattle.character.specs.Places.{place_at, Among}
use Rattle.character.specs.Tick.{seats, nearest_turn, nearest}
use Rattle.character_aside.proofs.Passed.{left_out}
use Rattle.character.proofs.Seat.{seat_turn}
use Rattle.character.proofs.among.nearest.Goals.{then-present-j+then-may_touch+then-j-id, then-present-j+then-may_touch+else-j-id, then-present-j+else-may_touch, else-present-j}
use Rattle.character.proofs.among.nearest.Goals as goal

pub loop-j-init : goal.loop-j-init
loop-j-init c = λ ss places. fold_first

pub offset_bounds-xs-j : goal.offset_bounds-xs-j
offset_bounds-xs-j c = omega arith

pub offset_bounds-ys-j : goal.offset_bounds-ys-j
offset_bounds-ys-j c = omega arith

pub overflow_cast-cid : goal.overflow_cast-cid
overflow_cast-cid c = omega arith

pub overflow_step-j : goal.overflow_step-j
overflow_step-j c = omega arith

pub loop-j-smaller : goal.loop-j-smaller
loop-j-smaller c = omega arith

pub loop-j-preserved : goal.loop-j-preserved
loop-j-preserved c = λ ss places.
    let b = c.before.before.before in
    let l = b.loop-j in
    let s = b in
    let a = s.args in
    let h = b.loop-j-test.true in
    let from = s.well_formed.1.1.1.1.0 in
    let fit : FitsPair a.from = (subst T (sym from.1.1.0.1) tt, subst T (sym from.1.1.1.0.1) tt) in
    let q = place_at a.xs.now a.ys.now l.j in
    turn_on (l.invariant ss places) h
    (ap more (seat_turn seats ss a.present.now a.xs.now a.ys.now places a.id l.j h q refl (λ p best. nearer best (id_of l.j) p a.from a.to) l.best c.if-present-j.best
    (elim c.if-present-j.branch [
      | then-present-j+then-may_touch+then-j-id w ↦ inl (w.if-present-j.true, w.if-j-id.true, w.best-is ∙ (rw w.new-place.ensures at w.nearer-best.ensures))
      | then-present-j+then-may_touch+else-j-id w ↦ inr (inl w.if-j-id.false, w.best-is)
      | then-present-j+else-may_touch w ↦
          let side = rw (b.add-end.ensures, b.sub.ensures, w.new-place.ensures) at (sym w.may_touch.ensures ∙ w.if-may_touch.false) in
          inr (inr (inr (λ o. unmet q a.from a.to fit (left_out a.from a.to q side) l.best (id_of l.j))), w.best-is)
      | else-present-j w ↦ inr (inr (inl w.if-present-j.false), w.best-is)
    ])))

pub returns : goal.returns
unfolding nearest
returns c = λ ss places. sym (fold_end (c.loop-j.invariant ss places) c.loop-j-test.false)
