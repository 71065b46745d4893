use mathlib.Core.Bool.{Bool, true, false}
use mathlib.Core.List.{List}
use mathlib.Core.Logic.{⊎_elim}
use mathlib.Core.Path.{◌≡◌, sym, ap, ◌∙◌}
use Prim.Native.Nat.{ℕ, ◌-◌, ◌<◌}
use native.Mathlib.Omega.{arith}
use lib.Ieee.{Float}
use lib.ListN.{length, set, length-set}
use borrow.Author.Rules.{rules}
use Rattle.base_turns.proofs.Loop.{Left, turn_first, turn_on, turn_off, turn_end}
use Rattle.base_turns.specs.Turns.{more, stop}
use Rattle.map_tiles.specs.declared.tiles.Sides.{Sides}
use Rattle.game_tuning.specs.declared.Tuning.{Tuning}
use Rattle.game_records.specs.declared.CharacterCore.{CharacterCore}
use Rattle.character.proofs.Placed.{places_moved}
use Rattle.character.specs.Places.{PlacesOf}
use Rattle.character.specs.Tick.{seats, slot_at}
use Rattle.character.specs.declared.Character.{Character}
use Rattle.character.specs.declared.Slot.{Slot}
use Rattle.character.specs.Records.{from_net}
use Rattle.world.specs.Step.{put_back, Moving, record_of, move_in, move_turn, moving_from, move_all}
use Rattle.world.specs.declared.Published.{Published}
use Rattle.game_refusals.specs.declared.Refusal.{Refusal}
use Rattle.game_refusals.specs.Refusals.{number_of}
use Rattle.std.proofs.lemmas.Result.{err_from_is_err_and}
use Rattle.character.specs.Records.{to_net}
use Rattle.character.proofs.Refused.{move_refused, net_refused}
use Rattle.world_step.proofs.moving.move_all.Invariants.{Noted, moving, noted}
use Rattle.world_step.proofs.moving.move_all.Goals.{then-slot+in_ok-moved+in_ok-core, else-slot}
use Rattle.world_step.proofs.moving.move_all.Goals as goal
use Rattle.std.specs.Prelude.{Ok, Err}

-- a turn, on plain values: a record; a move that is refused; nobody
module _ (s : Sides) (ts : List ℕ) (t : Tuning) (j : ℕ) (ss : List Slot) (rs : List Published) where
  records : (core : CharacterCore) (us : List Slot) (qs : List Published) → (slot_at ss j).present ≡ true → record_of (move_in seats s ts t ss j) ≡ Ok core → us ≡ put_back ss j (from_net core) → qs ≡ set rs j (record { present = true; core = core }) → move_turn seats s ts t j (moving ss rs) ≡ more (moving us qs)
  records core us qs p e f g = simp (p, e, f, g)

  refuses : (r : Refusal) → (slot_at ss j).present ≡ true → record_of (move_in seats s ts t ss j) ≡ Err r → move_turn seats s ts t j (moving ss rs) ≡ stop (number_of r)
  refuses r p e = simp (p, e)

  -- the record of what a move left, and what refuses it
  recorded : (c : Character) (core : CharacterCore) → Ok c ≡ move_in seats s ts t ss j → to_net c ≡ Ok core → record_of (move_in seats s ts t ss j) ≡ Ok core
  unfolding record_of
  recorded c core e f = simp (← e, f)

  move_refuses : (r : Refusal) → Err r ≡ move_in seats s ts t ss j → record_of (move_in seats s ts t ss j) ≡ Err r
  unfolding record_of
  move_refuses r e = simp (← e, move_refused seats (slot_at ss j).character j ss s ts t r (sym e))

  record_refuses : (c : Character) (r : Refusal) → Ok c ≡ move_in seats s ts t ss j → to_net c ≡ Err r → record_of (move_in seats s ts t ss j) ≡ Err r
  unfolding record_of
  record_refuses c r e f = simp (← e, f, net_refused c r f)

  nobody : (us : List Slot) (qs : List Published) → (slot_at ss j).present ≡ false → us ≡ ss → qs ≡ rs → move_turn seats s ts t j (moving ss rs) ≡ more (moving us qs)
  nobody us qs p f g = simp (p, f, g)

pub loop-j-init : goal.loop-j-init
unfolding move_all
loop-j-init c = (rw c.unpublished-records.ensures turn_first, (search rules, search rules, search rules, search rules, c.places_of-places.ensures))

pub bounds-all-j : goal.bounds-all-j
bounds-all-j c = omega arith

pub returns-in_err-moved : goal.returns-in_err-moved
returns-in_err-moved c =
    let l = c.loop-j in
    let a = c.args in
    let p = err_from_is_err_and c.from_residual.result c.from_residual.ensures.1 in
    let e = move_refuses a.sides a.tiles.now a.tuning l.j l.all l.records _ (sym c.in_err-moved.was ∙ c.move_among.ensures l.all l.invariant.1.4) in
    rw (p.1, p.2) (turn_off l.invariant.0 c.loop-j-test.true (refuses a.sides a.tiles.now a.tuning l.j l.all l.records _ c.if-slot.true e))

pub returns-in_err-core : goal.returns-in_err-core
returns-in_err-core c =
    let l = c.loop-j in
    let a = c.args in
    let p = err_from_is_err_and c.from_residual-in_err-core.result c.from_residual-in_err-core.ensures.1 in
    let e = record_refuses a.sides a.tiles.now a.tuning l.j l.all l.records _ _ (sym c.in_ok-moved.was ∙ c.move_among.ensures l.all l.invariant.1.4) (sym c.to_net.ensures ∙ c.in_err-core.was) in
    rw (p.1, p.2) (turn_off l.invariant.0 c.loop-j-test.true (refuses a.sides a.tiles.now a.tuning l.j l.all l.records _ c.if-slot.true e))

pub offset_bounds-xs-j : goal.offset_bounds-xs-j
offset_bounds-xs-j c = omega (arith, c.loop-j-test.true)

pub bounds-xs-j : goal.bounds-xs-j
bounds-xs-j c = omega (arith, c.loop-j-test.true)

pub offset_bounds-ys-j : goal.offset_bounds-ys-j
offset_bounds-ys-j c = omega (arith, c.loop-j-test.true)

pub bounds-ys-j : goal.bounds-ys-j
bounds-ys-j c = omega (arith, c.loop-j-test.true)

pub offset_bounds-all-j-then-slot : goal.offset_bounds-all-j-then-slot
offset_bounds-all-j-then-slot c = omega (arith, c.loop-j-test.true)

pub bounds-all-j-then-slot : goal.bounds-all-j-then-slot
bounds-all-j-then-slot c = omega (arith, c.loop-j-test.true)

pub offset_bounds-records-j : goal.offset_bounds-records-j
offset_bounds-records-j c = omega (arith, c.loop-j-test.true)

pub bounds-records-j : goal.bounds-records-j
bounds-records-j c = omega (arith, c.loop-j-test.true)

pub overflow_step-j : goal.overflow_step-j
overflow_step-j c = omega arith

pub loop-j-smaller : goal.loop-j-smaller
loop-j-smaller c = omega arith

pub loop-j-preserved : goal.loop-j-preserved
loop-j-preserved c =
    let h = c.loop-j-test.true in
    let l = c.loop-j in
    let ps = c.places_of-places.result.present in
    let a = c.args in
    elim c.if-slot.branch [
      | then-slot+in_ok-moved+in_ok-core w ↦
          let back = w.all-is ∙ ap (set l.all l.j) w.with_character.ensures in
          let core = recorded a.sides a.tiles.now a.tuning l.j l.all l.records _ _ (sym w.in_ok-moved.was ∙ w.move_among.ensures l.all l.invariant.1.4) (sym w.to_net.ensures ∙ w.in_ok-core.was) in (
            turn_on l.invariant.0 h (records a.sides a.tiles.now a.tuning l.j l.all l.records w.in_ok-core.core c.if-slot.all c.if-slot.records w.if-slot.true core (back ∙ ap (put_back l.all l.j) w.from_net-left.ensures) w.records-is),
            noted l.all ps l.xs l.ys l.j w.from_net-left.result c.if-slot.all c.if-slot.xs c.if-slot.ys h back w.xs-is w.ys-is l.invariant.1,
          )
      | else-slot w ↦ (turn_on l.invariant.0 h (nobody a.sides a.tiles.now a.tuning l.j l.all l.records c.if-slot.all c.if-slot.records w.if-slot.false w.all-is w.records-is), rw (w.xs-is, w.ys-is, w.all-is) l.invariant.1)
    ]

pub returns : goal.returns
returns c = turn_end c.loop-j.invariant.0 c.loop-j-test.false
