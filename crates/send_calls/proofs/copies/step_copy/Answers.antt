use mathlib.Core.Path.{◌≡◌, refl, sym, ◌∙◌, subst}
use lib.Dec.{T, eqb}
use Rattle.send_alone.specs.Alone.{copy_alone}
use Rattle.send_alone.proofs.Copies.{taken_on_map}
use denote.Enum.Bare.{sameb}
use Rattle.game_refusals.specs.Refusals.{number_of, too_far}
use Rattle.game_refusals.specs.contracts.Refusal.{the_type}
use Rattle.game_refusals.specs.declared.Refusal.{Refusal}
use Rattle.game_refusals.specs.declared.Refusal.TheVariants.{BadMap, BadId, BadTuning, OutOfReach, NotClear, BadText, Present, Absent, TooFar, TickTooLarge, BytesEnd, BadBytes, NotAllowed, BadArea, BadTrial, BadHold, BadLength}
use Rattle.send_calls.proofs.copies.step_copy.Goals as goal

-- whether it is 9, by its variant and by its number
number_same : (e : Refusal) → sameb the_type e TooFar ≡ eqb (number_of e) too_far
number_same BadMap = refl
number_same BadId = refl
number_same BadTuning = refl
number_same OutOfReach = refl
number_same NotClear = refl
number_same BadText = refl
number_same Present = refl
number_same Absent = refl
number_same TooFar = refl
number_same TickTooLarge = refl
number_same BytesEnd = refl
number_same BadBytes = refl
number_same NotAllowed = refl
number_same BadArea = refl
number_same BadTrial = refl
number_same BadHold = refl
number_same BadLength = refl

pub returns-then-copy-2 : goal.returns-then-copy-2
unfolding copy_alone
returns-then-copy-2 c = simp (c.if-copy.true, c.if-copy-2.true, ← c.with_step.ensures)

pub on_deadly-requires : goal.on_deadly-requires
on_deadly-requires c = subst T (sym (taken_on_map _ _ _ _ _ _ (sym c.step_alone.ensures ∙ c.in-Ok.is))) tt

pub returns-in-Err : goal.returns-in-Err
unfolding copy_alone
returns-in-Err c = simp (c.if-copy.true, c.if-copy-2.false, ← c.step_alone.ensures, c.in-Err.is, ← number_same c.in-Err.refusal, ← c.eq.ensures, ← c.with_step-in-Err.ensures)

pub returns-in-Ok : goal.returns-in-Ok
unfolding copy_alone
returns-in-Ok c = simp (c.if-copy.true, c.if-copy-2.false, ← c.step_alone.ensures, c.in-Ok.is, ← c.from_net-me.ensures, ← c.on_deadly.ensures, ← c.with_step-in-Ok.ensures)

pub returns : goal.returns
unfolding copy_alone
returns c = simp c.if-copy.false
