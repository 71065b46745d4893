-- A step over plain arrays: what it leaves is what the step by value does. Assumes nothing.
use Prim.Native.Nat.{ℕ, ◌*◌, ◌<◌}
use mathlib.Core.Bool.{Bool, false, cond}
use mathlib.Core.List.{List}
use mathlib.Core.Path.{◌≡◌, sym, ap, ◌∙◌}
use native.Mathlib.Omega.{arith}
use lib.Ieee.{Float}
use lib.IntN.{ℤ}
use Rattle.base_turns.specs.Turns.{more, stop}
use Rattle.map_tiles.specs.declared.tiles.Sides.{Sides}
use Rattle.character.specs.Tick.{seats, slot_at}
use Rattle.character.specs.declared.Slot.{Slot}
use Rattle.world.specs.Removal.{dies, dying}
use Rattle.world.specs.Step.{step_refused, step_answer, step_on}
use Rattle.world.specs.declared.Removed.{Removed}
use Rattle.world.specs.Answered.{Stepped}
use Rattle.world.specs.declared.World.{World}
use Rattle.world.proofs.Removal.{dying_are}
use Rattle.world_numbers.specs.Encoding.{record_count}
use Rattle.world_inplace.proofs.Rows.{rows_are}
use Rattle.world_inplace.specs.Advance.{advanced, Advanced}
use Rattle.world_buffers.specs.Stepping.{StepBuffers, left_by_step, RowsOf, DyingOf}
use Rattle.world_buffers.proofs.Gone.{gone_at, gone_grounded}
use Rattle.world_buffers.proofs.StepAnswers.{step-refused}
use Rattle.game_refusals.specs.Refusals.{number_of}
use Rattle.game_refusals.specs.declared.Refusal.{Refusal}
use Rattle.world.proofs.Numbered.{numbered}

module _ (w : World) (s : Sides) (ts : List ℕ) where
  -- one is too far
  pub refused_in : (l : List ℤ) (b : StepBuffers) (r : Refusal) → advanced w s ts ≡ stop (number_of r) → left_by_step l b (step_on seats w s ts) ≡ record { number = number_of r; world = l; told = b }
  unfolding step_on
  refused_in l b r e = rw e (step-refused l b (step_refused seats w (number_of r)) (numbered r))

  module _ (ps : List Bool) (xs ys : List Float) (rows : List ℤ) (marks : List Bool) (h : Advanced (advanced w s ts) ps xs ys rows marks) where
    abbrev ss : List Slot
    ss = h.moving.slots

    -- the step's answer
    abbrev answer : Stepped
    answer = step_answer seats w s ts (more h.moving)

    pub answered : step_on seats w s ts ≡ answer
    unfolding step_on
    answered = ap (step_answer seats w s ts) h.went

    -- the floor mark that is left of a seat
    mark-left : (j : ℕ) → j < seats → (slot_at answer.world.slots j).grounded ≡ cond (dies s ts (slot_at ss j)) false (slot_at ss j).grounded
    mark-left j l =
        ap (λ (x : Slot). x.grounded) (gone_at j (dying seats s ts ss) (record { slots = ss; tunings = w.tunings }) (omega (arith, h.count)))
        ∙ gone_grounded j (dying seats s ts ss) (slot_at ss j)
        ∙ ap (λ (b : Bool). cond b false (slot_at ss j).grounded) (dying_are seats s ts ss j l)

    pub rows_told : (r : Removed) (left : List Bool) → DyingOf s ts ss marks r left → RowsOf answer rows left
    rows_told r left d = record {
      count = h.counted;
      records = rows_are h.moving.records rows (h.size ∙ ap (λ (n : ℕ). record_count * n) (sym h.counted)) (λ j l. h.told j (omega (arith, h.counted)));
      marked = λ j l. d.cleared j l ∙ ap (cond (dies s ts (slot_at ss j)) false) (h.marked j l) ∙ sym (mark-left j l);
    }
