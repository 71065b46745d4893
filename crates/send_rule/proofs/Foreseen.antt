-- A seat that is alone in the world is foreseen by its copy, and which copies stay with their last record, for every number of slots. Assumes nothing.
use Prim.Native.Nat.{ℕ, ◌<◌}
use native.Mathlib.Omega.{arith}
use mathlib.Core.Bool.{true, false, true≢false}
use mathlib.Core.Path.{◌≡◌, refl, sym, ap, ◌∙◌}
use mathlib.Core.List.{List}
use lib.Dec.{eqb}
use lib.ListN.{length, set, replicate, length-set, length-map, length-replicate, get_or-replicate}
use lib.Seq.{ext_get_or}
use borrow.Author.Tests.{eqb-true}
use Rattle.map_tiles.specs.declared.tiles.Sides.{Sides}
use Rattle.character.specs.Slot.{empty_slot}
use Rattle.character.specs.Tick.{slot_at, nowhere}
use Rattle.character.specs.declared.Slot.{Slot}
use Rattle.character_laws.proofs.Slots.{set_others}
use Rattle.world.specs.Demand3.{record_at}
use Rattle.world.specs.Removal.{ids_in, is_in}
use Rattle.world.specs.Run.{Told, told_by}
use Rattle.world.specs.Step.{step}
use Rattle.world.specs.Answered.{Stepped}
use Rattle.world.specs.declared.World.{World}
use Rattle.world.proofs.Seats.{by_test}
use Rattle.send_rule.specs.Send.{copy_slot, small_world, alone, with_step, step_copy}
use Rattle.send_rule.specs.Foreseen.{Alone, Foresees, Foreseen, Stays}
use Rattle.send_rule.specs.declared.Copy.{Copy}
use Rattle.send_rule.proofs.Copies.{step-taken}
use Rattle.send_rule.proofs.Unmarked.{without_mark, without_marks, without_at, marks-untold}

module _ (n : ℕ) (w : World) (k : ℕ) (c : Copy) (h : Alone n w k c) where
  abbrev small : List Slot
  small = set (replicate n empty_slot) k (copy_slot c)

  size : length small ≡ n
  size = length-set (replicate n empty_slot) k (copy_slot c) ∙ length-replicate n empty_slot

  -- but for the mark of k, its slot is the copy's
  own : without_mark (copy_slot c) ≡ without_mark (slot_at w.slots k)
  own = rw (h.there, h.character, h.input)

  slots_same : (j : ℕ) → j < n → without_mark (slot_at small j) ≡ without_mark (slot_at w.slots j)
  slots_same = set_others (λ i x. i < n → without_mark x ≡ without_mark (slot_at w.slots i)) (replicate n empty_slot) k (copy_slot c) nowhere (let l = h.seat in omega (arith, length-replicate n empty_slot)) (λ i d l. ap without_mark (get_or-replicate n i empty_slot nowhere l ∙ sym (h.settled.empty i l (h.nobody i l d)))) (λ l. own)

  without_small : without_marks small ≡ without_marks w.slots
  without_small =
      let a = length-map small without_mark in
      let b = length-map w.slots without_mark in
      ext_get_or nowhere (without_marks small) (without_marks w.slots) (a ∙ size ∙ sym (b ∙ h.settled.seats)) (λ j l. without_at small j ∙ slots_same j (omega (arith, a, size)) ∙ sym (without_at w.slots j))

  -- ---- its step
  module _ (s : Sides) (ts : List ℕ) where
    abbrev its : Stepped
    its = alone n s ts w.tunings k c

    told : told_by its ≡ told_by (step n w s ts)
    unfolding alone small_world
    told = marks-untold n s ts (small_world n w.tunings k c) w without_small refl

    stepped : (step n w s ts).number ≡ 0 → step_copy n s ts w.tunings k c ≡ with_step c (record_at its.records k).core (is_in k (ids_in its.removed)) false
    stepped e = step-taken n s ts w.tunings k c h.kept h.stays (ap (λ (x : Told). x.number) told ∙ e)

    foresees : Foresees n s ts w k c
    foresees = record {
      told = told;
      core = λ e. ap (λ (d : Copy). d.core) (stepped e) ∙ ap (λ (x : Told). (record_at x.records k).core) told;
      removed = λ e. ap (λ (d : Copy). d.removed) (stepped e) ∙ ap (λ (x : Told). is_in k x.removed) told;
    }

pub copy_foresees : (n : ℕ) → Foreseen n
copy_foresees n s ts w k c h = foresees n w k c h s ts

-- ---- which copies stay
pub copy_stays : (n : ℕ) → Stays n
unfolding step_copy
copy_stays n s ts tunings k c =
    let a = alone n s ts tunings k c in
    let Input : Copy → Type 0 = λ d. d.input ≡ c.input in
    let Removed : Copy → Type 0 = λ d. (d.core ≡ c.core) × (d.removed ≡ true) in
    let Core : Copy → Type 0 = λ d. d.core ≡ c.core in
    record {
      input = by_test Input c.kept (λ p. by_test Input c.removed (λ q. refl) (λ q. by_test Input (eqb a.number 0) (λ r. refl) (λ r. refl))) (λ p. refl);
      removed = λ e. by_test Removed c.kept (λ p. by_test Removed c.removed (λ q. (refl, refl)) (λ q. absurd (true≢false (sym e ∙ q)))) (λ p. (refl, e));
      refused = λ f. by_test Core c.kept (λ p. by_test Core c.removed (λ q. refl) (λ q. by_test Core (eqb a.number 0) (λ r. absurd (f (eqb-true a.number 0 r))) (λ r. refl))) (λ p. refl);
    }
