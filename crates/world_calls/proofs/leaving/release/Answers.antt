use mathlib.Core.List.{List}
use mathlib.Core.Path.{◌≡◌, refl, ap, ◌∙◌}
use Prim.Native.Nat.{ℕ, ◌+◌, ◌-◌, ◌≤◌, ◌<◌}
use native.Mathlib.Numerals.{add-one}
use native.Mathlib.Omega.{arith}
use lib.ListN.{length, length-map}
use borrow.Author.Rules.{rules}
use Rattle.base_turns.proofs.Mapped.{replaced, replaced_on, replaced_end}
use Rattle.character.specs.Tick.{seats, slot_at, nowhere}
use Rattle.character.specs.declared.Slot.{Slot}
use Rattle.world.specs.Calls.{released_slot, release}
use Rattle.world.specs.World.{with_slot}
use Rattle.world.specs.declared.World.{World}
use Rattle.world_calls.proofs.leaving.release.Invariants.{up_to}
use Rattle.world_calls.proofs.leaving.release.Goals.{Start}
use Rattle.world_calls.proofs.leaving.release.Goals as goal

module _ (w : World) (k : ℕ) (full : length w.slots ≡ seats) (j : ℕ) where
  turn : (v : World) (r : Slot) → v ≡ up_to w k j → j < seats → r ≡ released_slot (slot_at v.slots j) k → with_slot v j r ≡ up_to w k (j + 1)
  turn v r e l q = rw (q, e, add-one j) (ap (λ (ss : List Slot). record { slots = ss; tunings = w.tunings }) (replaced_on (λ x. released_slot x k) nowhere j w.slots (omega (arith, full))))

  done : seats ≤ j → up_to w k j ≡ release w k
  done l = ap (λ (ss : List Slot). record { slots = ss; tunings = w.tunings }) (replaced_end (λ x. released_slot x k) j w.slots (omega (arith, full)))

slots_long : (c : Start) → length c.args.world.slots ≡ seats
slots_long c = c.well_formed.0.1.1.0.1.0.1

pub loop-j-init : goal.loop-j-init
loop-j-init c = (refl, slots_long c)

pub bounds-world-j : goal.bounds-world-j
bounds-world-j c = omega arith

pub bounds-world-j-in-loop-j : goal.bounds-world-j-in-loop-j
bounds-world-j-in-loop-j c = omega arith

pub overflow_step-j : goal.overflow_step-j
overflow_step-j c = omega arith

pub loop-j-smaller : goal.loop-j-smaller
loop-j-smaller c = omega arith

pub loop-j-preserved : goal.loop-j-preserved
loop-j-preserved c =
    let l = c.loop-j in
    (turn c.args.world c.args.at l.invariant.1 l.j l.world c.released.result l.invariant.0 c.loop-j-test.true c.released.ensures, l.invariant.1)

pub returns : goal.returns
returns c =
    let l = c.loop-j in
    l.invariant.0 ∙ done c.args.world c.args.at l.invariant.1 l.j c.loop-j-test.false
