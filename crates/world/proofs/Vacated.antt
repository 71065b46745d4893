-- What a leave does to the slots: every hook on who leaves is Retracted, and one slot is empty again; nothing else changes. Assumes nothing.
use Prim.Native.Nat.{ℕ, ◌<◌}
use mathlib.Core.Bool.{Bool, true, false}
use mathlib.Core.Path.{◌≡◌, refl, sym, ◌∙◌, subst}
use lib.ListN.{length, length-set, length-map, get_or-map}
use lib.Seq.{get_or-set_same, get_or-set_other}
use Rattle.character_hook.specs.Hook.{holds}
use Rattle.character_hook.specs.declared.hook.Hook.{Hook}
use Rattle.character_hook.specs.declared.hook.Hook.TheVariants.{Retracted}
use Rattle.character.specs.Character.{spawn, with_hook}
use Rattle.character.specs.Slot.{empty_slot}
use Rattle.character.specs.Tick.{slot_at, nowhere}
use Rattle.character.specs.declared.Character.{Character}
use Rattle.character.specs.declared.Slot.{Slot}
use Rattle.character_laws.specs.Representable.{RepresentableHook, Representable}
use Rattle.character_laws.proofs.Held.{Only}
use Rattle.character_laws.proofs.Slots.{set_every}
use Rattle.world.specs.Calls.{released, released_slot, release, vacate}
use Rattle.world.specs.declared.World.{World}

-- ---- one hook
module _ (h : Hook) (k : ℕ) where
  pub held-released : holds h k ≡ true → released h k ≡ Retracted
  unfolding released
  held-released e = rw e

  pub other_released : holds h k ≡ false → released h k ≡ h
  unfolding released
  other_released e = rw e

  -- what Retracted has, and h where it does not hold k
  pub released-kept : (P : Hook → Type 0) → P Retracted → (holds h k ≡ false → P h) → P (released h k)
  released-kept P r p = go (holds h k) refl
    where
      go : (b : Bool) → holds h k ≡ b → P (released h k)
      go true e = subst P (sym (held-released e)) r
      go false e = subst P (sym (other_released e)) (p e)

  released-holds : holds (released h k) k ≡ false
  unfolding holds
  released-holds = released-kept (λ g. holds g k ≡ false) refl (λ e. e)

  -- it holds nobody whom it did not hold
  pub released_only : (P : ℕ → Type 0) → Only P h → Only P (released h k)
  released_only P p = released-kept (Only P) tt (λ e. p)

-- it is as representable as it was
pub released_representable : (c : Character) (k : ℕ) → Representable c → Representable (with_hook c (released c.hook k))
released_representable c k r = record { pos = r.pos; vel = r.vel; hook = released-kept c.hook k RepresentableHook tt (λ e. r.hook); angle = r.angle }

-- ---- the slots
module _ (w : World) (k : ℕ) where
  -- every slot as it was, but for a hook that holds k
  pub release-at : (j : ℕ) → slot_at (release w k).slots j ≡ released_slot (slot_at w.slots j) k
  unfolding released holds
  release-at j = get_or-map (λ x. released_slot x k) w.slots j nowhere

  pub release_length : length (release w k).slots ≡ length w.slots
  release_length = length-map w.slots (λ x. released_slot x k)

  -- who left is as nobody who ever was there
  pub vacated_at : k < length w.slots → slot_at (vacate w k).slots k ≡ empty_slot
  vacated_at h = get_or-set_same (release w k).slots k empty_slot nowhere (subst (λ (n : ℕ). k < n) (sym release_length) h)

  -- everybody else is as before, but for a hook that held who left
  pub vacated_others : (j : ℕ) → (j ≡ k → ⊥) → slot_at (vacate w k).slots j ≡ released_slot (slot_at w.slots j) k
  vacated_others j d = get_or-set_other (release w k).slots k j empty_slot nowhere d ∙ release-at j

  pub vacated_length : length (vacate w k).slots ≡ length w.slots
  vacated_length = length-set (release w k).slots k empty_slot ∙ release_length

  -- what is left of each slot, by what an empty one has and a released one keeps
  pub vacated_every : (P : ℕ → Slot → Type 0) → P k empty_slot → ((j : ℕ) → P j (released_slot (slot_at w.slots j) k)) → (j : ℕ) → P j (slot_at (vacate w k).slots j)
  vacated_every P e h = set_every P (release w k).slots k empty_slot nowhere (λ j. subst (P j) (sym (release-at j)) (h j)) e

  -- no hook holds who left, also where k has no slot
  pub nobody-holds : (j : ℕ) → holds (slot_at (vacate w k).slots j).character.hook k ≡ false
  unfolding holds spawn
  nobody-holds = vacated_every (λ j x. holds x.character.hook k ≡ false) refl (λ j. released-holds (slot_at w.slots j).character.hook k)
