-- What a join, a leave and an input do at a seat, and that actions at two seats may be exchanged, hooks released by them included. Assumes nothing.
use Prim.Native.Nat.{ℕ, ◌<◌}
use mathlib.Core.Bool.{Bool, true, false, cond}
use mathlib.Core.Path.{◌≡◌, refl, sym, ap, ◌∙◌, subst}
use lib.IntN.{ℤ}
use lib.ListN.{length, length-set}
use lib.Seq.{get_or-set_same, get_or-set_other, ext_get_or}
use Rattle.num_vec2.specs.declared.vec2.{vec2}
use Rattle.game_records.specs.declared.PlayerInput.{PlayerInput}
use Rattle.character_hook.specs.Hook.{holds}
use Rattle.character_hook.specs.declared.hook.Hook.{Hook}
use Rattle.character_hook.specs.declared.hook.Hook.TheVariants.{Retracted}
use Rattle.character.specs.Character.{spawn, with_hook}
use Rattle.character.specs.Slot.{empty_slot, joined_slot, with_character, with_input}
use Rattle.character.specs.Tick.{slot_at, nowhere}
use Rattle.character.specs.declared.Slot.{Slot}
use Rattle.world.specs.World.{with_slot, with_tuning}
use Rattle.world.specs.Calls.{released, released_slot, vacate}
use Rattle.world.specs.declared.World.{World}
use Rattle.world.proofs.Vacated.{vacated_at, vacated_others, vacated_length}
use Rattle.world_late.proofs.Seatwise.{acts-agree}

-- an accepted call for an id
pub data Action : Type 0 where
  joining : vec2 → Action
  leaving : Action
  storing : PlayerInput → Action

-- what it makes of the world, at the seat k
abbrev pub act : ℕ → Action → World → World
act k (joining p) w = with_slot w k (joined_slot p)
act k leaving w = vacate w k
act k (storing i) w = with_slot w k (with_input (slot_at w.slots k) i)

-- of the slot of that seat
abbrev mine : Action → Slot → Slot
mine (joining p) x = joined_slot p
mine leaving x = empty_slot
mine (storing i) x = with_input x i

-- of any other
abbrev others : ℕ → Action → Slot → Slot
others k (joining p) x = x
others k leaving x = released_slot x k
others k (storing i) x = x

size : (k : ℕ) (e : Action) (w : World) → length (act k e w).slots ≡ length w.slots
size k (joining p) w = length-set w.slots k (joined_slot p)
size k leaving w = vacated_length w k
size k (storing i) w = length-set w.slots k (with_input (slot_at w.slots k) i)

own : (k : ℕ) (e : Action) (w : World) → k < length w.slots → slot_at (act k e w).slots k ≡ mine e (slot_at w.slots k)
own k (joining p) w h = get_or-set_same w.slots k (joined_slot p) nowhere h
own k leaving w h = vacated_at w k h
own k (storing i) w h = get_or-set_same w.slots k (with_input (slot_at w.slots k) i) nowhere h

else : (k : ℕ) (e : Action) (w : World) (m : ℕ) → (m ≡ k → ⊥) → slot_at (act k e w).slots m ≡ others k e (slot_at w.slots m)
else k (joining p) w m d = get_or-set_other w.slots k m (joined_slot p) nowhere d
else k leaving w m d = vacated_others w k m d
else k (storing i) w m d = get_or-set_other w.slots k m (with_input (slot_at w.slots k) i) nowhere d

-- nobody else comes or goes
pub else_present : (k : ℕ) (e : Action) (w : World) (m : ℕ) → (m ≡ k → ⊥) → (slot_at (act k e w).slots m).present ≡ (slot_at w.slots m).present
else_present k e w m d = ap (λ (x : Slot). x.present) (else k e w m d) ∙ stays e
  where
    stays : (e : Action) → (others k e (slot_at w.slots m)).present ≡ (slot_at w.slots m).present
    stays (joining p) = refl
    stays leaving = refl
    stays (storing i) = refl

-- who joins and where nobody is, no hook holds anybody
passes : (k : ℕ) (e f : Action) (x : Slot) → others k e (mine f x) ≡ mine f (others k e x)
unfolding spawn released holds
passes k (joining p) f x = refl
passes k leaving (joining q) x = refl
passes k leaving leaving x = refl
passes k leaving (storing i) x = refl
passes k (storing i) f x = refl

-- a hook lets two ids go in either order
releases_agree : (h : Hook) (i j : ℕ) → released (released h j) i ≡ released (released h i) j
unfolding released holds
releases_agree h i j = go (holds h i) (holds h j) refl refl
  where
    go : (a b : Bool) → holds h i ≡ a → holds h j ≡ b → cond (holds (cond b Retracted h) i) Retracted (cond b Retracted h) ≡ cond (holds (cond a Retracted h) j) Retracted (cond a Retracted h)
    go true true p q = refl
    go true false p q = rw p
    go false true p q = rw q
    go false false p q = rw (p, q)

agree : (i j : ℕ) (e f : Action) (x : Slot) → others i e (others j f x) ≡ others j f (others i e x)
agree i j leaving leaving x = ap (λ (h : Hook). with_character x (with_hook x.character h)) (releases_agree x.character.hook i j)
agree i j (joining p) f x = refl
agree i j (storing p) f x = refl
agree i j leaving (joining p) x = refl
agree i j leaving (storing p) x = refl

-- actions at two seats
pub actions_commute : (i j : ℕ) (e f : Action) (w : World) → (i ≡ j → ⊥) → act j f (act i e w) ≡ act i e (act j f w)
actions_commute i j e f w d = world (ext_get_or nowhere _ _ (size j f (act i e w) ∙ size i e w ∙ sym (size i e (act j f w) ∙ size j f w)) (λ m l. each m (subst (λ (r : ℕ). m < r) (size j f (act i e w) ∙ size i e w) l)))
  where
    each : (m : ℕ) → m < length w.slots → slot_at (act j f (act i e w)).slots m ≡ slot_at (act i e (act j f w)).slots m
    each = acts-agree (λ u m. slot_at u.slots m) (λ u m. m < length u.slots) (λ k. Unit {0}) (λ x. Unit {0}) act mine others (λ u m h. tt) (λ k g u a m h. subst (λ (r : ℕ). m < r) (sym (size k g u)) h) (λ k g u a h. own k g u h) (λ k g u a m h q. else k g u m q) (λ k g g' x r. passes k g g' x) (λ i j g g' x r. agree i j g g' x) i j e f w tt tt d

    tunings : (k : ℕ) (g : Action) (u : World) → (act k g u).tunings ≡ u.tunings
    tunings k (joining p) u = refl
    tunings k leaving u = refl
    tunings k (storing p) u = refl

    world : (act j f (act i e w)).slots ≡ (act i e (act j f w)).slots → act j f (act i e w) ≡ act i e (act j f w)
    world h = λ r. record { slots = h r; tunings = (tunings j f (act i e w) ∙ tunings i e w ∙ sym (tunings i e (act j f w) ∙ tunings j f w)) r }

-- an action and a tuning
pub action_tuned : (k : ℕ) (e : Action) (w : World) (i : ℕ) (z : ℤ) → with_tuning (act k e w) i z ≡ act k e (with_tuning w i z)
action_tuned k (joining p) w i z = refl
action_tuned k leaving w i z = refl
action_tuned k (storing p) w i z = refl
