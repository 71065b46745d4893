-- Who is there and where: all that a tick and a move ask of the others. Definitions only.
use Rattle.std.specs.Prelude.{ℕ, ◌<◌, Bool, true, false, List, ◌≡◌, Float, get_or}
use Rattle.num_vec2.specs.declared.vec2.{vec2}
use Rattle.character_near.specs.Near as near
use Rattle.character.specs.Tick.{slot_at}
use Rattle.character.specs.declared.Slot.{Slot}

-- the place j of two lists of coordinates
abbrev pub place_at : List Float → List Float → ℕ → vec2
place_at xs ys j = near.place_at xs ys j

-- b is whether somebody is there, and p where, if somebody is
pub record Placed (s : Slot) (b : Bool) (p : vec2) : Type 0 where
  pub there : b ≡ s.present
  pub stands : s.present ≡ true → p ≡ s.character.pos

-- these are the places of the first n slots
abbrev pub PlacesOf : ℕ → List Slot → List Bool → List Float → List Float → Type 0
PlacesOf n ss ps xs ys = (j : ℕ) → j < n → Placed (slot_at ss j) (get_or ps j false) (place_at xs ys j)

-- P of all slots that have these places
abbrev pub Among : ℕ → List Bool → List Float → List Float → (List Slot → Type 0) → Type 0
Among n ps xs ys P = (ss : List Slot) → PlacesOf n ss ps xs ys → P ss
