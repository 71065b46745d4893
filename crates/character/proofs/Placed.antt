-- Places that are noted one after another, and the place of one slot that is set. Assumes nothing.
use mathlib.Core.Bool.{Bool, true, false}
use mathlib.Core.List.{List}
use mathlib.Core.Path.{◌≡◌, refl}
use Prim.Native.Nat.{ℕ, ◌+◌, ◌<◌}
use native.Mathlib.Omega.{arith}
use lib.Dec.{eqb}
use lib.Ieee.{Float, nan}
use lib.ListN.{length, get_or, set}
use lib.Seq.{get_or-set_same, get_or-set_other, set-get_or}
use borrow.Author.Tests.{eqb-true, eqb-false}
use Rattle.num_vec2.specs.declared.vec2.{vec2}
use Rattle.character.specs.Slot.{with_character}
use Rattle.character.specs.Tick.{nowhere, slot_at}
use Rattle.character.specs.Places.{place_at, Placed, PlacesOf}
use Rattle.character.specs.declared.Character.{Character}
use Rattle.character.specs.declared.Slot.{Slot}

module _ (n : ℕ) (ss : List Slot) (ps : List Bool) (xs ys : List Float) (j : ℕ) (l : j < length ss) (b : j < length ps) (x : j < length xs) (y : j < length ys) where
  -- the seat j is set, and the others have their places
  pub places-set : (s : Slot) (here : Bool) (p : vec2) → Placed s here p → ((k : ℕ) → k < n → (k ≡ j → ⊥) → Placed (slot_at ss k) (get_or ps k false) (place_at xs ys k)) → PlacesOf n (set ss j s) (set ps j here) (set xs j p.x) (set ys j p.y)
  places-set s here p q h k m = go (eqb k j) refl
    where
      go : (e : Bool) → eqb k j ≡ e → Placed (slot_at (set ss j s) k) (get_or (set ps j here) k false) (place_at (set xs j p.x) (set ys j p.y) k)
      go true e = rw (eqb-true k j e) (rw (get_or-set_same ss j s nowhere l, get_or-set_same ps j here false b, get_or-set_same xs j p.x nan x, get_or-set_same ys j p.y nan y) q)
      go false e =
          let other : (k ≡ j → ⊥) = eqb-false k j e in
          rw (get_or-set_other ss j k s nowhere other, get_or-set_other ps j k here false other, get_or-set_other xs j k p.x nan other, get_or-set_other ys j k p.y nan other) (h k m other)

-- one slot more is noted
pub places_more : (ss : List Slot) (ps : List Bool) (xs ys : List Float) (j : ℕ) → j < length ss → j < length ps → j < length xs → j < length ys → PlacesOf j ss ps xs ys
    → PlacesOf (j + 1) ss (set ps j (slot_at ss j).present) (set xs j (slot_at ss j).character.pos.x) (set ys j (slot_at ss j).character.pos.y)
places_more ss ps xs ys j l b x y h =
    let s = slot_at ss j in
    rw (set-get_or ss j nowhere) at (places-set (j + 1) ss ps xs ys j l b x y s s.present s.character.pos (record { there = refl; stands = λ q. refl }) (λ k m o. h k (omega arith)))

-- the character of the seat j is another
pub places_moved : (n : ℕ) (ss : List Slot) (ps : List Bool) (xs ys : List Float) (j : ℕ) (c : Character) → j < n → j < length ss → j < length ps → j < length xs → j < length ys → PlacesOf n ss ps xs ys
    → PlacesOf n (set ss j (with_character (slot_at ss j) c)) ps (set xs j c.pos.x) (set ys j c.pos.y)
places_moved n ss ps xs ys j c m l b x y h =
    rw (set-get_or ps j false) at (places-set n ss ps xs ys j l b x y (with_character (slot_at ss j) c) (get_or ps j false) c.pos (record { there = (h j m).there; stands = λ q. refl }) (λ k i o. h k i))
