-- One turn of a walk over the others: whoever is at a seat is looked at, or passed over where a look would change nothing. Assumes nothing.
use mathlib.Core.Bool.{Bool, true, false, cond, true≢false}
use mathlib.Core.List.{List}
use mathlib.Core.Logic.{◌⊎◌, inl, inr}
use mathlib.Core.Path.{◌≡◌, refl, sym, ◌∙◌}
use Prim.Native.Nat.{ℕ, ◌<◌}
use lib.Dec.{eqb}
use lib.Ieee.{Float}
use lib.ListN.{get_or}
use borrow.Author.Tests.{ne_eqb, eqb-false}
use Rattle.num_vec2.specs.declared.vec2.{vec2}
use Rattle.character.specs.Places.{place_at, PlacesOf}
use Rattle.character.specs.Tick.{slot_at}
use Rattle.character.specs.declared.Slot.{Slot}

-- the turn of the seat j, at which q is the place: v is the state before it, w the one after, and `look` makes the one of the other
module _ {S : Type 0} (n : ℕ) (ss : List Slot) (ps : List Bool) (xs ys : List Float) (places : PlacesOf n ss ps xs ys) (id j : ℕ) (l : j < n) (q : vec2) (at : q ≡ place_at xs ys j) (look : vec2 → S → S) (v w : S) where
  -- its own place, nobody there, or nothing to change
  abbrev pub Quiet : Type 0
  Quiet = (j ≡ id) ⊎ ((get_or ps j false ≡ false) ⊎ ((j ≡ id → ⊥) → look q v ≡ v))

  -- what the code did there
  abbrev pub Ways : Type 0
  Ways = (get_or ps j false ≡ true × (j ≡ id → ⊥) × (w ≡ look q v)) ⊎ (Quiet × (w ≡ v))

  pub seat_turn : Ways → cond (eqb j id) v (cond (slot_at ss j).present (look (slot_at ss j).character.pos v) v) ≡ w
  seat_turn (inl (b, o, e)) =
      let here : (slot_at ss j).present ≡ true = sym (places j l).there ∙ b in
      let stands : q ≡ (slot_at ss j).character.pos = at ∙ (places j l).stands here in
      simp (e, ne_eqb j id o, here, stands)
  seat_turn (inr (quiet, e)) = go (eqb j id) (slot_at ss j).present refl refl ∙ sym e
    where
      unchanged : Quiet → (j ≡ id → ⊥) → (slot_at ss j).present ≡ true → look q v ≡ v
      unchanged (inl own) o here = absurd (o own)
      unchanged (inr (inl gone)) o here = absurd (true≢false (sym here ∙ sym (places j l).there ∙ gone))
      unchanged (inr (inr same)) o here = same o

      go : (o here : Bool) → eqb j id ≡ o → (slot_at ss j).present ≡ here → cond o v (cond here (look (slot_at ss j).character.pos v) v) ≡ v
      go true here d k = refl
      go false false d k = refl
      go false true d k = rw (← (places j l).stands k, ← at) (unchanged quiet (eqb-false j id d) k)
