-- Who is there and where after a tick and its pull: as before. Assumes nothing.
use mathlib.Core.Bool.{Bool, false}
use mathlib.Core.List.{List}
use mathlib.Core.Path.{◌≡◌, sym, ap, ◌∙◌, subst}
use Prim.Native.Nat.{ℕ, ◌<◌}
use lib.Ieee.{Float}
use lib.ListN.{get_or, set}
use Rattle.game_records.specs.declared.PlayerInput.{PlayerInput}
use Rattle.game_tuning.specs.declared.Tuning.{Tuning}
use Rattle.map_tiles.specs.declared.tiles.Sides.{Sides}
use Rattle.character_meeting.specs.declared.meeting.HookPull.{HookPull}
use Rattle.character.specs.Places.{place_at, Placed, PlacesOf}
use Rattle.character.specs.Tick.{nowhere, slot_at, after_pull, tick_at, ticked_slot}
use Rattle.character.specs.declared.Slot.{Slot}
use Rattle.character.specs.declared.tick.AfterTick.{AfterTick}
use Rattle.character_laws.proofs.Others.{Then, tick_pos, pulled_others}
use Rattle.character_laws.proofs.Slots.{set_every}
use Rattle.std.specs.Prelude.{Option, Ok}

module _ (n : ℕ) (ss : List Slot) (ps : List Bool) (xs ys : List Float) (h : PlacesOf n ss ps xs ys) where
  pulled-places : (k : Option HookPull) → PlacesOf n (after_pull ss k) ps xs ys
  pulled-places k i l = subst (λ (s : Slot). Placed s (get_or ps i false) (place_at xs ys i)) (sym (pulled_others ss k i)) (record { there = (h i l).there; stands = (h i l).stands })

  -- the slots after the tick of the seat j
  pub ticked-places : (j : ℕ) (s : Sides) (ts : List ℕ) (i : PlayerInput) (t : Tuning) (a : AfterTick) → tick_at n (slot_at ss j).character j ss s ts i t ≡ Ok a → let us = after_pull ss a.pull in PlacesOf n (set us j (ticked_slot (slot_at us j) a)) ps xs ys
  ticked-places j s ts i t a e =
      let us = after_pull ss a.pull in
      let stays : a.me.pos ≡ (slot_at ss j).character.pos = subst (Then (λ b. b.me.pos ≡ (slot_at ss j).character.pos)) e (tick_pos n (slot_at ss j).character j ss s ts i t) in
      let same : (slot_at us j).character.pos ≡ (slot_at ss j).character.pos = ap (λ (x : Slot). x.character.pos) (pulled_others ss a.pull j) in
      let places = pulled-places a.pull in
      set_every (λ k x. k < n → Placed x (get_or ps k false) (place_at xs ys k)) us j (ticked_slot (slot_at us j) a) nowhere places (λ l. record { there = (places j l).there; stands = λ q. (places j l).stands q ∙ same ∙ sym stays })
