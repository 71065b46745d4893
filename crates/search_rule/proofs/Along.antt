-- A way counts where its calls are accepted, one after another, and the last record has that x and y. Assumes nothing.
use Prim.Native.Nat.{ℕ, ◌<◌}
use mathlib.Core.Bool.{Bool, true, false, cond, not, ◌&&◌, true≢false}
use mathlib.Core.List.{List, [], ◌∷◌}
use mathlib.Core.Path.{◌≡◌, refl, sym, ap, ◌∙◌}
use native.Mathlib.Omega.{arith}
use lib.Dec.{eqb}
use lib.IntN.{ℤ}
use lib.ListN.{length, length-set}
use lib.Seq.{get_or-set_same}
use borrow.Author.Tests.{eqb-true, eq-eqb, lt-ltb}
use Rattle.game_records.specs.declared.PlayerInput.{PlayerInput}
use Rattle.map_tiles.specs.declared.tiles.Sides.{Sides}
use Rattle.character.specs.Slot.{with_input}
use Rattle.character.specs.Tick.{nowhere, slot_at}
use Rattle.character.specs.declared.Slot.{Slot}
use Rattle.world.specs.Calls.{place_of, input}
use Rattle.world.specs.Demand3.{record_at}
use Rattle.world.specs.Removal.{ids_in, is_in}
use Rattle.world.specs.Run.{Told, told}
use Rattle.world.specs.Step.{step}
use Rattle.world.specs.World.{with_slot}
use Rattle.world.specs.Answered.{Answer}
use Rattle.world.specs.declared.Published.{Published}
use Rattle.world.specs.declared.World.{World}
use Rattle.world.proofs.Outcomes.{Outcome, no, yes, Seated, input_outcome}
use Rattle.world.proofs.Present.{step-present}
use Rattle.game_records.specs.Numbers.{same_number}
use Rattle.game_records.proofs.Same.{number_same, number_self}
use Rattle.base_turns.proofs.Tests.{both}
use Rattle.search_rule.specs.Ways.{Way}
use Rattle.search_rule.specs.Search.{input_of_way, step_with, is_at, arrives, goes_on, counts}
use Rattle.search_rule.specs.Laws.{calls_of, AllAccepted, last_record, HasPlace}
use Rattle.search_rule.specs.declared.Buttons.{Buttons}
use Rattle.search_rule.specs.declared.Goal.{Goal}

-- ---- an input is accepted just where somebody is at the id

module _ (n : ℕ) (w : World) (id : ℤ) (i : PlayerInput) where
  pub input-accepted : Seated n w id → (input n w id i).number ≡ 0
  unfolding input
  input-accepted h = rw (lt-ltb (place_of n id) n h.seat, h.there)

  pub input_seat : (input n w id i).number ≡ 0 → Seated n w id
  input_seat e = go (input_outcome n w id i)
    where
      go : Outcome w (with_slot w (place_of n id) (with_input (slot_at w.slots (place_of n id)) i)) (Seated n w id) (input n w id i) → Seated n w id
      go (no r q) = absurd (omega (arith, ap (λ (a : Answer). a.number) q))
      go (yes f q) = f

-- ---- a record with that x and y

module _ (g : Goal) (p : Published) where
  is_at_lem : is_at g p ≡ true → HasPlace g.x g.y p
  is_at_lem e =
      let a = both p.present _ e in
      let b = both (same_number p.core.x g.x) (same_number p.core.y g.y) a.1 in
      (a.0, number_same p.core.x g.x b.0, number_same p.core.y g.y b.1)

  at_place : HasPlace g.x g.y p → is_at g p ≡ true
  at_place h = rw (h.0, h.1, h.2, number_self g.x, number_self g.y)

-- ---- the calls of a way

module _ (n : ℕ) (s : Sides) (ts : List ℕ) (g : Goal) where
  abbrev tells : World → Way → List Told
  tells w u = told n s ts w (calls_of g.id g.target_x g.target_y u)

  pub record Arrives (w : World) (u : Way) : Type 0 where
    pub accepted : AllAccepted (tells w u)
    pub arrived : HasPlace g.x g.y (last_record (place_of n g.id) (tells w u))

  pub leads_there : (u : Way) (w : World) → Seated n w g.id → counts n s ts g w u ≡ true → Arrives w u
  unfolding step_with arrives goes_on
  leads_there [] w h e = absurd (true≢false (sym e))
  leads_there (b ∷ []) w h e =
      let a = step_with n s ts g w b in
      let r = record_at a.records (place_of n g.id) in
      let t = both (eqb a.number 0) (is_at g r) e in
      record { accepted = (input-accepted n w g.id (input_of_way g b) h, (eqb-true a.number 0 t.0, tt)); arrived = is_at_lem g r t.1 }
  leads_there (b ∷ c ∷ u) w h e =
      let a = step_with n s ts g w b in
      let t = both (goes_on n g a) (counts n s ts g a.world (c ∷ u)) e in
      let o = both (eqb a.number 0) (slot_at a.world.slots (place_of n g.id)).present t.0 in
      let r = leads_there (c ∷ u) a.world (record { seat = h.seat; there = o.1 }) t.1 in
      record { accepted = (input-accepted n w g.id (input_of_way g b) h, (eqb-true a.number 0 o.0, r.accepted)); arrived = r.arrived }

  pub there_counts : (b : Buttons) (u : Way) (w : World) → Arrives w (b ∷ u) → counts n s ts g w (b ∷ u) ≡ true
  unfolding step_with arrives goes_on
  there_counts b [] w h = let a = step_with n s ts g w b in rw (eq-eqb a.number 0 h.accepted.1.0, at_place g (record_at a.records (place_of n g.id)) h.arrived)
  there_counts b (c ∷ u) w h =
      let a = step_with n s ts g w b in
      let o = input_seat n a.world g.id (input_of_way g c) h.accepted.1.1.0 in
      rw (eq-eqb a.number 0 h.accepted.1.0, o.there) (there_counts c u a.world (record { accepted = h.accepted.1.1; arrived = h.arrived }))

-- ---- who is lost in a step

unless : (c : Bool) → cond c false true ≡ not c
unless true = refl
unless false = refl

module _ (n : ℕ) (s : Sides) (ts : List ℕ) (w : World) (g : Goal) (b : Buttons) (full : length w.slots ≡ n) (h : Seated n w g.id) where
  abbrev k : ℕ
  k = place_of n g.id

  abbrev stored : World
  stored = with_slot w k (with_input (slot_at w.slots k) (input_of_way g b))

  stores : (input n w g.id (input_of_way g b)).world ≡ stored
  unfolding input
  stores = rw (lt-ltb k n h.seat, h.there)

  pub lost_to_spikes : let a = step_with n s ts g w b in goes_on n g a ≡ eqb a.number 0 && not (is_in k (ids_in a.removed))
  unfolding step_with goes_on
  lost_to_spikes =
      let a = step n stored s ts in
      let within : k < length w.slots = omega (arith, full, h.seat) in
      let here : (slot_at stored.slots k).present ≡ true = ap (λ (x : Slot). x.present) (get_or-set_same w.slots k (with_input (slot_at w.slots k) (input_of_way g b)) nowhere within) ∙ h.there in
      let c = is_in k (ids_in a.removed) in
      rw stores (ap (λ (d : Bool). eqb a.number 0 && d) (step-present n s ts stored (length-set w.slots k _ ∙ full) k ∙ ap (cond c false) here ∙ unless c))
