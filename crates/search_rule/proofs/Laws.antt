-- The claims of the search. Assumes nothing.
use Prim.Native.Nat.{ℕ}
use mathlib.Core.Bool.{Bool, true, false, cond}
use mathlib.Core.List.{List, [], ◌∷◌}
use mathlib.Core.Path.{◌≡◌, refl, sym, ap, ◌∙◌, subst}
use native.Mathlib.Omega.{arith}
use lib.Dec.{ltb}
use lib.IntN.{ℤ}
use borrow.Author.Tests.{lt-ltb}
use Rattle.base_turns.specs.Turns.{more, stop}
use Rattle.game_refusals.specs.Refusals.{bad_map, bad_id, not_present}
use Rattle.game_records.specs.declared.PlayerInput.{PlayerInput}
use Rattle.map_tiles.specs.Map.{is_map}
use Rattle.map_tiles.specs.declared.tiles.Sides.{Sides}
use Rattle.character.specs.Slot.{no_input, with_input}
use Rattle.character.specs.Tick.{slot_at}
use Rattle.character.specs.declared.Slot.{Slot}
use Rattle.world.specs.World.{with_slot}
use Rattle.world.specs.Calls.{refused, accepted, place_of, input}
use Rattle.world.specs.Readers.{seated}
use Rattle.world.specs.Run.{after}
use Rattle.world.specs.Step.{step_on, step_refused, step}
use Rattle.world.specs.declared.World.{World}
use Rattle.world.proofs.Outcomes.{Seated}
use Rattle.search_rule.specs.Ways.{Way, IsWay}
use Rattle.search_rule.specs.Search.{input_of_way, step_with, counts, Found, first_way, goal_of, Refused, NoWay, WayTo, answer_of, search_from, search}
use Rattle.search_rule.specs.Laws.{calls_of, Leads, First, None, number_of, Reaches}
use Rattle.search_rule.specs.declared.Buttons.{Buttons}
use Rattle.search_rule.specs.declared.Goal.{Goal}
use Rattle.search_rule.proofs.Along.{input_seat, leads_there, there_counts, lost_to_spikes}
use Rattle.search_rule.proofs.Found.{Chooses, way_chosen}
use Rattle.search_rule.proofs.Order.{only_first}
use Rattle.std.specs.Prelude.{Ok, Err}
use Rattle.game_refusals.specs.declared.Refusal.TheVariants.{BadId, Absent}

no_number : (t : Found) → number_of (answer_of t) ≡ 0
no_number (more z) = refl
no_number (stop u) = refl

step_map : (n : ℕ) (s : Sides) (ts : List ℕ) (w : World) → (step n w s ts).number ≡ 0 → is_map s ts ≡ true
unfolding step
step_map n s ts w = go (is_map s ts) refl
  where
    go : (b : Bool) → is_map s ts ≡ b → (cond b (step_on n w s ts) (step_refused n w bad_map)).number ≡ 0 → b ≡ true
    go true q e = refl
    go false q e = absurd (omega arith)

module _ (n : ℕ) (s : Sides) (ts : List ℕ) (w : World) (id x y : ℤ) where
  abbrev goal : Goal
  goal = goal_of id x y (slot_at w.slots (place_of n id)).input

  abbrev found : Found
  found = first_way n s ts goal w

  -- on a map, for somebody, the answer is what is found
  record Runs : Type 0 where
    map : is_map s ts ≡ true
    seat : Seated n w id

  searched : Runs → search n s ts w id x y ≡ answer_of found
  unfolding search seated
  searched h = rw (h.map, lt-ltb (place_of n id) n h.seat.seat, h.seat.there)

  -- what comes of it where it is refused
  refused_as : (i : PlayerInput) → number_of (search n s ts w id x y) ≡ cond (is_map s ts) (input n w id i).number bad_map
  unfolding search seated input
  refused_as i = go (is_map s ts) (ltb (place_of n id) n) (slot_at w.slots (place_of n id)).present
    where
      k : ℕ
      k = place_of n id

      slot : Slot
      slot = slot_at w.slots k

      go : (a b c : Bool) → number_of (cond a (search_from n s ts w id x y (cond b (cond c (Ok slot) (Err Absent)) (Err BadId))) (Refused bad_map)) ≡ cond a (cond b (cond c (accepted (with_slot w k (with_input slot i))) (refused w not_present)) (refused w bad_id)).number bad_map
      go false b c = refl
      go true false c = refl
      go true true false = refl
      go true true true = no_number found

  -- it runs where it isn't refused, and where a way leads there
  runs : number_of (search n s ts w id x y) ≡ 0 → Runs
  runs e = go (is_map s ts) refl (sym (refused_as no_input) ∙ e)
    where
      go : (b : Bool) → is_map s ts ≡ b → cond b (input n w id no_input).number bad_map ≡ 0 → Runs
      go true q f = record { map = q; seat = input_seat n w id no_input f }
      go false q f = absurd (omega arith)

  leads_runs : (u : Way) → IsWay u → Leads n s ts w id x y u → Runs
  leads_runs [] i h = absurd (omega (arith, i.some))
  leads_runs (b ∷ u) i h = record { map = step_map n s ts _ h.accepted.1.0; seat = input_seat n w id (input_of_way goal b) h.accepted.0 }

  -- ---- a way counts just where it leads there
  counts_leads : Runs → (u : Way) → counts n s ts goal w u ≡ true → Leads n s ts w id x y u
  counts_leads r u e = let h = leads_there n s ts goal u w r.seat e in record { accepted = h.accepted; arrived = h.arrived }

  leads_counts : (u : Way) → IsWay u → Leads n s ts w id x y u → counts n s ts goal w u ≡ true
  leads_counts [] i h = absurd (omega (arith, i.some))
  leads_counts (b ∷ u) i h = there_counts n s ts goal b u w (record { accepted = h.accepted; arrived = h.arrived })

  -- so what is found is the first that does
  abbrev Sought : Found → Type 0
  Sought (more z) = None n s ts w id x y
  Sought (stop u) = First n s ts w id x y u

  sought : Runs → (t : Found) → Chooses n s ts goal w t → Sought t
  sought r (more z) h = λ v i l. h v i (leads_counts v i l)
  sought r (stop u) h = record { way = h.way; leads = counts_leads r u h.meets; first = λ v i o l. h.first v i o (leads_counts v i l) }

  answered : Runs → Sought found
  answered r = sought r found (way_chosen n s ts goal w)

  two_calls : (b : Buttons) → (step_with n s ts goal w b).world ≡ after n s ts w (calls_of id goal.target_x goal.target_y (b ∷ []))
  unfolding step_with
  two_calls b = refl

  -- ---- the claims
  shown : (u : Way) → search n s ts w id x y ≡ WayTo u → First n s ts w id x y u
  shown u e = let r = runs (ap number_of e) in go found (answered r) (sym (searched r) ∙ e)
    where
      go : (t : Found) → Sought t → answer_of t ≡ WayTo u → First n s ts w id x y u
      go (more z) h q = let z : ◌≡◌ {A = ℕ} 0 1 = cc in absurd (omega arith)
      go (stop v) h q = let z : v ≡ u = cc in subst (First n s ts w id x y) z h

  none : search n s ts w id x y ≡ NoWay → None n s ts w id x y
  none e = let r = runs (ap number_of e) in go found (answered r) (sym (searched r) ∙ e)
    where
      go : (t : Found) → Sought t → answer_of t ≡ NoWay → None n s ts w id x y
      go (more z) h q = h
      go (stop v) h q = let z : ◌≡◌ {A = ℕ} 0 1 = cc in absurd (omega arith)

  first : (u : Way) → First n s ts w id x y u → search n s ts w id x y ≡ WayTo u
  first u f = let r = leads_runs u f.way f.leads in searched r ∙ go found (answered r)
    where
      go : (t : Found) → Sought t → answer_of t ≡ WayTo u
      go (more z) h = absurd (h u f.way f.leads)
      go (stop v) h = ap WayTo (only_first (Leads n s ts w id x y) v u h.way f.way h.leads f.leads h.first f.first)

  nowhere : number_of (search n s ts w id x y) ≡ 0 → None n s ts w id x y → search n s ts w id x y ≡ NoWay
  nowhere e f = let r = runs e in searched r ∙ go found (answered r)
    where
      go : (t : Found) → Sought t → answer_of t ≡ NoWay
      go (more z) h = refl
      go (stop v) h = absurd (f v h.way h.leads)

pub search_reaches : (n : ℕ) → Reaches n
search_reaches n = record { shown = shown n; first = first n; none = none n; nowhere = nowhere n; counting = λ s ts w id x y e u i. let r = runs n s ts w id x y e in (counts_leads n s ts w id x y r u, leads_counts n s ts w id x y u i); steps = two_calls n; refusals = refused_as n; lost = λ s ts w g b full seat there. lost_to_spikes n s ts w g b full (record { seat = seat; there = there }) }
