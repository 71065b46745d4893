-- With player collision and player hooking both 0, what an accepted step tells and leaves of a seat whose hook holds nobody comes of that seat and the tunings alone. Assumes nothing.
use Prim.Native.Nat.{ℕ, ◌<◌}
use native.Mathlib.Omega.{arith}
use mathlib.Core.Bool.{Bool, true, false, cond, ◌||◌}
use mathlib.Core.List.{List, [], ◌∷◌}
use mathlib.Core.Path.{◌≡◌, refl, sym, ap, ◌∙◌, subst}
use lib.Dec.{eqb}
use lib.IntN.{ℤ}
use lib.Ieee.{ne}
use lib.ListN.{length}
use borrow.Author.Tests.{eqb-true, eqb-false}
use Rattle.base_turns.specs.Turns.{Turn, more, stop, next}
use Rattle.base_turns.proofs.Kept.{Ends}
use Rattle.num_convert.specs.Number.{c0}
use Rattle.map_tiles.specs.Map.{is_map}
use Rattle.map_tiles.specs.declared.tiles.Sides.{Sides}
use Rattle.game_tuning.specs.Tuning.{tuning_of}
use Rattle.game_tuning.specs.declared.Tuning.{Tuning}
use Rattle.game_tuning.proofs.Off.{collision_off, hooking_off}
use Rattle.character.specs.Slot.{empty_slot}
use Rattle.character.specs.Tick.{slot_at}
use Rattle.character.specs.declared.Slot.{Slot}
use Rattle.world.specs.Calls.{vacate}
use Rattle.world.specs.Removal.{dies, dying, remove_all, is_in}
use Rattle.world.specs.Step.{Moving, unpublished, tick_all, move_all, step_answer, step_on, step}
use Rattle.world.specs.Demand3.{record_at}
use Rattle.world.specs.Answered.{Stepped}
use Rattle.world.specs.declared.World.{World}
use Rattle.world.proofs.Removal.{dying_are, removed_kept}
use Rattle.world.proofs.Seats.{by_test, Same, Settling, ticks_same, moves-settle}
use Rattle.world.proofs.Vacated.{vacated_at, vacated_others, vacated_length}
use Rattle.world_solo.specs.Solo.{SoloStep, Seen, seen_in}
use Rattle.world_solo.proofs.Free.{Free, empty_free, free_released}
use Rattle.world_solo.proofs.Seat.{seen_at, ticked_seat, moved_seat, ticked_free, moved_free, ticks_seat, moves_seat}
use Rattle.base_turns.proofs.Own.{On}

-- ---- a seat alone

module _ (n : ℕ) (s : Sides) (ts : List ℕ) (k : ℕ) where
  -- who is on a deadly tile is removed
  abbrev removed_seat : Seen → Seen
  removed_seat y = record { taken = y.taken; slot = cond (dies s ts y.slot) empty_slot y.slot }

  -- before the removals
  abbrev walked_seat : List ℤ → Slot → Seen
  walked_seat tunings x = let t = tuning_of tunings in moved_seat n s ts t k (record { taken = unpublished; slot = ticked_seat n s ts t k x })

  -- the record and the slot after a step
  abbrev pub stepped_seat : List ℤ → Slot → Seen
  stepped_seat tunings x = removed_seat (walked_seat tunings x)

  walked_free : (tunings : List ℤ) (x : Slot) → Free x → Free (walked_seat tunings x).slot
  walked_free tunings x f = let t = tuning_of tunings in moved_free n s ts t k (record { taken = unpublished; slot = ticked_seat n s ts t k x }) (ticked_free n s ts t k x f)

  pub stepped_free : (tunings : List ℤ) (x : Slot) → Free x → Free (stepped_seat tunings x).slot
  stepped_free tunings x f = by_test Free (dies s ts (walked_seat tunings x).slot) (λ e. empty_free) (λ e. walked_free tunings x f)

-- ---- the removals
-- who is removed is gone; a removal of others leaves whose hook holds nobody
vacated_free : (k i : ℕ) (w : World) → k < length w.slots → Free (slot_at w.slots k) → slot_at (vacate w i).slots k ≡ cond (eqb i k) empty_slot (slot_at w.slots k)
vacated_free k i w l f = go (eqb i k) refl
  where
    go : (b : Bool) → eqb i k ≡ b → slot_at (vacate w i).slots k ≡ cond b empty_slot (slot_at w.slots k)
    go true e = let q : k ≡ i = sym (eqb-true i k e) in ap (λ (j : ℕ). slot_at (vacate w i).slots j) q ∙ vacated_at w i (subst (λ (j : ℕ). j < length w.slots) q l)
    go false e = vacated_others w i k (λ q. eqb-false i k e (sym q)) ∙ free_released (slot_at w.slots k) i f

either_gone : (a b : Bool) (x : Slot) → cond b empty_slot (cond a empty_slot x) ≡ cond (a || b) empty_slot x
either_gone true true x = refl
either_gone true false x = refl
either_gone false b x = refl

removed_at : (k : ℕ) (ids : List ℕ) (w : World) → k < length w.slots → Free (slot_at w.slots k) → slot_at (remove_all w ids).slots k ≡ cond (is_in k ids) empty_slot (slot_at w.slots k)
removed_at k [] w l f = refl
removed_at k (i ∷ ids) w l f =
    let e = vacated_free k i w l f in
    let kept = by_test Free (eqb i k) (λ q. empty_free) (λ q. f) in
    removed_at k ids (vacate w i) (subst (λ (m : ℕ). k < m) (sym (vacated_length w i)) l) (subst Free (sym e) kept) ∙ ap (λ (y : Slot). cond (is_in k ids) empty_slot y) e ∙ either_gone (eqb i k) (is_in k ids) (slot_at w.slots k)

-- ---- a step

module _ (n : ℕ) (s : Sides) (ts : List ℕ) (k : ℕ) (l : k < n) (w : World) (full : length w.slots ≡ n) (free : Free (slot_at w.slots k)) where
  abbrev t : Tuning
  t = tuning_of w.tunings

  abbrev Seats : Stepped → Type 0
  Seats a = a.number ≡ 0 → seen_in k a ≡ stepped_seat n s ts k w.tunings (slot_at w.slots k)

  moved : (us : List Slot) → length us ≡ n → (a : Turn Moving ℕ) → Ends (Settling n s ts t us n) (λ r. 0 < r) a → On (λ m. seen_at k m ≡ walked_seat n s ts k w.tunings (slot_at w.slots k)) a → Seats (step_answer n w s ts a)
  moved us z (stop r) g h e = absurd (omega arith)
  moved us z (more m) g h e = ap (λ (x : Slot). record { taken = record_at m.records k; slot = x }) removed ∙ ap (removed_seat n s ts k) h
    where
      size : k < length m.slots
      size = let q = g.same.size in omega (arith, l, z, q)

      removed : slot_at (remove_all (record { slots = m.slots; tunings = w.tunings }) (dying n s ts m.slots)).slots k ≡ cond (dies s ts (slot_at m.slots k)) empty_slot (slot_at m.slots k)
      removed = removed_at k (dying n s ts m.slots) (record { slots = m.slots; tunings = w.tunings }) size (subst (λ (y : Seen). Free y.slot) (sym h) (walked_free n s ts k w.tunings (slot_at w.slots k) free)) ∙ ap (λ (b : Bool). cond b empty_slot (slot_at m.slots k)) (dying_are n s ts m.slots k l)

  -- the record and the slot of k
  pub step_seat : SoloStep n s ts w → seen_in k (step n w s ts) ≡ stepped_seat n s ts k w.tunings (slot_at w.slots k)
  unfolding step step_on
  step_seat h = by_test Seats (is_map s ts) (λ m. ticks (tick_all n w.slots s ts t) (ticks_same n s ts t w.slots) (ticks_seat n s ts t c d k l w.slots)) (λ m e. absurd (omega arith)) h.accepted
    where
      c : ne t.player_collision c0 ≡ false
      c = collision_off w.tunings h.collision

      d : ne t.player_hooking c0 ≡ false
      d = hooking_off w.tunings h.hooking

      ticks : (a : Turn (List Slot) ℕ) → Ends (Same w.slots) (λ r. 0 < r) a → On (λ us. slot_at us k ≡ ticked_seat n s ts t k (slot_at w.slots k)) a → Seats (step_answer n w s ts (next (λ us. move_all n us s ts t) a))
      ticks (stop r) g q = λ e. absurd (omega arith)
      ticks (more us) g q = moved us (g.size ∙ full) (move_all n us s ts t) (moves-settle n s ts t us) (subst (λ (x : Slot). On (λ m. seen_at k m ≡ moved_seat n s ts t k (record { taken = unpublished; slot = x })) (move_all n us s ts t)) q (moves_seat n s ts t c d k l us))

-- a step leaves the tunings
pub step_tunings : (n : ℕ) (s : Sides) (ts : List ℕ) (w : World) → (step n w s ts).world.tunings ≡ w.tunings
unfolding step step_on
step_tunings n s ts w = by_test (λ (a : Stepped). a.world.tunings ≡ w.tunings) (is_map s ts) (λ e. go (next (λ us. move_all n us s ts (tuning_of w.tunings)) (tick_all n w.slots s ts (tuning_of w.tunings)))) (λ e. refl)
  where
    go : (a : Turn Moving ℕ) → (step_answer n w s ts a).world.tunings ≡ w.tunings
    go (stop r) = refl
    go (more m) = removed_kept (λ v. v.tunings ≡ w.tunings) (λ v i e. e) (dying n s ts m.slots) (record { slots = m.slots; tunings = w.tunings }) refl
