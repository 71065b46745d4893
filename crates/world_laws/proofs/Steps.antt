-- A step is refused with 9 if and only if a tick or a move in it is, and answers 0, 1 or 9. Assumes nothing.
use Prim.Native.Nat.{ℕ, zero, suc, ◌<◌}
use native.Mathlib.Omega.{arith}
use mathlib.Core.Bool.{Bool, true, false, cond, true≢false}
use mathlib.Core.List.{List}
use mathlib.Core.Logic.{◌⊎◌, inl, inr, ⊎_elim, ◌↔◌}
use mathlib.Core.Path.{◌≡◌, refl, sym, ap, ◌∙◌, subst}
use lib.IntN.{ℤ}
use borrow.Author.Tests.{lt-ltb}
use Rattle.base_turns.specs.Turns.{Turn, more, stop, next, run}
use Rattle.base_turns.proofs.Last.{run_last}
use Rattle.game_records.specs.declared.PlayerInput.{PlayerInput}
use Rattle.game_tuning.specs.Tuning.{tuning_of}
use Rattle.game_tuning.specs.declared.Tuning.{Tuning}
use Rattle.map_tiles.specs.Map.{is_map}
use Rattle.map_tiles.specs.declared.tiles.Sides.{Sides}
use Rattle.character_hook.specs.Hook.{id_of}
use Rattle.character.specs.Records.{to_net}
use Rattle.character.specs.Tick.{slot_at, tick_at, tick}
use Rattle.character.specs.Walk.{move_at, move}
use Rattle.character.specs.declared.Character.{Character}
use Rattle.character.specs.declared.Slot.{Slot}
use Rattle.world.specs.Step.{Moving, after_tick, tick_turn, tick_all, of_net, record_of, publish, move_in, move_turn, moving_from, move_all, step_refused, step_answer, step_on, step}
use Rattle.world.specs.declared.World.{World}
use Rattle.world.specs.Answers.{IsMap}
use Rattle.world.proofs.Answers.{map_is, is_no_map}
use Rattle.world.proofs.Numbers.{step_number}
use Rattle.world.proofs.Seats.{last_or_below}
use Rattle.world_laws.specs.Walks.{TickTooFar, MoveTooFar, StepNumbers}
use Rattle.std.specs.Prelude.{Result, Ok, Err}
use Rattle.game_records.specs.declared.CharacterCore.{CharacterCore}
use Rattle.character.specs.declared.tick.AfterTick.{AfterTick}
use Rattle.game_refusals.specs.declared.Refusal.{Refusal}
use Rattle.game_refusals.specs.Refusals.{number_of_answer}
use Rattle.game_refusals.specs.declared.Refusal.TheVariants.{TooFar}
use Rattle.game_refusals.specs.Refusals.{number_of}
use Rattle.character.proofs.Refused.{tick_refused, move_refused}

-- ---- the turn that stops a walk
goes_on_lem : {S R : Type 0} {s : S} {r : R} → ◌≡◌ {A = Turn S R} (more s) (stop r) → ⊥
goes_on_lem e = let z : ◌≡◌ {A = ℕ} 0 1 = cc in omega arith

same_stop : {S R : Type 0} {q r : R} → ◌≡◌ {A = Turn S R} (stop q) (stop r) → q ≡ r
same_stop e = cc

module _ {S R : Type 0} (f : ℕ → S → Turn S R) (s : S) (r : R) where
  record StopsAt (n : ℕ) : Type 0 where
    j : ℕ
    below : j < n
    state : S
    reached : run f j 0 s ≡ more state
    stops : f j state ≡ stop r

  abbrev last : (n : ℕ) → run f (suc n) 0 s ≡ next (f n) (run f n 0 s)
  last n = run_last f n 0 s ∙ ap (λ (k : ℕ). next (f k) (run f n 0 s)) (omega arith)

  -- the last of suc n turns stops, or an earlier one did
  last_stops : (n : ℕ) (a : Turn S R) → (a ≡ stop r → StopsAt n) → run f n 0 s ≡ a → next (f n) a ≡ stop r → StopsAt (suc n)
  last_stops n (stop q) k h e = let i = k e in record { j = i.j; below = omega (arith, i.below); state = i.state; reached = i.reached; stops = i.stops }
  last_stops n (more u) k h e = record { j = n; below = omega arith; state = u; reached = h; stops = e }

  stopped : (n : ℕ) → run f n 0 s ≡ stop r → StopsAt n
  unfolding run
  stopped zero e = absurd (goes_on_lem e)
  stopped (suc n) e = last_stops n (run f n 0 s) (stopped n) refl (sym (last n) ∙ e)

  stays : (n j : ℕ) (u : S) → j < n → run f j 0 s ≡ more u → f j u ≡ stop r → run f n 0 s ≡ stop r
  stays zero j u l e h = absurd (omega arith)
  stays (suc n) j u l e h = last n ∙ ⊎_elim (λ q. subst (λ (k : ℕ). next (f k) (run f k 0 s) ≡ stop r) q (ap (next (f j)) e ∙ h)) (λ b. ap (next (f n)) (stays n j u b e h)) (last_or_below j n l)

-- ---- ticks and moves of a step
module _ (n : ℕ) (s : Sides) (ts : List ℕ) (tunings : List ℤ) (m : is_map s ts ≡ true) (j : ℕ) (l : j < n) where
  abbrev t : Tuning
  t = tuning_of tunings

  tick_is : (c : Character) (ss : List Slot) (i : PlayerInput) → tick n c (id_of j) ss s ts i tunings ≡ (tick_at n c j ss s ts i t)
  unfolding tick
  tick_is c ss i = rw (m, lt-ltb j n l)

  move_is : (c : Character) (ss : List Slot) → move n c (id_of j) ss s ts tunings ≡ (move_at n c j ss s ts t)
  unfolding move
  move_is c ss = rw (m, lt-ltb j n l)

  -- the turn of j stops with 9 just where j is there and its tick is refused with 9
  tick_stops : (ss : List Slot) → (tick_turn n s ts t j ss ≡ stop 9) ↔ (((slot_at ss j).present ≡ true) × (number_of_answer (tick n (slot_at ss j).character (id_of j) ss s ts (slot_at ss j).input tunings) ≡ 9))
  tick_stops ss = rw (tick_is (slot_at ss j).character ss (slot_at ss j).input) (go (slot_at ss j).present (tick_at n (slot_at ss j).character j ss s ts (slot_at ss j).input t) (tick_refused n (slot_at ss j).character j ss s ts (slot_at ss j).input t))
    where
      go : (b : Bool) (k : Result AfterTick Refusal) → ((r : Refusal) → k ≡ Err r → r ≡ TooFar) → (cond b (after_tick ss j k) (more ss) ≡ stop 9) ↔ ((b ≡ true) × (number_of_answer k ≡ 9))
      go false k far = (λ e. absurd (goes_on_lem e), λ h. absurd (true≢false (sym h.0)))
      go true (Err r) far = (λ e. (refl, ap number_of (far r refl)), λ h. refl)
      go true (Ok a) far = (λ e. absurd (goes_on_lem e), λ h. absurd (omega (arith, h.1)))

  move_stops : (v : Moving) → (move_turn n s ts t j v ≡ stop 9) ↔ (((slot_at v.slots j).present ≡ true) × (number_of_answer (move n (slot_at v.slots j).character (id_of j) v.slots s ts tunings) ≡ 9))
  unfolding record_of
  move_stops v = rw (move_is (slot_at v.slots j).character v.slots) (go (slot_at v.slots j).present (move_in n s ts t v.slots j) (move_refused n (slot_at v.slots j).character j v.slots s ts t))
    where
      ten : (o : Result CharacterCore Refusal) → publish v j (of_net o) ≡ stop 9 → ⊥
      ten (Err why) e = let z : ◌≡◌ {A = ℕ} 10 9 = same_stop e in omega (arith, z)
      ten (Ok core) e = goes_on_lem e

      go : (b : Bool) (k : Result Character Refusal) → ((r : Refusal) → k ≡ Err r → r ≡ TooFar) → (cond b (publish v j (record_of k)) (more v) ≡ stop 9) ↔ ((b ≡ true) × (number_of_answer k ≡ 9))
      go false k far = (λ e. absurd (goes_on_lem e), λ h. absurd (true≢false (sym h.0)))
      go true (Err r) far = (λ e. (refl, ap number_of (far r refl)), λ h. refl)
      go true (Ok c) far = (λ e. absurd (ten (to_net c) e), λ h. absurd (omega (arith, h.1)))

-- ---- the step
module _ (n : ℕ) (s : Sides) (ts : List ℕ) (w : World) (m : is_map s ts ≡ true) where
  abbrev tuning : Tuning
  tuning = tuning_of w.tunings

  abbrev Refused : Type 0
  Refused = TickTooFar n s ts w ⊎ MoveTooFar n s ts w

  tick_far : tick_all n w.slots s ts tuning ≡ stop 9 → TickTooFar n s ts w
  unfolding tick_all
  tick_far e =
      let z = stopped (tick_turn n s ts tuning) w.slots 9 n e in
      let q = (tick_stops n s ts w.tunings m z.j z.below z.state).0 z.stops in
      record { j = z.j; seat = z.below; slots = z.state; below = z.reached; present = q.0; refused = q.1 }

  move_far : (us : List Slot) → tick_all n w.slots s ts tuning ≡ more us → move_all n us s ts tuning ≡ stop 9 → MoveTooFar n s ts w
  unfolding move_all
  move_far us d e =
      let z = stopped (move_turn n s ts tuning) (moving_from n us) 9 n e in
      let q = (move_stops n s ts w.tunings m z.j z.below z.state).0 z.stops in
      record { j = z.j; seat = z.below; slots = us; moving = z.state; ticked = d; below = z.reached; present = q.0; refused = q.1 }

  far_tick : TickTooFar n s ts w → tick_all n w.slots s ts tuning ≡ stop 9
  unfolding tick_all
  far_tick h = stays (tick_turn n s ts tuning) w.slots 9 n h.j h.slots h.seat h.below ((tick_stops n s ts w.tunings m h.j h.seat h.slots).1 (h.present, h.refused))

  far_move : (h : MoveTooFar n s ts w) → move_all n h.slots s ts tuning ≡ stop 9
  unfolding move_all
  far_move h = stays (move_turn n s ts tuning) (moving_from n h.slots) 9 n h.j h.moving h.seat h.below ((move_stops n s ts w.tunings m h.j h.seat h.moving).1 (h.present, h.refused))

  abbrev moves : Turn (List Slot) ℕ → Turn Moving ℕ
  moves a = next (λ ss. move_all n ss s ts tuning) a

  answer_nine : (a : Turn Moving ℕ) → (step_answer n w s ts a).number ≡ 9 → a ≡ stop 9
  answer_nine (more v) e = absurd (omega (arith, e))
  answer_nine (stop k) e = ap stop e

  nine_refused : (a : Turn (List Slot) ℕ) → tick_all n w.slots s ts tuning ≡ a → moves a ≡ stop 9 → Refused
  nine_refused (stop k) d e = inl (tick_far (d ∙ ap stop (same_stop e)))
  nine_refused (more us) d e = inr (move_far us d e)

  refused_nine : Refused → moves (tick_all n w.slots s ts tuning) ≡ stop 9
  refused_nine r = ⊎_elim (λ h. ap moves (far_tick h)) (λ h. ap moves h.ticked ∙ far_move h) r

step_nine : (n : ℕ) (s : Sides) (ts : List ℕ) (w : World) → ((step n w s ts).number ≡ 9) ↔ (IsMap s ts × (TickTooFar n s ts w ⊎ MoveTooFar n s ts w))
unfolding step step_on
step_nine n s ts w = go (is_map s ts) refl
  where
    go : (b : Bool) → is_map s ts ≡ b → ((cond b (step_on n w s ts) (step_refused n w 1)).number ≡ 9) ↔ (IsMap s ts × (TickTooFar n s ts w ⊎ MoveTooFar n s ts w))
    go false e = (λ q. absurd (omega (arith, q)), λ h. absurd (is_no_map s ts e h.0))
    go true e = (λ q. (map_is s ts e, nine_refused n s ts w e (tick_all n w.slots s ts (tuning_of w.tunings)) refl (answer_nine n s ts w e _ q)), λ h. ap (λ (a : Turn Moving ℕ). (step_answer n w s ts a).number) (refused_nine n s ts w e h.1))

pub step-numbers : (n : ℕ) → StepNumbers n
step-numbers n = record { only = λ s ts w full. (step_number n w s ts full).is; nine = step_nine n }
