-- Of an id that has no slot nobody is ever seen. Assumes nothing.
use Prim.Native.Nat.{ℕ, ◌≤◌}
use native.Mathlib.Omega.{arith}
use mathlib.Core.Bool.{Bool, true, false, cond, true≢false}
use mathlib.Core.List.{List, [], ◌∷◌, ◌++◌}
use mathlib.Core.Path.{◌≡◌, refl, sym, ap, ap₂, ◌∙◌}
use lib.ListN.{length, length-set, length-replicate, get_or-eq_default}
use Rattle.base_turns.specs.Turns.{Turn, more, stop, next}
use Rattle.base_turns.proofs.Kept.{run-kept}
use Rattle.map_tiles.specs.Map.{is_map}
use Rattle.map_tiles.specs.declared.tiles.Sides.{Sides}
use Rattle.game_tuning.specs.Tuning.{tuning_of}
use Rattle.game_tuning.specs.declared.Tuning.{Tuning}
use Rattle.character.specs.Tick.{slot_at, nowhere}
use Rattle.character.specs.declared.Slot.{Slot}
use Rattle.world.specs.declared.call.Call.{Call}
use Rattle.world.specs.declared.call.Call.TheVariants.{Join, Leave, Input, Step, Tune}
use Rattle.world.specs.Step.{Moving, unpublished, tick_all, record_of, publish, move_in, move_turn, moving_from, move_all, step_answer, step_on, step}
use Rattle.world.specs.Run.{ran}
use Rattle.world.specs.Settled.{Settled}
use Rattle.world.specs.declared.Published.{Published}
use Rattle.world.specs.Answered.{Stepped}
use Rattle.world.specs.declared.World.{World}
use Rattle.world.proofs.Seats.{by_test}
use Rattle.world.proofs.Settled.{answer-settled}
use Rattle.world_solo.specs.Solo.{for_other, without_other, Seen, seen_by, seen}
use Rattle.base_turns.proofs.Own.{On}
use Rattle.std.specs.Prelude.{Result, Ok, Err}
use Rattle.game_records.specs.declared.CharacterCore.{CharacterCore}
use Rattle.game_refusals.specs.declared.Refusal.{Refusal}

-- ---- a step has one record for each slot
module _ (n : ℕ) (s : Sides) (ts : List ℕ) (w : World) where
  abbrev t : Tuning
  t = tuning_of w.tunings

  abbrev Sized : Moving → Type 0
  Sized m = length m.records ≡ n

  move_turn_lem : (j : ℕ) (m : Moving) → Sized m → On Sized (move_turn n s ts t j m)
  move_turn_lem j m h = by_test (On Sized) (slot_at m.slots j).present (λ p. go (record_of (move_in n s ts t m.slots j))) (λ p. h)
    where
      go : (o : Result CharacterCore Refusal) → On Sized (publish m j o)
      go (Err r) = tt
      go (Ok core) = length-set m.records j (record { present = true; core = core }) ∙ h

  moves_sized : (us : List Slot) → On Sized (move_all n us s ts t)
  unfolding move_all
  moves_sized us = run-kept (move_turn n s ts t) (λ i. Sized) (λ r. Unit {0}) move_turn_lem n 0 (moving_from n us) (length-replicate n unpublished)

  pub step_sized : length (step n w s ts).records ≡ n
  unfolding step step_on
  step_sized = by_test (λ (a : Stepped). length a.records ≡ n) (is_map s ts) (λ e. ticks (tick_all n w.slots s ts t)) (λ e. length-replicate n unpublished)
    where
      moves : (a : Turn Moving ℕ) → On Sized a → length (step_answer n w s ts a).records ≡ n
      moves (stop r) h = length-replicate n unpublished
      moves (more m) h = h

      ticks : (a : Turn (List Slot) ℕ) → length (step_answer n w s ts (next (λ us. move_all n us s ts t) a)).records ≡ n
      ticks (stop r) = length-replicate n unpublished
      ticks (more us) = moves (move_all n us s ts t) (moves_sized us)

-- ---- so none for an id past the slots

-- nobody, by a step
abbrev pub nobody_by : Call → List Seen
nobody_by (Join id x y) = []
nobody_by (Leave id) = []
nobody_by (Input id d x y j h) = []
nobody_by (Tune index z) = []
nobody_by Step = record { taken = unpublished; slot = nowhere } ∷ []

abbrev pub nobody : List Call → List Seen
nobody [] = []
nobody (c ∷ cs) = nobody_by c ++ nobody cs

module _ (n : ℕ) (s : Sides) (ts : List ℕ) (k : ℕ) (l : n ≤ k) where
  shows_nobody : (w : World) (c : Call) → Settled n w → seen_by k (ran n s ts w c) c ≡ nobody_by c
  shows_nobody w (Join id x y) g = refl
  shows_nobody w (Leave id) g = refl
  shows_nobody w (Input id d x y j h) g = refl
  shows_nobody w (Tune index z) g = refl
  shows_nobody w Step g =
      let a = step n w s ts in
      let p = step_sized n s ts w in
      let q = (answer-settled n s ts w Step g).seats in
      ap₂ (λ (r : Published) (x : Slot). record { taken = r; slot = x } ∷ []) (get_or-eq_default a.records unpublished (omega (arith, l, p))) (get_or-eq_default a.world.slots nowhere (omega (arith, l, q)))

  seen-nobody : (cs : List Call) (w : World) → Settled n w → seen n s ts k w cs ≡ nobody cs
  seen-nobody [] w g = refl
  seen-nobody (c ∷ cs) w g = ap₂ (λ (a b : List Seen). a ++ b) (shows_nobody w c g) (seen-nobody cs (ran n s ts w c).world (answer-settled n s ts w c g))

-- no step is struck out
other_shows : (n k : ℕ) (c : Call) → for_other n k c ≡ true → nobody_by c ≡ []
other_shows n k (Join id x y) e = refl
other_shows n k (Leave id) e = refl
other_shows n k (Input id d x y j h) e = refl
other_shows n k (Tune index z) e = refl
other_shows n k Step e = absurd (true≢false (sym e))

struck_nobody : (n k : ℕ) (cs : List Call) → nobody cs ≡ nobody (without_other n k cs)
struck_nobody n k [] = refl
struck_nobody n k (c ∷ cs) = ap (λ (b : List Seen). nobody_by c ++ b) (struck_nobody n k cs) ∙ go (for_other n k c) refl
  where
    go : (b : Bool) → for_other n k c ≡ b → nobody_by c ++ nobody (without_other n k cs) ≡ nobody (cond b (without_other n k cs) (c ∷ without_other n k cs))
    go true e = ap (λ (a : List Seen). a ++ nobody (without_other n k cs)) (other_shows n k c e)
    go false e = refl

-- what is seen depends on the calls that are not struck out alone
pub seen_seatless : (n : ℕ) (s : Sides) (ts : List ℕ) (k : ℕ) → n ≤ k → (cs : List Call) (w : World) → Settled n w → seen n s ts k w cs ≡ nobody (without_other n k cs)
seen_seatless n s ts k l cs w g = seen-nobody n s ts k l cs w g ∙ struck_nobody n k cs
