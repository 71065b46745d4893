-- What a trial answers, by the tests that decide it, and its rows one after another. Assumes nothing.
use Prim.Native.Nat.{ℕ, ◌+◌, ◌*◌, ◌/◌, ◌%◌, ◌≤◌, ◌<◌}
use mathlib.Core.Bool.{Bool, true, false, cond, ◌&&◌}
use mathlib.Core.List.{List, [], ◌++◌, map}
use mathlib.Core.Path.{◌≡◌, refl, sym, ap, ap₂, ◌∙◌, subst}
use native.Mathlib.Numerals.{add-one}
use native.Mathlib.Omega.{arith}
use lib.Dec.{leb, eqb}
use lib.IntN.{ℤ, pos, negsuc}
use lib.ListN.{length, take, get_or}
use lib.Seq.{take-suc}
use borrow.Author.Tests.{leb-true, eqb-true, eq-eqb, ne_eqb}
use Rattle.base_rows.specs.Put.{put}
use Rattle.base_rows.proofs.Puts.{take_put}
use Rattle.base_turns.specs.Turns.{Turn, more, stop}
use Rattle.game_refusals.specs.Refusals.{bad_map, bad_trial, bad_hold, bad_length, number_of}
use Rattle.game_refusals.specs.declared.Refusal.{Refusal}
use Rattle.std.specs.Prelude.{Ok, Err}
use Rattle.game_tuning.specs.Tuning.{tuning_count}
use Rattle.map_tiles.specs.Map.{is_map, count}
use Rattle.map_tiles.specs.declared.tiles.Sides.{Sides}
use Rattle.character.specs.Tick.{seats}
use Rattle.world.specs.World.{fresh}
use Rattle.world.specs.Settled.{Settled}
use Rattle.world.proofs.Settled.{after_settled}
use Rattle.base_turns.proofs.Tests.{both}
use Rattle.world_numbers.specs.Encoding.{each, encoding}
use Rattle.world_numbers.specs.Decoding.{decoding}
use Rattle.world_numbers.proofs.Encoded.{decoding-encoding}
use Rattle.world_numbers.proofs.Rows.{each_last}
use Rattle.trial_rule.specs.Trial.{Trying, tried, enter_all, nobody_yet, tuned_to, trial}
use Rattle.trial_rule.specs.declared.Player.{Player}
use Rattle.trial_rule.specs.Calls.{join_count, target_count, row_count, tunings_in, are_whole, entrants, tuning_rows, tried_numbers, is_steps, is_trial, have_holds, trial_fault, LeftTrial, trial_in}
use Rattle.trial_runs.specs.InPlace.{IsWorld, Enters}
use Rattle.trial_runs.proofs.Worlds.{is_encoding}
use Rattle.trial_runs.proofs.OneTurn.{state}

-- ---- what the joins left
module _ (l : List ℤ) where
  pub joins-refused : (refusal : Refusal) (e : Turn Trying ℕ) → Enters e (Err refusal) l → e ≡ stop (number_of refusal)
  joins-refused refusal (more t) h = absurd h
  joins-refused refusal (stop k) h = ap stop (sym h)

  pub joins-accepted : (players : List Player) (e : Turn Trying ℕ) → Enters e (Ok players) l → IsWorld l × (e ≡ more (state l players))
  joins-accepted players (more t) h = (h.0, ap more h.1)
  joins-accepted players (stop k) h = absurd h

-- ---- the refusals in their order
module _ (s : Sides) (ts : List ℕ) (joins targets tunings : List ℤ) (steps : ℤ) (result : List ℤ) where
  abbrev answer : LeftTrial
  answer = trial_in seats s ts joins targets tunings steps result

  pub not_whole : are_whole seats (length joins) (length targets) (length tunings) (length result) ≡ false → answer ≡ record { number = bad_length; result = result }
  unfolding trial_in
  not_whole e = rw e

  module _ (whole : are_whole seats (length joins) (length targets) (length tunings) (length result) ≡ true) where
    pub no_map : is_map s ts ≡ false → answer ≡ record { number = bad_map; result = result }
    unfolding trial_in
    no_map e = rw (whole, e)

    module _ (map-there : is_map s ts ≡ true) where
      pub no-trial : (trial_fault tunings steps ≡ 0 → ⊥) → answer ≡ record { number = trial_fault tunings steps; result = result }
      unfolding trial_in
      no-trial e = rw (whole, map-there, ne_eqb (trial_fault tunings steps) 0 e)

      module _ (fits : trial_fault tunings steps ≡ 0) where
        pub by-join : (k : ℕ) → enter_all seats s ts (entrants joins targets) (nobody_yet seats) ≡ stop k → answer ≡ record { number = k; result = result }
        unfolding trial_in trial
        by-join k e = rw (whole, map-there, eq-eqb (trial_fault tunings steps) 0 fits, e)

        pub by_runs : (t : Trying) → enter_all seats s ts (entrants joins targets) (nobody_yet seats) ≡ more t → answer ≡ record { number = 0; result = each tried_numbers (map (λ zs. tried seats s ts (count steps) (tuned_to zs t)) (tuning_rows tunings)) }
        unfolding trial_in trial
        by_runs t e = rw (whole, map-there, eq-eqb (trial_fault tunings steps) 0 fits, e)

-- ---- the next row
pub row_on : {A : Type 0} (f : A → List ℤ) (xs : List A) (x : A) (i at next : ℕ) (d e r : List ℤ) → i < length xs → at ≤ length d → take at d ≡ each f (take i xs) → r ≡ f (get_or xs i x) → e ≡ put d at r → next ≡ at + length r → take next e ≡ each f (take (i + 1) xs)
row_on f xs x i at next d e r h g q u t n =
    ap (take next) t
    ∙ take_put d at r next n g
    ∙ ap₂ (λ (a b : List ℤ). a ++ b) q u
    ∙ sym (each_last f (take i xs) (get_or xs i x))
    ∙ ap (each f) (sym (take-suc xs i x h) ∙ ap (λ (j : ℕ). take j xs) (sym (add-one i)))

-- ---- what the checks say

-- the lengths of buffers that fit each other
pub record Wholes (joins targets tunings result : ℕ) : Type 0 where
  pub aims : targets ≡ target_count * (joins / join_count)
  pub whole : tunings % tuning_count ≡ 0
  pub rows : result ≡ row_count seats * (tunings / tuning_count)

pub are_whole_lem : (joins targets tunings result : ℕ) → are_whole seats joins targets tunings result ≡ true → Wholes joins targets tunings result
unfolding are_whole
are_whole_lem joins targets tunings result e =
    let a = eqb (joins % join_count) 0 in
    let b = eqb targets (target_count * (joins / join_count)) in
    let c = eqb (tunings % tuning_count) 0 in
    let d = eqb result (row_count seats * (tunings / tuning_count)) in
    let x = both (a && b && c) d e in
    let y = both (a && b) c x.0 in
    let z = both a b y.0 in
    record { aims = eqb-true _ _ z.1; whole = eqb-true _ _ y.1; rows = eqb-true _ _ x.1 }

pub few_steps : (l : List ℤ) (z : ℤ) → trial_fault l z ≡ 0 → count z ≤ 3000
unfolding trial_fault is_trial
few_steps l z = by (is_trial (tunings_in l) z) (have_holds (tuning_rows l)) refl
  where
    t : ℕ
    t = tunings_in l

    go : (y : ℤ) → is_steps y ≡ true → count y ≤ 3000
    go (pos m) q = leb-true m 3000 q
    go (negsuc m) q = omega arith

    by : (b d : Bool) → is_trial t z ≡ b → cond b (cond d 0 bad_hold) bad_trial ≡ 0 → count z ≤ 3000
    by true d e q = go z (both (leb 1 t && leb t 8) (is_steps z) e).1
    by false d e q = absurd (omega (arith, q))

-- ---- a fresh world
pub fresh_is : (m : List ℤ) → m ≡ encoding (fresh seats) → IsWorld m × (decoding seats m ≡ fresh seats)
fresh_is m f =
    let h : Settled seats (fresh seats) = after_settled seats (record { width = 0; height = 0 }) [] [] in
    (subst IsWorld (sym f) (is_encoding (fresh seats) h), ap (decoding seats) f ∙ decoding-encoding seats (fresh seats) h)
