-- The rows of an accepted trial are those of its runs. Assumes nothing.
use Prim.Native.Nat.{ℕ, zero, suc, ◌*◌, ◌<◌}
use mathlib.Core.Bool.{Bool, true, false, cond}
use mathlib.Core.List.{List, [], ◌∷◌, ◌++◌, map}
use mathlib.Core.Path.{◌≡◌, refl, sym, ap, ap₂, ◌∙◌}
use native.Mathlib.Nat.{mul-suc, add_comm}
use native.Mathlib.Omega.{arith}
use lib.Dec.{eqb}
use lib.IntN.{ℤ}
use lib.ListN.{length, take, drop, get_or, length-map, get_or-map}
use lib.Seq.{take_at, drop_at, drop-drop}
use borrow.Author.Tests.{eqb-false}
use Rattle.base_turns.specs.Turns.{Turn, more, stop, next}
use Rattle.game_refusals.specs.Refusals.{bad_map, bad_length}
use Rattle.game_tuning.specs.Tuning.{tuning_count}
use Rattle.map_tiles.specs.Map.{is_map, count}
use Rattle.map_tiles.specs.declared.tiles.Sides.{Sides}
use Rattle.world_numbers.specs.Encoding.{each}
use Rattle.world_numbers.proofs.RowsIn.{row_in, rows_long}
use Rattle.trial_rule.specs.Trial.{Trying, tried, enter_all, nobody_yet, tuned_to, trial}
use Rattle.trial_rule.specs.Calls.{row_count, tunings_in, are_whole, entrants, tuning_rows, tried_numbers, trial_fault, LeftTrial, trial_left, trial_in}
use Rattle.trial_rule.specs.Laws.{row_of, Tells, RowsTell, Independent}
use Rattle.trial_rule.specs.declared.Tried.{Tried}
use Rattle.trial_rule.proofs.Rows.{tried_long}
use Rattle.trial_rule.proofs.Runs.{state_full, ended}
use Rattle.trial_rule.proofs.Joins.{refusal_counts, all_sized}

-- one of rows that are all of one length
pub row_at : {A : Type 0} (f : A → List ℤ) (c : ℕ) (x : A) (xs : List A) → ((k : ℕ) → k < length xs → length (f (get_or xs k x)) ≡ c) → (k : ℕ) → k < length xs → row_of c k (each f xs) ≡ f (get_or xs k x)
unfolding each
row_at f c x [] long k h = absurd (omega arith)
row_at f c x (y ∷ ys) long zero h = let e : c * 0 ≡ 0 = omega arith in ap (λ (i : ℕ). take c (drop i (f y ++ each f ys))) e ∙ take_at (f y) (each f ys) c (long 0 (omega arith))
row_at f c x (y ∷ ys) long (suc k) h =
    ap (λ (i : ℕ). take c (drop i (f y ++ each f ys))) (mul-suc c k ∙ add_comm (c * k) c)
    ∙ ap (take c) (sym (drop-drop (c * k) c (f y ++ each f ys)) ∙ ap (drop (c * k)) (drop_at (f y) (each f ys) c (long 0 (omega arith))))
    ∙ row_at f c x ys (λ i l. long (suc i) (omega arith)) k (omega arith)

module _ (n : ℕ) (s : Sides) (ts : List ℕ) (joins targets tunings : List ℤ) (steps : ℤ) (result : List ℤ) where
  -- the run of a tuning from the joins t
  abbrev run_of : Trying → List ℤ → Tried
  run_of t zs = tried n s ts (count steps) (tuned_to zs t)

  pub run_full : (t : Trying) → enter_all n s ts (entrants joins targets) (nobody_yet n) ≡ more t → (zs : List ℤ) → length (run_of t zs).players ≡ n
  run_full t q zs = ap length (ended n s ts (tuned_to zs t) (count steps)).players ∙ state_full n s ts (tuned_to zs t) (all_sized n s ts (entrants joins targets) t q).players (run_of t zs).steps

  rows : (t : Trying) → enter_all n s ts (entrants joins targets) (nobody_yet n) ≡ more t → (i : ℕ) → i < tunings_in tunings → row_of (row_count n) i (each tried_numbers (map (run_of t) (tuning_rows tunings))) ≡ tried_numbers (run_of t (row_of tuning_count i tunings))
  rows t q i l =
      let zss = tuning_rows tunings in
      let m : length (map (run_of t) zss) ≡ tunings_in tunings = length-map zss (run_of t) ∙ rows_long (take tuning_count) tuning_count (tunings_in tunings) tunings in
      let at : (k : ℕ) → get_or (map (run_of t) zss) k (run_of t []) ≡ run_of t (get_or zss k []) = λ k. get_or-map (run_of t) zss k [] in
      row_at tried_numbers (row_count n) (run_of t []) (map (run_of t) zss) (λ k h. tried_long n (get_or (map (run_of t) zss) k (run_of t [])) (ap (λ (r : Tried). length r.players) (at k) ∙ run_full t q (get_or zss k []))) i (omega (arith, m, l))
      ∙ ap tried_numbers (at i ∙ ap (run_of t) (row_in (take tuning_count) tuning_count (tunings_in tunings) i tunings [] l))

  -- an accepted trial's joins were accepted
  told : (a : Turn Trying ℕ) → enter_all n s ts (entrants joins targets) (nobody_yet n) ≡ a → let b = trial_left result (next (λ t. more (map (run_of t) (tuning_rows tunings))) a) in b.number ≡ 0 → Tells n s ts joins targets tunings steps b.result
  told (more t) e z = record { start = t; accepted = e; rows = rows t e }
  told (stop k) e z = absurd (refusal_counts n s ts (entrants joins targets) (nobody_yet n) k e z)

pub rows_tell : (n : ℕ) → RowsTell n
unfolding trial_in trial
rows_tell n s ts joins targets tunings steps result = go (are_whole n (length joins) (length targets) (length tunings) (length result)) (is_map s ts) (eqb (trial_fault tunings steps) 0) refl
  where
    left : LeftTrial
    left = trial_left result (next (λ t. more (map (λ zs. tried n s ts (count steps) (tuned_to zs t)) (tuning_rows tunings))) (enter_all n s ts (entrants joins targets) (nobody_yet n)))

    go : (a b c : Bool) → eqb (trial_fault tunings steps) 0 ≡ c → let l = cond a (cond b (cond c left (record { number = trial_fault tunings steps; result = result })) (record { number = bad_map; result = result })) (record { number = bad_length; result = result }) in l.number ≡ 0 → Tells n s ts joins targets tunings steps l.result
    go true true true e z = told n s ts joins targets tunings steps result (enter_all n s ts (entrants joins targets) (nobody_yet n)) refl z
    go true true false e z = absurd (eqb-false (trial_fault tunings steps) 0 e z)
    go true false c e z = absurd (omega (arith, z))
    go false b c e z = absurd (omega (arith, z))

-- joins that are accepted reach one state
pub same_start : {x y : Trying} → ◌≡◌ {A = Turn Trying ℕ} (more x) (more y) → x ≡ y
same_start r = cc

pub independent : (n : ℕ) → Independent n
independent n s ts joins targets steps tunings result other_tunings other_result i j p q h k e =
    let a = rows_tell n s ts joins targets tunings steps result p in
    let b = rows_tell n s ts joins targets other_tunings steps other_result q in
    let m : more a.start ≡ more b.start = sym a.accepted ∙ b.accepted in
    let t : a.start ≡ b.start = same_start m in
    a.rows i h ∙ ap₂ (λ (zs : List ℤ) (u : Trying). tried_numbers (tried n s ts (count steps) (tuned_to zs u))) e t ∙ sym (b.rows j k)
