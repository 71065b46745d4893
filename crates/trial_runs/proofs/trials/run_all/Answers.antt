use Prim.Native.Nat.{ℕ, ◌+◌, ◌*◌, ◌-◌, ◌≤◌, ◌<◌}
use mathlib.Core.List.{List, []}
use mathlib.Core.Path.{◌≡◌, refl, sym, ap, ◌∙◌}
use native.Mathlib.Nat.{div-add-mod'}
use native.Mathlib.Omega.{arith}
use lib.IntN.{ℤ}
use lib.ListN.{length, take, drop, get_or, length-drop, length-map, get_or-map}
use lib.Seq.{take_all, length-take-le}
use Rattle.game_tuning.specs.Tuning.{tuning_count}
use Rattle.map_tiles.specs.declared.tiles.Sides.{Sides}
use Rattle.character.specs.Tick.{seats}
use Rattle.world_numbers.specs.Encoding.{each}
use Rattle.world_numbers.proofs.RowsIn.{row_in, rows_long}
use Rattle.trial_rule.specs.Trial.{tried, tuned_to}
use Rattle.trial_rule.specs.Calls.{row_count, tunings_in, tuning_rows, tried_numbers}
use Rattle.trial_rule.specs.declared.Player.{Player}
use Rattle.trial_rule.specs.declared.Tried.{Tried}
use Rattle.trial_runs.proofs.OneTurn.{state}
use Rattle.trial_runs.proofs.Answers.{row_on}
use borrow.Author.Rules.{rules}
use Rattle.trial_runs.proofs.trials.run_all.Invariants.{runs}
use Rattle.trial_runs.proofs.trials.run_all.Goals as goal

runs_long : (start : List ℤ) (players : List Player) (s : Sides) (ts : List ℕ) (tunings : List ℤ) (m : ℕ) → length (runs start players s ts tunings m) ≡ tunings_in tunings
runs_long start players s ts tunings m = length-map (tuning_rows tunings) (λ zs. tried seats s ts m (tuned_to zs (state start players))) ∙ rows_long (take tuning_count) tuning_count (tunings_in tunings) tunings

-- the k-th is that of the k-th tuning
run_at : (start : List ℤ) (players : List Player) (s : Sides) (ts : List ℕ) (tunings : List ℤ) (m k : ℕ) → k < tunings_in tunings → get_or (runs start players s ts tunings m) k (tried seats s ts m (tuned_to [] (state start players))) ≡ tried seats s ts m (tuned_to (take tuning_count (drop (tuning_count * k) tunings)) (state start players))
run_at start players s ts tunings m k h =
    let f : List ℤ → Tried = λ zs. tried seats s ts m (tuned_to zs (state start players)) in
    get_or-map f (tuning_rows tunings) k [] ∙ ap f (row_in (take tuning_count) tuning_count (tunings_in tunings) k tunings [] h)

-- how far k tunings reach
tuning_within : (l : List ℤ) (k : ℕ) → k < tunings_in l → tuning_count * k + tuning_count ≤ length l
tuning_within l k h = let d = div-add-mod' (length l) tuning_count in omega (arith, d, h)

-- the part of the tunings that is lent to a run
tuning_part : (l : List ℤ) (k : ℕ) → tuning_count * k + tuning_count ≤ length l → let t = take (tuning_count * k + tuning_count - tuning_count * k) (drop (tuning_count * k) l) in (t ≡ take tuning_count (drop (tuning_count * k) l)) × (length t ≡ tuning_count)
tuning_part l k h =
    let n : tuning_count * k + tuning_count - tuning_count * k ≡ tuning_count = omega arith in
    let e = ap (λ (m : ℕ). take m (drop (tuning_count * k) l)) n in
    (e, ap length e ∙ length-take-le tuning_count (drop (tuning_count * k) l) (omega (arith, length-drop (tuning_count * k) l)))

pub loop-k-init : goal.loop-k-init
unfolding each
loop-k-init c = (omega arith, c.requires.3, refl)

pub overflow_mul-at : goal.overflow_mul-at
overflow_mul-at c = let d = tuning_within c.args.tunings.now c.loop-k.k c.loop-k-test.true in omega (arith, d)

pub overflow_add-at : goal.overflow_add-at
overflow_add-at c = let d = tuning_within c.args.tunings.now c.loop-k.k c.loop-k-test.true in omega (arith, d)

pub offset_bounds-tunings-at : goal.offset_bounds-tunings-at
offset_bounds-tunings-at c = let d = tuning_within c.args.tunings.now c.loop-k.k c.loop-k-test.true in omega (arith, d)

pub slice_bounds-run_tuning-count : goal.slice_bounds-run_tuning-count
slice_bounds-run_tuning-count c = let d = tuning_within c.args.tunings.now c.loop-k.k c.loop-k-test.true in omega (arith, d)

pub run_tuning-tried-requires : goal.run_tuning-tried-requires
run_tuning-tried-requires c =
    let a = c.args in
    let p = c.requires in
    let k = c.loop-k.k in
    let d = tuning_within a.tunings.now k c.loop-k-test.true in
    (p.0, p.1, (tuning_part a.tunings.now k d).1)

pub overflow_mul-k : goal.overflow_mul-k
overflow_mul-k c = let l = c.loop-k in omega (arith, l.invariant.1, c.loop-k-test.true)

pub copy-requires : goal.copy-requires
copy-requires c = let l = c.loop-k in let n : length c.tried_numbers-row.result ≡ row_count seats = search rules in omega (arith, n, l.invariant.1, c.loop-k-test.true)

pub overflow_step-k : goal.overflow_step-k
overflow_step-k c = let d = tuning_within c.args.tunings.now c.loop-k.k c.loop-k-test.true in omega (arith, d)

pub loop-k-smaller : goal.loop-k-smaller
loop-k-smaller c = let h = c.loop-k-test.true in omega (arith, h)

pub loop-k-preserved : goal.loop-k-preserved
loop-k-preserved c =
    let a = c.args in
    let l = c.loop-k in
    let h = c.loop-k-test.true in
    let r = c.tried_numbers-row in
    let v = c.run_tuning-tried in
    let y = c.copy in
    let n : length r.result ≡ row_count seats = search rules in
    let u = v.ensures ∙ ap (λ (zs : List ℤ). tried seats a.sides a.tiles.now a.steps (tuned_to zs (state a.start.now a.players))) (tuning_part a.tunings.now l.k (tuning_within a.tunings.now l.k h)).0 ∙ sym (run_at a.start.now a.players a.sides a.tiles.now a.tunings.now a.steps l.k h) in
    let m = runs_long a.start.now a.players a.sides a.tiles.now a.tunings.now a.steps in
    (omega arith, y.auto.numbers ∙ l.invariant.1, row_on tried_numbers (runs a.start.now a.players a.sides a.tiles.now a.tunings.now a.steps) _ l.k (row_count seats * l.k) (row_count seats * (l.k + 1)) l.res y.new.numbers r.result (omega (arith, m, h)) (omega (arith, l.invariant.1, h)) l.invariant.2 (r.ensures ∙ ap tried_numbers u) y.ensures (omega (arith, n)))

pub returns : goal.returns
returns c =
    let a = c.args in
    let l = c.loop-k in
    let h = c.loop-k-test.false in
    let rs = runs a.start.now a.players a.sides a.tiles.now a.tunings.now a.steps in
    let m = runs_long a.start.now a.players a.sides a.tiles.now a.tunings.now a.steps in
    sym (take_all (row_count seats * l.k) l.res (omega (arith, l.invariant.1, h))) ∙ l.invariant.2 ∙ ap (each tried_numbers) (take_all l.k rs (omega (arith, m, h)))
