use Prim.Native.Nat.{ℕ, suc, ◌+◌, ◌*◌, ◌<◌}
use mathlib.Core.Bool.{Bool, ◌&&◌}
use mathlib.Core.List.{List, [], ◌∷◌}
use mathlib.Core.Path.{◌≡◌, refl, sym, ap, ◌∙◌, subst}
use native.Mathlib.Nat.{div-add-mod'}
use native.Mathlib.Numerals.{add-one}
use native.Mathlib.Omega.{arith}
use lib.IntN.{ℤ, pos}
use lib.ListN.{length, take, drop, get_or}
use lib.Seq.{get_or-take, get_or-drop, drop-cons, drop-length}
use Rattle.game_records.proofs.Bits.{again}
use Rattle.game_tuning.specs.Tuning.{tuning_count, hook_hold, is_hold}
use Rattle.world_numbers.proofs.RowsIn.{row_in, rows_long}
use Rattle.trial_rule.specs.Calls.{tunings_in, tuning_rows, has_hold, have_holds}
use Rattle.trial_runs.proofs.checks.have_holds.Goals.{After-is_hold}
use Rattle.trial_runs.proofs.checks.have_holds.Goals as goal

-- where the hold of the k-th tuning stands
within : (l : List ℤ) (k : ℕ) → k < tunings_in l → tuning_count * k + hook_hold < length l
within l k h = let d = div-add-mod' (length l) tuning_count in omega (arith, d, h)

module _ (l : List ℤ) (k : ℕ) (h : k < tunings_in l) where
  -- the first of the tunings that are left, and the rest
  splits : drop k (tuning_rows l) ≡ get_or (tuning_rows l) k [] ∷ drop (suc k) (tuning_rows l)
  splits = drop-cons (tuning_rows l) k [] (subst (λ (m : ℕ). k < m) (sym (rows_long (take tuning_count) tuning_count (tunings_in l) l)) h)

  held : has_hold (get_or (tuning_rows l) k []) ≡ is_hold (get_or l (tuning_count * k + hook_hold) (pos 0))
  held =
      ap has_hold (row_in (take tuning_count) tuning_count (tunings_in l) k l [] h)
      ∙ ap is_hold (get_or-take tuning_count (drop (tuning_count * k) l) hook_hold (pos 0) (omega arith) ∙ get_or-drop (tuning_count * k) l hook_hold (pos 0))

  next : have_holds (drop k (tuning_rows l)) ≡ is_hold (get_or l (tuning_count * k + hook_hold) (pos 0)) && have_holds (drop (suc k) (tuning_rows l))
  next = ap have_holds splits ∙ ap (λ (b : Bool). b && have_holds (drop (suc k) (tuning_rows l))) held

pub loop-k-init : goal.loop-k-init
loop-k-init c = (omega arith, refl)

pub overflow_mul-k : goal.overflow_mul-k
overflow_mul-k c = let d = within c.args.tunings.now c.loop-k.k c.loop-k-test.true in omega (arith, d)

pub overflow_add-k : goal.overflow_add-k
overflow_add-k c = let d = within c.args.tunings.now c.loop-k.k c.loop-k-test.true in omega (arith, d)

pub offset_bounds-tunings-k : goal.offset_bounds-tunings-k
offset_bounds-tunings-k c = let d = within c.args.tunings.now c.loop-k.k c.loop-k-test.true in omega (arith, d)

pub bounds-tunings-k : goal.bounds-tunings-k
bounds-tunings-k c = within c.args.tunings.now c.loop-k.k c.loop-k-test.true

-- what the code has asked of the k-th tuning
asked : (c : After-is_hold) → c.is_hold.result ≡ is_hold (get_or c.args.tunings.now (tuning_count * c.loop-k.k + hook_hold) (pos 0))
asked c = c.is_hold.ensures ∙ ap is_hold (again c.is_hold-arg-1.given)

pub returns-then-not-is_hold : goal.returns-then-not-is_hold
returns-then-not-is_hold c =
    let l = c.loop-k in
    let a = c.args.tunings.now in
    sym (sym l.invariant.1 ∙ next a l.k c.loop-k-test.true ∙ ap (λ (b : Bool). b && have_holds (drop (suc l.k) (tuning_rows a))) (sym (asked c.before) ∙ c.if-not-is_hold.true))

pub overflow_step-k : goal.overflow_step-k
overflow_step-k c = let d = within c.args.tunings.now c.loop-k.k c.loop-k-test.true in omega (arith, d)

pub loop-k-smaller : goal.loop-k-smaller
loop-k-smaller c = let h = c.loop-k-test.true in omega (arith, h)

pub loop-k-preserved : goal.loop-k-preserved
loop-k-preserved c =
    let l = c.loop-k in
    let a = c.args.tunings.now in
    let h = c.loop-k-test.true in
    (omega (arith, h), ap (λ (j : ℕ). have_holds (drop j (tuning_rows a))) (add-one l.k) ∙ sym (next a l.k h ∙ ap (λ (b : Bool). b && have_holds (drop (suc l.k) (tuning_rows a))) (sym (asked c.before) ∙ c.if-not-is_hold.false)) ∙ l.invariant.1)

pub returns : goal.returns
returns c =
    let l = c.loop-k in
    let a = c.args.tunings.now in
    let n = rows_long (take tuning_count) tuning_count (tunings_in a) a in
    let e : l.k ≡ length (tuning_rows a) = omega (arith, n, l.invariant.0, c.loop-k-test.false) in
    sym (sym l.invariant.1 ∙ ap (λ (j : ℕ). have_holds (drop j (tuning_rows a))) e ∙ ap have_holds (drop-length (tuning_rows a)))
