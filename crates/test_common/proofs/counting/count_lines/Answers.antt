use Rattle.std.proofs.Common.{rules, of_calls, arith, ◌≡◌, ℕ, ◌+◌, ◌-◌, ◌*◌, ◌%◌, ◌^◌, ◌<◌, ◌≤◌, suc, Bool, true, false, if◌then◌else◌, List, [], ◌++◌, length, sym, ap, ap₂, ◌∙◌}
use Rattle.std.specs.declared.option.Option.{Option}
use Rattle.std.specs.Io.KnownBytes.{Appends, Consumes}
use Rattle.std.proofs.KnownBytes.{Appends-nil, Appends-trans, Consumes-nil, Consumes-trans}
use Rattle.std.proofs.lemmas.List.{length-append, length-replicate}
use Rattle.std.proofs.lemmas.Result.{MatchResult-from_err, IfOk-from_err}
use Rattle.std.proofs.Math.Nat.{mul-suc, mul-zero}
use Rattle.test_common.specs.Counts.{counted}
use Rattle.test_common.specs.declared.counts.Counts.{Counts}
use Rattle.test_common.specs.declared.counts.Outcome.TheVariants.{End, Agrees, Differs}
use Rattle.test_common.proofs.counting.count_lines.Invariants.{Told, Taken}
use Rattle.test_common.proofs.counting.count_lines.Goals.{then-branch+in_ok-outcome, else-branch}
use Rattle.test_common.proofs.counting.count_lines.Goals as goal

-- one line more, and one more that is printed
one_more : (long n m : ℕ) → m ≤ n → long * (n - m) + long ≡ long * (n + 1 - m)
one_more long n m h =
    let e : suc (n - m) ≡ n + 1 - m = omega arith in
    sym (mul-suc long (n - m)) ∙ ap (λ k. long * k) e

told_line : (long n : ℕ) (c : Counts) (a b d : Option (List ℕ)) (line : List ℕ) (agrees : Bool) → n < 65536 → length line ≡ long → Told long n c a b → Appends b d (if agrees then [] else line) → Told long (n + 1) (counted c (if agrees then Agrees else Differs)) a d
unfolding counted
told_line long n c a b d line true h e (g, l, (text, p, q)) w =
    let more : (c.lines + 1) % 2 ^ 64 ≡ c.lines + 1 = omega arith in
    let well : (c.good + 1) % 2 ^ 64 ≡ c.good + 1 = omega arith in
    let left : c.lines - c.good ≡ c.lines + 1 - (c.good + 1) = omega arith in
    rw (more, well) (omega arith, omega arith, (text ++ [], length-append text [] ∙ omega (arith, p) ∙ ap (λ k. long * k) left, Appends-trans a b d text [] q w))
told_line long n c a b d line false h e (g, l, (text, p, q)) w =
    let more : (c.lines + 1) % 2 ^ 64 ≡ c.lines + 1 = omega arith in
    rw more (omega arith, omega arith, (text ++ line, length-append text line ∙ ap₂ ◌+◌ p e ∙ one_more long c.lines c.good g, Appends-trans a b d text line q w))

told_end : (long n : ℕ) (c : Counts) (a b : Option (List ℕ)) → Told long n c a b → Told long (n + 1) (counted c End) a b
unfolding counted
told_end long n c a b (g, l, t) = (g, omega arith, t)

taken_more : (long n : ℕ) (a b d : Option (List ℕ)) (line text : List ℕ) → n < 65536 → length line ≡ long → long * n ≤ length text → Consumes a b text → Consumes b d line → (all : List ℕ) × (long * ((n + 1) % 2 ^ 64) ≤ length all) × Consumes a d all
taken_more long n a b d line text h e p q w =
    let more : (n + 1) % 2 ^ 64 ≡ suc n = omega arith in
    let l = length-append text line in
    let m = mul-suc long n in
    rw more (text ++ line, omega (arith, p, l, m, e), Consumes-trans a b d text line q w)

taken_line : (long : ℕ) (c : Counts) (a b d : Option (List ℕ)) (line : List ℕ) (agrees : Bool) → c.lines < 65536 → length line ≡ long → Taken long c a b → Consumes b d line → Taken long (counted c (if agrees then Agrees else Differs)) a d
unfolding counted
taken_line long c a b d line true h e (text, p, q) w = taken_more long c.lines a b d line text h e p q w
taken_line long c a b d line false h e (text, p, q) w = taken_more long c.lines a b d line text h e p q w

taken_end : (long : ℕ) (c : Counts) (a b d : Option (List ℕ)) (front : List ℕ) → Taken long c a b → Consumes b d front → Taken long (counted c End) a d
unfolding counted
taken_end long c a b d front (text, p, q) w =
    let l = length-append text front in
    (text ++ front, omega (arith, p, l), Consumes-trans a b d text front q w)

pub loop-init : goal.loop-init
loop-init g c = rw c.new-counts.ensures record { callable = c.requires.callable; told = (omega arith, omega arith, ([], sym (mul-zero g.row.LINE), Appends-nil _)); taken = ([], rw (mul-zero g.row.LINE) (omega arith), Consumes-nil _) }

pub loop-preserved : goal.loop-preserved
loop-preserved g c =
    let contents = g.W.Write.contents in
    let told = c.loop.invariant.told in
    rw c.with-counts.ensures (elim c.if-branch.branch [
      | then-branch+in_ok-outcome w ↦ record {
        callable = rw w.agrees-is (search (of_calls, rules));
        told = rw (w.outcome-is, w.output-is, w.in_ok-outcome.ensures.outcome) (told_line g.row.LINE c.loop.counter c.loop.counts _ _ _ _ w.agrees.result c.loop-test.true (search (rules, length-replicate)) told w.in_ok-outcome.ensures.printed);
        taken = rw (w.outcome-is, w.in_ok-outcome.ensures.outcome) (taken_line g.row.LINE c.loop.counts _ _ _ _ w.agrees.result (omega (arith, told.1, c.loop-test.true)) (search (rules, length-replicate)) c.loop.invariant.taken (c.in_ok-read_line.ensures.there w.if-branch.true));
      }
      | else-branch w ↦ record {
        callable = rw w.agrees-is c.loop.invariant.callable;
        told = rw (w.outcome-is, w.output-is) (told_end g.row.LINE c.loop.counter c.loop.counts _ _ told);
        taken = rw w.outcome-is (taken_end g.row.LINE c.loop.counts _ _ _ _ c.loop.invariant.taken c.in_ok-read_line.ensures.read.2);
      }
    ])

pub returns-in_err-outcome-clause-err : goal.returns-in_err-outcome-clause-err
returns-in_err-outcome-clause-err g c =
    let contents = g.W.Write.contents in
    let (text, _, p) = c.loop.invariant.told.2 in
    let (n, h, q) = c.in_err-outcome.ensures.err in
    MatchResult-from_err c.from_residual-in_err-outcome.result _ _ c.from_residual-in_err-outcome.ensures.0 (λ _. (_, Appends-trans _ _ _ _ _ p q))

pub returns-in_err-read_line-clause-read : goal.returns-in_err-read_line-clause-read
returns-in_err-read_line-clause-read g c =
    let (text, _, p) = c.loop.invariant.taken in
    let (n, h, q) = c.in_err-read_line.ensures.err in
    (_, IfOk-from_err _ _ c.from_residual.ensures.0, Consumes-trans _ _ _ _ _ p q)

pub returns-in_err-outcome-clause-read : goal.returns-in_err-outcome-clause-read
returns-in_err-outcome-clause-read g c =
    let (text, _, p) = c.loop.invariant.taken in
    let (n, h, q) = c.in_ok-read_line.ensures.read in
    (_, IfOk-from_err _ _ c.from_residual-in_err-outcome.ensures.0, Consumes-trans _ _ _ _ _ p q)
