-- What is printed one after the other is one text; a write that fails leaves a front of it.
use Rattle.std.proofs.Common.{ℕ, ◌+◌, ◌≤◌, List, [], ◌++◌, ◌≡◌, length, take, sym, ap, ◌∙◌, subst, append_assoc, append-nil, codes, decimal}
use Rattle.std.specs.declared.option.Option.{Option}
use Rattle.std.specs.Io.KnownBytes.{Appends}
use Rattle.std.proofs.KnownBytes.{Appends-nil, Appends-trans}
use Rattle.std.proofs.Math.Seq.{take-append-add}
use Rattle.std.proofs.lemmas.List.{take-append-le}
use Rattle.std.proofs.lemmas.Result.{MatchResult-from_err}
use Rattle.test_common.specs.Counts.{counts_line}
use Rattle.test_common.proofs.counts.Counts.print.Goals as goal

abbrev of_text : List ℕ
of_text = codes " of "

abbrev agree_text : List ℕ
agree_text = codes " agree\n"

-- the parts of the line, the last ones first
parts : (a b c d : List ℕ) → ((a ++ b) ++ c) ++ d ≡ a ++ (b ++ (c ++ d))
parts a b c d = append_assoc (a ++ b) c d ∙ append_assoc a b (c ++ d)

-- what a write of n bytes leaves is a front of the whole
front : (done now rest : List ℕ) (n : ℕ) → n ≤ length now → done ++ take n now ≡ take (length done + n) (done ++ (now ++ rest))
front done now rest n h = sym (take-append-add done (now ++ rest) n ∙ ap (λ l. done ++ l) (take-append-le n now rest h))

stopped : (a b c : Option (List ℕ)) (done now rest all : List ℕ) (n : ℕ) → done ++ (now ++ rest) ≡ all → n ≤ length now → Appends a b done → Appends b c (take n now) → (m : ℕ) × Appends a c (take m all)
stopped a b c done now rest all n e h p q = (length done + n, subst (Appends a c) (front done now rest n h ∙ ap (take (length done + n)) e) (Appends-trans a b c done (take n now) p q))

pub returns-in_err-print_decimal-clause-err : goal.returns-in_err-print_decimal-clause-err
unfolding counts_line
returns-in_err-print_decimal-clause-err g c =
    let contents = g.W.Write.contents in
    let (n, h, p) = c.in_err-print_decimal.ensures.err in
    let good = decimal c.args.self.good in
    let lines = decimal c.args.self.lines in
    let left = stopped (contents c.args.output.now) (contents c.args.output.now) (contents c.print_decimal.new.output) [] good (of_text ++ (lines ++ agree_text)) (((good ++ of_text) ++ lines) ++ agree_text) n (sym (parts good of_text lines agree_text)) h (Appends-nil _) p in
    MatchResult-from_err c.from_residual.result _ _ c.from_residual.ensures.0 (λ _. left)

pub returns-in_err-write_full-clause-err : goal.returns-in_err-write_full-clause-err
unfolding counts_line
returns-in_err-write_full-clause-err g c =
    let contents = g.W.Write.contents in
    let (n, h, p) = c.in_err-write_full.ensures.err in
    let good = decimal c.args.self.good in
    let lines = decimal c.args.self.lines in
    let left = stopped (contents c.args.output.now) (contents c.print_decimal.new.output) (contents c.write_full.new.output) good of_text (lines ++ agree_text) (((good ++ of_text) ++ lines) ++ agree_text) n (sym (parts good of_text lines agree_text)) h c.in_ok-print_decimal.ensures.printed p in
    MatchResult-from_err c.from_residual-in_err-write_full.result _ _ c.from_residual-in_err-write_full.ensures.0 (λ _. left)

pub returns-in_err-print_decimal-2-clause-err : goal.returns-in_err-print_decimal-2-clause-err
unfolding counts_line
returns-in_err-print_decimal-2-clause-err g c =
    let contents = g.W.Write.contents in
    let (n, h, p) = c.in_err-print_decimal-2.ensures.err in
    let good = decimal c.args.self.good in
    let lines = decimal c.args.self.lines in
    let two = Appends-trans (contents c.args.output.now) (contents c.print_decimal.new.output) (contents c.write_full.new.output) good of_text c.in_ok-print_decimal.ensures.printed c.in_ok-write_full.ensures.bytes in
    let left = stopped (contents c.args.output.now) (contents c.write_full.new.output) (contents c.print_decimal-2.new.output) (good ++ of_text) lines agree_text (((good ++ of_text) ++ lines) ++ agree_text) n (sym (append_assoc (good ++ of_text) lines agree_text)) h two p in
    MatchResult-from_err c.from_residual-in_err-print_decimal-2.result _ _ c.from_residual-in_err-print_decimal-2.ensures.0 (λ _. left)

pub returns-in_err-write_full-2-clause-err : goal.returns-in_err-write_full-2-clause-err
unfolding counts_line
returns-in_err-write_full-2-clause-err g c =
    let contents = g.W.Write.contents in
    let (n, h, p) = c.in_err-write_full-2.ensures.err in
    let good = decimal c.args.self.good in
    let lines = decimal c.args.self.lines in
    let two = Appends-trans (contents c.args.output.now) (contents c.print_decimal.new.output) (contents c.write_full.new.output) good of_text c.in_ok-print_decimal.ensures.printed c.in_ok-write_full.ensures.bytes in
    let three = Appends-trans (contents c.args.output.now) (contents c.write_full.new.output) (contents c.print_decimal-2.new.output) (good ++ of_text) lines two c.in_ok-print_decimal-2.ensures.printed in
    let left = stopped (contents c.args.output.now) (contents c.print_decimal-2.new.output) (contents c.write_full-2.new.output) ((good ++ of_text) ++ lines) agree_text [] (((good ++ of_text) ++ lines) ++ agree_text) n (ap (λ l. ((good ++ of_text) ++ lines) ++ l) (append-nil agree_text)) h three p in
    MatchResult-from_err c.from_residual-in_err-write_full-2.result _ _ c.from_residual-in_err-write_full-2.ensures.0 (λ _. left)

pub returns-clause-printed : goal.returns-clause-printed
unfolding counts_line
returns-clause-printed g c =
    let contents = g.W.Write.contents in
    let good = decimal c.args.self.good in
    let lines = decimal c.args.self.lines in
    let two = Appends-trans (contents c.args.output.now) (contents c.print_decimal.new.output) (contents c.write_full.new.output) good of_text c.in_ok-print_decimal.ensures.printed c.in_ok-write_full.ensures.bytes in
    let three = Appends-trans (contents c.args.output.now) (contents c.write_full.new.output) (contents c.print_decimal-2.new.output) (good ++ of_text) lines two c.in_ok-print_decimal-2.ensures.printed in
    Appends-trans (contents c.args.output.now) (contents c.print_decimal-2.new.output) (contents c.write_full-2.new.output) ((good ++ of_text) ++ lines) agree_text three c.in_ok-write_full-2.ensures.bytes
