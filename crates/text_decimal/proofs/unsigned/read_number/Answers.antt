use Prim.Native.Nat.{ℕ, ◌+◌, ◌-◌, ◌*◌, ◌≤◌, ◌<◌}
use mathlib.Core.Bool.{Bool, true, false, cond}
use mathlib.Core.Path.{◌≡◌, refl, sym, ap, ◌∙◌}
use mathlib.Core.List.{List, ◌∷◌}
use native.Mathlib.Omega.{arith}
use lib.Dec.{ltb}
use lib.ListN.{length, drop, get_or, drop_of_length-le}
use borrow.Author.Tests.{le-ltb, lt-ltb, eq-eqb, ne_eqb, ltb-false}
use borrow.Author.Rules.{rules}
use Rattle.std.specs.declared.option.Option.{Option}
use Rattle.std.specs.declared.option.Option.TheVariants.{None}
use Rattle.text_decimal.proofs.Places.{from}
use Rattle.text_decimal.proofs.Scan.{scan_number, more}
use Rattle.text_decimal.proofs.Told.{number_told}
use Rattle.text_decimal.proofs.unsigned.read_number.Goals as goal

-- the bytes at the first place, and at the loop's
first : (stop at b : ℕ) (text : List ℕ) → at < length text → b ≡ get_or text at 0 → scan_number stop at (drop at text) ≡ scan_number stop at (b ∷ drop (at + 1) text)
first stop at b text h e = ap (scan_number stop at) (from text at h ∙ ap (λ (x : ℕ). x ∷ drop (at + 1) text) (sym e))

here : (stop at n i : ℕ) (text : List ℕ) → scan_number stop at (drop at text) ≡ more stop n i (drop i text) → i < length text → scan_number stop at (drop at text) ≡ more stop n i (get_or text i 0 ∷ drop (i + 1) text)
here stop at n i text e h = e ∙ ap (more stop n i) (from _ _ h)

-- what follows the tests
module _ (b : ℕ) (r : Option (ℕ × ℕ)) where
  no_digit : (48 ≤ b → b ≤ 57 → ⊥) → cond (ltb b 48) None (cond (ltb 57 b) None r) ≡ None
  no_digit h = by (ltb b 48) (ltb 57 b) refl refl
    where
      by : (p q : Bool) → ltb b 48 ≡ p → ltb 57 b ≡ q → cond p None (cond q None r) ≡ None
      by true q e f = refl
      by false true e f = refl
      by false false e f = absurd (h (ltb-false b 48 e) (ltb-false 57 b f))

  digit : 48 ≤ b → b ≤ 57 → cond (ltb b 48) None (cond (ltb 57 b) None r) ≡ r
  digit h i = simp (le-ltb b 48 h, le-ltb 57 b i)

module _ (stop n i b : ℕ) (s : List ℕ) (goes : b ≡ stop → ⊥) (some : n ≡ 0 → ⊥) where
  more_off : (48 ≤ b → b ≤ 57 → ⊥) → more stop n i (b ∷ s) ≡ None
  more_off h = simp (ne_eqb b stop goes, ne_eqb n 0 some) (no_digit b _ h)

  more_high : 48 ≤ b → b ≤ 57 → 2147483648 < n * 10 + (b - 48) → more stop n i (b ∷ s) ≡ None
  more_high h k l = simp (ne_eqb b stop goes, ne_eqb n 0 some) (digit b _ h k ∙ simp (lt-ltb 2147483648 (n * 10 + (b - 48)) l))

  more_on : 48 ≤ b → b ≤ 57 → n * 10 + (b - 48) ≤ 2147483648 → more stop n i (b ∷ s) ≡ more stop (n * 10 + (b - 48)) (i + 1) s
  more_on h k l = simp (ne_eqb b stop goes, ne_eqb n 0 some) (digit b _ h k ∙ simp (le-ltb 2147483648 (n * 10 + (b - 48)) l))

pub returns-in_err-first : goal.returns-in_err-first
returns-in_err-first c = rw c.from_residual.ensures (number_told _ _ _ _ (search rules) (ap (scan_number _ _) (drop_of_length-le c.args.text.now c.in_err-first.ensures.lookup.3)))

pub returns-then-not-is_ascii_digit : goal.returns-then-not-is_ascii_digit
returns-then-not-is_ascii_digit c =
    let at = c.in_ok-first.ensures.lookup.3 in
    let no = c.if-not-is_ascii_digit.ensures.cases in
    number_told _ _ _ _ (search rules) (first _ _ _ _ at.0 (at.1 0) ∙ no_digit c.in_ok-first.field-0.now _ (λ p q. omega (arith, no)))

pub loop-i-init : goal.loop-i-init
loop-i-init c =
    let at = c.in_ok-first.ensures.lookup.3 in
    let is = c.if-not-is_ascii_digit.ensures.cases in
    (omega (arith, at.0), omega (arith, is.1), first _ _ _ _ at.0 (at.1 0) ∙ digit _ _ is.0 is.1)

pub returns-then-b-stop : goal.returns-then-b-stop
returns-then-b-stop c = number_told _ _ _ _ (search rules) (here _ _ _ _ _ c.loop-i.invariant.2 c.loop-i-test.true ∙ simp (eq-eqb _ _ c.if-b-stop.true))

pub returns-then-n-eq0 : goal.returns-then-n-eq0
returns-then-n-eq0 c = number_told _ _ _ _ (search rules) (here _ _ _ _ _ c.loop-i.invariant.2 c.loop-i-test.true ∙ simp (ne_eqb _ _ c.if-b-stop.false, eq-eqb _ _ c.if-n-eq0.true))

pub returns-then-not-is_ascii_digit-2 : goal.returns-then-not-is_ascii_digit-2
returns-then-not-is_ascii_digit-2 c = let no = c.if-not-is_ascii_digit-2.ensures.cases in number_told _ _ _ _ (search rules) (here _ _ _ _ _ c.loop-i.invariant.2 c.loop-i-test.true ∙ more_off _ _ _ _ _ c.if-b-stop.false c.if-n-eq0.false (λ p q. omega (arith, no)))

pub returns-then-m-gt2147483648 : goal.returns-then-m-gt2147483648
returns-then-m-gt2147483648 c = let is = c.if-not-is_ascii_digit-2.ensures.cases in number_told _ _ _ _ (search rules) (here _ _ _ _ _ c.loop-i.invariant.2 c.loop-i-test.true ∙ more_high _ _ _ _ _ c.if-b-stop.false c.if-n-eq0.false is.0 is.1 c.if-m-gt2147483648.true)

pub loop-i-preserved : goal.loop-i-preserved
loop-i-preserved c = let is = c.if-not-is_ascii_digit-2.ensures.cases in (search rules, search rules, here _ _ _ _ _ c.loop-i.invariant.2 c.loop-i-test.true ∙ more_on _ _ _ _ _ c.if-b-stop.false c.if-n-eq0.false is.0 is.1 c.if-m-gt2147483648.false)

pub returns : goal.returns
returns c = number_told _ _ _ _ (search rules) (c.loop-i.invariant.2 ∙ simp (drop_of_length-le c.args.text.now c.loop-i-test.false))
