use Prim.Native.Nat.{ℕ, ◌+◌, ◌<◌}
use mathlib.Core.Path.{◌≡◌, refl, sym, ap, ◌∙◌}
use mathlib.Core.Bool.{cond}
use mathlib.Core.List.{List, ◌∷◌}
use lib.IntN.{ℤ}
use lib.ListN.{length, drop, get_or, drop_of_length-le}
use mir.Syntax.{w32}
use mir.ValLaws.{to_z-of_z}
use borrow.Author.Tests.{le-ltb, lt-ltb, eq-eqb, ne_eqb}
use borrow.Author.Rules.{rules}
use Rattle.std.specs.declared.option.Option.{Option}
use Rattle.std.specs.declared.option.Option.TheVariants.{Some}
use Rattle.text_decimal.proofs.Places.{from}
use Rattle.text_decimal.proofs.Scan.{scan_number, scan_value, plus, minus}
use Rattle.text_decimal.proofs.Told.{number_read, number_scanned, value_told}
use Rattle.text_decimal.specs.Reading.{NumberAt}
use Rattle.text_decimal.proofs.signed.read_value.Goals as goal

-- with a minus sign at the place, and with none
module _ (stop at b : ℕ) (text : List ℕ) (r : Option (ℕ × ℕ)) (low : stop < 48) (within : at < length text) (is : b ≡ get_or text at 0) where
  minus-scanned : b ≡ 45 → NumberAt stop text (at + 1) r → scan_value stop at (drop at text) ≡ minus r
  minus-scanned e n =
      ap (scan_value stop at) (from text at within)
      ∙ simp (eq-eqb _ _ (sym is ∙ e)) (ap minus (number_scanned stop text (at + 1) r low n))

  plus_scanned : (b ≡ 45 → ⊥) → NumberAt stop text at r → scan_value stop at (drop at text) ≡ plus r
  plus_scanned e n =
      let f = from text at within in
      ap (scan_value stop at) f
      ∙ ap (λ t. cond t (minus (scan_number stop (at + 1) (drop (at + 1) text))) (plus (scan_number stop at (get_or text at 0 ∷ drop (at + 1) text)))) (ne_eqb _ _ (λ q. e (is ∙ q)))
      ∙ ap (λ l. plus (scan_number stop at l)) (sym f)
      ∙ ap plus (number_scanned stop text at r low n)

pub returns-in_err-get : goal.returns-in_err-get
returns-in_err-get c = rw c.from_residual.ensures (value_told _ _ _ _ (search rules) (ap (scan_value _ _) (drop_of_length-le c.args.text.now c.in_err-get.ensures.lookup.3)))

pub returns-in_err-n : goal.returns-in_err-n
returns-in_err-n c =
    let at = c.in_ok-get.ensures.lookup.3 in
    rw c.from_residual-in_err-n.ensures (value_told _ _ _ _ (search rules) (minus-scanned _ _ _ _ _ (search rules) at.0 (at.1 0) c.if-branch-eq45.true c.in_err-n.ensures))

pub returns-then-n-eq0 : goal.returns-then-n-eq0
returns-then-n-eq0 c =
    let at = c.in_ok-get.ensures.lookup.3 in
    value_told _ _ _ _ (search rules) (minus-scanned _ _ _ _ _ (search rules) at.0 (at.1 0) c.if-branch-eq45.true c.in_ok-n.ensures ∙ simp (eq-eqb _ _ c.if-n-eq0.true))

pub minus-requires : goal.minus-requires
minus-requires c = (search rules, (number_read _ _ _ _ _ refl c.in_ok-n.ensures).0)

pub returns-then-branch-eq45 : goal.returns-then-branch-eq45
returns-then-branch-eq45 c =
    let at = c.in_ok-get.ensures.lookup.3 in
    value_told _ _ _ _ (search rules) (
    minus-scanned _ _ _ _ _ (search rules) at.0 (at.1 0) c.if-branch-eq45.true c.in_ok-n.ensures
    ∙ simp (ne_eqb _ _ c.if-n-eq0.false)
    (ap (λ (z : ℤ). Some (z, c.in_ok-n.next)) (sym (to_z-of_z w32 _ (record { sfits = c.minus.type_inv }) ∙ c.minus.ensures)))
    )

pub returns-in_err-n-2 : goal.returns-in_err-n-2
returns-in_err-n-2 c =
    let at = c.in_ok-get.ensures.lookup.3 in
    rw c.from_residual-in_err-n-2.ensures (value_told _ _ _ _ (search rules) (plus_scanned _ _ _ _ _ (search rules) at.0 (at.1 0) c.if-branch-eq45.false c.in_err-n-2.ensures))

pub returns-then-n-ge2147483648 : goal.returns-then-n-ge2147483648
returns-then-n-ge2147483648 c =
    let at = c.in_ok-get.ensures.lookup.3 in
    value_told _ _ _ _ (search rules) (plus_scanned _ _ _ _ _ (search rules) at.0 (at.1 0) c.if-branch-eq45.false c.in_ok-n-2.ensures ∙ simp (le-ltb _ _ c.if-n-ge2147483648.true))

pub returns : goal.returns
returns c =
    let at = c.in_ok-get.ensures.lookup.3 in
    value_told _ _ _ _ (search rules) (plus_scanned _ _ _ _ _ (search rules) at.0 (at.1 0) c.if-branch-eq45.false c.in_ok-n-2.ensures ∙ simp (lt-ltb _ _ c.if-n-ge2147483648.false))
