use Prim.Native.Nat.{ℕ, ◌-◌, min}
use mathlib.Core.Bool.{Bool, true, false, true≢false}
use mathlib.Core.Path.{◌≡◌, refl, sym, ap, ◌∙◌}
use mathlib.Core.List.{List}
use native.Mathlib.Omega.{arith}
use lib.Dec.{leb}
use lib.ListN.{length, take, drop, drop_of_length-le}
use borrow.Author.Tests.{leb-true, leb-false}
use Rattle.std.proofs.lemmas.Slice.Eq.{starts_is}
use Rattle.std.proofs.lemmas.List.{take_rest}
use Rattle.std.proofs.lemmas.Bool.Decides.{Decides-eqb}
use Rattle.text_decimal.proofs.Places.{stands}
use Rattle.text_map.specs.Reading.{NameAt}
use Rattle.text_map.proofs.name.read_name.Goals as goal

-- the bytes from a place on, which are none past the end of the text
tail : (s : List ℕ) (at m : ℕ) → m ≡ min at (length s) → take (length s - m) (drop m s) ≡ drop at s
tail s at m e = take_rest s m ∙ by (leb at (length s)) refl
  where
    by : (t : Bool) → leb at (length s) ≡ t → drop m s ≡ drop at s
    by true t = let h = leb-true at (length s) t in ap (λ (k : ℕ). drop k s) (let k : m ≡ at = omega arith in k)
    by false t = let h = leb-false at (length s) t in drop_of_length-le s (omega arith) ∙ sym (drop_of_length-le s (omega arith))

pub returns-then-starts_with : goal.returns-then-starts_with
unfolding NameAt
returns-then-starts_with c =
    let name = c.args.name.now in
    let text = c.args.text.now in
    let is = (starts_is Decides-eqb _ name _ c.starts_with.ensures.value).0 c.if-starts_with.true in
    stands name text _ c.args.at (sym (tail text c.args.at c.min.result c.min.ensures) ∙ is)

pub returns-else-starts_with : goal.returns-else-starts_with
unfolding NameAt
returns-else-starts_with c = λ rest e.
    let name = c.args.name.now in
    let text = c.args.text.now in
    let is = (starts_is Decides-eqb _ name _ c.starts_with.ensures.value).1 rest (tail text c.args.at c.min.result c.min.ensures ∙ e) in
    true≢false (sym is ∙ c.if-starts_with.false)
