-- Laws of a line that is put value by value. Assumes nothing.
use Prim.Native.Nat.{ℕ, suc, ◌+◌, ◌-◌, ◌≤◌, ◌<◌}
use mathlib.Core.Path.{◌≡◌, ap, ◌∙◌}
use mathlib.Core.List.{List, [], ◌∷◌, ◌++◌}
use native.Mathlib.Numerals.{add-one}
use native.Mathlib.Omega.{arith}
use lib.IntN.{ℤ, pos}
use lib.ListN.{length, take, get_or}
use lib.Seq.{take-suc, take_all}
use Rattle.text_decimal.specs.Decimal.{written}
use Rattle.text_decimal.specs.Lines.{end_byte, ended, line}
use Rattle.text_decimal.proofs.Lines.{front, front_more, front_line}

-- one value more
pub line_more : (zs : List ℤ) (i : ℕ) → i < length zs → front end_byte (length zs - (i + 1)) (take (i + 1) zs) ≡ front end_byte (length zs - i) (take i zs) ++ ended (written (get_or zs i (pos 0))) (end_byte (length zs - 1 - i))
line_more zs i h =
    let z : ℤ = get_or zs i (pos 0) in
    let r : length zs - (i + 1) ≡ length zs - 1 - i = omega arith in
    let more : take (i + 1) zs ≡ take i zs ++ (z ∷ []) = rw (add-one, take-suc zs i (pos 0) h) in
    let s : suc (length zs - 1 - i) ≡ length zs - i = omega arith in
    ap (λ (k : ℕ). front end_byte k (take (i + 1) zs)) r
    ∙ ap (front end_byte (length zs - 1 - i)) more
    ∙ front_more end_byte (length zs - 1 - i) (take i zs) z
    ∙ ap (λ (k : ℕ). front end_byte k (take i zs) ++ ended (written z) (end_byte (length zs - 1 - i))) s

-- all of them
pub line_whole : (zs : List ℤ) (i : ℕ) → i ≤ length zs → length zs ≤ i → front end_byte (length zs - i) (take i zs) ≡ line zs
line_whole zs i h g =
    let r : length zs - i ≡ 0 = omega arith in
    ap (λ (k : ℕ). front end_byte k (take i zs)) r ∙ ap (front end_byte 0) (take_all i zs g) ∙ front_line zs
