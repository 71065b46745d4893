use mathlib.Core.Path.{◌≡◌, ap, subst}
use mathlib.Core.List.{List, [], ◌∷◌, ◌++◌, append-nil}
use lib.IntN.{ℤ, pos}
use lib.ListN.{replicate}
use mir.Syntax.{w32}
use mir.ValLaws.{to_z-of_z}
use borrow.Rule.Slice.PartMut.{put_mid}
use Rattle.game_records.specs.Numbers.{core_count}
use Rattle.text_decimal.specs.Lines.{line}
use Rattle.text_writing.specs.Output.{line_bytes}
use Rattle.text_writing.specs.Put.{Put}
use Rattle.text_writing.proofs.output_lines.put_values.Goals as goal

-- three values in front, and the numbers behind them
row_of : (a b c x y z : ℤ) (front numbers back : List ℤ) → front ≡ x ∷ y ∷ z ∷ [] → back ≡ numbers → x ≡ a → y ≡ b → z ≡ c → put_mid 3 core_count (front ++ replicate core_count (pos 0)) back ≡ a ∷ b ∷ c ∷ numbers
row_of a b c x y z front numbers back e f p q r = rw (e, f, p, q, r) (ap (λ (l : List ℤ). a ∷ b ∷ c ∷ l) (append-nil numbers))

pub returns : goal.returns
unfolding line_bytes
returns c =
    let a = c.args in
    let f = c.ranges in
    let k = c.put_line in
    subst (λ (zs : List ℤ). Put a.buf.now a.at (line zs) k.new.buf k.result) (row_of a.call a.answer a.id _ _ _ _ a.numbers _ c.copy_from_slice.ensures.after c.copy_from_slice-2.ensures.after (to_z-of_z w32 a.call f.call) (to_z-of_z w32 a.answer f.answer) (to_z-of_z w32 a.id f.id)) k.ensures
