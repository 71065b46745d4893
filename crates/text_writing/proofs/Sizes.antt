-- How long lines are, and lines put one after another. Assumes nothing.
use Prim.Native.Nat.{ℕ, ◌*◌, ◌≤◌}
use mathlib.Core.Path.{◌≡◌, sym, ap, ◌∙◌, subst}
use mathlib.Core.List.{List, ◌∷◌, ◌++◌}
use native.Mathlib.Omega.{arith}
use lib.IntN.{ℤ}
use lib.ListN.{length, length-append}
use Rattle.text_decimal.specs.Lines.{end_byte, line}
use Rattle.text_decimal.proofs.Lines.{front_line, front_short}
use Rattle.text_writing.specs.Output.{most_line, line_bytes, record_bytes}
use Rattle.base_rows.specs.Put.{put}
use Rattle.text_writing.specs.Put.{Put}
use Rattle.base_rows.proofs.Puts.{put-put}
use Rattle.game_records.specs.Numbers.{core_numbers}
use Rattle.game_records.specs.declared.CharacterCore.{CharacterCore}

line-short : (zs : List ℤ) → length (line zs) ≤ 12 * length zs
line-short zs = subst (λ (w : List ℕ). length w ≤ 12 * length zs) (front_line zs) (front_short end_byte 0 zs)

pub record_short : (call answer id : ℤ) (n : CharacterCore) → length (record_bytes call answer id n) ≤ most_line
unfolding line_bytes core_numbers
record_short call answer id n = line-short (call ∷ answer ∷ id ∷ core_numbers n)

-- the same bytes and place, said otherwise
pub put_as : {d e v w : List ℕ} {at end next : ℕ} → v ≡ w → end ≡ next → Put d at v e end → Put d at w e next
put_as q r p = rw (sym q, sym r) p

-- some bytes after others
pub put-after : {d e f v w : List ℕ} {at next end : ℕ} → at ≤ length d → Put d at w e next → Put e next v f end → Put d at (w ++ v) f end
put-after {d} {e} {f} {v} {w} {at} {next} {end} h a b =
    let p = a.place in
    let q = b.place in
    record {
      bytes = b.bytes ∙ ap (λ (x : List ℕ). put x next v) a.bytes ∙ put-put d at w v next p h;
      place = omega (arith, length-append w v);
    }
