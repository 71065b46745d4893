-- Copies come back from their numbers. Assumes nothing.
use Prim.Native.Nat.{ℕ, ◌+◌, ◌*◌, ◌^◌, ◌<◌}
use mathlib.Core.List.{List, ◌++◌}
use mathlib.Core.Path.{◌≡◌, refl, sym, ap, ◌∙◌, subst}
use native.Mathlib.Omega.{arith}
use lib.IntN.{ℤ, pos, negsuc}
use lib.ListN.{length, drop}
use Rattle.num_convert.specs.Casts.{IsI32, cast_unsigned}
use Rattle.num_convert.proofs.Back.{cast_back}
use Rattle.game_records.specs.Numbers.{core_numbers, input_numbers, number_at, core_in, input_of_numbers}
use Rattle.send_rule.specs.Send.{no_copy, copy_at}
use Rattle.send_rule.specs.declared.Copy.{Copy}
use Rattle.world_numbers.specs.Encoding.{each, record_numbers}
use Rattle.world_numbers.specs.Decoding.{each_in}
use Rattle.world_numbers.proofs.Any.{AllI32, drop_i32}
use Rattle.world_numbers.proofs.Encoded.{flag-back}
use Rattle.world_numbers.proofs.Rows.{each_long}
use Rattle.world_numbers.proofs.RowsIn.{row_in, rows_long, rows_back}
use Rattle.send_numbers.specs.Copies.{marks_place, copy_count, copy_numbers, copies_encoding, copy_in, copies_decoding, StepsFit, CopiesComeBack, AnyCopiesComeBack}

-- how many numbers there are
pub copy_long : (c : Copy) → length (copy_numbers c) ≡ copy_count
unfolding copy_numbers record_numbers core_numbers input_numbers
copy_long c = refl

pub copies_long : (cs : List Copy) → length (copies_encoding cs) ≡ copy_count * length cs
unfolding copies_encoding
copies_long cs = each_long copy_numbers copy_count copy_long cs

-- ---- there and back
copy_back : (c : Copy) (l : List ℤ) → c.steps < 2 ^ 32 → copy_in (copy_numbers c ++ l) ≡ c
unfolding copy_in copy_numbers record_numbers core_numbers input_numbers core_in input_of_numbers
copy_back c l h = rw (flag-back c.kept, flag-back c.removed, flag-back c.refused, cast_back c.steps h)

pub copies_come_back : (n : ℕ) → CopiesComeBack n
unfolding copies_encoding copies_decoding
copies_come_back n cs e h = ap (λ (m : ℕ). each_in copy_in copy_count m (each copy_numbers cs)) (sym e) ∙ rows_back copy_numbers copy_in copy_count copy_long (λ c. c.steps < 2 ^ 32) copy_back no_copy cs h

-- ---- any numbers
unsigned_in : (z : ℤ) → IsI32 z → cast_unsigned z < 2 ^ 32
unfolding cast_unsigned
unsigned_in (pos k) h = omega arith
unsigned_in (negsuc k) h = omega arith

pub decoded_long : (n : ℕ) (l : List ℤ) → length (copies_decoding n l) ≡ n
unfolding copies_decoding
decoded_long n l = rows_long copy_in copy_count n l

-- one copy out of all of them
pub copy_is : (n k : ℕ) (l : List ℤ) → k < n → copy_at (copies_decoding n l) k ≡ copy_in (drop (copy_count * k) l)
unfolding copies_decoding
copy_is n k l h = row_in copy_in copy_count n k l no_copy h

copy_fits : (l : List ℤ) → AllI32 l → (copy_in l).steps < 2 ^ 32
unfolding copy_in
copy_fits l h = unsigned_in (number_at l (marks_place + 2)) (h (marks_place + 2))

pub decoded_fit : (n : ℕ) (l : List ℤ) → AllI32 l → StepsFit (copies_decoding n l)
decoded_fit n l h = λ k q. let r : k < n = omega (arith, decoded_long n l) in subst (λ (c : Copy). c.steps < 2 ^ 32) (sym (copy_is n k l r)) (copy_fits (drop (copy_count * k) l) (drop_i32 (copy_count * k) l h))

pub any_copies_come_back : (n : ℕ) → AnyCopiesComeBack n
any_copies_come_back n l h = copies_come_back n (copies_decoding n l) (decoded_long n l) (decoded_fit n l h)
