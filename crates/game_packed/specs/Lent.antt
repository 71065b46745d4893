-- Packing and unpacking between lent buffers: what each answers, and what it leaves there. Definitions only.
use Rattle.std.specs.Prelude.{ℕ, cond, ◌&&◌, List, eqb, ℤ, length, Ok, Err}
use Rattle.game_refusals.specs.Refusals.{bad_length}
use Rattle.game_records.specs.Numbers.{core_count, core_numbers, core_in}
use Rattle.game_packed.specs.Packed.{most_packed, packed}
use Rattle.game_packed.specs.Unpacked.{Unpacked, unpacked, unpacked_number}
use Rattle.game_packed.specs.declared.Packed.{Packed}

-- a number, and the bytes and the count that are left
pub record LeftPacked : Type 0 where
  pub number : ℕ
  pub bytes : List ℕ
  pub count : ℕ

abbrev pub left_packed : Packed → LeftPacked
left_packed p = record { number = 0; bytes = p.bytes; count = p.count }

-- the record whose numbers are l, packed into b; 17 where either has another length than it must
unfoldable pub pack_in : List ℤ → List ℕ → ℕ → LeftPacked
pack_in l b k = cond (eqb (length l) core_count && eqb (length b) most_packed) (left_packed (packed (core_in l))) (record { number = bad_length; bytes = b; count = k })

-- a number, and the record's numbers and how many bytes were used
pub record LeftUnpacked : Type 0 where
  pub number : ℕ
  pub numbers : List ℤ
  pub used : ℕ

-- a refusal leaves what was there
abbrev pub left_unpacked : List ℤ → ℕ → Unpacked → LeftUnpacked
left_unpacked l k (Err fault) = record { number = unpacked_number (Err fault); numbers = l; used = k }
left_unpacked l k (Ok (n, used)) = record { number = 0; numbers = core_numbers n; used = used }

-- the record whose bytes s starts with, as numbers in l; 17 where l has another length than it must
unfoldable pub unpack_in : List ℕ → List ℤ → ℕ → LeftUnpacked
unpack_in s l k = cond (eqb (length l) core_count) (left_unpacked l k (unpacked s)) (record { number = bad_length; numbers = l; used = k })
