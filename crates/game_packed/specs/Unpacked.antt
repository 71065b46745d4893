-- What a reader makes of packed bytes. Definitions only; proofs/ says which bytes it takes.
use Rattle.std.specs.Prelude.{ℕ, zero, suc, ◌+◌, ◌-◌, ◌*◌, ◌/◌, ◌%◌, Bool, cond, ◌||◌, ◌&&◌, List, [], ◌∷◌, eqb, leb, ltb, ℤ, pos, negsuc, drop, set, replicate, Result, Ok, Err}
use Rattle.game_refusals.specs.Refusals.{number_of_answer}
use Rattle.game_refusals.specs.declared.Refusal.{Refusal}
use Rattle.game_refusals.specs.declared.Refusal.TheVariants.{BytesEnd, BadBytes}
use Rattle.game_records.specs.Numbers.{core_count, core_in}
use Rattle.game_records.specs.declared.CharacterCore.{CharacterCore}
use Rattle.game_packed.specs.Packed.{most_later}

-- ---- one whole number

-- a number and the place past it; the bytes end before it is complete, or it is not in its shortest form or too large
abbrev pub IntRead : Type 0
IntRead = Result (ℤ × ℕ) Refusal

-- the number whose value m is kept
unfoldable pub signed : Bool → ℕ → ℤ
signed negative m = cond negative (negsuc m) (pos m)

-- a last byte with nothing in it: the number is not in its shortest form; a fifth byte with a bit above the lowest four
abbrev pub is_wrong : ℕ → ℕ → Bool
is_wrong k b = eqb b 0 || (eqb k 0 && leb 16 b)

-- the later bytes s from the place `at` on, k more of them at most after the first; v is read so far, and the next bits count c each
unfoldable pub later_read : Bool → ℕ → List ℕ → ℕ → ℕ → ℕ → IntRead
later_read negative k [] at v c = Err BytesEnd
later_read negative zero (b ∷ s) at v c = cond (is_wrong 0 b) (Err BadBytes) (Ok (signed negative (v + b * c), at + 1))
later_read negative (suc k) (b ∷ s) at v c =
    cond (is_wrong (suc k) b) (Err BadBytes)
    (cond (ltb b 128) (Ok (signed negative (v + b * c), at + 1)) (later_read negative k s (at + 1) (v + b % 128 * c) (c * 128)))

-- the number whose bytes s starts with, at the place `at`, with the place past them
unfoldable pub int_read : List ℕ → ℕ → IntRead
int_read [] at = Err BytesEnd
int_read (b ∷ s) at =
    let negative = eqb (b / 64 % 2) 1 in
    cond (ltb b 128) (Ok (signed negative (b % 64), at + 1)) (later_read negative (most_later - 1) s (at + 1) (b % 64) 64)

-- ---- a record

-- a record and how many bytes were used, or the fault of a number
abbrev pub Unpacked : Type 0
Unpacked = Result (CharacterCore × ℕ) Refusal

-- go on with a number that was read; a fault decides
abbrev pub on_read : (ℤ → ℕ → Unpacked) → IntRead → Unpacked
on_read k (Err fault) = Err fault
on_read k (Ok (z, next)) = k z next

-- k more numbers from the place `at` of s on, into ns from the index i on; then the record of all
unfoldable pub ints_read : ℕ → ℕ → List ℕ → ℕ → List ℤ → Unpacked
ints_read zero i s at ns = Ok (core_in ns, at)
ints_read (suc k) i s at ns = on_read (λ z next. ints_read k (i + 1) s next (set ns i z)) (int_read (drop at s) at)

-- the record whose bytes s starts with and how many they are; or the fault of the first number that has one
unfoldable pub unpacked : List ℕ → Unpacked
unpacked s = ints_read core_count 0 s 0 (replicate core_count (pos 0))

-- the customer's number of an answer
abbrev pub unpacked_number : Unpacked → ℕ
unpacked_number answer = number_of_answer answer
