-- What is claimed of packed records. Definitions only; proofs/ proves each.
use Rattle.std.specs.Prelude.{ℕ, ◌≤◌, ◌<◌, List, [], ◌∷◌, ◌++◌, ◌⊎◌, ◌≢◌, ◌≡◌, ℤ, pos, negsuc, length, Ok, Err}
use Rattle.num_convert.specs.Casts.{IsI32}
use Rattle.game_refusals.specs.declared.Refusal.{Refusal}
use Rattle.game_refusals.specs.declared.Refusal.TheVariants.{BytesEnd, BadBytes}
use Rattle.game_records.specs.Numbers.{core_count, core_numbers}
use Rattle.game_records.specs.declared.CharacterCore.{CharacterCore}
use Rattle.game_packed.specs.Packed.{int_bytes, core_bytes, most_packed}
use Rattle.game_packed.specs.Unpacked.{unpacked, unpacked_number}

abbrev pub AllI32 : List ℤ → Type 0
AllI32 [] = Unit {0}
AllI32 (z ∷ zs) = IsI32 z × AllI32 zs

abbrev pub AllBytes : List ℕ → Type 0
AllBytes [] = Unit {0}
AllBytes (b ∷ s) = (b < 256) × AllBytes s

-- every record of fifteen i32 returns from its bytes, whatever follows them, and the reader tells how many they are
abbrev pub RoundTrip : Type 0
RoundTrip = (n : CharacterCore) → AllI32 (core_numbers n) → (t : List ℕ) → unpacked (core_bytes n ++ t) ≡ Ok (n, length (core_bytes n))

-- the bytes that the reader used are those that the writer makes of the record that it tells
abbrev pub ReadAsWritten : Type 0
ReadAsWritten = (s : List ℕ) → AllBytes s → (n : CharacterCore) (used : ℕ) → unpacked s ≡ Ok (n, used) → AllI32 (core_numbers n) × ((t : List ℕ) × (s ≡ core_bytes n ++ t) × (used ≡ length (core_bytes n)))

-- a record has at least 15 and at most 75 bytes
abbrev pub SizesHold : Type 0
SizesHold = (n : CharacterCore) → (core_count ≤ length (core_bytes n)) × (length (core_bytes n) ≤ most_packed)

-- no record's bytes begin another's
abbrev pub NoneBegins : Type 0
NoneBegins = (n m : CharacterCore) (t : List ℕ) → AllI32 (core_numbers n) → AllI32 (core_numbers m) → core_bytes n ++ t ≡ core_bytes m → (n ≡ m) × (t ≡ [])

-- s is the beginning of a record's bytes, and not all of them
pub record BeginsRecord (s : List ℕ) : Type 0 where
  pub core : CharacterCore
  pub in_i32 : AllI32 (core_numbers core)
  pub rest : List ℕ
  pub bytes : core_bytes core ≡ s ++ rest
  pub more : rest ≢ []

-- 11 is told just of these; no fault is told but 11 and 12, so 12 is told of all other bytes that have no record at their start
abbrev pub ToldEnds : Type 0
ToldEnds = (s : List ℕ) → AllBytes s → (unpacked_number (unpacked s) ≡ 11 → BeginsRecord s) × (BeginsRecord s → unpacked_number (unpacked s) ≡ 11) × ((fault : Refusal) → unpacked s ≡ Err fault → (fault ≡ BytesEnd) ⊎ (fault ≡ BadBytes))

-- the bytes of some numbers: around 0, where a second byte begins, and the ends of i32
pub record WorkedBytes : Type 0 where
  pub zero : int_bytes (pos 0) ≡ 0x00 ∷ []
  pub one : int_bytes (pos 1) ≡ 0x01 ∷ []
  pub minus_one : int_bytes (negsuc 0) ≡ 0x40 ∷ []
  pub last_short : int_bytes (pos 63) ≡ 0x3f ∷ []
  pub first_long : int_bytes (pos 64) ≡ 0x80 ∷ 0x01 ∷ []
  -- -64 and -65
  pub least_short : int_bytes (negsuc 63) ≡ 0x7f ∷ []
  pub below_long : int_bytes (negsuc 64) ≡ 0xc0 ∷ 0x01 ∷ []
  pub most : int_bytes (pos 2147483647) ≡ 0xbf ∷ 0xff ∷ 0xff ∷ 0xff ∷ 0x0f ∷ []
  pub least : int_bytes (negsuc 2147483647) ≡ 0xff ∷ 0xff ∷ 0xff ∷ 0xff ∷ 0x0f ∷ []
