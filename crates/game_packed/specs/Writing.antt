-- What is claimed of the writer, by value and in lent buffers, and one worked record. Definitions only; proofs/Writing.antt proves each.
use Rattle.std.specs.Prelude.{ℕ, ◌-◌, List, [], ◌∷◌, ◌++◌, ◌⊎◌, ◌≢◌, ◌≡◌, ℤ, pos, negsuc, length, take, drop, replicate, Ok}
use Rattle.game_records.specs.Numbers.{core_in}
use Rattle.game_records.specs.declared.CharacterCore.{CharacterCore}
use Rattle.game_packed.specs.Packed.{core_bytes, packed}
use Rattle.game_packed.specs.Unpacked.{unpacked}
use Rattle.game_packed.specs.Lent.{pack_in, unpack_in}
use Rattle.game_packed.specs.Laws.{AllI32}

-- 75 bytes: the record's bytes, as many as the count says, then zeros
pub record Written (n : CharacterCore) (bytes : List ℕ) (count : ℕ) : Type 0 where
  pub starts : take count bytes ≡ core_bytes n
  pub counted : count ≡ length (core_bytes n)
  pub zeros : drop count bytes ≡ replicate (75 - count) 0
  pub long : length bytes ≡ 75

-- the writer writes every record so
abbrev pub WritesRecords : Type 0
WritesRecords = (n : CharacterCore) → Written n (packed n).bytes (packed n).count

-- numbers l that are packed into the buffer b are accepted, and the reader returns them from the counted bytes, whatever follows, and uses them all
pub record LentRoundTrip (l : List ℤ) (b : List ℕ) (k : ℕ) (out : List ℤ) (used : ℕ) : Type 0 where
  pub number : (pack_in l b k).number ≡ 0
  pub writes : Written (core_in l) (pack_in l b k).bytes (pack_in l b k).count
  pub back : unpack_in (take (pack_in l b k).count (pack_in l b k).bytes) out used ≡ record { number = 0; numbers = l; used = (pack_in l b k).count }
  pub followed : (t : List ℕ) → unpack_in (take (pack_in l b k).count (pack_in l b k).bytes ++ t) out used ≡ record { number = 0; numbers = l; used = (pack_in l b k).count }

-- every fifteen i32 return from every lent buffer of 75 bytes
abbrev pub LentReturn : Type 0
LentReturn = (l : List ℤ) (b : List ℕ) (k : ℕ) (out : List ℤ) (used : ℕ) → AllI32 l → length l ≡ 15 → length b ≡ 75 → length out ≡ 15 → LentRoundTrip l b k out used

-- a lent buffer of another length is refused with 17 and left as it was
pub record LentLengths : Type 0 where
  pub packing : (l : List ℤ) (b : List ℕ) (k : ℕ) → (length l ≢ 15) ⊎ (length b ≢ 75) → pack_in l b k ≡ record { number = 17; bytes = b; count = k }
  pub unpacking : (s : List ℕ) (out : List ℤ) (used : ℕ) → length out ≢ 15 → unpack_in s out used ≡ record { number = 17; numbers = out; used = used }

-- fifteen different numbers, each in its field
abbrev pub sample : CharacterCore
sample = record {
  tick = pos 300000000;
  x = pos 3216;
  y = negsuc 32;
  vel_x = negsuc 2559;
  vel_y = pos 128;
  angle = negsuc 401;
  direction = negsuc 0;
  jumped = pos 3;
  hooked_player = pos 7;
  hook_state = pos 5;
  hook_tick = record { 0 = pos 44 };
  hook_x = pos 3000;
  hook_y = negsuc 96;
  hook_dx = negsuc 180;
  hook_dy = pos 181;
}

-- their bytes, a line for each field
abbrev pub sample_bytes : List ℕ
sample_bytes =
    0x80 ∷ 0x8c ∷ 0x8d ∷ 0x9e ∷ 0x02
    ∷ 0x90 ∷ 0x32
    ∷ 0x60
    ∷ 0xff ∷ 0x27
    ∷ 0x80 ∷ 0x02
    ∷ 0xd1 ∷ 0x06
    ∷ 0x40
    ∷ 0x03
    ∷ 0x07
    ∷ 0x05
    ∷ 0x2c
    ∷ 0xb8 ∷ 0x2e
    ∷ 0xe0 ∷ 0x01
    ∷ 0xf4 ∷ 0x02
    ∷ 0xb5 ∷ 0x02
    ∷ []

-- the order of the fifteen: one record by its fields, its 27 bytes, the writer's 75 and the reader's answer
pub record WorkedRecord : Type 0 where
  pub bytes : core_bytes sample ≡ sample_bytes
  pub writes : packed sample ≡ record { bytes = sample_bytes ++ replicate 48 0; count = 27 }
  pub reads : unpacked sample_bytes ≡ Ok (sample, 27)
