-- The writer's bytes, by value and in lent buffers, and the worked record. Assumes nothing.
use Prim.Native.Nat.{ℕ, ◌-◌}
use mathlib.Core.Bool.{Bool, true, false, cond, ◌&&◌}
use mathlib.Core.List.{List, [], ◌++◌, append-nil}
use mathlib.Core.Logic.{⊎_elim, ◌≢◌}
use mathlib.Core.Path.{◌≡◌, refl, sym, ap, ap₂, ◌∙◌, subst}
use lib.Dec.{eqb}
use lib.IntN.{ℤ}
use lib.ListN.{length, take, replicate}
use lib.Seq.{take-append_seam, drop-append_seam}
use borrow.Author.Tests.{eq-eqb, ne_eqb}
use Rattle.game_records.specs.Numbers.{core_numbers, core_in}
use Rattle.game_records.specs.declared.CharacterCore.{CharacterCore}
use Rattle.game_records.proofs.Back.{core_numbers_back}
use Rattle.game_packed.specs.Packed.{later_bytes, int_bytes, ints_bytes, core_bytes, most_packed, packed}
use Rattle.game_packed.specs.Unpacked.{signed, later_read, int_read, ints_read, unpacked}
use Rattle.game_packed.specs.Lent.{LeftPacked, left_packed, pack_in, unpack_in}
use Rattle.game_packed.specs.Laws.{AllI32}
use Rattle.game_packed.specs.Writing.{Written, WritesRecords, LentReturn, LentLengths, WorkedRecord}
use Rattle.game_packed.proofs.Sizes.{packed_long}
use Rattle.game_packed.proofs.Back.{round_trip_lem}

pub writes_records : WritesRecords
unfolding packed
writes_records n =
    let w = core_bytes n in
    let z : List ℕ = replicate (most_packed - length w) 0 in
    record { starts = take-append_seam w z; counted = refl; zeros = drop-append_seam w z; long = packed_long n }

-- ---- in lent buffers

module _ (l : List ℤ) (b : List ℕ) (k : ℕ) (ll : length l ≡ 15) (lb : length b ≡ 75) where
  -- buffers of the right lengths are packed into
  packs : pack_in l b k ≡ left_packed (packed (core_in l))
  unfolding pack_in
  packs = simp (eq-eqb (length l) 15 ll, eq-eqb (length b) 75 lb)

-- a record's bytes are unpacked, whatever follows them
unpacks : (n : CharacterCore) → AllI32 (core_numbers n) → (t : List ℕ) (out : List ℤ) (used : ℕ) → length out ≡ 15 → unpack_in (core_bytes n ++ t) out used ≡ record { number = 0; numbers = core_numbers n; used = length (core_bytes n) }
unfolding unpack_in
unpacks n all t out used lo = simp (eq-eqb (length out) 15 lo, round_trip_lem n all t)

pub lent_return_lem : LentReturn
lent_return_lem l b k out used all ll lb lo =
    let n = core_in l in
    let is : core_numbers n ≡ l = core_numbers_back l ll in
    let e : pack_in l b k ≡ left_packed (packed n) = packs l b k ll lb in
    let w : Written n (pack_in l b k).bytes (pack_in l b k).count = subst (λ (p : LeftPacked). Written n p.bytes p.count) (sym e) (writes_records n) in
    let after : (t : List ℕ) → unpack_in (take (pack_in l b k).count (pack_in l b k).bytes ++ t) out used ≡ record { number = 0; numbers = l; used = (pack_in l b k).count } =
    λ t. ap (λ (s : List ℕ). unpack_in (s ++ t) out used) w.starts
    ∙ unpacks n (subst AllI32 (sym is) all) t out used lo
    ∙ ap₂ (λ (x : List ℤ) (m : ℕ). record { number = 0; numbers = x; used = m }) is (sym w.counted) in
    record {
      number = ap (λ (p : LeftPacked). p.number) e;
      writes = w;
      back = ap (λ (s : List ℕ). unpack_in s out used) (sym (append-nil _)) ∙ after [];
      followed = after;
    }

pub lent_lengths_lem : LentLengths
unfolding pack_in unpack_in
lent_lengths_lem = record {
  packing = λ l b k h. ⊎_elim (λ n. simp (ne_eqb (length l) 15 n)) (λ n. apart l b k (eqb (length l) 15) n) h;
  unpacking = λ s out used n. simp (ne_eqb (length out) 15 n);
}
  where
    apart : (l : List ℤ) (b : List ℕ) (k : ℕ) (c : Bool) → length b ≢ 75 → cond (c && eqb (length b) 75) (left_packed (packed (core_in l))) (record { number = 17; bytes = b; count = k }) ≡ record { number = 17; bytes = b; count = k }
    apart l b k true n = simp (ne_eqb (length b) 75 n)
    apart l b k false n = refl

pub worked_record_lem : WorkedRecord
unfolding core_numbers core_in packed ints_bytes int_bytes later_bytes unpacked ints_read int_read later_read signed
worked_record_lem = record { bytes = refl; writes = refl; reads = refl }
