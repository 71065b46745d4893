-- What was packed is read back, whatever follows it. Assumes nothing.
use Prim.Native.Nat.{ℕ, zero, suc, ◌+◌, ◌*◌, ◌/◌, ◌%◌, ◌<◌}
use mathlib.Core.Bool.{Bool, true, false}
use mathlib.Core.List.{List, [], ◌∷◌, ◌++◌, append_assoc}
use mathlib.Core.Logic.{◌⊎◌, inl, inr}
use mathlib.Core.Path.{◌≡◌, refl, sym, ap, ap₂, ◌∙◌}
use native.Mathlib.Numerals.{add-one}
use native.Mathlib.Nat.{mul_assoc, mul_comm, add-mul}
use native.Mathlib.Omega.{arith}
use lib.Dec.{eqb}
use lib.IntN.{ℤ, pos, negsuc}
use lib.ListN.{length, drop, set, replicate, length-append}
use lib.Seq.{drop-append_seam, drop-drop, sets, sets-eq}
use borrow.Author.Tests.{eq-eqb, ne_eqb, eqb-true, eqb-false, lt-leb}
use Rattle.std.specs.Prelude.{Ok}
use Rattle.num_convert.specs.Casts.{IsI32}
use Rattle.game_records.specs.Numbers.{core_count, core_numbers, core_in}
use Rattle.game_records.specs.declared.CharacterCore.{CharacterCore}
use Rattle.game_records.proofs.Back.{core_long, core_back}
use Rattle.game_packed.specs.Packed.{kept, sign_bit, more_bit, later_bytes, most_later, int_bytes, ints_bytes, core_bytes}
use Rattle.game_packed.specs.Unpacked.{signed, is_wrong, later_read, int_read, on_read, ints_read, unpacked}
use Rattle.game_packed.specs.Laws.{AllI32, RoundTrip}
use Rattle.game_packed.proofs.Kept.{kept_fits, signed-kept}
use Rattle.game_packed.proofs.Later as reading
use Rattle.game_packed.proofs.Putting.{room_of, next_room, later_none, sign_small}
use Rattle.game_packed.proofs.Putting as writing

-- ---- later bytes

pub none_more : (m : ℕ) → m ≡ 0 → more_bit m ≡ 0
none_more m e = rw (eq-eqb m 0 e)

pub some_more : (m : ℕ) → (m ≡ 0 → ⊥) → more_bit m ≡ 128
some_more m h = rw (ne_eqb m 0 h)

-- a byte that is not empty and, where it is the fifth, small
pub right_byte : (k b : ℕ) → (b ≡ 0 → ⊥) → (k ≡ 0 → b < 16) → is_wrong k b ≡ false
right_byte zero b h s = rw (ne_eqb b 0 h, lt-leb 16 b (s refl))
right_byte (suc k) b h s = rw (ne_eqb b 0 h, ne_eqb (suc k) 0 (λ e. omega arith))

-- the low bits and the others, each times what a bit counts
pub parts : (m v c : ℕ) → v + m % 128 * c + m / 128 * (c * 128) ≡ v + m * c
parts m v c =
    let whole : m ≡ m % 128 + m / 128 * 128 = omega arith in
    let high : m / 128 * (c * 128) ≡ m / 128 * 128 * c = ap (λ (x : ℕ). m / 128 * x) (mul_comm c 128) ∙ sym (mul_assoc (m / 128) 128 c) in
    let all : m * c ≡ m % 128 * c + m / 128 * 128 * c = ap (λ (x : ℕ). x * c) whole ∙ add-mul (m % 128) (m / 128 * 128) c in
    omega arith

module _ (negative : Bool) (t : List ℕ) where
  -- a last byte
  last_back : (k m at v c : ℕ) → (m ≡ 0 → ⊥) → (k ≡ 0 → m < 16) → m < 128 → later_read negative k (later_bytes (suc k) m ++ t) at v c ≡ Ok (signed negative (v + m * c), at + length (later_bytes (suc k) m))
  last_back k m at v c h f l =
      let none : m / 128 ≡ 0 = omega arith in
      let byte : m % 128 + more_bit (m / 128) ≡ m = omega (arith, none_more (m / 128) none) in
      let one : later_bytes (suc k) m ≡ m ∷ [] = writing.later_more k m h ∙ ap₂ (λ (b : ℕ) (s : List ℕ). b ∷ s) byte (ap (later_bytes k) none ∙ later_none k) in
      let long : at + 1 ≡ at + length (later_bytes (suc k) m) = omega (arith, ap length one) in
      ap (λ (s : List ℕ). later_read negative k (s ++ t) at v c) one ∙ reading.later_last negative t at v c k m (right_byte k m h f) l ∙ ap (λ (n : ℕ). Ok (signed negative (v + m * c), n)) long

  later_back : (k m at v c : ℕ) → (m ≡ 0 → ⊥) → m < room_of (suc k) → later_read negative k (later_bytes (suc k) m ++ t) at v c ≡ Ok (signed negative (v + m * c), at + length (later_bytes (suc k) m))
  later_back zero m at v c h r = last_back zero m at v c h (λ e. r) (omega arith)
  later_back (suc k) m at v c h r = go (eqb (m / 128) 0) refl (λ some. later_back k (m / 128) (at + 1) (v + (m % 128 + 128) % 128 * c) (c * 128) some (next_room (suc k) m r))
    where
      go : (b : Bool) → eqb (m / 128) 0 ≡ b → ((m / 128 ≡ 0 → ⊥) → later_read negative k (later_bytes (suc k) (m / 128) ++ t) (at + 1) (v + (m % 128 + 128) % 128 * c) (c * 128) ≡ Ok (signed negative (v + (m % 128 + 128) % 128 * c + m / 128 * (c * 128)), at + 1 + length (later_bytes (suc k) (m / 128)))) → later_read negative (suc k) (later_bytes (suc (suc k)) m ++ t) at v c ≡ Ok (signed negative (v + m * c), at + length (later_bytes (suc (suc k)) m))
      go true e ih = last_back (suc k) m at v c h (λ q. absurd (omega arith)) (omega (arith, eqb-true (m / 128) 0 e))
      go false e ih =
          let some = eqb-false (m / 128) 0 e in
          let byte : m % 128 + more_bit (m / 128) ≡ m % 128 + 128 = ap (λ (x : ℕ). m % 128 + x) (some_more (m / 128) some) in
          let low : (m % 128 + 128) % 128 ≡ m % 128 = omega arith in
          let rest = later_bytes (suc k) (m / 128) in
          let all : later_bytes (suc (suc k)) m ≡ (m % 128 + 128) ∷ rest = writing.later_more (suc k) m h ∙ ap (λ (x : ℕ). x ∷ rest) byte in
          let value : v + (m % 128 + 128) % 128 * c + m / 128 * (c * 128) ≡ v + m * c = ap (λ (x : ℕ). v + x * c + m / 128 * (c * 128)) low ∙ parts m v c in
          let long : at + 1 + length rest ≡ at + length (later_bytes (suc (suc k)) m) = omega (arith, ap length all) in
          ap (λ (s : List ℕ). later_read negative (suc k) (s ++ t) at v c) all
          ∙ reading.later_more negative (rest ++ t) at v c k (m % 128 + 128) (right_byte (suc k) (m % 128 + 128) (λ q. omega arith) (λ q. absurd (omega arith))) (omega arith)
          ∙ ih some
          ∙ ap₂ (λ (x n : ℕ). Ok (signed negative x, n)) value long

-- ---- one number

-- the sign in the first byte
first_sign : (z : ℤ) (q : ℕ) → (q ≡ 0) ⊎ (q ≡ 128) → (b : ℕ) → b ≡ kept z % 64 + sign_bit z + q → (m : ℕ) → m ≡ kept z → signed (eqb (b / 64 % 2) 1) m ≡ z
first_sign (pos n) q o b e m i = ap₂ signed (ne_eqb (b / 64 % 2) 1 (λ x. even o x)) i ∙ (signed-kept (pos n)).1 refl
  where
    even : (q ≡ 0) ⊎ (q ≡ 128) → b / 64 % 2 ≡ 1 → ⊥
    even (inl f) x = omega arith
    even (inr f) x = omega arith
first_sign (negsuc n) q o b e m i = ap₂ signed (eq-eqb (b / 64 % 2) 1 (odd o)) i ∙ (signed-kept (negsuc n)).0 refl
  where
    odd : (q ≡ 0) ⊎ (q ≡ 128) → b / 64 % 2 ≡ 1
    odd (inl f) = omega arith
    odd (inr f) = omega arith

low_six : (z : ℤ) (q b : ℕ) → (q ≡ 0) ⊎ (q ≡ 128) → b ≡ kept z % 64 + sign_bit z + q → b % 64 ≡ kept z % 64
low_six (pos n) q b (inl f) e = omega arith
low_six (pos n) q b (inr f) e = omega arith
low_six (negsuc n) q b (inl f) e = omega arith
low_six (negsuc n) q b (inr f) e = omega arith

pub int_back : (z : ℤ) → IsI32 z → (t : List ℕ) (at : ℕ) → int_read (int_bytes z ++ t) at ≡ Ok (z, at + length (int_bytes z))
unfolding int_bytes
int_back z i t at = go (eqb (kept z / 64) 0) refl
  where
    go : (b : Bool) → eqb (kept z / 64) 0 ≡ b → int_read ((kept z % 64 + sign_bit z + more_bit (kept z / 64)) ∷ (later_bytes most_later (kept z / 64) ++ t)) at ≡ Ok (z, at + suc (length (later_bytes most_later (kept z / 64))))
    go true e =
        let none = eqb-true (kept z / 64) 0 e in
        let q = none_more (kept z / 64) none in
        let six = low_six z _ _ (inl q) refl in
        let sign = sign_small z in
        let long : at + 1 ≡ at + suc (length (later_bytes most_later (kept z / 64))) = omega (arith, ap length (ap (later_bytes most_later) none ∙ later_none most_later)) in
        reading.first_last (later_bytes most_later (kept z / 64) ++ t) at _ (omega arith) ∙ ap₂ (λ (y : ℤ) (n : ℕ). Ok (y, n)) (first_sign z _ (inl q) _ refl _ (six ∙ omega arith)) long
    go false e =
        let some = eqb-false (kept z / 64) 0 e in
        let q = some_more (kept z / 64) some in
        let six = low_six z _ _ (inr q) refl in
        let small = kept_fits z i in
        let long : at + 1 + length (later_bytes 4 (kept z / 64)) ≡ at + suc (length (later_bytes most_later (kept z / 64))) = omega arith in
        reading.first_more (later_bytes most_later (kept z / 64) ++ t) at _ (omega arith)
        ∙ later_back _ t 3 (kept z / 64) (at + 1) _ 64 some (omega arith)
        ∙ ap₂ (λ (y : ℤ) (n : ℕ). Ok (y, n)) (first_sign z _ (inr q) _ refl _ (omega arith)) long

-- ---- a record
-- past the first of two rows that stand from a place on
pub past : (s : List ℕ) (at : ℕ) (w v : List ℕ) → drop at s ≡ w ++ v → drop (at + length w) s ≡ v
past s at w v e = sym (drop-drop (length w) at s) ∙ ap (drop (length w)) e ∙ drop-append_seam w v

ints_back : (zs : List ℤ) → AllI32 zs → (i : ℕ) (s : List ℕ) (at : ℕ) (ns : List ℤ) (t : List ℕ) → drop at s ≡ ints_bytes zs ++ t → ints_read (length zs) i s at ns ≡ Ok (core_in (sets ns i zs), at + length (ints_bytes zs))
unfolding ints_read ints_bytes
ints_back [] all i s at ns t e = ap (λ (n : ℕ). Ok (core_in ns, n)) (omega arith)
ints_back (z ∷ zs) all i s at ns t e =
    let there : drop at s ≡ int_bytes z ++ (ints_bytes zs ++ t) = e ∙ append_assoc (int_bytes z) (ints_bytes zs) t in
    let one : int_read (drop at s) at ≡ Ok (z, at + length (int_bytes z)) = ap (λ (x : List ℕ). int_read x at) there ∙ int_back z all.0 (ints_bytes zs ++ t) at in
    let long : at + length (int_bytes z) + length (ints_bytes zs) ≡ at + length (int_bytes z ++ ints_bytes zs) = omega (arith, length-append (int_bytes z) (ints_bytes zs)) in
    ap (on_read (λ y next. ints_read (length zs) (i + 1) s next (set ns i y))) one
    ∙ ints_back zs all.1 (i + 1) s (at + length (int_bytes z)) (set ns i z) t (past s at (int_bytes z) (ints_bytes zs ++ t) there)
    ∙ ap₂ (λ (j n : ℕ). Ok (core_in (sets (set ns i z) j zs), n)) (add-one i) long

-- fifteen numbers over fifteen others are these
pub all_set : (zs : List ℤ) → length zs ≡ core_count → sets (replicate core_count (pos 0)) 0 zs ≡ zs ++ []
all_set zs long = sets-eq zs (replicate core_count (pos 0)) 0 (omega arith) ∙ ap (λ (k : ℕ). zs ++ drop k (replicate core_count (pos 0))) {x = 0 + length zs} {y = core_count} (omega arith)

pub round_trip_lem : RoundTrip
unfolding unpacked
round_trip_lem n all t =
    let zs = core_numbers n in
    let start = replicate core_count (pos 0) in
    ap (λ (k : ℕ). ints_read k 0 (core_bytes n ++ t) 0 start) (sym (core_long n))
    ∙ ints_back zs all 0 (core_bytes n ++ t) 0 start t refl
    ∙ ap₂ (λ (m : CharacterCore) (k : ℕ). Ok (m, k)) (ap core_in (all_set zs (core_long n)) ∙ core_back n []) (omega arith)
