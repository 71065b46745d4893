-- How many bytes numbers and records have, and numbers one after another. Assumes nothing.
use Prim.Native.Nat.{ℕ, zero, suc, ◌+◌, ◌-◌, ◌*◌, ◌/◌, ◌%◌, ◌≤◌, ◌<◌}
use mathlib.Core.Bool.{Bool, true, false, cond}
use mathlib.Core.List.{List, [], ◌∷◌, ◌++◌, append_assoc, append-nil}
use mathlib.Core.Path.{◌≡◌, refl, sym, ap, ◌∙◌}
use native.Mathlib.Numerals.{add-one}
use native.Mathlib.Omega.{arith}
use lib.Dec.{eqb}
use lib.IntN.{ℤ, pos}
use lib.ListN.{length, take, drop, get_or, replicate, length-append, length-take, length-replicate}
use lib.Seq.{take-suc}
use Rattle.base_rows.specs.Put.{put}
use Rattle.base_rows.proofs.Puts.{put-put}
use Rattle.game_records.specs.Numbers.{core_count, core_numbers}
use Rattle.game_records.specs.declared.CharacterCore.{CharacterCore}
use Rattle.game_records.proofs.Back.{core_long}
use Rattle.game_packed.specs.Packed.{kept, more_bit, later_bytes, most_later, int_bytes, ints_bytes, core_bytes, most_packed, packed}

later_short : (k m : ℕ) → length (later_bytes k m) ≤ k
unfolding later_bytes
later_short zero m = omega arith
later_short (suc k) m = go (eqb m 0) (later_short k (m / 128))
  where
    go : (b : Bool) → length (later_bytes k (m / 128)) ≤ k → length (cond b [] ((m % 128 + more_bit (m / 128)) ∷ later_bytes k (m / 128))) ≤ suc k
    go true h = omega arith
    go false h = omega arith

-- a number has one byte at least and five at most
pub int_short : (z : ℤ) → (1 ≤ length (int_bytes z)) × (length (int_bytes z) ≤ 5)
unfolding int_bytes
int_short z = (omega arith, omega (arith, later_short most_later (kept z / 64)))

pub ints_short : (zs : List ℤ) → (length zs ≤ length (ints_bytes zs)) × (length (ints_bytes zs) ≤ 5 * length zs)
unfolding ints_bytes
ints_short [] = (omega arith, omega arith)
ints_short (z ∷ zs) =
    let i = int_short z in
    let r = ints_short zs in
    (omega (arith, length-append (int_bytes z) (ints_bytes zs)), omega (arith, length-append (int_bytes z) (ints_bytes zs)))

-- a record has at least 15 and at most 75 bytes
pub core_short : (n : CharacterCore) → (core_count ≤ length (core_bytes n)) × (length (core_bytes n) ≤ most_packed)
core_short n = let h = ints_short (core_numbers n) in (omega (arith, core_long n), omega (arith, core_long n))

pub ints_append : (xs ys : List ℤ) → ints_bytes (xs ++ ys) ≡ ints_bytes xs ++ ints_bytes ys
unfolding ints_bytes
ints_append [] ys = refl
ints_append (x ∷ xs) ys = ap (λ (s : List ℕ). int_bytes x ++ s) (ints_append xs ys) ∙ sym (append_assoc (int_bytes x) (ints_bytes xs) (ints_bytes ys))

-- one number more
pub ints_next : (zs : List ℤ) (i : ℕ) → i < length zs → ints_bytes (take (i + 1) zs) ≡ ints_bytes (take i zs) ++ int_bytes (get_or zs i (pos 0))
unfolding ints_bytes
ints_next zs i h = ap (λ (k : ℕ). ints_bytes (take k zs)) (add-one i) ∙ ap ints_bytes (take-suc zs i (pos 0) h) ∙ ints_append (take i zs) (get_or zs i (pos 0) ∷ []) ∙ ap (λ (s : List ℕ). ints_bytes (take i zs) ++ s) (append-nil (int_bytes (get_or zs i (pos 0))))

-- bytes at the start of zeros
abbrev pub zeros : ℕ → List ℕ
zeros n = replicate n 0

drop_zeros : (k n : ℕ) → drop k (zeros n) ≡ zeros (n - k)
drop_zeros zero n = let e : n ≡ n - 0 = omega arith in ap zeros e
drop_zeros (suc k) zero = let e : 0 ≡ 0 - suc k = omega arith in ap zeros e
drop_zeros (suc k) (suc n) = let e : n - k ≡ suc n - suc k = omega arith in drop_zeros k n ∙ ap zeros e

pub put_zeros : (n : ℕ) (w : List ℕ) → put (zeros n) 0 w ≡ w ++ zeros (n - length w)
unfolding put
put_zeros n w = let e : 0 + length w ≡ length w = omega arith in ap (λ (s : List ℕ). w ++ s) (ap (λ (k : ℕ). drop k (zeros n)) e ∙ drop_zeros (length w) n)

-- ---- the numbers of a record, put one after another
module _ (zs : List ℤ) (long : length zs ≡ core_count) (i : ℕ) (h : i < core_count) where
  -- there is room for one more
  pub room_left : {count : ℕ} → count ≡ length (ints_bytes (take i zs)) → count + 5 ≤ most_packed
  room_left e = let s = (ints_short (take i zs)).1 in omega (arith, length-take i zs)

  pub one_more : {d e : List ℕ} {count next : ℕ} {z : ℤ} → d ≡ put (zeros most_packed) 0 (ints_bytes (take i zs)) → count ≡ length (ints_bytes (take i zs)) → z ≡ get_or zs i (pos 0) → e ≡ put d count (int_bytes z) → next ≡ count + length (int_bytes z) → (e ≡ put (zeros most_packed) 0 (ints_bytes (take (i + 1) zs))) × (next ≡ length (ints_bytes (take (i + 1) zs)))
  one_more {d} {e} {count} {next} {z} p q r s t =
      let w = ints_bytes (take i zs) in
      let v = int_bytes (get_or zs i (pos 0)) in
      let more : ints_bytes (take (i + 1) zs) ≡ w ++ v = ints_next zs i (omega arith) in
      let count' : count ≡ 0 + length w = q ∙ omega arith in
      let same : length (int_bytes z) ≡ length v = ap (λ (y : ℤ). length (int_bytes y)) r in
      (s ∙ ap (λ (y : ℤ). put d count (int_bytes y)) r ∙ ap (λ (x : List ℕ). put x count v) p ∙ put-put (zeros most_packed) 0 w v count count' (omega arith) ∙ ap (put (zeros most_packed) 0) (sym more), omega (arith, ap length more, length-append w v))

-- 75 bytes, whatever the record
pub packed_long : (n : CharacterCore) → length (packed n).bytes ≡ most_packed
unfolding packed
packed_long n = let h = (core_short n).1 in omega (arith, length-append (core_bytes n) (zeros (most_packed - length (core_bytes n))), length-replicate {A = ℕ} (most_packed - length (core_bytes n)) 0)
