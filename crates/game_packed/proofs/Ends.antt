-- 11 is told just of the beginning of a record's bytes: what ends too early is made a record by a byte 1 for each number that is not complete. Assumes nothing.
use Prim.Native.Nat.{ℕ, zero, suc, ◌+◌, ◌*◌, ◌/◌, ◌%◌, ◌≤◌}
use mathlib.Core.Bool.{Bool, true, false, cond}
use mathlib.Core.List.{List, [], ◌∷◌, ◌++◌, append-nil}
use mathlib.Core.Logic.{◌⊎◌, inl, inr}
use mathlib.Core.Path.{◌≡◌, refl, sym, ap, ◌∙◌}
use native.Mathlib.Omega.{arith}
use lib.Dec.{eqb, ltb}
use lib.IntN.{ℤ, pos}
use lib.ListN.{length, drop, set, replicate, length-append, length-drop, length-replicate}
use lib.Seq.{drop-append-le, drop-append_seam}
use borrow.Author.Tests.{eqb-true, eqb-false}
use Rattle.std.specs.Prelude.{Ok, Err}
use Rattle.game_refusals.specs.Refusals.{number_of}
use Rattle.game_refusals.specs.declared.Refusal.{Refusal}
use Rattle.game_refusals.specs.declared.Refusal.TheVariants.{BadMap, BadId, BadTuning, OutOfReach, NotClear, BadText, Present, Absent, TooFar, TickTooLarge, BytesEnd, BadBytes, NotAllowed, BadArea, BadTrial, BadHold, BadLength}
use Rattle.game_records.specs.Numbers.{core_count, core_in}
use Rattle.game_records.specs.declared.CharacterCore.{CharacterCore}
use Rattle.game_packed.specs.Packed.{int_bytes, later_bytes, core_bytes}
use Rattle.game_packed.specs.Unpacked.{signed, is_wrong, later_read, int_read, on_read, ints_read, unpacked, unpacked_number, IntRead, Unpacked}
use Rattle.game_packed.specs.Laws.{AllBytes, BeginsRecord, ToldEnds, WorkedBytes}
use Rattle.game_packed.proofs.Later as reading
use Rattle.game_packed.proofs.Back.{right_byte, past, round_trip_lem}
use Rattle.game_packed.proofs.Sound.{int_found, drop_bytes}
use Rattle.game_packed.proofs.Laws.{accepted, empty}

wrong_ends : ◌≡◌ {A = IntRead} (Err BadBytes) (Err BytesEnd) → ⊥
wrong_ends e = reading.wrong_no_end (reading.same_fault e)

-- ---- one number, with bytes behind it

-- a number that does not end too early is read as it was
on : (w d : Bool) (x y after : IntRead) → (cond w (Err BadBytes) (cond d x y) ≡ Err BytesEnd → ⊥) → ((y ≡ Err BytesEnd → ⊥) → after ≡ y) → cond w (Err BadBytes) (cond d x after) ≡ cond w (Err BadBytes) (cond d x y)
on true d x y after h ih = refl
on false true x y after h ih = refl
on false false x y after h ih = ih h

module _ (t : List ℕ) where
  later_on : (negative : Bool) (k : ℕ) (s : List ℕ) (at v c : ℕ) → (later_read negative k s at v c ≡ Err BytesEnd → ⊥) → later_read negative k (s ++ t) at v c ≡ later_read negative k s at v c
  unfolding later_read
  later_on negative zero [] at v c h = absurd (h refl)
  later_on negative (suc k) [] at v c h = absurd (h refl)
  later_on negative zero (b ∷ s) at v c h = refl
  later_on negative (suc k) (b ∷ s) at v c h = on (is_wrong (suc k) b) (ltb b 128) _ _ _ h (later_on negative k s (at + 1) (v + b % 128 * c) (c * 128))

  int_on : (s : List ℕ) (at : ℕ) → (int_read s at ≡ Err BytesEnd → ⊥) → int_read (s ++ t) at ≡ int_read s at
  unfolding int_read
  int_on [] at h = absurd (h refl)
  int_on (b ∷ s) at h = on false (ltb b 128) _ _ _ h (later_on (eqb (b / 64 % 2) 1) 3 s (at + 1) (b % 64) 64)

-- one that does is complete with a byte 1
completes : (w d : Bool) (z : ℤ) (n next : ℕ) (y after : IntRead) → cond w (Err BadBytes) (cond d (Ok (z, n)) y) ≡ Err BytesEnd → (y ≡ Err BytesEnd → (x : ℤ) × (after ≡ Ok (x, next))) → (x : ℤ) × (cond w (Err BadBytes) (cond d (Ok (z, n)) after) ≡ Ok (x, next))
completes true d z n next y after e ih = absurd (wrong_ends e)
completes false true z n next y after e ih = absurd (reading.ok_no_fault e)
completes false false z n next y after e ih = ih e

module _ (u : List ℕ) where
  later_completes : (negative : Bool) (k : ℕ) (s : List ℕ) (at v c next : ℕ) → next ≡ at + length s + 1 → later_read negative k s at v c ≡ Err BytesEnd → (z : ℤ) × (later_read negative k (s ++ (1 ∷ u)) at v c ≡ Ok (z, next))
  unfolding later_read
  later_completes negative k [] at v c next q e = (signed negative (v + 1 * c), reading.later_last negative u at v c k 1 (right_byte k 1 (λ i. omega arith) (λ i. omega arith)) (omega arith) ∙ ap (λ (n : ℕ). Ok (signed negative (v + 1 * c), n)) (omega arith))
  later_completes negative zero (b ∷ s) at v c next q e = completes (is_wrong 0 b) true _ _ next (Err BadBytes) (Err BadBytes) e (λ i. absurd (wrong_ends i))
  later_completes negative (suc k) (b ∷ s) at v c next q e = completes (is_wrong (suc k) b) (ltb b 128) _ _ next _ _ e (later_completes negative k s (at + 1) (v + b % 128 * c) (c * 128) next (omega arith))

  int_completes : (s : List ℕ) (at next : ℕ) → next ≡ at + length s + 1 → int_read s at ≡ Err BytesEnd → (z : ℤ) × (int_read (s ++ (1 ∷ u)) at ≡ Ok (z, next))
  unfolding int_read
  int_completes [] at next q e = (signed false 1, ap (λ (n : ℕ). Ok (signed false 1, n)) (omega arith))
  int_completes (b ∷ s) at next q e = completes false (ltb b 128) _ _ next _ _ e (later_completes (eqb (b / 64 % 2) 1) 3 s (at + 1) (b % 64) 64 next (omega arith))

-- ---- numbers one after another

abbrev ones : ℕ → List ℕ
ones k = replicate k 1

ones_read : (k i : ℕ) (s : List ℕ) (at : ℕ) (ns : List ℤ) → drop at s ≡ ones k → (n : CharacterCore) × (ints_read k i s at ns ≡ Ok (n, at + k))
unfolding ints_read
ones_read zero i s at ns e = (core_in ns, ap (λ (n : ℕ). Ok (core_in ns, n)) (omega arith))
ones_read (suc k) i s at ns e =
    let z = signed (eqb (1 / 64 % 2) 1) (1 % 64) in
    let first : int_read (drop at s) at ≡ Ok (z, at + 1) = ap (λ (x : List ℕ). int_read x at) e ∙ reading.first_last (ones k) at 1 (omega arith) in
    let r = ones_read k (i + 1) s (at + 1) (set ns i z) (past s at (1 ∷ []) (ones k) e) in
    (r.0, ap (on_read (λ y next. ints_read k (i + 1) s next (set ns i y))) first ∙ r.1 ∙ ap (λ (n : ℕ). Ok (r.0, n)) (omega arith))

-- a number ends within s
within : (s : List ℕ) → AllBytes s → (at : ℕ) → at ≤ length s → (z : ℤ) (next : ℕ) → int_read (drop at s) at ≡ Ok (z, next) → next ≤ length s
within s bs at l z next q =
    let f = int_found (drop at s) (drop_bytes at s bs) at z next q in
    let place = f.place in
    omega (arith, ap length f.bytes, length-append (int_bytes z) f.t, length-drop at s)

-- numbers that do not end too early are read as they were
ints_on : (t : List ℕ) (k i : ℕ) (s : List ℕ) → AllBytes s → (at : ℕ) → at ≤ length s → (ns : List ℤ) → (ints_read k i s at ns ≡ Err BytesEnd → ⊥) → ints_read k i (s ++ t) at ns ≡ ints_read k i s at ns
unfolding ints_read
ints_on t zero i s bs at l ns h = refl
ints_on t (suc k) i s bs at l ns h = go (int_read (drop at s) at) refl h (λ z next m. ints_on t k (i + 1) s bs next m (set ns i z))
  where
    read : {r : IntRead} → int_read (drop at s) at ≡ r → (r ≡ Err BytesEnd → ⊥) → int_read (drop at (s ++ t)) at ≡ r
    read q n = ap (λ (x : List ℕ). int_read x at) (drop-append-le at s t l) ∙ int_on t (drop at s) at (λ e. n (sym q ∙ e)) ∙ q

    go : (r : IntRead) → int_read (drop at s) at ≡ r → (on_read (λ z next. ints_read k (i + 1) s next (set ns i z)) r ≡ Err BytesEnd → ⊥) → ((z : ℤ) (next : ℕ) → next ≤ length s → (ints_read k (i + 1) s next (set ns i z) ≡ Err BytesEnd → ⊥) → ints_read k (i + 1) (s ++ t) next (set ns i z) ≡ ints_read k (i + 1) s next (set ns i z)) → on_read (λ z next. ints_read k (i + 1) (s ++ t) next (set ns i z)) (int_read (drop at (s ++ t)) at) ≡ on_read (λ z next. ints_read k (i + 1) s next (set ns i z)) r
    go (Err fault) q n ih = ap (on_read (λ z next. ints_read k (i + 1) (s ++ t) next (set ns i z))) (read q (λ e. n (ap Err (reading.same_fault e))))
    go (Ok (z, next)) q n ih = ap (on_read (λ y m. ints_read k (i + 1) (s ++ t) m (set ns i y))) (read q reading.ok_no_fault) ∙ ih z next (within s bs at l z next q) n

-- numbers that do are complete with bytes behind them, and these are all used
record Completed (k i : ℕ) (s : List ℕ) (at : ℕ) (ns : List ℤ) : Type 0 where
  t : List ℕ
  all : AllBytes t
  core : CharacterCore
  read : ints_read k i (s ++ t) at ns ≡ Ok (core, length (s ++ t))

ones_bytes : (k : ℕ) → AllBytes (ones k)
ones_bytes zero = tt
ones_bytes (suc k) = (omega arith, ones_bytes k)

ints_completed : (k i : ℕ) (s : List ℕ) → AllBytes s → (at : ℕ) → at ≤ length s → (ns : List ℤ) → ints_read k i s at ns ≡ Err BytesEnd → Completed k i s at ns
unfolding ints_read
ints_completed zero i s bs at l ns e = absurd (reading.ok_no_fault e)
ints_completed (suc k) i s bs at l ns e = go (int_read (drop at s) at) refl e (λ z next m. ints_completed k (i + 1) s bs next m (set ns i z))
  where
    go : (r : IntRead) → int_read (drop at s) at ≡ r → on_read (λ z next. ints_read k (i + 1) s next (set ns i z)) r ≡ Err BytesEnd → ((z : ℤ) (next : ℕ) → next ≤ length s → ints_read k (i + 1) s next (set ns i z) ≡ Err BytesEnd → Completed k (i + 1) s next (set ns i z)) → Completed (suc k) i s at ns
    go (Ok (z, next)) q h ih =
        let c = ih z next (within s bs at l z next q) h in
        let t = c.t in
        let first : int_read (drop at (s ++ t)) at ≡ Ok (z, next) = ap (λ (x : List ℕ). int_read x at) (drop-append-le at s t l) ∙ int_on t (drop at s) at (λ n. reading.ok_no_fault (sym q ∙ n)) ∙ q in
        record { t = t; all = c.all; core = c.core; read = ap (on_read (λ y m. ints_read k (i + 1) (s ++ t) m (set ns i y))) first ∙ c.read }
    go (Err fault) q h ih =
        let t = ones (suc k) in
        let f = int_completes (ones k) (drop at s) at (length s + 1) (omega (arith, length-drop at s)) (q ∙ ap Err (reading.same_fault h)) in
        let first : int_read (drop at (s ++ t)) at ≡ Ok (f.0, length s + 1) = ap (λ (x : List ℕ). int_read x at) (drop-append-le at s t l) ∙ f.1 in
        let r = ones_read k (i + 1) (s ++ t) (length s + 1) (set ns i f.0) (past (s ++ t) (length s) (1 ∷ []) (ones k) (drop-append_seam s t)) in
        let long : length s + 1 + k ≡ length (s ++ t) = omega (arith, length-append s t, length-replicate {A = ℕ} k 1) in
        record { t = t; all = ones_bytes (suc k); core = r.0; read = ap (on_read (λ y m. ints_read k (i + 1) (s ++ t) m (set ns i y))) first ∙ r.1 ∙ ap (λ (n : ℕ). Ok (r.0, n)) long }

-- ---- a record

-- no other refusal has the number 11
ends_of_11 : (fault : Refusal) → number_of fault ≡ 11 → fault ≡ BytesEnd
ends_of_11 BadMap e = absurd (omega arith)
ends_of_11 BadId e = absurd (omega arith)
ends_of_11 BadTuning e = absurd (omega arith)
ends_of_11 OutOfReach e = absurd (omega arith)
ends_of_11 NotClear e = absurd (omega arith)
ends_of_11 BadText e = absurd (omega arith)
ends_of_11 Present e = absurd (omega arith)
ends_of_11 Absent e = absurd (omega arith)
ends_of_11 TooFar e = absurd (omega arith)
ends_of_11 TickTooLarge e = absurd (omega arith)
ends_of_11 BytesEnd e = refl
ends_of_11 BadBytes e = absurd (omega arith)
ends_of_11 NotAllowed e = absurd (omega arith)
ends_of_11 BadArea e = absurd (omega arith)
ends_of_11 BadTrial e = absurd (omega arith)
ends_of_11 BadHold e = absurd (omega arith)
ends_of_11 BadLength e = absurd (omega arith)

append_bytes : (s t : List ℕ) → AllBytes s → AllBytes t → AllBytes (s ++ t)
append_bytes [] t p q = q
append_bytes (b ∷ s) t p q = (p.0, append_bytes s t p.1 q)

begins_record : (s : List ℕ) → AllBytes s → unpacked s ≡ Err BytesEnd → BeginsRecord s
unfolding unpacked
begins_record s bs e =
    let c = ints_completed core_count 0 s bs 0 (omega arith) (replicate core_count (pos 0)) e in
    let t = c.t in
    let f = accepted (s ++ t) (append_bytes s t bs c.all) c.core (length (s ++ t)) c.read in
    let there : s ++ t ≡ core_bytes c.core ++ f.1.0 = f.1.1 in
    let used : length (s ++ t) ≡ length (core_bytes c.core) = f.1.2 in
    let none : f.1.0 ≡ [] = empty f.1.0 (omega (arith, ap length there, length-append (core_bytes c.core) f.1.0)) in
    record {
      core = c.core;
      in_i32 = f.0;
      rest = t;
      bytes = sym (there ∙ ap (λ (x : List ℕ). core_bytes c.core ++ x) none ∙ append-nil (core_bytes c.core));
      more = λ q. reading.ok_no_fault (sym (ap unpacked (sym (ap (λ (x : List ℕ). s ++ x) q ∙ append-nil s)) ∙ c.read) ∙ e);
    }

unpacked_on : (s t : List ℕ) → AllBytes s → (unpacked s ≡ Err BytesEnd → ⊥) → unpacked (s ++ t) ≡ unpacked s
unfolding unpacked
unpacked_on s t bs = ints_on t core_count 0 s bs 0 (omega arith) (replicate core_count (pos 0))

begins_ends : (s : List ℕ) → AllBytes s → BeginsRecord s → unpacked s ≡ Err BytesEnd
begins_ends s bs b = go (unpacked s) refl
  where
    whole : unpacked (s ++ b.rest) ≡ Ok (b.core, length (core_bytes b.core))
    whole = ap unpacked (sym (append-nil (core_bytes b.core) ∙ b.bytes)) ∙ round_trip_lem b.core b.in_i32 []

    go : (r : Unpacked) → unpacked s ≡ r → unpacked s ≡ Err BytesEnd
    go (Err fault) q = q ∙ ap Err (decide (eqb (number_of fault) 11) refl)
      where
        decide : (c : Bool) → eqb (number_of fault) 11 ≡ c → fault ≡ BytesEnd
        decide true e = ends_of_11 fault (eqb-true (number_of fault) 11 e)
        decide false e = absurd (reading.ok_no_fault (sym whole ∙ unpacked_on s b.rest bs (λ n. eqb-false (number_of fault) 11 e (ap number_of (reading.same_fault (sym q ∙ n)))) ∙ q))
    go (Ok (n, used)) q =
        let e : ◌≡◌ {A = Unpacked} (Ok (b.core, length (core_bytes b.core))) (Ok (n, used)) = sym whole ∙ unpacked_on s b.rest bs (λ m. reading.ok_no_fault (sym q ∙ m)) ∙ q in
        let long : length (core_bytes b.core) ≡ used = (reading.same_read e).1 in
        let f = accepted s bs n used q in
        let t = f.1.0 in
        let there : s ≡ core_bytes n ++ t = f.1.1 in
        let place : used ≡ length (core_bytes n) = f.1.2 in
        absurd (b.more (empty b.rest (omega (arith, ap length there, length-append (core_bytes n) t, ap length b.bytes, length-append s b.rest))))

-- ---- no other fault

abbrev IsFault : Refusal → Type 0
IsFault fault = (fault ≡ BytesEnd) ⊎ (fault ≡ BadBytes)

by_byte : (w d : Bool) (x : ℤ × ℕ) (y : IntRead) {fault : Refusal} → (y ≡ Err fault → IsFault fault) → cond w (Err BadBytes) (cond d (Ok x) y) ≡ Err fault → IsFault fault
by_byte true d x y ih e = inr (sym (reading.same_fault e))
by_byte false true x y ih e = absurd (reading.ok_no_fault e)
by_byte false false x y ih e = ih e

later_fault : (negative : Bool) (k : ℕ) (s : List ℕ) (at v c : ℕ) {fault : Refusal} → later_read negative k s at v c ≡ Err fault → IsFault fault
unfolding later_read
later_fault negative zero [] at v c e = inl (sym (reading.same_fault e))
later_fault negative (suc k) [] at v c e = inl (sym (reading.same_fault e))
later_fault negative zero (b ∷ s) at v c e = by_byte (is_wrong 0 b) true _ (Err BadBytes) (λ q. inr (sym (reading.same_fault q))) e
later_fault negative (suc k) (b ∷ s) at v c e = by_byte (is_wrong (suc k) b) (ltb b 128) _ _ (later_fault negative k s (at + 1) (v + b % 128 * c) (c * 128)) e

int_fault : (s : List ℕ) (at : ℕ) {fault : Refusal} → int_read s at ≡ Err fault → IsFault fault
unfolding int_read
int_fault [] at e = inl (sym (reading.same_fault e))
int_fault (b ∷ s) at e = by_byte false (ltb b 128) _ _ (later_fault (eqb (b / 64 % 2) 1) 3 s (at + 1) (b % 64) 64) e

ints_fault : (k i : ℕ) (s : List ℕ) (at : ℕ) (ns : List ℤ) (fault : Refusal) → ints_read k i s at ns ≡ Err fault → IsFault fault
unfolding ints_read
ints_fault zero i s at ns fault e = absurd (reading.ok_no_fault e)
ints_fault (suc k) i s at ns fault e = go (int_read (drop at s) at) refl e (λ z next. ints_fault k (i + 1) s next (set ns i z) fault)
  where
    go : (r : IntRead) → int_read (drop at s) at ≡ r → on_read (λ z next. ints_read k (i + 1) s next (set ns i z)) r ≡ Err fault → ((z : ℤ) (next : ℕ) → ints_read k (i + 1) s next (set ns i z) ≡ Err fault → IsFault fault) → IsFault fault
    go (Err other) q h ih = int_fault (drop at s) at (q ∙ ap Err (reading.same_fault h))
    go (Ok (z, next)) q h ih = ih z next h

unpacked_fault : (s : List ℕ) (fault : Refusal) → unpacked s ≡ Err fault → IsFault fault
unfolding unpacked
unpacked_fault s = ints_fault core_count 0 s 0 (replicate core_count (pos 0))

pub told_ends_lem : ToldEnds
told_ends_lem s bs = (λ e. begins_record s bs (go (unpacked s) e), λ b. ap unpacked_number (begins_ends s bs b), unpacked_fault s)
  where
    go : (r : Unpacked) → unpacked_number r ≡ 11 → r ≡ Err BytesEnd
    go (Err fault) e = ap Err (ends_of_11 fault e)
    go (Ok (n, used)) e = absurd (omega arith)

pub worked_bytes_lem : WorkedBytes
unfolding int_bytes later_bytes
worked_bytes_lem = record { zero = refl; one = refl; minus_one = refl; last_short = refl; first_long = refl; least_short = refl; below_long = refl; most = refl; least = refl }
