-- A world's numbers with one seat written anew: how they read, and whether they are still those of a world. Assumes nothing.
use Prim.Native.Nat.{ℕ, zero, suc, ◌+◌, ◌*◌, ◌≤◌, ◌<◌}
use mathlib.Core.List.{List, [], ◌∷◌, ◌++◌}
use mathlib.Core.Logic.{◌⊎◌, inl, inr, ⊎_elim}
use mathlib.Core.Path.{◌≡◌, refl, sym, ap, ap₂, ◌∙◌, subst}
use native.Mathlib.Decide.{ℕ_discrete, dec_lt}
use native.Mathlib.Nat.{mul-suc, add_comm}
use native.Mathlib.Omega.{arith}
use lib.IntN.{ℤ}
use lib.ListN.{length, take, drop, set, get_or, length-set, length-drop, take-append-drop}
use lib.Seq.{take_at, drop_at, drop-drop, take-set-lt, drop-set-lt, ext_get_or, get_or-set_same, get_or-set_other, length-take-le}
use Rattle.base_rows.specs.Put.{put}
use Rattle.base_rows.proofs.Puts.{length-put, drop-put-add, part_else, take_before, put-append}
use Rattle.game_tuning.specs.Tuning.{tuning_count}
use Rattle.character.specs.Tick.{slot_at, nowhere}
use Rattle.character.specs.declared.Slot.{Slot}
use Rattle.world.specs.Settled.{Settled}
use Rattle.world.specs.World.{with_slot, with_tuning}
use Rattle.world.specs.declared.World.{World}
use Rattle.world_numbers.specs.Encoding.{seat_count, seat_place, each, seat_numbers, encoding}
use Rattle.world_numbers.specs.Decoding.{each_in, seat_of, seats_of, decoding}
use Rattle.world_numbers.proofs.Encoded.{Kept, decoding-encoding}
use Rattle.world_numbers.proofs.Parts.{same_first, seat_same}
use Rattle.world_numbers.proofs.Rows.{seat_long}
use Rattle.world_numbers.proofs.RowsIn.{rows_long}
use Rattle.world_numbers.proofs.Seats.{seat_is}

-- the numbers from the seat k on
abbrev pub row_at : List ℤ → ℕ → List ℤ
row_at l k = drop (seat_place k) l

pub row_long : (n k : ℕ) (l : List ℤ) → length l ≡ seat_place n → k < n → seat_count ≤ length (row_at l k)
row_long n k l e h = omega (arith, length-drop (seat_place k) l)

-- a world, seat by seat
pub world_is : (n : ℕ) (l : List ℤ) (ss : List Slot) (ts : List ℤ) → length ss ≡ n → take tuning_count l ≡ ts → ((k : ℕ) → k < n → seat_of (row_at l k) ≡ slot_at ss k) → decoding n l ≡ record { slots = ss; tunings = ts }
unfolding decoding
world_is n l ss ts e t h =
    let m = rows_long seat_of seat_count n (drop tuning_count l) in
    ap₂ (λ (us : List Slot) (vs : List ℤ). record { slots = us; tunings = vs }) (ext_get_or nowhere (seats_of n (drop tuning_count l)) ss (m ∙ sym e) (λ k q. seat_is n k l (omega arith) ∙ h k (omega arith))) t

-- ---- a tuning
pub tuning_set : (n k : ℕ) (l : List ℤ) (z : ℤ) → k < tuning_count → decoding n (set l k z) ≡ with_tuning (decoding n l) k z
unfolding decoding
tuning_set n k l z h = ap₂ (λ (r : List ℤ) (ts : List ℤ). record { slots = seats_of n r; tunings = ts }) (drop-set-lt tuning_count l k z h) (take-set-lt tuning_count l k z h)

-- ---- a seat
-- m is l with the slot x at the seat j
pub record Written (n j : ℕ) (x : Slot) (l m : List ℤ) : Type 0 where
  pub size : length m ≡ length l
  pub tunings : take tuning_count m ≡ take tuning_count l
  pub own : seat_of (row_at m j) ≡ x
  pub others : (k : ℕ) → k < n → (k ≡ j → ⊥) → take seat_count (row_at m k) ≡ take seat_count (row_at l k)

pub others_read : (n j : ℕ) (x : Slot) (l m : List ℤ) → Written n j x l m → (k : ℕ) → k < n → (k ≡ j → ⊥) → seat_of (row_at m k) ≡ seat_of (row_at l k)
others_read n j x l m h k q d = seat_same (row_at m k) (row_at l k) (same_first seat_count (row_at m k) (row_at l k) (h.others k q d))

apart : (a b : ℕ) → (a ≡ b → ⊥) → (a < b) ⊎ (b < a)
apart a b d = go (dec_lt a b)
  where
    go : Dec (a < b) → (a < b) ⊎ (b < a)
    go (yes h) = inl h
    go (no h) = inr (omega (arith, d, h))

module _ (n : ℕ) (l : List ℤ) (long : length l ≡ seat_place n) where
  -- a row within a seat
  pub put_written : (j q : ℕ) (w : List ℤ) → j < n → q + length w ≤ seat_count → Written n j (seat_of (put (row_at l j) q w)) l (put l (seat_place j + q) w)
  put_written j q w h g = record {
    size = length-put l (seat_place j + q) w (omega arith);
    tunings = take_before l (seat_place j + q) w tuning_count (omega arith) (omega arith);
    own = ap seat_of (drop-put-add l (seat_place j) q w (omega arith));
    others = λ k r d. part_else l (seat_place j + q) w (seat_place k) seat_count (omega arith) (⊎_elim (λ s. inl (omega arith)) (λ s. inr (omega arith)) (apart k j d));
  }

  pub written-decoding : (j : ℕ) (x : Slot) (m : List ℤ) → j < n → Written n j x l m → decoding n m ≡ with_slot (decoding n l) j x
  unfolding decoding
  written-decoding j x m q h = world_is n m (set ss j x) (take tuning_count l) (length-set ss j x ∙ full) h.tunings (λ k r. each-slot k r (ℕ_discrete k j))
    where
      ss : List Slot
      ss = (decoding n l).slots

      full : length ss ≡ n
      full = rows_long seat_of seat_count n (drop tuning_count l)

      each-slot : (k : ℕ) → k < n → Dec (k ≡ j) → seat_of (row_at m k) ≡ slot_at (set ss j x) k
      each-slot k r (yes e) = ap (λ (i : ℕ). seat_of (row_at m i)) e ∙ h.own ∙ sym (ap (slot_at (set ss j x)) e ∙ get_or-set_same ss j x nowhere (omega (arith, full)))
      each-slot k r (no d) = others_read n j x l m h k r d ∙ sym (get_or-set_other ss j k x nowhere d ∙ seat_is n k l r)

-- ---- numbers as the library writes them

-- those of the slot that they are read as, which comes back from a record
pub record OwnRow (r : List ℤ) : Type 0 where
  pub numbers : take seat_count r ≡ seat_numbers (seat_of r)
  pub kept : Kept (seat_of r)

abbrev pub Own : ℕ → List ℤ → Type 0
Own n l = (k : ℕ) → k < n → OwnRow (row_at l k)

-- a row by its first numbers
row_same : (r t : List ℤ) → take seat_count r ≡ take seat_count t → OwnRow t → OwnRow r
row_same r t e h =
    let q : seat_of r ≡ seat_of t = seat_same r t (same_first seat_count r t e) in
    record { numbers = e ∙ h.numbers ∙ ap seat_numbers (sym q); kept = subst Kept (sym q) h.kept }

pub written_own : (n j : ℕ) (x : Slot) (l m : List ℤ) → Written n j x l m → Own n l → OwnRow (row_at m j) → Own n m
written_own n j x l m h o r = λ k q. go k q (ℕ_discrete k j)
  where
    go : (k : ℕ) → k < n → Dec (k ≡ j) → OwnRow (row_at m k)
    go k q (yes e) = subst (λ (i : ℕ). OwnRow (row_at m i)) (sym e) r
    go k q (no d) = row_same (row_at m k) (row_at l k) (h.others k q d) (o k q)

-- the first numbers of a row with another row in it
pub put_first : (r : List ℤ) (q : ℕ) (w : List ℤ) → seat_count ≤ length r → q + length w ≤ seat_count → take seat_count (put r q w) ≡ put (take seat_count r) q w
put_first r q w h g =
    let t : List ℤ = take seat_count r in
    let e : length t ≡ seat_count = length-take-le seat_count r h in
    ap (λ (d : List ℤ). take seat_count (put d q w)) (sym (take-append-drop seat_count r))
    ∙ ap (take seat_count) (put-append t (drop seat_count r) q w (omega arith))
    ∙ take_at (put t q w) (drop seat_count r) seat_count (length-put t q w (omega arith) ∙ e)

-- such numbers are those of the world that they stand for
rows_own : (n : ℕ) (r : List ℤ) → length r ≡ seat_count * n → ((k : ℕ) → k < n → take seat_count (drop (seat_count * k) r) ≡ seat_numbers (seat_of (drop (seat_count * k) r))) → each seat_numbers (seats_of n r) ≡ r
unfolding each each_in
rows_own zero [] e h = refl
rows_own zero (z ∷ r) e h = absurd (omega arith)
rows_own (suc n) r e h =
    let m = length-drop seat_count r in
    ap₂ (λ (a b : List ℤ). a ++ b) (sym (h 0 (omega arith))) (rows_own n (drop seat_count r) (omega arith) (λ k q. subst (λ (t : List ℤ). take seat_count t ≡ seat_numbers (seat_of t)) (later k) (h (suc k) (omega arith))))
    ∙ take-append-drop seat_count r
  where
    later : (k : ℕ) → drop (seat_count * suc k) r ≡ drop (seat_count * k) (drop seat_count r)
    later k = let e : seat_count * suc k ≡ seat_count + seat_count * k = omega arith in ap (λ (i : ℕ). drop i r) e ∙ sym (drop-drop (seat_count * k) seat_count r)

pub own_encoding : (n : ℕ) (l : List ℤ) → length l ≡ seat_place n → Own n l → encoding (decoding n l) ≡ l
unfolding encoding decoding
own_encoding n l e h =
    let m = length-drop tuning_count l in
    ap (λ (r : List ℤ). take tuning_count l ++ r) (rows_own n (drop tuning_count l) (omega arith) (λ k q. subst (λ (t : List ℤ). take seat_count t ≡ seat_numbers (seat_of t)) (sym (drop-drop (seat_count * k) tuning_count l)) (h k q).numbers))
    ∙ take-append-drop tuning_count l

-- and every world's are such
pub each_row : {A : Type 0} (f : A → List ℤ) (c : ℕ) (x : A) → ((y : A) → length (f y) ≡ c) → (xs : List A) (k : ℕ) → k < length xs → take c (drop (c * k) (each f xs)) ≡ f (get_or xs k x)
unfolding each
each_row f c x long [] k h = absurd (omega arith)
each_row f c x long (y ∷ ys) zero h = let e : c * 0 ≡ 0 = omega arith in ap (λ (i : ℕ). take c (drop i (f y ++ each f ys))) e ∙ take_at (f y) (each f ys) c (long y)
each_row f c x long (y ∷ ys) (suc k) h =
    let e = mul-suc c k in
    ap (λ (i : ℕ). take c (drop i (f y ++ each f ys))) (e ∙ add_comm (c * k) c)
    ∙ ap (take c) (sym (drop-drop (c * k) c (f y ++ each f ys)) ∙ ap (drop (c * k)) (drop_at (f y) (each f ys) c (long y)))
    ∙ each_row f c x long ys k (omega arith)

pub encoding_own : (n : ℕ) (w : World) → Settled n w → Own n (encoding w)
unfolding encoding
encoding_own n w h = λ k q.
    let s : seat_of (row_at (encoding w) k) ≡ slot_at w.slots k = sym (seat_is n k (encoding w) q) ∙ ap (λ (v : World). slot_at v.slots k) (decoding-encoding n w h) in
    let r : take seat_count (row_at (encoding w) k) ≡ seat_numbers (slot_at w.slots k) =
    ap (take seat_count) (sym (drop-drop (seat_count * k) tuning_count (encoding w)) ∙ ap (drop (seat_count * k)) (drop_at w.tunings (each seat_numbers w.slots) tuning_count h.tunings))
    ∙ each_row seat_numbers seat_count nowhere seat_long w.slots k (omega (arith, h.seats)) in
    record { numbers = r ∙ ap seat_numbers (sym s); kept = subst Kept (sym s) (record { somebody = h.representable k q; nobody = h.empty k q }) }
