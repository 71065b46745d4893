-- Seats that are written in turn: how each reads then, and that they are still a world's own numbers. Assumes nothing.
use Prim.Native.Nat.{ℕ, zero, suc, ◌+◌, ◌≤◌, ◌<◌}
use mathlib.Core.List.{List}
use mathlib.Core.Path.{◌≡◌, refl, sym, ap, ◌∙◌, subst}
use native.Mathlib.Decide.{ℕ_discrete}
use native.Mathlib.Nat.{add-zero}
use native.Mathlib.Omega.{arith}
use lib.IntN.{ℤ}
use lib.ListN.{length, take}
use Rattle.base_turns.specs.Turns.{fold}
use Rattle.base_rows.specs.Put.{put}
use Rattle.base_rows.proofs.Puts.{drop-put-add, put_end}
use Rattle.game_tuning.specs.Tuning.{tuning_count}
use Rattle.character.specs.declared.Slot.{Slot}
use Rattle.world_numbers.specs.Encoding.{seat_count, seat_place, seat_numbers}
use Rattle.world_numbers.specs.Decoding.{seat_of}
use Rattle.world_numbers.proofs.Encoded.{Kept}
use Rattle.world_numbers.proofs.Parts.{seat_put}
use Rattle.world_numbers.proofs.Rows.{seat_long}
use Rattle.world_numbers.proofs.Written.{row_at, row_long, Written, others_read, put_written, OwnRow, Own, written_own, put_first}

-- ---- turns over the seats, of which each writes its own
module _ (n : ℕ) (g : ℕ → List ℤ → List ℤ) (f : ℕ → Slot → Slot) (turn : (j : ℕ) (l : List ℤ) → j < n → length l ≡ seat_place n → Written n j (f j (seat_of (row_at l j))) l (g j l)) where
  -- the seats from i on are written
  pub record Turned (i : ℕ) (l m : List ℤ) : Type 0 where
    pub size : length m ≡ length l
    pub tunings : take tuning_count m ≡ take tuning_count l
    pub before : (k : ℕ) → k < i → k < n → seat_of (row_at m k) ≡ seat_of (row_at l k)
    pub after : (k : ℕ) → i ≤ k → k < n → seat_of (row_at m k) ≡ f k (seat_of (row_at l k))

  own_or_later : (i : ℕ) (l m : List ℤ) → Written n i (f i (seat_of (row_at l i))) l (g i l) → Turned (suc i) (g i l) m → (k : ℕ) → i ≤ k → k < n → Dec (k ≡ i) → seat_of (row_at m k) ≡ f k (seat_of (row_at l k))
  own_or_later i l m w r k a b (yes q) = r.before k (omega arith) b ∙ subst (λ (j : ℕ). seat_of (row_at (g i l) j) ≡ f j (seat_of (row_at l j))) (sym q) w.own
  own_or_later i l m w r k a b (no d) = r.after k (omega (arith, d)) b ∙ ap (f k) (others_read n i _ l (g i l) w k b d)

  turned_from : (m i : ℕ) (l : List ℤ) → i + m ≡ n → length l ≡ seat_place n → Turned i l (fold g m i l)
  unfolding fold
  turned_from zero i l e h = record { size = refl; tunings = refl; before = λ k a b. refl; after = λ k a b. absurd (omega arith) }
  turned_from (suc m) i l e h =
      let w = turn i l (omega arith) h in
      let r = turned_from m (suc i) (g i l) (omega arith) (w.size ∙ h) in
      record {
        size = r.size ∙ w.size;
        tunings = r.tunings ∙ w.tunings;
        before = λ k a b. r.before k (omega arith) b ∙ others_read n i _ l (g i l) w k b (λ q. omega arith);
        after = λ k a b. own_or_later i l (fold g m (suc i) (g i l)) w r k a b (ℕ_discrete k i);
      }

  pub turned : (l : List ℤ) → length l ≡ seat_place n → Turned 0 l (fold g n 0 l)
  turned l h = turned_from n 0 l (omega arith) h

  -- where each turn leaves such numbers, its own seat being as it was at the start, all leave them
  module _ (l : List ℤ) (keeps : (j : ℕ) (m : List ℤ) → j < n → length m ≡ seat_place n → seat_of (row_at m j) ≡ seat_of (row_at l j) → Own n m → Own n (g j m)) where
    turns-own : (k i : ℕ) (m : List ℤ) → i + k ≡ n → length m ≡ seat_place n → ((q : ℕ) → i ≤ q → q < n → seat_of (row_at m q) ≡ seat_of (row_at l q)) → Own n m → Own n (fold g k i m)
    unfolding fold
    turns-own zero i m e h s o = o
    turns-own (suc k) i m e h s o =
        let w = turn i m (omega arith) h in
        turns-own k (suc i) (g i m) (omega arith) (w.size ∙ h) (λ q a b. others_read n i _ m (g i m) w q b (λ z. omega arith) ∙ s q (omega arith) b) (keeps i m (omega arith) h (s i (omega arith) (omega arith)) o)

    pub turned-own : length l ≡ seat_place n → Own n l → Own n (fold g n 0 l)
    turned-own h o = turns-own n 0 l (omega arith) h (λ q a b. refl) o

-- ---- a row within a seat
-- it makes the numbers of x of those of the seat
row_own : (r : List ℤ) (q : ℕ) (w : List ℤ) (x : Slot) → seat_count ≤ length r → q + length w ≤ seat_count → OwnRow r → seat_of (put r q w) ≡ x → put (seat_numbers (seat_of r)) q w ≡ seat_numbers x → Kept x → OwnRow (put r q w)
row_own r q w x h g o e p k = record {
  numbers = put_first r q w h g ∙ ap (λ (d : List ℤ). put d q w) o.numbers ∙ p ∙ ap seat_numbers (sym e);
  kept = subst Kept (sym e) k;
}

module _ (n : ℕ) (l : List ℤ) (long : length l ≡ seat_place n) (own : Own n l) where
  pub put_own : (j q : ℕ) (w : List ℤ) (x : Slot) → j < n → q + length w ≤ seat_count → seat_of (put (row_at l j) q w) ≡ x → put (seat_numbers (seat_of (row_at l j))) q w ≡ seat_numbers x → Kept x → Own n (put l (seat_place j + q) w)
  put_own j q w x h g e p k =
      written_own n j _ l (put l (seat_place j + q) w) (put_written n l long j q w h g) own
      (subst OwnRow (sym (drop-put-add l (seat_place j) q w (omega arith))) (row_own (row_at l j) q w x (row_long n j l long h) g (own j h) e p k))

-- ---- a whole seat
module _ (n : ℕ) (l : List ℤ) (long : length l ≡ seat_place n) (j : ℕ) (x : Slot) (h : j < n) (k : Kept x) where
  here : put l (seat_place j + 0) (seat_numbers x) ≡ put l (seat_place j) (seat_numbers x)
  here = ap (λ (p : ℕ). put l p (seat_numbers x)) (add-zero (seat_place j))

  pub seat_written : Written n j x l (put l (seat_place j) (seat_numbers x))
  seat_written =
      subst (Written n j x l) here
      (subst (λ (y : Slot). Written n j y l (put l (seat_place j + 0) (seat_numbers x))) (seat_put (row_at l j) (row_long n j l long h) x k) (put_written n l long j 0 (seat_numbers x) h (omega (arith, seat_long x))))

  pub seat_own : Own n l → Own n (put l (seat_place j) (seat_numbers x))
  seat_own own =
      let m = seat_long x in
      let s = seat_long (seat_of (row_at l j)) in
      subst (Own n) here (put_own n l long own j 0 (seat_numbers x) x h (omega arith) (seat_put (row_at l j) (row_long n j l long h) x k) (put_end (seat_numbers (seat_of (row_at l j))) 0 (seat_numbers x) (omega arith)) k)
