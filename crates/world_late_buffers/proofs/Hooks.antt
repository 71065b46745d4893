-- Who is gone from a world's numbers, row by row: hooks that held it are Retracted, and its row is zeros. Assumes nothing.
use Prim.Native.Nat.{ℕ, ◌+◌, ◌≤◌, ◌<◌}
use mathlib.Core.Bool.{Bool, true, false, cond, ◌&&◌, true≢false}
use mathlib.Core.List.{List}
use mathlib.Core.Path.{◌≡◌, refl, sym, ap, ◌∙◌, subst}
use native.Mathlib.Decide.{dec_lt}
use native.Mathlib.Nat.{add-zero}
use native.Mathlib.Omega.{arith}
use lib.Dec.{eqb}
use lib.IntN.{ℤ, pos}
use lib.ListN.{length, take, get_or-eq_default}
use Rattle.base_turns.proofs.Kept.{fold-kept}
use Rattle.base_turns.proofs.Loop.{always, run_always}
use Rattle.base_turns.proofs.Own.{On, run_own}
use Rattle.base_rows.specs.Put.{put}
use Rattle.num_convert.specs.Casts.{cast_unsigned}
use Rattle.game_records.specs.Numbers.{number_at}
use Rattle.game_tuning.specs.Tuning.{tuning_count}
use Rattle.character.specs.Tick.{seats}
use Rattle.world.proofs.Seats.{by_test}
use Rattle.world_numbers.specs.Encoding.{world_count, seat_place, hook_place, state_place, retracted_numbers}
use Rattle.world_numbers.specs.Decoding.{is_set}
use Rattle.world_numbers.proofs.Written.{put_written}
use Rattle.world_buffers.specs.Leaving.{is_attached, holds_in, release_at, release_in}
use Rattle.world_late_buffers.proofs.Rows.{row_of, put_row, put_rows, row_number}

-- ---- one row
-- somebody is there, with a hook whose player is k
abbrev pub holds_row : List ℤ → ℕ → Bool
holds_row r k = is_set (number_at r 0) && (is_attached (number_at r state_place) && eqb (cast_unsigned (number_at r hook_place)) k)

abbrev pub released_row : List ℤ → ℕ → List ℤ
released_row r k = cond (holds_row r k) (put r hook_place retracted_numbers) r

pub first_number : (l : List ℤ) (j : ℕ) → number_at l (seat_place j) ≡ number_at (row_of l j) 0
first_number l j = ap (number_at l) (sym (add-zero (seat_place j))) ∙ row_number l j 0 (omega arith)

holds_row_lem : (l : List ℤ) (j k : ℕ) → holds_in l j k ≡ holds_row (row_of l j) k
unfolding holds_in
holds_row_lem l j k = rw (first_number l j, row_number l j state_place (omega arith), row_number l j hook_place (omega arith))

-- nobody is past the last seat
held_within : (l : List ℤ) (j k : ℕ) → length l ≡ world_count → holds_in l j k ≡ true → j < seats
unfolding holds_in is_set
held_within l j k long e = go (dec_lt j seats)
  where
    go : Dec (j < seats) → j < seats
    go (yes h) = h
    go (no h) =
        let q : length l ≤ seat_place j = omega (arith, h, long) in
        let z : number_at l (seat_place j) ≡ pos 0 = get_or-eq_default l (pos 0) q in
        absurd (true≢false (sym (rw z at e)))

-- ---- every row
-- as many numbers as a world has, with the tunings t
abbrev Sized : List ℤ → List ℤ → Type 0
Sized t u = (length u ≡ world_count) × (take tuning_count u ≡ t)

module _ (k : ℕ) where
  turn_sized : (t : List ℤ) (j : ℕ) (u : List ℤ) → Sized t u → Sized t (release_at k j u)
  turn_sized t j u h = by_test (Sized t) (holds_in u j k) (λ e. let w = put_written seats u h.0 j hook_place retracted_numbers (held_within u j k h.0 e) (omega arith) in (w.size ∙ h.0, w.tunings ∙ h.1)) (λ e. h)

  turn_other : (m : ℕ) → m < seats → (j : ℕ) (u : List ℤ) → length u ≡ world_count → (m ≡ j → ⊥) → row_of (release_at k j u) m ≡ row_of u m
  turn_other m q j u h d = by_test (λ (v : List ℤ). row_of v m ≡ row_of u m) (holds_in u j k) (λ e. put_rows u h j hook_place retracted_numbers (held_within u j k h e) (omega arith) m q d) (λ e. refl)

  turn_own : (m : ℕ) → m < seats → (u : List ℤ) → length u ≡ world_count → row_of (release_at k m u) m ≡ released_row (row_of u m) k
  turn_own m q u h = go (holds_in u m k) (holds_row (row_of u m) k) (holds_row_lem u m k)
    where
      go : (a b : Bool) → a ≡ b → row_of (cond a (put u (seat_place m + hook_place) retracted_numbers) u) m ≡ cond b (put (row_of u m) hook_place retracted_numbers) (row_of u m)
      go true true e = put_row u h m hook_place retracted_numbers q (omega arith)
      go false false e = refl
      go true false e = absurd (true≢false e)
      go false true e = absurd (true≢false (sym e))

  module _ (l : List ℤ) (long : length l ≡ world_count) where
    pub released-sized : Sized (take tuning_count l) (release_in l k)
    unfolding release_in
    released-sized = fold-kept (release_at k) (Sized (take tuning_count l)) (turn_sized (take tuning_count l)) seats 0 l (long, refl)

    pub released-row : (m : ℕ) → m < seats → row_of (release_in l k) m ≡ released_row (row_of l m) k
    unfolding release_in
    released-row m q = subst (On (λ v. row_of v m ≡ released_row (row_of l m) k)) (run_always (release_at k) seats 0 l)
        (run_own (always (release_at k)) (λ v. length v ≡ world_count) (λ v. row_of v m) (λ r. released_row r k) m (λ j u h d. ((turn_sized (take tuning_count u) j u (h, refl)).0, turn_other m q j u h d)) (λ u h. ((turn_sized (take tuning_count u) m u (h, refl)).0, turn_own m q u h)) seats q l long)
