-- The numbers of a world by its tunings and rows, a row being those of one seat. Assumes nothing.
use Prim.Native.Nat.{ℕ, zero, suc, ◌+◌, ◌*◌, ◌≤◌, ◌<◌}
use mathlib.Core.List.{List, [], ◌∷◌, ◌++◌}
use mathlib.Core.Path.{◌≡◌, refl, sym, ap, ap₂, ◌∙◌}
use native.Mathlib.Omega.{arith}
use lib.IntN.{ℤ, pos}
use lib.ListN.{length, take, drop, length-drop, take-append-drop}
use lib.Seq.{drop-drop, length-take-le, get_or-take, get_or-drop}
use Rattle.base_rows.specs.Put.{put}
use Rattle.base_rows.proofs.Puts.{drop-put-add}
use Rattle.game_records.specs.Numbers.{number_at}
use Rattle.game_tuning.specs.Tuning.{tuning_count}
use Rattle.character.specs.Tick.{seats}
use Rattle.world_numbers.specs.Encoding.{seat_count, world_count, seat_place}
use Rattle.world_numbers.proofs.Written.{row_at, row_long, put_written, put_first}

abbrev pub row_of : List ℤ → ℕ → List ℤ
row_of l k = take seat_count (row_at l k)

module _ (l : List ℤ) (long : length l ≡ world_count) where
  pub row_size : (k : ℕ) → k < seats → length (row_of l k) ≡ seat_count
  row_size k h = length-take-le seat_count (row_at l k) (row_long seats k l long h)

  -- a row within a row, and what it leaves of the others
  pub put_row : (k q : ℕ) (w : List ℤ) → k < seats → q + length w ≤ seat_count → row_of (put l (seat_place k + q) w) k ≡ put (row_of l k) q w
  put_row k q w h g = ap (take seat_count) (drop-put-add l (seat_place k) q w (omega arith)) ∙ put_first (row_at l k) q w (row_long seats k l long h) g

  pub put_rows : (k q : ℕ) (w : List ℤ) → k < seats → q + length w ≤ seat_count → (m : ℕ) → m < seats → (m ≡ k → ⊥) → row_of (put l (seat_place k + q) w) m ≡ row_of l m
  put_rows k q w h g m r d = (put_written seats l long k q w h g).others m r d

pub row_number : (l : List ℤ) (k i : ℕ) → i < seat_count → number_at l (seat_place k + i) ≡ number_at (row_of l k) i
row_number l k i h = sym (get_or-take seat_count (row_at l k) i (pos 0) h ∙ get_or-drop (seat_place k) l i (pos 0))

-- ---- the same tunings and the same rows are the same numbers
rows_same : (n : ℕ) (r t : List ℤ) → length r ≡ seat_count * n → length t ≡ seat_count * n → ((k : ℕ) → k < n → take seat_count (drop (seat_count * k) r) ≡ take seat_count (drop (seat_count * k) t)) → r ≡ t
rows_same zero [] [] e f h = refl
rows_same zero (z ∷ r) t e f h = absurd (omega arith)
rows_same zero [] (z ∷ t) e f h = absurd (omega arith)
rows_same (suc n) r t e f h =
    let p = length-drop seat_count r in
    let q = length-drop seat_count t in
    sym (take-append-drop seat_count r)
    ∙ ap₂ (λ (a b : List ℤ). a ++ b) (h 0 (omega arith)) (rows_same n (drop seat_count r) (drop seat_count t) (omega arith) (omega arith) (λ k l. sym (ap (take seat_count) (later k r)) ∙ h (suc k) (omega arith) ∙ ap (take seat_count) (later k t)))
    ∙ take-append-drop seat_count t
  where
    later : (k : ℕ) (v : List ℤ) → drop (seat_count * suc k) v ≡ drop (seat_count * k) (drop seat_count v)
    later k v = let e : seat_count * suc k ≡ seat_count + seat_count * k = omega arith in ap (λ (i : ℕ). drop i v) e ∙ sym (drop-drop (seat_count * k) seat_count v)

pub numbers_same : (l m : List ℤ) → length l ≡ world_count → length m ≡ world_count → take tuning_count l ≡ take tuning_count m → ((k : ℕ) → k < seats → row_of l k ≡ row_of m k) → l ≡ m
numbers_same l m e f t h =
    let p = length-drop tuning_count l in
    let q = length-drop tuning_count m in
    sym (take-append-drop tuning_count l)
    ∙ ap₂ (λ (a b : List ℤ). a ++ b) t (rows_same seats (drop tuning_count l) (drop tuning_count m) (omega arith) (omega arith) (λ k r. ap (take seat_count) (drop-drop (seat_count * k) tuning_count l) ∙ h k r ∙ sym (ap (take seat_count) (drop-drop (seat_count * k) tuning_count m))))
    ∙ take-append-drop tuning_count m
