-- The rows of the records with one of them written: how each reads, and when they are the records of a step. Assumes nothing.
use Prim.Native.Nat.{ℕ, suc, ◌+◌, ◌*◌, ◌-◌, ◌≤◌, ◌<◌}
use mathlib.Core.Bool.{true}
use mathlib.Core.List.{List, [], ◌∷◌, ◌++◌}
use mathlib.Core.Logic.{◌⊎◌, inl, inr}
use mathlib.Core.Path.{◌≡◌, refl, sym, ap, ap₂, ◌∙◌}
use native.Mathlib.Decide.{dec_lt}
use native.Mathlib.Omega.{arith}
use lib.IntN.{ℤ, pos}
use lib.ListN.{length, take, drop, replicate, length-drop, length-replicate, take-append-drop, replicate-append-replicate}
use lib.Seq.{take_at, drop_at, drop-drop, length-take-le}
use Rattle.base_rows.specs.Put.{put}
use Rattle.base_rows.proofs.Puts.{length-put, drop-put, drop-put-add, part_else, put-append}
use Rattle.game_records.specs.Numbers.{core_numbers}
use Rattle.character_hook.specs.Hook.{tick_of}
use Rattle.character.specs.Records.{net_jumped, core_of, most_tick, to_net}
use Rattle.character.specs.declared.Character.{Character}
use Rattle.character_laws.proofs.Back.{to_core}
use Rattle.world.specs.Demand3.{record_at}
use Rattle.world.specs.Step.{unpublished}
use Rattle.world.specs.declared.Published.{Published}
use Rattle.world_numbers.specs.Encoding.{record_count, records_count, each, net_core, record_numbers, records_encoding}
use Rattle.world_inplace.specs.Bodies.{row_of, body_numbers, RowFor}

-- ---- one row
-- of whoever has ticked
pub row_for : (c : Character) → tick_of c.hook ≤ most_tick → RowFor (record_numbers (record { present = true; core = net_core (to_net c) })) c
unfolding put record_numbers core_numbers body_numbers core_of net_jumped
row_for c h = record { fits = h; moved = λ p v. rw (to_core c h) refl }

-- of nobody
pub no_row : replicate record_count (pos 0) ≡ record_numbers unpublished
unfolding record_numbers core_numbers
no_row = refl

-- ---- among the others
-- a row within the first n of a longer one
put_within : (r : List ℤ) (n q : ℕ) (w : List ℤ) → n ≤ length r → q + length w ≤ n → take n (put r q w) ≡ put (take n r) q w
put_within r n q w h g =
    let t : List ℤ = take n r in
    let e : length t ≡ n = length-take-le n r h in
    ap (λ (d : List ℤ). take n (put d q w)) (sym (take-append-drop n r))
    ∙ ap (take n) (put-append t (drop n r) q w (omega arith))
    ∙ take_at (put t q w) (drop n r) n (length-put t q w (omega arith) ∙ e)

module _ (n j : ℕ) (rows : List ℤ) (size : length rows ≡ record_count * n) (l : j < n) where
  -- the whole row j
  pub row_whole : (w : List ℤ) → length w ≡ record_count → row_of (put rows (record_count * j) w) j ≡ w
  row_whole w e = ap (take record_count) (drop-put rows (record_count * j) w (omega arith)) ∙ take_at w (drop (record_count * j + length w) rows) record_count e

  -- a part of it
  pub row_part : (q : ℕ) (w : List ℤ) → q + length w ≤ record_count → row_of (put rows (record_count * j + q) w) j ≡ put (row_of rows j) q w
  row_part q w h = ap (take record_count) (drop-put-add rows (record_count * j) q w (omega arith)) ∙ put_within (drop (record_count * j) rows) record_count q w (omega (arith, length-drop (record_count * j) rows)) h

  -- another row
  pub row_else : (q : ℕ) (w : List ℤ) (k : ℕ) → q + length w ≤ record_count → (k ≡ j → ⊥) → row_of (put rows (record_count * j + q) w) k ≡ row_of rows k
  row_else q w k h d = part_else rows (record_count * j + q) w (record_count * k) record_count (omega arith) (go (dec_lt k j))
    where
      go : Dec (k < j) → (record_count * k + record_count ≤ record_count * j + q) ⊎ (record_count * j + q + length w ≤ record_count * k)
      go (yes g) = inl (omega arith)
      go (no g) = inr (omega arith)

-- ---- all of them
part_replicate : (a n m : ℕ) (x : ℤ) → a + n ≤ m → take n (drop a (replicate m x)) ≡ replicate n x
part_replicate a n m x h =
    let e : a + (n + (m - (a + n))) ≡ m = omega arith in
    let r : List ℤ = replicate (m - (a + n)) x in
    ap (λ (k : ℕ). take n (drop a (replicate k x))) (sym e)
    ∙ ap (λ (l : List ℤ). take n (drop a l)) (sym (replicate-append-replicate a (n + (m - (a + n))) x))
    ∙ ap (take n) (drop_at (replicate a x) (replicate (n + (m - (a + n))) x) a (length-replicate a x))
    ∙ ap (take n) (sym (replicate-append-replicate n (m - (a + n)) x))
    ∙ take_at (replicate n x) r n (length-replicate n x)

pub blank_long : (rows : List ℤ) → rows ≡ replicate records_count (pos 0) → length rows ≡ records_count
blank_long rows e = ap length e ∙ length-replicate records_count (pos 0)

pub blank_row : (n j : ℕ) (rows : List ℤ) → rows ≡ replicate (record_count * n) (pos 0) → j < n → row_of rows j ≡ replicate record_count (pos 0)
blank_row n j rows e l = rw e (part_replicate (record_count * j) record_count (record_count * n) (pos 0) (omega arith))

-- they are the records, row by row
pub rows_are : (rs : List Published) (rows : List ℤ) → length rows ≡ record_count * length rs → ((j : ℕ) → j < length rs → row_of rows j ≡ record_numbers (record_at rs j)) → rows ≡ records_encoding rs
unfolding each records_encoding
rows_are [] [] e h = refl
rows_are [] (z ∷ r) e h = absurd (omega arith)
rows_are (p ∷ ps) rows e h =
    let m = length-drop record_count rows in
    sym (take-append-drop record_count rows)
    ∙ ap₂ (λ (a b : List ℤ). a ++ b) (h 0 (omega arith)) (rows_are ps (drop record_count rows) (omega arith) (λ k q. ap (take record_count) (later k) ∙ h (suc k) (omega arith)))
  where
    later : (k : ℕ) → drop (record_count * k) (drop record_count rows) ≡ drop (record_count * suc k) rows
    later k = let e : record_count * suc k ≡ record_count + record_count * k = omega arith in drop-drop (record_count * k) record_count rows ∙ ap (λ (i : ℕ). drop i rows) (sym e)
