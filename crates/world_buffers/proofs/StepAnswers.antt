-- What a step leaves in its buffers, by the tests that decide it. Assumes nothing.
use Prim.Native.Nat.{ℕ, ◌+◌, ◌*◌, ◌<◌}
use mathlib.Core.Bool.{Bool, true, false}
use mathlib.Core.List.{List, [], ◌∷◌}
use mathlib.Core.Path.{◌≡◌, refl, sym, ap, ◌∙◌}
use native.Mathlib.Omega.{arith}
use lib.IntN.{ℤ}
use lib.ListN.{length, get_or, set, take, drop}
use lib.Seq.{take_all, take-take, drop-drop}
use borrow.Author.Tests.{eq-eqb, ne_eqb}
use Rattle.base_rows.specs.Put.{put}
use Rattle.game_records.specs.Numbers.{core_count, core_numbers}
use Rattle.game_records.proofs.Back.{core_long}
use Rattle.game_refusals.specs.Refusals.{bad_map, bad_length}
use Rattle.map_tiles.specs.Map.{is_map}
use Rattle.map_tiles.specs.declared.tiles.Sides.{Sides}
use Rattle.character.specs.Tick.{seats}
use Rattle.world.specs.Demand3.{record_at}
use Rattle.world.specs.Removal.{ids_in}
use Rattle.world.specs.Step.{unpublished, step_refused, step_on, step}
use Rattle.world.specs.declared.Published.{Published}
use Rattle.world.specs.Answered.{Stepped}
use Rattle.world.specs.declared.World.{World}
use Rattle.world_numbers.specs.Encoding.{record_count, mark_place, world_count, records_count, seat_place, flag, record_numbers, records_encoding}
use Rattle.world_numbers.specs.Decoding.{decoding}
use Rattle.world_numbers.proofs.Rows.{record_long}
use Rattle.world_numbers.proofs.Written.{each_row}
use Rattle.world_buffers.specs.Buffers.{is_there}
use Rattle.world_buffers.specs.Leaving.{remove_in}
use Rattle.world_buffers.specs.Stepping.{StepBuffers, LeftByStep, told_in, seat_written, step_seat, step_seats, left_by_step, step_in, RowsOf}

pub told_is : (a : Stepped) (rs is : List ℤ) (n : ℕ) → rs ≡ records_encoding a.records → is ≡ a.removed.ids → n ≡ a.removed.count → record { records = rs; removed = is; count = n } ≡ told_in a
told_is a rs is n e f g = rw (e, f, g)

module _ (l : List ℤ) (b : StepBuffers) (a : Stepped) where
  pub step-accepted : (m : List ℤ) (d : StepBuffers) → a.number ≡ 0 → m ≡ remove_in (step_seats a l) (ids_in a.removed) → d ≡ told_in a → left_by_step l b a ≡ record { number = 0; world = m; told = d }
  unfolding left_by_step
  step-accepted m d z e f = rw (eq-eqb a.number 0 z, e, f)

  pub step-refused : (a.number ≡ 0 → ⊥) → left_by_step l b a ≡ record { number = a.number; world = l; told = b }
  unfolding left_by_step
  step-refused z = rw (ne_eqb a.number 0 z)

module _ (s : Sides) (ts : List ℕ) (l : List ℤ) (b : StepBuffers) where
  pub wrong_world : (length l ≡ world_count → ⊥) → step_in s ts l b ≡ record { number = bad_length; world = l; told = b }
  unfolding step_in
  wrong_world h = rw (ne_eqb (length l) world_count h)

  pub wrong_records : length l ≡ world_count → (length b.records ≡ records_count → ⊥) → step_in s ts l b ≡ record { number = bad_length; world = l; told = b }
  unfolding step_in
  wrong_records h g = rw (eq-eqb (length l) world_count h, ne_eqb (length b.records) records_count g)

  pub wrong_removed : length l ≡ world_count → length b.records ≡ records_count → (length b.removed ≡ seats → ⊥) → step_in s ts l b ≡ record { number = bad_length; world = l; told = b }
  unfolding step_in
  wrong_removed h g f = rw (eq-eqb (length l) world_count h, eq-eqb (length b.records) records_count g, ne_eqb (length b.removed) seats f)

  pub right_lengths : (a : Stepped) (e : LeftByStep) → length l ≡ world_count → length b.records ≡ records_count → length b.removed ≡ seats → a ≡ step seats (decoding seats l) s ts → left_by_step l b a ≡ e → step_in s ts l b ≡ e
  unfolding step_in
  right_lengths a e h g f q k = rw (eq-eqb (length l) world_count h, eq-eqb (length b.records) records_count g, eq-eqb (length b.removed) seats f) (ap (left_by_step l b) (sym q) ∙ k)

-- the step by whether the map is one
module _ (w : World) (s : Sides) (ts : List ℕ) where
  pub on_map_lem : is_map s ts ≡ true → step_on seats w s ts ≡ step seats w s ts
  unfolding step
  on_map_lem e = rw e

  pub off_map : is_map s ts ≡ false → step_refused seats w bad_map ≡ step seats w s ts
  unfolding step
  off_map e = rw e

-- ---- one seat
module _ (l : List ℤ) (j : ℕ) (core : List ℤ) (g : Bool) where
  pub seat_there : is_there l j ≡ true → set (put l (seat_place j + 1) core) (seat_place j + mark_place) (flag g) ≡ seat_written l j core g
  unfolding seat_written
  seat_there e = rw e

  pub seat_empty : is_there l j ≡ false → l ≡ seat_written l j core g
  unfolding seat_written
  seat_empty e = rw e

-- the record's own numbers behind its presence
core_part : (p : Published) (row : List ℤ) → row ≡ record_numbers p → take core_count (drop 1 row) ≡ core_numbers p.core
unfolding record_numbers
core_part p row e = ap (λ (r : List ℤ). take core_count (drop 1 r)) e ∙ take_all core_count (core_numbers p.core) (omega (arith, core_long p.core))

front : (d : List ℤ) → take core_count (drop 1 (take record_count d)) ≡ take core_count (drop 1 d)
front [] = refl
front (x ∷ xs) = take-take core_count core_count xs (omega arith)

-- the rows of a step's records at a seat
module _ (a : Stepped) (rows : List ℤ) (marks : List Bool) (h : RowsOf a rows marks) (j : ℕ) (l : j < seats) where
  core_in : take core_count (drop (record_count * j + 1) rows) ≡ core_numbers (record_at a.records j).core
  unfolding records_encoding
  core_in =
      let row : take record_count (drop (record_count * j) rows) ≡ record_numbers (record_at a.records j) = ap (λ (r : List ℤ). take record_count (drop (record_count * j) r)) h.records ∙ each_row record_numbers record_count unpublished record_long a.records j (omega (arith, h.count)) in
      ap (take core_count) (sym (drop-drop 1 (record_count * j) rows)) ∙ sym (front (drop (record_count * j) rows)) ∙ core_part (record_at a.records j) (take record_count (drop (record_count * j) rows)) row

  pub seat_told : (world core : List ℤ) → core ≡ take core_count (drop (record_count * j + 1) rows) → seat_written world j core (get_or marks j false) ≡ step_seat a j world
  seat_told world core e = rw (e, core_in, h.marked j l) refl
