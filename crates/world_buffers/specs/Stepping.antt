-- Step on a world that is kept as the numbers of a buffer: what it answers, and what it leaves in the buffers. Definitions only.
use Rattle.std.specs.Prelude.{ℕ, ◌+◌, ◌<◌, Bool, false, cond, ◌&&◌, List, ◌≡◌, eqb, ℤ, length, get_or, set}
use Rattle.base_rows.specs.Put.{put}
use Rattle.base_turns.specs.Turns.{fold}
use Rattle.game_refusals.specs.Refusals.{bad_length}
use Rattle.game_records.specs.Numbers.{core_numbers}
use Rattle.map_tiles.specs.declared.tiles.Sides.{Sides}
use Rattle.character.specs.Tick.{seats, slot_at}
use Rattle.character.specs.declared.Slot.{Slot}
use Rattle.world.specs.Demand3.{record_at}
use Rattle.world.specs.Removal.{dies, dying, listed, ids_in}
use Rattle.world.specs.Step.{step}
use Rattle.world.specs.declared.Removed.{Removed}
use Rattle.world.specs.Answered.{Stepped}
use Rattle.world_numbers.specs.Encoding.{mark_place, world_count, records_count, seat_place, flag, records_encoding}
use Rattle.world_numbers.specs.Decoding.{decoding}
use Rattle.world_buffers.specs.Buffers.{has, is_there}
use Rattle.world_buffers.specs.Leaving.{remove_in}

-- what a step is lent to tell: a buffer for the records, one for the ids of who is removed, and a place for their count
pub record StepBuffers : Type 0 where
  pub records : List ℤ
  pub removed : List ℤ
  pub count : ℕ

-- its number, and what it leaves in the world's buffer and in those
pub record LeftByStep : Type 0 where
  pub number : ℕ
  pub world : List ℤ
  pub told : StepBuffers

-- the records, the removed ids with zeros behind them, and how many they are
abbrev pub told_in : Stepped → StepBuffers
told_in a = record { records = records_encoding a.records; removed = a.removed.ids; count = a.removed.count }

-- the seat j with the numbers of a record and a floor mark, where somebody is there
unfoldable pub seat_written : List ℤ → ℕ → List ℤ → Bool → List ℤ
seat_written l j core g = cond (is_there l j) (set (put l (seat_place j + 1) core) (seat_place j + mark_place) (flag g)) l

-- the record that the step a took of it, and the floor mark that it left
abbrev pub step_seat : Stepped → ℕ → List ℤ → List ℤ
step_seat a j l = seat_written l j (core_numbers (record_at a.records j).core) (slot_at a.world.slots j).grounded

-- every seat
unfoldable pub step_seats : Stepped → List ℤ → List ℤ
step_seats a l = fold (step_seat a) seats 0 l

-- an accepted step leaves these, without who is removed, and what it tells; a refused one everything as it was
unfoldable pub left_by_step : List ℤ → StepBuffers → Stepped → LeftByStep
left_by_step l b a = cond (eqb a.number 0) (record { number = 0; world = remove_in (step_seats a l) (ids_in a.removed); told = told_in a }) (record { number = a.number; world = l; told = b })

-- a step of the world that the numbers l stand for, which is told in b
unfoldable pub step_in : Sides → List ℕ → List ℤ → StepBuffers → LeftByStep
step_in s ts l b = cond (has world_count l && has records_count b.records && has seats b.removed) (left_by_step l b (step seats (decoding seats l) s ts)) (record { number = bad_length; world = l; told = b })

-- ---- what is written of a step

-- these rows and floor marks are what the step a took and left of each seat
pub record RowsOf (a : Stepped) (rows : List ℤ) (marks : List Bool) : Type 0 where
  pub count : length a.records ≡ seats
  pub records : rows ≡ records_encoding a.records
  pub marked : (j : ℕ) → j < seats → get_or marks j false ≡ (slot_at a.world.slots j).grounded

-- P of every step that these rows and floor marks are of
abbrev pub OfStep : List ℤ → List Bool → (Stepped → Type 0) → Type 0
OfStep rows marks P = (a : Stepped) → RowsOf a rows marks → P a

-- an accepted step who removes r: from the first numbers and buffers to the second
abbrev pub StepWritten : Removed → List ℤ → StepBuffers → List ℤ → StepBuffers → Stepped → Type 0
StepWritten r l b m d a = a.number ≡ 0 → a.removed ≡ r → left_by_step l b a ≡ record { number = 0; world = m; told = d }

-- these are the floor marks of the slots ss
abbrev pub MarksOf : List Slot → List Bool → Type 0
MarksOf ss marks = (j : ℕ) → j < seats → get_or marks j false ≡ (slot_at ss j).grounded

-- r lists who of the slots ss dies, whose floor marks are taken away
pub record DyingOf (s : Sides) (ts : List ℕ) (ss : List Slot) (marks : List Bool) (r : Removed) (left : List Bool) : Type 0 where
  pub ids : r ≡ listed seats (dying seats s ts ss)
  pub cleared : (j : ℕ) → j < seats → get_or left j false ≡ cond (dies s ts (slot_at ss j)) false (get_or marks j false)
