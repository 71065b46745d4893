-- What a step tells in its buffers, read again. Definitions only; proofs/Records.antt proves it.
use Rattle.std.specs.Prelude.{ℕ, ◌*◌, ◌-◌, not, ◌&&◌, List, ◌++◌, map, ◌≡◌, ℤ, pos, length, drop, replicate}
use Rattle.game_records.specs.Numbers.{number_at, core_in}
use Rattle.map_tiles.specs.declared.tiles.Sides.{Sides}
use Rattle.character.specs.Tick.{seats, slot_at}
use Rattle.world.specs.Deadly.{Rising}
use Rattle.world.specs.Demand3.{record_at}
use Rattle.world.specs.Removal.{ids_in, is_in}
use Rattle.world.specs.Step.{step}
use Rattle.world.specs.declared.Published.{Published}
use Rattle.world.specs.Answered.{Stepped}
use Rattle.world.specs.declared.World.{World}
use Rattle.world_numbers.specs.Encoding.{record_count, records_encoding}
use Rattle.world_numbers.specs.Decoding.{is_set, decoding}
use Rattle.world_buffers.specs.Stepping.{StepBuffers, step_in}

-- ---- records

-- the record whose numbers l starts with: its presence, which is set where it is not 0, and the fifteen numbers behind it
unfoldable pub published_in : List ℤ → Published
published_in l = record { present = is_set (number_at l 0); core = core_in (drop 1 l) }

-- that of the seat j
abbrev pub published_at : List ℤ → ℕ → Published
published_at l j = published_in (drop (record_count * j) l)

-- the records of any step come back from their numbers, seat by seat
abbrev pub RecordsComeBack : Type 0
RecordsComeBack = (rs : List Published) (j : ℕ) → published_at (records_encoding rs) j ≡ record_at rs j

-- ---- an accepted step

-- d tells the step a of w
pub record TellsStep (w : World) (a : Stepped) (d : StepBuffers) : Type 0 where
  -- at each seat the record that it took
  pub records : (j : ℕ) → published_at d.records j ≡ record_at a.records j
  -- the ids of who is removed, zeros behind them, and how many they are
  pub removed : d.removed ≡ map pos (ids_in a.removed) ++ replicate (seats - d.count) (pos 0)
  pub count : d.count ≡ length (ids_in a.removed)
  -- by rising id, each of somebody who was there before the step and isn't after it
  pub rising : Rising (ids_in a.removed)
  pub gone : (k : ℕ) → is_in k (ids_in a.removed) ≡ (slot_at w.slots k).present && not (slot_at a.world.slots k).present

-- on any numbers, the step of the world that they stand for
abbrev pub StepTold : Type 0
StepTold = (s : Sides) (ts : List ℕ) (l : List ℤ) (b : StepBuffers) → (step_in s ts l b).number ≡ 0 → let w = decoding seats l in TellsStep w (step seats w s ts) (step_in s ts l b).told
