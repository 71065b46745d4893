-- The step over lent slots. Definitions only.
use Rattle.std.specs.Prelude.{ℕ, List, [], ◌≡◌, ℤ, Result, Ok, Err, replicate}
use Rattle.map_tiles.specs.declared.tiles.Sides.{Sides}
use Rattle.character.specs.Tick.{seats}
use Rattle.character.specs.declared.Slot.{Slot}
use Rattle.world.specs.Step.{unpublished, step}
use Rattle.world.specs.Answered.{Stepped}
use Rattle.world.specs.declared.World.{World}
use Rattle.world.specs.Removal.{listed}
use Rattle.world.specs.declared.Published.{Published}
use Rattle.world.specs.declared.Records.{Records}
use Rattle.world.specs.declared.Removed.{Removed}
use Rattle.game_refusals.specs.Refusals.{number_of}
use Rattle.game_refusals.specs.declared.Refusal.{Refusal}

-- the world that a list of slots and the tunings make
abbrev pub world_of : List Slot → List ℤ → World
world_of ss ts = record { slots = ss; tunings = ts }

-- the step by value on that world
abbrev pub lent_step : List Slot → List ℤ → Sides → List ℕ → Stepped
lent_step ss ts s tiles = step seats (world_of ss ts) s tiles

-- what is told of a step: all but the world
pub record Told : Type 0 where
  pub number : ℕ
  pub records : List Published
  pub removed : Removed

-- the Told of a step in the code
abbrev pub told : Result Records Refusal → Told
told (Ok r) = record { number = 0; records = r.records; removed = r.removed }
told (Err refusal) = record { number = number_of refusal; records = replicate seats unpublished; removed = listed seats [] }

abbrev pub told_of : Stepped → Told
told_of a = record { number = a.number; records = a.records; removed = a.removed }

-- the slots that the step leaves
abbrev pub slots_left : List Slot → List ℤ → Sides → List ℕ → List Slot
slots_left ss ts s tiles = (lent_step ss ts s tiles).world.slots

-- a refusal leaves every slot as it was
abbrev pub RefusalLeaves : Type 0
RefusalLeaves = (ss : List Slot) (ts : List ℤ) (s : Sides) (tiles : List ℕ) → ((told_of (lent_step ss ts s tiles)).number ≡ 0 → ⊥) → slots_left ss ts s tiles ≡ ss

-- the slots that a step leaves and the same tunings make the world that it leaves
abbrev pub TuningsStay : Type 0
TuningsStay = (ss : List Slot) (ts : List ℤ) (s : Sides) (tiles : List ℕ) → world_of (slots_left ss ts s tiles) ts ≡ (lent_step ss ts s tiles).world
