-- The arrays of a step between its moves, against the slots that they stand for. Definitions only.
use Rattle.std.specs.Prelude.{ℕ, ◌+◌, ◌<◌, ◌≤◌, Bool, true, false, Result, List, ◌≡◌, ℤ, pos, length, get_or, replicate}
use Rattle.base_turns.specs.Turns.{Turn, more, stop}
use Rattle.game_refusals.specs.declared.Refusal.{Refusal}
use Rattle.game_tuning.specs.declared.Tuning.{Tuning}
use Rattle.map_tiles.specs.declared.tiles.Sides.{Sides}
use Rattle.character.specs.Places.{place_at, PlacesOf}
use Rattle.character.specs.Tick.{seats, slot_at}
use Rattle.character.specs.declared.Slot.{Slot}
use Rattle.world.specs.Demand3.{record_at}
use Rattle.world.specs.Step.{Moving, move_turn, move_all}
use Rattle.world_numbers.specs.Encoding.{record_count, records_count, record_numbers}
use Rattle.world_inplace.specs.Bodies.{Bodies, Sized, BodiesOf, row_of, RowFor}
use Rattle.world_inplace.specs.Ticks.{Answered}

-- all have ticked, which left the slots ss
pub record Ready (ss : List Slot) (b : Bodies) (rows : List ℤ) (marks : List Bool) : Type 0 where
  pub count : length ss ≡ seats
  pub size : length rows ≡ records_count
  pub sized : Sized b
  pub bodies : BodiesOf seats ss b
  pub ticked : (j : ℕ) → j < seats → (slot_at ss j).present ≡ true → RowFor (row_of rows j) (slot_at ss j).character
  pub marked : (j : ℕ) → j < seats → get_or marks j false ≡ (slot_at ss j).grounded
  pub absent : (j : ℕ) → j < seats → (slot_at ss j).present ≡ false → row_of rows j ≡ replicate record_count (pos 0)

-- the ids below i have moved, which left the slots and records of m
pub record MovesOf (i : ℕ) (m : Moving) (b : Bodies) (rows : List ℤ) (marks : List Bool) : Type 0 where
  pub count : length m.slots ≡ seats
  pub counted : length m.records ≡ seats
  pub size : length rows ≡ records_count
  pub sized : Sized b
  pub places : PlacesOf seats m.slots b.present b.xs b.ys
  pub marked : (j : ℕ) → j < seats → get_or marks j false ≡ (slot_at m.slots j).grounded
  pub waits : (j : ℕ) → i ≤ j → j < seats → (slot_at m.slots j).present ≡ true → RowFor (row_of rows j) (slot_at m.slots j).character × (place_at b.vxs b.vys j ≡ (slot_at m.slots j).character.vel)
  pub absent : (j : ℕ) → j < seats → (slot_at m.slots j).present ≡ false → row_of rows j ≡ record_numbers (record_at m.records j)
  pub told : (j : ℕ) → j < i → j < seats → (slot_at m.slots j).present ≡ true → row_of rows j ≡ record_numbers (record_at m.records j)

-- the moves went on, to slots and records that these arrays stand for
pub record MovesWent (i : ℕ) (e : Turn Moving ℕ) (b : Bodies) (rows : List ℤ) (marks : List Bool) : Type 0 where
  pub moving : Moving
  pub went : e ≡ more moving
  pub stand : MovesOf i moving b rows marks

-- the moves end with e: in these arrays, or refused
abbrev pub MovesDone : Result (Unit {0}) Refusal → ℕ → Turn Moving ℕ → Bodies → List ℤ → List Bool → Type 0
MovesDone r i e b rows marks = Answered r (MovesWent i e b rows marks) (λ k. e ≡ stop k)

-- the move of the id i, who is there, from the first arrays to the second
abbrev pub MoveOf : Result (Unit {0}) Refusal → ℕ → Sides → List ℕ → Tuning → Bodies → List ℤ → Bodies → List ℤ → Type 0
MoveOf r i s ts t b rows b' rows' = (m : Moving) (marks : List Bool) → (slot_at m.slots i).present ≡ true → MovesOf i m b rows marks → MovesDone r (i + 1) (move_turn seats s ts t i m) b' rows' marks

-- the moves of all, from any slots that have ticked and the first arrays to the second
abbrev pub AllMoved : Result (Unit {0}) Refusal → Sides → List ℕ → Tuning → Bodies → List ℤ → Bodies → List ℤ → Type 0
AllMoved r s ts t b rows b' rows' = (ss : List Slot) (marks : List Bool) → Ready ss b rows marks → MovesDone r seats (move_all seats ss s ts t) b' rows' marks
