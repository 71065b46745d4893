-- The ticks and moves of a step together. Definitions only.
use Rattle.std.specs.Prelude.{ℕ, ◌<◌, Bool, false, Result, List, ◌≡◌, Float, ℤ, length, get_or}
use Rattle.base_turns.specs.Turns.{Turn, more, stop, next}
use Rattle.game_refusals.specs.declared.Refusal.{Refusal}
use Rattle.game_tuning.specs.Tuning.{tuning_of}
use Rattle.map_tiles.specs.declared.tiles.Sides.{Sides}
use Rattle.character.specs.Places.{PlacesOf}
use Rattle.character.specs.Tick.{seats, slot_at}
use Rattle.world.specs.Demand3.{record_at}
use Rattle.world.specs.Step.{Moving, tick_all, move_all}
use Rattle.world.specs.declared.World.{World}
use Rattle.world_numbers.specs.Encoding.{records_count, record_numbers}
use Rattle.world_inplace.specs.Bodies.{row_of}
use Rattle.world_inplace.specs.Ticks.{Answered}

-- arrays for who is there and where
pub record Room (ps : List Bool) (us vs : List Float) : Type 0 where
  pub present : length ps ≡ seats
  pub xs : length us ≡ seats
  pub ys : length vs ≡ seats

-- all tick, then all move
abbrev pub advanced : World → Sides → List ℕ → Turn Moving ℕ
advanced w s ts = let t = tuning_of w.tunings in next (λ ss. move_all seats ss s ts t) (tick_all seats w.slots s ts t)

-- they went on, to slots and records that these arrays stand for
pub record Advanced (e : Turn Moving ℕ) (ps : List Bool) (xs ys : List Float) (rows : List ℤ) (marks : List Bool) : Type 0 where
  pub moving : Moving
  pub went : e ≡ more moving
  pub count : length moving.slots ≡ seats
  pub counted : length moving.records ≡ seats
  pub size : length rows ≡ records_count
  pub markers : length marks ≡ seats
  pub places : PlacesOf seats moving.slots ps xs ys
  pub told : (j : ℕ) → j < seats → row_of rows j ≡ record_numbers (record_at moving.records j)
  pub marked : (j : ℕ) → j < seats → get_or marks j false ≡ (slot_at moving.slots j).grounded

-- they end with e: in these arrays, or refused
abbrev pub AdvanceDone : Result (Unit {0}) Refusal → Turn Moving ℕ → List Bool → List Float → List Float → List ℤ → List Bool → Type 0
AdvanceDone r e ps xs ys rows marks = Answered r (Advanced e ps xs ys rows marks) (λ k. e ≡ stop k)
