-- The arrays of a step between its ticks, against the slots that they stand for. Definitions only.
use Rattle.std.specs.Prelude.{ℕ, ◌+◌, ◌<◌, ◌≤◌, Bool, true, false, Result, Ok, Err, List, ◌≡◌, ℤ, pos, length, get_or, drop, replicate}
use Rattle.base_turns.specs.Turns.{Turn, more, stop}
use Rattle.game_refusals.specs.Refusals.{number_of}
use Rattle.game_refusals.specs.declared.Refusal.{Refusal}
use Rattle.game_tuning.specs.declared.Tuning.{Tuning}
use Rattle.map_tiles.specs.declared.tiles.Sides.{Sides}
use Rattle.num_vec2.specs.declared.vec2.{vec2}
use Rattle.character.specs.Character.{with_vel}
use Rattle.character.specs.Slot.{with_character}
use Rattle.character.specs.Tick.{seats, slot_at}
use Rattle.character.specs.declared.Slot.{Slot}
use Rattle.world.specs.Step.{tick_turn}
use Rattle.world_numbers.specs.Encoding.{record_count, records_count, seat_place}
use Rattle.world_numbers.specs.Decoding.{seat_of}
use Rattle.world_inplace.specs.Bodies.{Bodies, Sized, BodiesOf, row_of, RowFor}

-- s with another velocity
abbrev pub with_speed : Slot → vec2 → Slot
with_speed s v = with_character s (with_vel s.character v)

-- a half of a step answered: done and P, or refused with a number of which Q says what it means
abbrev pub Answered : Result (Unit {0}) Refusal → Type 0 → (ℕ → Type 0) → Type 0
Answered (Ok u) P Q = P
Answered (Err e) P Q = Q (number_of e)

-- the ids below i of the world whose numbers are l have ticked, which left the slots ss
pub record TicksOf (l : List ℤ) (i : ℕ) (ss : List Slot) (b : Bodies) (rows : List ℤ) (marks : List Bool) : Type 0 where
  pub count : length ss ≡ seats
  pub size : length rows ≡ records_count
  pub markers : length marks ≡ seats
  pub sized : Sized b
  pub bodies : BodiesOf seats ss b
  pub waits : (j : ℕ) → i ≤ j → j < seats → slot_at ss j ≡ with_speed (seat_of (drop (seat_place j) l)) (slot_at ss j).character.vel
  pub ticked : (j : ℕ) → j < i → j < seats → (slot_at ss j).present ≡ true → RowFor (row_of rows j) (slot_at ss j).character
  pub marked : (j : ℕ) → j < seats → ((slot_at ss j).present ≡ true → j < i) → get_or marks j false ≡ (slot_at ss j).grounded
  pub absent : (j : ℕ) → j < seats → (slot_at ss j).present ≡ false → row_of rows j ≡ replicate record_count (pos 0)

-- the ticks went on, to slots that these arrays stand for
pub record TicksWent (l : List ℤ) (i : ℕ) (e : Turn (List Slot) ℕ) (b : Bodies) (rows : List ℤ) (marks : List Bool) : Type 0 where
  pub slots : List Slot
  pub went : e ≡ more slots
  pub stand : TicksOf l i slots b rows marks

-- the ticks end with e: in these arrays, or refused
abbrev pub TicksDone : Result (Unit {0}) Refusal → List ℤ → ℕ → Turn (List Slot) ℕ → Bodies → List ℤ → List Bool → Type 0
TicksDone r l i e b rows marks = Answered r (TicksWent l i e b rows marks) (λ k. e ≡ stop k)

-- the tick of the id i, who is there, from the first arrays to the second
abbrev pub TickOf : Result (Unit {0}) Refusal → List ℤ → ℕ → Sides → List ℕ → Tuning → Bodies → List ℤ → List Bool → Bodies → List ℤ → List Bool → Type 0
TickOf r l i s ts t b rows marks b' rows' marks' = (ss : List Slot) → (slot_at ss i).present ≡ true → TicksOf l i ss b rows marks → TicksDone r l (i + 1) (tick_turn seats s ts t i ss) b' rows' marks'
