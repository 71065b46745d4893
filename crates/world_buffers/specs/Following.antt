-- What calls leave in a world's buffer, against the calls on a world by value. Definitions only; proofs/Stands.antt and proofs/Reached.antt prove it.
use Rattle.std.specs.Prelude.{ℕ, List, [], ◌∷◌, ◌≡◌, ℤ, length}
use Rattle.num_convert.specs.Casts.{IsI32}
use Rattle.game_records.specs.Numbers.{number_at}
use Rattle.map_tiles.specs.declared.tiles.Sides.{Sides}
use Rattle.world.specs.declared.call.Call.{Call}
use Rattle.world.specs.declared.call.Call.TheVariants.{Join, Leave, Input, Step, Tune}
use Rattle.character.specs.Tick.{seats}
use Rattle.world.specs.World.{fresh}
use Rattle.world.specs.Run.{input_of, ran, after}
use Rattle.world_numbers.specs.Encoding.{world_count, records_count, encoding}
use Rattle.world_numbers.specs.Decoding.{decoding}
use Rattle.world_buffers.specs.Buffers.{LeftWorld, join_in, leave_in, input_in, tune_in}
use Rattle.world_buffers.specs.Stepping.{StepBuffers, LeftByStep, step_in}

-- a step's number, and the numbers of the world that it leaves
abbrev pub left_of : LeftByStep → LeftWorld
left_of r = record { number = r.number; world = r.world }

-- a call's; b is what a step is lent to tell
abbrev pub left_by : Sides → List ℕ → StepBuffers → List ℤ → Call → LeftWorld
left_by s ts b l (Join id x y) = join_in s ts l id x y
left_by s ts b l (Leave id) = leave_in l id
left_by s ts b l (Input id d x y j h) = input_in l id (input_of d x y j h)
left_by s ts b l (Tune index z) = tune_in l index z
left_by s ts b l Step = left_of (step_in s ts l b)

-- ---- one call on any numbers

-- the answer and the next world are those of the call on the world that the numbers stand for
pub record Stands (s : Sides) (ts : List ℕ) (b : StepBuffers) (l : List ℤ) (c : Call) : Type 0 where
  pub number : (left_by s ts b l c).number ≡ (ran seats s ts (decoding seats l) c).number
  pub world : decoding seats (left_by s ts b l c).world ≡ (ran seats s ts (decoding seats l) c).world

-- whoever wrote the numbers
abbrev pub CallsStand : Type 0
CallsStand = (s : Sides) (ts : List ℕ) (b : StepBuffers) (l : List ℤ) (c : Call) → length l ≡ world_count → length b.records ≡ records_count → length b.removed ≡ seats → ((k : ℕ) → IsI32 (number_at l k)) → Stands s ts b l c

-- what a step tells; any other call tells nothing in b
abbrev pub told_into : Sides → List ℕ → StepBuffers → List ℤ → Call → StepBuffers
told_into s ts b l (Join id x y) = b
told_into s ts b l (Leave id) = b
told_into s ts b l (Input id d x y j h) = b
told_into s ts b l (Tune index z) = b
told_into s ts b l Step = (step_in s ts l b).told

-- a refused call leaves every number of every buffer as it was, whatever their lengths
abbrev pub RefusalsLeave : Type 0
RefusalsLeave = (s : Sides) (ts : List ℕ) (b : StepBuffers) (l : List ℤ) (c : Call) → ((left_by s ts b l c).number ≡ 0 → ⊥) → ((left_by s ts b l c).world ≡ l) × (told_into s ts b l c ≡ b)

-- ---- every list of calls on a fresh world

-- the world's buffer after all calls of a list
abbrev pub left_by_all : Sides → List ℕ → StepBuffers → List ℤ → List Call → List ℤ
left_by_all s ts b l [] = l
left_by_all s ts b l (c ∷ cs) = left_by_all s ts b (left_by s ts b l c).world cs

-- the numbers of a fresh world become those of the world that demand 3 speaks of, whatever the map and the calls
abbrev pub BufferFollows : Type 0
BufferFollows = (s : Sides) (ts : List ℕ) (b : StepBuffers) (cs : List Call) → length b.records ≡ records_count → length b.removed ≡ seats → left_by_all s ts b (encoding (fresh seats)) cs ≡ encoding (after seats s ts (fresh seats) cs)
