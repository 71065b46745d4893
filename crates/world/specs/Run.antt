-- Calls run on a world: what one does and tells, and a whole list of them. Definitions only.
use Rattle.std.specs.Prelude.{ℕ, List, [], ◌∷◌, ℤ, replicate}
use Rattle.game_records.specs.declared.PlayerInput.{PlayerInput}
use Rattle.map_tiles.specs.declared.tiles.Sides.{Sides}
use Rattle.world.specs.declared.call.Call.{Call}
use Rattle.world.specs.declared.call.Call.TheVariants.{Join, Leave, Input, Step, Tune}
use Rattle.world.specs.Calls.{join, leave, input, tune}
use Rattle.world.specs.Removal.{listed, ids_in}
use Rattle.world.specs.Step.{unpublished, step}
use Rattle.world.specs.Answered.{Answer, Stepped}
use Rattle.world.specs.declared.Published.{Published}
use Rattle.world.specs.declared.World.{World}

-- the input of an input call
abbrev pub input_of : ℤ → ℤ → ℤ → ℤ → ℤ → PlayerInput
input_of direction x y jump hook = record { direction = direction; target_x = x; target_y = y; jump = jump; hook = hook }

-- the answer of any call but step has no records, and removes nobody
abbrev pub without_records : ℕ → Answer → Stepped
without_records n a = record { number = a.number; world = a.world; records = replicate n unpublished; removed = listed n [] }

-- what a call does to a world of n slots on one map, whatever its arguments: its number, the next world, and of a step the records and who is removed
abbrev pub ran : ℕ → Sides → List ℕ → World → Call → Stepped
ran n s ts w (Join id x y) = without_records n (join n w s ts id x y)
ran n s ts w (Leave id) = without_records n (leave n w id)
ran n s ts w (Input id d x y j h) = without_records n (input n w id (input_of d x y j h))
ran n s ts w Step = step n w s ts
ran n s ts w (Tune index z) = without_records n (tune w index z)

-- each call gets the world that the one before it left
abbrev pub after : ℕ → Sides → List ℕ → World → List Call → World
after n s ts w [] = w
after n s ts w (c ∷ cs) = after n s ts (ran n s ts w c).world cs

-- what a call tells: its number, and of a step the records and the ids of who is removed
pub record Told : Type 0 where
  pub number : ℕ
  pub records : List Published
  pub removed : List ℕ

abbrev pub told_by : Stepped → Told
told_by a = record { number = a.number; records = a.records; removed = ids_in a.removed }

-- what the calls of a list tell, one after another
abbrev pub told : ℕ → Sides → List ℕ → World → List Call → List Told
told n s ts w [] = []
told n s ts w (c ∷ cs) = told_by (ran n s ts w c) ∷ told n s ts (ran n s ts w c).world cs
