-- The calls that are no step. Definitions only.
use Rattle.world.specs.declared.call.Call.{Call}
use Rattle.world.specs.declared.call.Call.TheVariants.{Join, Leave, Input, Step, Tune}

-- a call changes the world and tells its number alone, unless it is a step
abbrev pub IsChange : Call → Type 0
IsChange (Join id x y) = Unit {0}
IsChange (Leave id) = Unit {0}
IsChange (Input id d x y j h) = Unit {0}
IsChange Step = ⊥
IsChange (Tune index z) = Unit {0}
