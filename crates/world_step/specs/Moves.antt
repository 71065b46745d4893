-- The moves of a step as a struct. Definitions only.
use Rattle.world.specs.Step.{Moving}
use Rattle.world_step.specs.declared.moving.Moves.{Moves}

abbrev pub moving_of : Moves → Moving
moving_of m = record { slots = m.slots; records = m.records }
