-- Demand 1, of the calls of a world. Definitions only; proofs/Demand1.antt proves it. That every call ends on every input is proved of the code.
use Rattle.std.specs.Prelude.{ℕ, List, ◌≡◌}
use Rattle.map_tiles.specs.declared.tiles.Sides.{Sides}
use Rattle.world.specs.declared.call.Call.{Call}
use Rattle.world.specs.Run.{ran}
use Rattle.world.specs.declared.World.{World}

-- on every map, in every world and whatever its arguments, a call that does not answer 0 leaves the world as it was
abbrev pub Demand1 : ℕ → Type 0
Demand1 n = (s : Sides) (ts : List ℕ) (w : World) (c : Call) → ((ran n s ts w c).number ≡ 0 → ⊥) → (ran n s ts w c).world ≡ w
