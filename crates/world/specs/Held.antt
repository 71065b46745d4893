-- Whom the hooks hold, as one claim about a whole list of calls. Definitions only; proofs/Held.antt proves it.
use Rattle.std.specs.Prelude.{ℕ, true, false, List, ◌≡◌}
use Rattle.map_tiles.specs.declared.tiles.Sides.{Sides}
use Rattle.character_hook.specs.Hook.{holds}
use Rattle.character.specs.Tick.{slot_at}
use Rattle.world.specs.declared.call.Call.{Call}
use Rattle.world.specs.World.{fresh}
use Rattle.world.specs.Run.{after}
use Rattle.world.specs.Demand3.{present}

-- after every list of calls from a fresh world of n slots, whatever the map and player collision: whom a hook holds is there
abbrev pub HeldPresent : ℕ → Type 0
HeldPresent n = (s : Sides) (ts : List ℕ) (cs : List Call) (j k : ℕ) → holds (slot_at (after n s ts (fresh n) cs).slots j).character.hook k ≡ true → present n s ts k false (fresh n) cs ≡ true
