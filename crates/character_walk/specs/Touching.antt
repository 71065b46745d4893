-- When two characters touch in the player walk of lib.rs. Definitions only.
use Rattle.std.specs.Prelude.{Bool, ◌&&◌}
use Rattle.std.specs.Float.Ieee.{lt}
use Rattle.num_convert.specs.Number.{c0}
use Rattle.game_constants.specs.Constants.{character_size}
use Rattle.num_vec2.specs.Vec2.{vdistance}
use Rattle.num_vec2.specs.declared.vec2.{vec2}

-- near, but not in the same place
unfoldable pub touches : vec2 → vec2 → Bool
touches p q = let d = vdistance p q in lt c0 d && lt d character_size
