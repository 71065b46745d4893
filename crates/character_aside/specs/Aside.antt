-- Who is aside of a way: a character's size or more to one side of both of its ends. Definitions only.
use Rattle.std.specs.Prelude.{Bool, not, ◌&&◌, ◌||◌, Float}
use Rattle.std.specs.Float.{binary32}
use Rattle.std.specs.Float.Ieee.{neg, sub, le}
use Rattle.num_vec2.specs.declared.vec2.{vec2}
use Rattle.game_constants.specs.Constants.{character_size}

-- a and b are both a character's size or more below q, or both as far above it
unfoldable pub is_aside : Float → Float → Float → Bool
is_aside a b q = (le character_size (sub binary32 q a) && le character_size (sub binary32 q b)) || (le (sub binary32 q a) (neg character_size) && le (sub binary32 q b) (neg character_size))

-- q is on one side of the way from one point to its end in neither coordinate
unfoldable pub may_touch : vec2 → vec2 → vec2 → Bool
may_touch from end q = not (is_aside from.x end.x q.x || is_aside from.y end.y q.y)
