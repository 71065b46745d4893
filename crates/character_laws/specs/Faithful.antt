-- How near a record is to the character that it was made of: exact, over whole numbers. Definitions only.
use Rattle.game_records.specs.declared.CharacterCore.{CharacterCore}
use Rattle.num_convert.specs.Near.{Below, WithinHalf}
use Rattle.num_vec2.specs.declared.vec2.{vec2}

-- each coordinate of the position is within 1/2 where it is below 2 ^ 30, each of the velocity within 1/512 where it is below 2 ^ 22
pub record Faithful (n : CharacterCore) (pos vel : vec2) : Type 0 where
  pub x : Below 30 pos.x → WithinHalf 1 n.x pos.x
  pub y : Below 30 pos.y → WithinHalf 1 n.y pos.y
  pub vel_x : Below 22 vel.x → WithinHalf 256 n.vel_x vel.x
  pub vel_y : Below 22 vel.y → WithinHalf 256 n.vel_y vel.y
