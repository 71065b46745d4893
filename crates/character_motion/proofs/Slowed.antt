-- Friction by the direction. Assumes nothing.
use mathlib.Core.Path.{◌≡◌, refl}
use mathlib.Core.List.{[], ◌∷◌}
use types.Run.{OneOf, miss}
use denote.Enum.Declared.{tag_of}
use lib.Ieee.{Float, binary32, mul}
use Rattle.game_input.specs.declared.direction.MoveDirection.{MoveDirection}
use Rattle.game_input.specs.declared.direction.MoveDirection.TheVariants.{Left, None, Right}
use Rattle.game_input.specs.contracts.direction.MoveDirection.{the_type}
use Rattle.character_motion.specs.Controls.{slowed}

pub at_none : (d : MoveDirection) (v f : Float) → d ≡ None → slowed d v f ≡ mul binary32 v f
at_none d v f e = rw e

pub not_none : (d : MoveDirection) (v f : Float) → OneOf (0 ∷ 2 ∷ []) (tag_of the_type d) → slowed d v f ≡ v
not_none Left v f k = refl
not_none None v f k = absurd (miss (0 ∷ 2 ∷ []) 1 tt k)
not_none Right v f k = refl
