-- A character as twelve words. Definitions only.
use Rattle.std.specs.Prelude.{ℕ, suc, ◌/◌, ◌%◌, Bool, cond, List, eqb}
use Rattle.std.specs.Float.{binary32}
use Rattle.std.specs.Float.Ieee.{of_bits}
use Rattle.num_vec2.specs.declared.vec2.{vec2}
use Rattle.num_vec2.specs.Vec2.{vnew}
use Rattle.test_common.specs.Words.{word_at}
use Rattle.character_hook.specs.declared.hook.Hook.{Hook}
use Rattle.character_hook.specs.declared.hook.Hook.TheVariants.{Retracted, Idle, Flying, Grabbed, Attached, Retracting0, Retracting1, Retracting2}
use Rattle.game_input.specs.declared.direction.MoveDirection.{MoveDirection}
use Rattle.game_input.specs.declared.direction.MoveDirection.TheVariants as direction
use Rattle.character.specs.declared.Character.{Character}

abbrev pub jumps_of : Bool → Bool → ℕ
jumps_of jumped airjump = cond airjump (cond jumped 3 2) (cond jumped 1 0)

abbrev pub direction_number : MoveDirection → ℕ
direction_number direction.Left = 0
direction_number direction.None = 1
direction_number direction.Right = 2

-- the two words from the number k on, as a pair of floats
abbrev pub point_at : List ℕ → ℕ → vec2
point_at ws k = vnew (of_bits binary32 (word_at ws k)) (of_bits binary32 (word_at ws (suc k)))

-- the hook whose case the word 4 tells
unfoldable pub hook_in : List ℕ → Hook
hook_in ws =
    let k = word_at ws 4 in
    cond (eqb k 0) Retracted
    (cond (eqb k 1) Idle
    (cond (eqb k 2) (Flying (point_at ws 5) (point_at ws 7))
    (cond (eqb k 3) (Grabbed (record { 0 = word_at ws 5 }) (word_at ws 6))
    (cond (eqb k 4) (Attached (point_at ws 5))
    (cond (eqb k 5) (Retracting0 (point_at ws 5))
    (cond (eqb k 6) (Retracting1 (point_at ws 5)) (Retracting2 (point_at ws 5))))))))

unfoldable pub direction_in : ℕ → MoveDirection
direction_in k = cond (eqb k 0) direction.Left (cond (eqb k 1) direction.None direction.Right)

-- the character of twelve words
unfoldable pub character_in : List ℕ → Character
character_in ws = record {
  pos = point_at ws 0;
  vel = point_at ws 2;
  hook = hook_in ws;
  jumped_already = eqb (word_at ws 9 % 2) 1;
  used_airjump = eqb (word_at ws 9 / 2) 1;
  angle = record { radians = of_bits binary32 (word_at ws 10) };
  move_direction = direction_in (word_at ws 11);
}
