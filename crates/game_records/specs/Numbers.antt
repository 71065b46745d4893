-- A record and an input as lists of numbers, and back. Definitions only.
use Rattle.std.specs.Prelude.{ℕ, Bool, false, List, [], ◌∷◌, eqb, ℤ, pos, negsuc, get_or}
use Rattle.game_records.specs.declared.CharacterCore.{CharacterCore}
use Rattle.game_records.specs.declared.PlayerInput.{PlayerInput}

-- the same whole number
abbrev pub same_number : ℤ → ℤ → Bool
same_number (pos a) (pos b) = eqb a b
same_number (negsuc a) (negsuc b) = eqb a b
same_number (pos a) (negsuc b) = false
same_number (negsuc a) (pos b) = false

-- how many numbers a record has
abbrev pub core_count : ℕ
core_count = 15

-- how many an input has
abbrev pub input_count : ℕ
input_count = 5

-- the fifteen numbers of a record, in the order of its fields
unfoldable pub core_numbers : CharacterCore → List ℤ
core_numbers n =
    n.tick ∷ n.x ∷ n.y ∷ n.vel_x ∷ n.vel_y ∷ n.angle ∷ n.direction ∷ n.jumped
    ∷ n.hooked_player ∷ n.hook_state ∷ n.hook_tick.0 ∷ n.hook_x ∷ n.hook_y ∷ n.hook_dx ∷ n.hook_dy ∷ []

-- the five numbers of an input, in the order of its fields
unfoldable pub input_numbers : PlayerInput → List ℤ
input_numbers i = i.direction ∷ i.target_x ∷ i.target_y ∷ i.jump ∷ i.hook ∷ []

-- ---- the way back

-- the k-th number, 0 past the end
abbrev pub number_at : List ℤ → ℕ → ℤ
number_at l k = get_or l k (pos 0)

-- the record whose numbers l starts with
unfoldable pub core_in : List ℤ → CharacterCore
core_in l = record {
  tick = number_at l 0;
  x = number_at l 1;
  y = number_at l 2;
  vel_x = number_at l 3;
  vel_y = number_at l 4;
  angle = number_at l 5;
  direction = number_at l 6;
  jumped = number_at l 7;
  hooked_player = number_at l 8;
  hook_state = number_at l 9;
  hook_tick = record { 0 = number_at l 10 };
  hook_x = number_at l 11;
  hook_y = number_at l 12;
  hook_dx = number_at l 13;
  hook_dy = number_at l 14;
}

-- the input whose numbers l starts with
unfoldable pub input_of_numbers : List ℤ → PlayerInput
input_of_numbers l = record { direction = number_at l 0; target_x = number_at l 1; target_y = number_at l 2; jump = number_at l 3; hook = number_at l 4 }
