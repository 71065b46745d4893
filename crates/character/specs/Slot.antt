-- A slot: empty, joined, and with another character, input or floor mark. Definitions only.
use Rattle.std.specs.Prelude.{Bool, true, false, pos}
use Rattle.num_convert.specs.Number.{c0}
use Rattle.num_vec2.specs.Vec2.{vnew}
use Rattle.num_vec2.specs.declared.vec2.{vec2}
use Rattle.game_records.specs.declared.PlayerInput.{PlayerInput}
use Rattle.character.specs.Character.{spawn}
use Rattle.character.specs.declared.Character.{Character}
use Rattle.character.specs.declared.Slot.{Slot}

-- an input that is all 0
abbrev pub no_input : PlayerInput
no_input = record { direction = pos 0; target_x = pos 0; target_y = pos 0; jump = pos 0; hook = pos 0 }

-- nobody is there: spawn at (0, 0), and no floor mark
abbrev pub empty_slot : Slot
empty_slot = record { present = false; character = spawn (vnew c0 c0); input = no_input; grounded = false }

-- somebody has joined at p: no floor mark, also on a floor
abbrev pub joined_slot : vec2 → Slot
joined_slot p = record { present = true; character = spawn p; input = no_input; grounded = false }

-- s with another character
abbrev pub with_character : Slot → Character → Slot
with_character s c = record { present = s.present; character = c; input = s.input; grounded = s.grounded }

-- s with another input
abbrev pub with_input : Slot → PlayerInput → Slot
with_input s i = record { present = s.present; character = s.character; input = i; grounded = s.grounded }

-- s with another floor mark
abbrev pub with_grounded : Slot → Bool → Slot
with_grounded s g = record { present = s.present; character = s.character; input = s.input; grounded = g }
