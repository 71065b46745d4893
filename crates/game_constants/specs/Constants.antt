-- The constants at the head of lib.rs. Definitions only.
use Rattle.std.specs.Prelude.{ℕ, Float}
use Rattle.std.specs.Float.{binary32}
use Rattle.std.specs.Float.Ieee.{of_bits}

-- CHARACTER_SIZE, 28.0
abbrev pub character_size : Float
character_size = of_bits binary32 0x41e0_0000

-- DISABLE_HOOK_DISTANCE, 46.0
abbrev pub disable_hook_distance : Float
disable_hook_distance = of_bits binary32 0x4238_0000

-- MAX_VELOCITY, 6000.0
abbrev pub max_velocity : Float
max_velocity = of_bits binary32 0x45bb_8000

-- MAX_HOOK_GRAB_TIME
abbrev pub max_hook_grab_time : ℕ
max_hook_grab_time = 60
