-- Proved cases 3, 4 and 6 of document 01, for characters. Assumes nothing.
use mathlib.Core.Bool.{false}
use mathlib.Core.Path.{◌≡◌, refl}
use lib.Ieee.{nan, binary32, of_bits, mul, div, of_int}
use lib.IntN.{pos}
use Rattle.character.specs.Character.{spawn}
use Rattle.character.specs.Records.{core_of, from_net}
use Rattle.character.specs.declared.Character.{Character}
use Rattle.num_convert.specs.Convert.{i32_to_f32, to256ths, from256ths}
use Rattle.num_convert.specs.Whole.{whole_of}
use Rattle.num_vec2.specs.Vec2.{vnew}
use Rattle.num_vec2.specs.declared.vec2.{vec2}

-- spawned at p, with the velocity v
abbrev pub moving : vec2 → vec2 → Character
moving p v = record { pos = p; vel = v; hook = (spawn p).hook; jumped_already = false; used_airjump = false; angle = (spawn p).angle; move_direction = (spawn p).move_direction }

pub record Cases : Type 0 where
  -- (3) 2,147,483,647 as f32 returns as itself
  pub top : (core_of (spawn (vnew (i32_to_f32 (pos 2147483647)) (i32_to_f32 (pos 0))))).x ≡ pos 2147483647
  -- (4) velocities ±1/512 quantize to ±1/256
  pub tie_up : (from_net (core_of (moving (vnew nan nan) (vnew (of_bits binary32 0x3b00_0000) (of_bits binary32 0xbb00_0000))))).vel ≡ vnew (of_bits binary32 0x3b80_0000) (of_bits binary32 0xbb80_0000)
  -- (6) position not-a-number quantizes to 0
  pub not_a_number : (from_net (core_of (spawn (vnew nan nan)))).pos ≡ vnew (of_bits binary32 0) (of_bits binary32 0)

pub cases : Cases
unfolding of_bits whole_of i32_to_f32 of_int to256ths from256ths mul div spawn core_of from_net
cases = record { top = refl; tie_up = refl; not_a_number = refl }
