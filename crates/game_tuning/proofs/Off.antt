-- A tuning of 0 hundredths is no collision, and no hooking. Assumes nothing.
use mathlib.Core.Bool.{false}
use mathlib.Core.List.{List}
use mathlib.Core.Path.{◌≡◌, refl}
use lib.IntN.{ℤ, pos}
use lib.ListN.{get_or}
use lib.Ieee.{of_bits, of_int, round, div, ne}
use Rattle.num_convert.specs.Convert.{hundredths_to_f32}
use Rattle.num_convert.specs.Number.{c0}
use Rattle.game_tuning.specs.Tuning.{player_collision, player_hooking, tuning_at, tuning_of}

pub collision_off : (tunings : List ℤ) → get_or tunings player_collision (pos 0) ≡ pos 0 → ne (tuning_of tunings).player_collision c0 ≡ false
unfolding tuning_of tuning_at hundredths_to_f32 of_bits of_int round div ne
collision_off tunings e = rw e refl

pub hooking_off : (tunings : List ℤ) → get_or tunings player_hooking (pos 0) ≡ pos 0 → ne (tuning_of tunings).player_hooking c0 ≡ false
unfolding tuning_of tuning_at hundredths_to_f32 of_bits of_int round div ne
hooking_off tunings e = rw e refl
