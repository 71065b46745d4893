-- Whole numbers, hundredths and 256ths as floats, and quantizing. Definitions only.
use Rattle.std.specs.Prelude.{ℤ, from_bits, Float}
use Rattle.std.specs.Float.{binary32}
use Rattle.std.specs.Float.Ieee.{of_int, mul, div}
use Rattle.num_convert.specs.Whole.{round_to_i32}

-- 100.0 and 256.0
abbrev pub c100 : Float
c100 = from_bits binary32 0x42c8_0000

abbrev pub c256 : Float
c256 = from_bits binary32 0x4380_0000

-- an i32 as f32: nearest, ties to even
unfoldable pub i32_to_f32 : ℤ → Float
i32_to_f32 z = of_int binary32 z

-- a tuning as f32
unfoldable pub hundredths_to_f32 : ℤ → Float
unfolding i32_to_f32
hundredths_to_f32 z = div binary32 (i32_to_f32 z) c100

-- a coordinate to the nearest whole number and back
unfoldable pub quantize : Float → Float
unfolding i32_to_f32
quantize x = i32_to_f32 (round_to_i32 x)

-- a velocity to the nearest 256th, as a count of them
unfoldable pub to256ths : Float → ℤ
to256ths v = round_to_i32 (mul binary32 v c256)

-- a count of 256ths as f32
unfoldable pub from256ths : ℤ → Float
unfolding i32_to_f32
from256ths z = div binary32 (i32_to_f32 z) c256

-- a velocity to the nearest 256th and back
unfoldable pub quantize256ths : Float → Float
unfolding to256ths from256ths
quantize256ths v = from256ths (to256ths v)
