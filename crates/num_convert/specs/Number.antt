-- `clamp` and `saturated_add` of lib.rs. Definitions only.
use Rattle.std.specs.Prelude.{cond, from_bits, Float}
use Rattle.std.specs.Float.{binary32}
use Rattle.std.specs.Float.Ieee.{add, lt}

-- 0.0 and 1.0
abbrev pub c0 : Float
c0 = from_bits binary32 0

abbrev pub c1 : Float
c1 = from_bits binary32 0x3f80_0000

-- 1.5 and 0.75
abbrev pub c1_5 : Float
c1_5 = from_bits binary32 0x3fc0_0000

abbrev pub c0_75 : Float
c0_75 = from_bits binary32 0x3f40_0000

-- value, or the bound that it is beyond; a not-a-number is beyond none
unfoldable pub clamp : Float → Float → Float → Float
clamp value min max = cond (lt value min) min (cond (lt max value) max value)

-- value + modifier within the bounds, unless value is beyond the one that modifier leads towards
unfoldable pub saturated_add : Float → Float → Float → Float → Float
saturated_add min max value modifier =
    cond (lt modifier c0)
    (cond (lt value min) value (clamp (add binary32 value modifier) min max))
    (cond (lt max value) value (clamp (add binary32 value modifier) min max))
