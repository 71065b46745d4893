-- `velocity_ramp` of lib.rs, its three tunings being floats already. Definitions only.
use Rattle.std.specs.Prelude.{cond, Float}
use Rattle.std.specs.Float.{binary32}
use Rattle.std.specs.Float.Ieee.{sub, div, lt}
use Rattle.num_convert.specs.Number.{c1}
use Rattle.num_ramp.specs.Power.{powf}

-- 1.0 below the start; from there on 1.0 / curvature^((value - start) / range)
unfoldable pub velocity_ramp : Float → Float → Float → Float → Float
velocity_ramp value start range curvature = cond (lt value start) c1 (div binary32 c1 (powf curvature (div binary32 (sub binary32 value start) range)))
