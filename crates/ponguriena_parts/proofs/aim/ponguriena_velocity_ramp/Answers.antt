use mathlib.Core.Path.{◌≡◌, ap, ◌∙◌}
use lib.Ieee.{Float}
use lib.IntN.{ℤ}
use mir.Facts.{to_z-of_z}
use mir.Syntax.{w32}
use mir.Val.{SFits, to_z, of_z}
use Rattle.num_convert.specs.Convert.{hundredths_to_f32}
use Rattle.ponguriena_parts.proofs.aim.ponguriena_velocity_ramp.Goals as goal

tuned : {r : Float} {z : ℤ} → SFits w32 z → r ≡ hundredths_to_f32 (to_z w32 (of_z w32 z)) → r ≡ hundredths_to_f32 z
tuned f e = e ∙ ap hundredths_to_f32 (to_z-of_z f)

pub returns : goal.returns
returns c =
    let s = c in
    simp (← tuned s.ranges.start c.hundredths_to_f32.ensures, ← tuned s.ranges.range c.hundredths_to_f32-2.ensures, ← tuned s.ranges.curvature c.hundredths_to_f32-3.ensures) c.velocity_ramp.ensures
