-- The proved cases of document 01 hold, jointly. Assumes nothing.
use lib.Ieee.{of_int, of_bits}
use Rattle.num_convert.specs.Convert.{i32_to_f32, quantize256ths}
use Rattle.num_convert.specs.Convert as floats
use Rattle.num_root.proofs.Cases.{least_root}
use Rattle.num_convert.proofs.FloatCases as float
use Rattle.map_corners.proofs.Cases as corners
use Rattle.num_convert.proofs.NumberCases as number
use Rattle.character_hook.proofs.Cases as hooking
use Rattle.aim_rule.proofs.Cases as angle
use Rattle.map_lines.proofs.Cases.{at_the_first_tile}
use mathlib.Core.Path.{◌≡◌, refl, ap, ap₂, ◌∙◌}
use Rattle.num_vec2.specs.Vec2.{vnew}
use Rattle.num_vec2.specs.declared.vec2.{vec2}
use Rattle.character.specs.declared.Character.{Character}
use Rattle.character_hook.specs.Hooking.{fired, fire, hold}
use Rattle.character_hook.specs.declared.hook.Hook.TheVariants.{Grabbed}
use Rattle.character.specs.Records.{core_of, from_net, back, quantize}
use Rattle.character_laws.proofs.Back.{to_core}
use Rattle.character_cases.specs.ProvedCases.{QuantizesTo, start, ProvedCases}
use Rattle.character_cases.proofs.Holding.{held_as}

-- what a character quantizes to
quantizes : (c : Character) (P : Character → Type 0) → P (from_net (core_of c)) → QuantizesTo P c
unfolding quantize
quantizes c P p l = (from_net (core_of c), ap back (to_core c l), p)

vel_quantized : (c : Character) → (from_net (core_of c)).vel ≡ vnew (quantize256ths c.vel.x) (quantize256ths c.vel.y)
unfolding core_of from_net quantize256ths
vel_quantized c = refl

pos_quantized : (c : Character) → (from_net (core_of c)).pos ≡ vnew (floats.quantize c.pos.x) (floats.quantize c.pos.y)
unfolding core_of from_net floats.quantize
pos_quantized c = refl

pub proved_cases : ProvedCases
unfolding i32_to_f32 of_int of_bits fire fired
proved_cases = record {
  root_of_the_least = least_root;
  rounds = ((float.cases).minus_half, (float.cases).two_and_a_half, (float.cases).below_half);
  largest_returns = (float.cases).top;
  ties_quantize = ((float.cases).tie_up, (float.cases).tie_down);
  character_ties_quantize = λ c e. quantizes c _ (vel_quantized c ∙ ap₂ vnew (ap quantize256ths (ap (λ (v : vec2). v.x) e) ∙ (float.cases).tie_up) (ap quantize256ths (ap (λ (v : vec2). v.y) e) ∙ (float.cases).tie_down));
  half_way = ((float.cases).seventeen_and_a_half, (corners.cases).before, (corners.cases).after);
  not_a_number = (float.cases).not_a_number;
  character_not_a_number = λ c e. quantizes c _ (pos_quantized c ∙ ap₂ vnew (ap (λ (v : vec2). floats.quantize v.x) e ∙ (float.cases).not_a_number) (ap (λ (v : vec2). floats.quantize v.y) e ∙ (float.cases).not_a_number));
  saturates = ((number.cases).stays, (number.cases).falls);
  holds = λ c p d. ((hooking.cases c p d).tick_59, (hooking.cases c p d).tick_60);
  tick_holds = λ n c id cid ss s ts i tunings z m l p. (held_as n c id cid 59 ss s ts i tunings m l _ p (ap (hold (Grabbed cid 59)) z ∙ (hooking.cases cid start start).tick_59), held_as n c id cid 60 ss s ts i tunings m l _ p (ap (hold (Grabbed cid 60)) z ∙ (hooking.cases cid start start).tick_60));
  angles = ((angle.cases).diagonal, (angle.cases).left, (angle.cases).up);
  line_of_length_0 = at_the_first_tile;
}
