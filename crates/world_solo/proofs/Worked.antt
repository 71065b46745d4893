-- The worked heats, computed. Assumes nothing.
use mathlib.Core.Bool.{Bool, true, false, true≢false}
use mathlib.Core.Path.{◌≡◌, refl, sym, ap, ◌∙◌}
use Rattle.world.specs.declared.call.Call.{Call}
use Rattle.world.specs.declared.call.Call.TheVariants.{Join, Leave, Input, Step, Tune}
use Rattle.world_solo.specs.Worked.{Worked}
use Rattle.world_solo.proofs.Computed.{float_rules, number_rules, map_rules, hook_rules, character_rules, call_rules}

abbrev is_step : Call → Bool
is_step (Join id x y) = false
is_step (Leave id) = false
is_step (Input id d x y j h) = false
is_step (Tune index z) = false
is_step Step = true

-- no other call is asked anything
other : {P : Type 0} {c : Call} → is_step c ≡ false → c ≡ Step → P
other f e = absurd (true≢false (sym (ap is_step e) ∙ f))

pub worked : Worked
unfolding float_rules number_rules map_rules hook_rules character_rules call_rules
worked = record {
  solo_a = (other refl, (other refl, (other refl, (other refl, (other refl, (λ e. record { collision = refl; hooking = refl; accepted = refl }, (λ e. record { collision = refl; hooking = refl; accepted = refl }, tt)))))));
  solo_b = (other refl, (other refl, (other refl, (other refl, (other refl, (other refl, (λ e. record { collision = refl; hooking = refl; accepted = refl }, (λ e. record { collision = refl; hooking = refl; accepted = refl }, tt))))))));
  same = refl;
  moves_a = refl;
  moves_b = refl;
  other_a = refl;
  other_b = refl;
  pushed = refl;
  held = refl;
}
