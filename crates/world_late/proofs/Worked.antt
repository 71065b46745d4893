-- The worked lists, computed. Assumes nothing.
use mathlib.Core.Path.{refl}
use Rattle.character_hook.specs.Hook.{holds}
use Rattle.world.specs.Calls.{released, leave}
use Rattle.world_late.specs.Late.{inputs, tunes}
use Rattle.world_late.specs.Worked.{Worked}
use Rattle.world_solo.proofs.Computed.{float_rules, number_rules, map_rules, hook_rules, character_rules, call_rules}

pub worked : Worked
unfolding float_rules number_rules map_rules hook_rules character_rules call_rules holds released leave
worked = record {
  input_leave = refl;
  leave_input = refl;
  join_leave = refl;
  leave_join = refl;
  join_input = refl;
  input_join = refl;
  input_step = refl;
  step_input = refl;
  tune_step = refl;
  step_tune = refl;
  join_step = refl;
  step_join = refl;
  leave_step = refl;
  step_leave = refl;
  replaced = inputs;
  runs_last = refl;
  stands_last = refl;
  tuned = tunes;
  refused_numbers = refl;
  refused_after = refl;
  refused_alone = refl;
  step_between = refl;
  step_before = refl;
  held = refl;
  leave_first = refl;
  input_first = refl;
}
