-- The worked trial, computed. Assumes nothing.
use mathlib.Core.Path.{refl}
use Rattle.world_numbers.specs.Encoding.{each}
use Rattle.world_numbers.specs.Decoding.{each_in}
use Rattle.world_solo.proofs.Computed.{float_rules, number_rules, map_rules, hook_rules, character_rules, call_rules}
use Rattle.trial_rule.specs.Trial.{distance_to, entered, noted, noted_all, towards, inputs_for, step_from, tried, enter, trial}
use Rattle.trial_rule.specs.Calls.{are_whole, player_numbers, tried_numbers, is_trial, trial_fault, trial_in}
use Rattle.trial_rule.specs.Worked.{Worked}

pub worked : Worked
unfolding float_rules number_rules map_rules hook_rules character_rules call_rules each each_in distance_to entered noted noted_all towards inputs_for step_from tried enter trial are_whole player_numbers tried_numbers is_trial trial_fault trial_in
worked = record { told = refl }
