-- The worked steps, computed. Assumes nothing.
use mathlib.Core.Path.{refl}
use Rattle.world_solo.proofs.Computed.{float_rules, number_rules, map_rules, hook_rules, character_rules, call_rules}
use Rattle.world_laws.specs.Order.{RisingIds}

pub rising_ids : RisingIds
unfolding float_rules number_rules map_rules hook_rules character_rules call_rules
rising_ids = record { pulled_first = refl; pulled_last = refl; stopped = refl; free = refl }
