-- The worked search, computed. Assumes nothing.
use mathlib.Core.Path.{refl}
use Rattle.world.specs.Readers.{seated}
use Rattle.world_solo.proofs.Computed.{float_rules, number_rules, map_rules, hook_rules, character_rules, call_rules}
use Rattle.search_rule.specs.Search.{step_with, arrives, goes_on, buttons_at, first_among, first_way, search}
use Rattle.search_rule.specs.Worked.{Worked}

pub worked : Worked
unfolding float_rules number_rules map_rules hook_rules character_rules call_rules seated step_with arrives goes_on buttons_at first_among first_way search
worked = record { falls = refl; jumps = refl }
