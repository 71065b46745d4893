use Prim.Native.Nat.{◌-◌}
use mathlib.Core.Path.{◌≡◌}
use Rattle.base_turns.proofs.Loop.{Left}
use Rattle.character.specs.Tick.{seats}
use Rattle.world_numbers.specs.Decoding.{decoding}
use Rattle.search_rule.specs.Ways.{longest}
use Rattle.search_rule.specs.Search.{first_way}
use Rattle.search_calls.proofs.Turns.{zeros, lengths}
use Rattle.search_calls.proofs.searching.tell_way.Given as goal

abbrev pub invariant-loop-more : goal.invariant-loop-more
invariant-loop-more l = (l.way ≡ zeros l.sides l.tiles l.goal) × Left (lengths l.sides l.tiles l.goal (decoding seats l.world)) longest l.more tt (first_way seats l.sides l.tiles l.goal (decoding seats l.world))

abbrev pub decreases-loop-more : goal.decreases-loop-more
decreases-loop-more l = longest - l.more
