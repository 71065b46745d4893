use mathlib.Core.Path.{◌≡◌}
use lib.ListN.{length}
use Rattle.base_turns.proofs.Loop.{Left}
use Rattle.character.specs.Tick.{seats}
use Rattle.world_numbers.specs.Encoding.{world_count}
use Rattle.world_numbers.specs.Decoding.{decoding}
use Rattle.search_rule.specs.Search.{choices, first_among}
use Rattle.search_calls.proofs.Turns.{turn}
use Rattle.search_calls.proofs.searching.+first_of.Given as goal

-- how many steps stand before the last
abbrev pub decreases-first_of : goal.decreases-first_of
decreases-first_of l = l.more

abbrev pub invariant-loop-i : goal.invariant-loop-i
invariant-loop-i l = (l.way ≡ l.fn.way) × (length l.next ≡ world_count) × Left (turn l.sides l.tiles l.goal l.more (decoding seats l.world)) choices l.i tt (first_among seats l.sides l.tiles l.goal l.more (decoding seats l.world))
