use Rattle.std.proofs.Common.{◌≡◌, ◌-◌, length}
use Rattle.base_turns.specs.Turns.{fold, more}
use Rattle.base_turns.proofs.Loop.{Left, always}
use Rattle.test_common.specs.Words.{number_turn}
use Rattle.test_common.proofs.numbers.read_numbers.Given as goal

abbrev pub invariant-loop-i : goal.invariant-loop-i
invariant-loop-i l = Left (always (number_turn l.words)) l.i-end l.i l.numbers (more (fold (number_turn l.words) l.i-end 0 l.initial.numbers)) × (length l.numbers ≡ l.i-end) × (l.i-end ≡ length l.initial.numbers)

abbrev pub decreases-loop-i : goal.decreases-loop-i
decreases-loop-i l = l.i-end - l.i
