use Rattle.std.proofs.Common.{length}
use Rattle.base_turns.specs.Turns.{fold, more}
use Rattle.base_turns.proofs.Loop.{Left, always}
use Rattle.test_common.specs.Digest.{number_turn}
use Rattle.test_common.proofs.digests.digest.Given as goal

abbrev pub invariant-loop-number : goal.invariant-loop-number
invariant-loop-number l = Left (always (number_turn l.numbers)) (length l.numbers) l.number-index l.sum (more (fold (number_turn l.numbers) (length l.numbers) 0 l.initial.sum))
