use Rattle.base_turns.specs.Turns.{fold, more}
use Rattle.base_turns.proofs.Loop.{Left, always}
use Rattle.test_common.specs.Words.{digit_turn}
use Rattle.test_common.proofs.vectors.word.Given as goal

abbrev pub invariant-loop-digit : goal.invariant-loop-digit
invariant-loop-digit l = Left (always (digit_turn l.text)) 8 l.digit-index l.value (more (fold (digit_turn l.text) 8 0 l.initial.value))
