use borrow.Author.Rules.{rules}
use Rattle.world_numbers.specs.Decoding.{decoding}
use Rattle.world_numbers.proofs.decoding.decode.Goals as goal

pub returns : goal.returns
unfolding decoding
returns c = simp (c.seats_of.ensures, c.tunings_of.ensures)
