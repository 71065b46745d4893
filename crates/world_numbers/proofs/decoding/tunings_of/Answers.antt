use mathlib.Core.Path.{◌∙◌}
use native.Mathlib.Omega.{arith}
use lib.Seq.{length-take-le}
use Rattle.base_rows.proofs.Puts.{put_end}
use Rattle.game_tuning.specs.Tuning.{tuning_count}
use borrow.Author.Rules.{rules}
use Rattle.world_numbers.proofs.decoding.tunings_of.Goals as goal

pub returns : goal.returns
returns c =
    let ns = c.args.numbers.now in
    c.copy.ensures ∙ put_end _ 0 _ (omega (arith, length-take-le tuning_count ns (omega arith)))
