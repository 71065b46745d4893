use mathlib.Core.Path.{refl}
use Rattle.game_tuning.specs.Tuning.{fresh_tunings}
use Rattle.game_tuning.proofs.fresh_tunings.Goals as goal

pub returns : goal.returns
unfolding fresh_tunings
returns c = refl
