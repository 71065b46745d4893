use mathlib.Core.Path.{ap}
use lib.ListN.{replicate}
use Rattle.character.specs.Tick.{seats}
use Rattle.trial_rule.specs.declared.Player.{Player}
use Rattle.trial_runs.proofs.entering.no_players.Goals as goal

pub returns : goal.returns
returns c = ap (λ (p : Player). replicate seats p) c.no_player.ensures
