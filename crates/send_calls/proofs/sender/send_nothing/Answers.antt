use Rattle.send_rule.specs.Send.{filled}
use Rattle.send_calls.proofs.sender.send_nothing.Goals as goal

pub returns : goal.returns
unfolding filled
returns c = simp c.item.ensures
