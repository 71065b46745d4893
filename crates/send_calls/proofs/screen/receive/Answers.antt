use Rattle.num_convert.proofs.Signed.{read}
use Rattle.send_calls.proofs.screen.receive.Goals as goal

pub returns-in-Mark : goal.returns-in-Mark
returns-in-Mark c = simp (c.in-Mark.is, ← c.step_copies-copies.ensures)

pub returns-in-Message : goal.returns-in-Message
returns-in-Message c = simp (c.in-Message.is, c.show.ensures, c.copy_of.ensures)

pub returns-in-Removal : goal.returns-in-Removal
returns-in-Removal c = simp (c.in-Removal.is, c.show-in-Removal.ensures, c.no_copy.ensures)

pub returns-in-Leave : goal.returns-in-Leave
returns-in-Leave c = simp (c.in-Leave.is, c.show-in-Leave.ensures, c.no_copy-in-Leave.ensures)

pub returns-in-Tune : goal.returns-in-Tune
returns-in-Tune c =
    simp (c.in-Tune.is, c.with_tuning-tunings.ensures, read c.in-Tune.value c.in-Tune.known_told-in-Tune-1-own.given.1.0.1)
