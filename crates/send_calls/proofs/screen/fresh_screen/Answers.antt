use Rattle.send_calls.proofs.screen.fresh_screen.Goals as goal

pub returns : goal.returns
returns c = simp (c.fresh_tunings-tunings.ensures, c.no_copies-copies.ensures)
