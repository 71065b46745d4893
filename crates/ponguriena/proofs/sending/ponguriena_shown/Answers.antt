use mir.Facts.{to_z-of_z}
use Rattle.ponguriena.proofs.sending.ponguriena_shown.Goals as goal

pub shown_in-requires : goal.shown_in-requires
shown_in-requires c = tt

pub shape_of-record : goal.shape_of-record
shape_of-record c = c.shown_in.auto.record

pub returns : goal.returns
returns c = let f = c.ranges in rw c.number_of_answer.ensures (rw (to_z-of_z f.id) at c.shown_in.ensures)
