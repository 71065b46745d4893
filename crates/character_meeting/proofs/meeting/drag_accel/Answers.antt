use mathlib.Core.Path.{refl}
use Rattle.character_meeting.specs.Meeting.{drag_accel}
use Rattle.character_meeting.proofs.meeting.drag_accel.Goals as goal

pub returns : goal.returns
unfolding drag_accel
returns c = refl
