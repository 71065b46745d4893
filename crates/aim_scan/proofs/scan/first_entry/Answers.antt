use mathlib.Core.Path.{refl}
use mir.Facts.{to_z-of_z}
use Rattle.aim_scan.proofs.scan.first_entry.Goals as goal

pub returns-then-x-gt0 : goal.returns-then-x-gt0
returns-then-x-gt0 c = rw (rw (to_z-of_z c.before.ranges.x) at c.if-x-gt0.true) refl

pub returns-else-x-gt0 : goal.returns-else-x-gt0
returns-else-x-gt0 c = rw (rw (to_z-of_z c.before.ranges.x) at c.if-x-gt0.false) refl
