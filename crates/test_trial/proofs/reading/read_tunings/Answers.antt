use Prim.Native.Nat.{◌-◌, ◌≤◌}
use mathlib.Core.Path.{◌≡◌}
use native.Mathlib.Omega.{arith}
use lib.ListN.{length}
use borrow.Author.Rules.{rules}
use Rattle.test_trial.proofs.reading.read_tunings.Goals as goal

pub loop-i-init : goal.loop-i-init
loop-i-init g c = (omega arith, search rules)
