use Prim.Native.Nat.{◌-◌, ◌≤◌}
use mathlib.Core.Path.{◌≡◌}
use lib.ListN.{drop}
use Rattle.trial_rule.specs.Calls.{tunings_in, tuning_rows, have_holds}
use Rattle.trial_runs.proofs.checks.have_holds.Given as goal

abbrev pub invariant-loop-k : goal.invariant-loop-k
invariant-loop-k l = (l.k ≤ tunings_in l.tunings) × (have_holds (drop l.k (tuning_rows l.tunings)) ≡ have_holds (tuning_rows l.tunings))

abbrev pub decreases-loop-k : goal.decreases-loop-k
decreases-loop-k l = tunings_in l.tunings - l.k
