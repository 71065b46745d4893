-- The limits of a trial. Assumes nothing.
use Prim.Native.Nat.{◌≤◌}
use native.Mathlib.Omega.{arith}
use mathlib.Core.Bool.{true, ◌&&◌, true≢false}
use mathlib.Core.Path.{◌≡◌, sym}
use lib.Dec.{leb, leb→le}
use lib.IntN.{ℤ, pos, negsuc}
use lib.Signed.{◌≤ℤ◌, le_z_yes}
use borrow.Author.Tests.{leb-true, le-leb}
use Rattle.base_turns.proofs.Tests.{both}
use Rattle.trial_rule.specs.Calls.{is_steps, is_trial}
use Rattle.trial_rule.specs.Limits.{TrialLimits}

-- as many steps as may be run
steps_within : (z : ℤ) → is_steps z ≡ true → (pos 0 ≤ℤ z) × (z ≤ℤ pos 3000)
steps_within (pos m) e = (le_z_yes (rw (le-leb 0 m (omega arith)) tt), le_z_yes (rw e tt))
steps_within (negsuc m) e = absurd (true≢false (sym e))

within_steps : (z : ℤ) → pos 0 ≤ℤ z → z ≤ℤ pos 3000 → is_steps z ≡ true
within_steps (pos m) a b = le-leb m 3000 (leb→le m 3000 b.le)
within_steps (negsuc m) a b = absurd a.le

pub trial_limits : TrialLimits
unfolding is_trial
trial_limits tunings steps = (taken, λ f. rw (le-leb 1 tunings f.0, le-leb tunings 8 f.1, within_steps steps f.2 f.3))
  where
    taken : leb 1 tunings && leb tunings 8 && is_steps steps ≡ true → (1 ≤ tunings) × (tunings ≤ 8) × (pos 0 ≤ℤ steps) × (steps ≤ℤ pos 3000)
    taken e =
        let f = both (leb 1 tunings && leb tunings 8) (is_steps steps) e in
        let g = both (leb 1 tunings) (leb tunings 8) f.0 in
        let h = steps_within steps f.1 in
        (leb-true 1 tunings g.0, leb-true tunings 8 g.1, h.0, h.1)
