-- How many tunings and steps a trial may have: what is not refused with 15. Definitions only.
use Rattle.std.specs.Prelude.{ℕ, ◌≤◌, true, ◌↔◌, ◌≡◌, ℤ, pos, ◌≤ℤ◌}
use Rattle.trial_rule.specs.Calls.{is_trial}

-- one tuning to eight, and 0 to 3,000 steps
abbrev pub TrialLimits : Type 0
TrialLimits = (tunings : ℕ) (steps : ℤ) → (is_trial tunings steps ≡ true) ↔ ((1 ≤ tunings) × (tunings ≤ 8) × (pos 0 ≤ℤ steps) × (steps ≤ℤ pos 3000))
