use mathlib.Core.List.{[], ◌∷◌}
use mathlib.Core.Path.{ap₂}
use lib.IntN.{ℤ, pos}
use mir.Syntax.{w32}
use mir.Facts.{to_z_pos}
use Rattle.trial_rule.specs.Calls.{player_numbers}
use borrow.Author.Rules.{rules}
use Rattle.trial_runs.proofs.telling.player_numbers.Goals as goal

pub returns-then-player : goal.returns-then-player
unfolding player_numbers
returns-then-player c = rw c.if-player.true (ap₂ (λ (x y : ℤ). pos 1 ∷ x ∷ y ∷ []) (to_z_pos w32 (search rules)) (to_z_pos w32 (search rules)))

pub returns : goal.returns
unfolding player_numbers
returns c = simp c.if-player.false
