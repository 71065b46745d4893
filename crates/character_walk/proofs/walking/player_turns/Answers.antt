use mathlib.Core.Path.{◌∙◌, ap}
use Prim.Native.Nat.{ℕ, ◌+◌}
use mir.Facts.{to_z-of_z}
use mir.Syntax.{w32}
use borrow.Author.Rules.{rules}
use Rattle.map_tiles.specs.Map.{count}
use Rattle.character_walk.specs.Walking.{player_turns}
use Rattle.character_walk.proofs.walking.player_turns.Goals as goal

pub returns : goal.returns
unfolding player_turns
returns c = ap (λ (n : ℕ). n + 1) (c.count.ensures.0 ∙ ap count (to_z-of_z {w = w32} (search rules) ∙ c.trunc_to_i32.ensures))
