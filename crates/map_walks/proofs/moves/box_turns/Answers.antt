use mathlib.Core.Path.{ap, ◌∙◌}
use Prim.Native.Nat.{ℕ, ◌+◌, ◌-◌}
use mir.Syntax.{w32}
use mir.Facts.{to_z-of_z}
use Rattle.map_tiles.specs.Map.{count}
use Rattle.num_convert.specs.Whole.{whole_of}
use Rattle.map_walks.specs.Move.{box_turns}
use borrow.Author.Rules.{rules}
use Rattle.map_walks.proofs.moves.box_turns.Goals as goal

pub returns-then-dist : goal.returns-then-dist
unfolding box_turns
returns-then-dist c = rw c.if-dist.true (ap (λ (n : ℕ). n + 1) (c.count.ensures.0 ∙ ap count (to_z-of_z {w = w32} (search rules) ∙ c.round_to_i32.ensures)))

pub returns : goal.returns
unfolding box_turns whole_of
returns c = simp c.if-dist.false
