use mathlib.Core.Path.{ap, ap₂, ◌∙◌}
use Rattle.num_convert.specs.Convert.{from256ths}
use Rattle.num_vec2.specs.Vec2.{vnew}
use Rattle.game_records.proofs.Bits.{again}
use borrow.Author.Rules.{rules}
use Rattle.world_inplace.proofs.reading.speed_at.Goals as goal

pub returns : goal.returns
returns c = c.new.ensures ∙ ap₂ vnew (c.from_256ths.ensures ∙ ap from256ths (again c.from_256ths-arg-1.given)) (c.from_256ths-2.ensures ∙ ap from256ths (again c.from_256ths-arg-2-1.given))
