use mathlib.Core.Path.{ap, ap₂, ◌∙◌}
use Rattle.num_convert.specs.Convert.{i32_to_f32}
use Rattle.num_vec2.specs.Vec2.{vnew}
use Rattle.game_records.proofs.Bits.{again}
use borrow.Author.Rules.{rules}
use Rattle.world_inplace.proofs.reading.place_at.Goals as goal

pub returns : goal.returns
returns c = c.new.ensures ∙ ap₂ vnew (c.i32_to_f32.ensures ∙ ap i32_to_f32 (again c.i32_to_f32-arg-1.given)) (c.i32_to_f32-2.ensures ∙ ap i32_to_f32 (again c.i32_to_f32-arg-2-1.given))
