use mir.Facts.{to_z-of_z}
use mir.Syntax.{w32}
use mathlib.Core.Path.{◌≡◌, ap, ◌∙◌}
use Rattle.game_records.proofs.Bits.{again}
use Rattle.world_numbers.specs.Decoding.{from_zero, with_ticks, readable}
use borrow.Author.Rules.{rules}
use Rattle.world_numbers.proofs.decoding.readable.Goals as goal

pub returns : goal.returns
unfolding readable
returns c =
    let z = c.from_zero in
    let n = c.args.core in
    let e : z.result ≡ from_zero n.hook_tick.0 = z.ensures ∙ ap from_zero (to_z-of_z {w = w32} (search rules)) in
    ap (with_ticks n) (again {z = z.result} z.type_inv ∙ e)
