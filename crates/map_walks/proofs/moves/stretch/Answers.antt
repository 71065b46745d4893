use mathlib.Core.Path.{sym, ap, ◌∙◌, subst}
use lib.Dec.{T}
use borrow.Author.Rules.{rules}
use Rattle.num_vec2.specs.declared.vec2.{vec2}
use Rattle.num_order.proofs.Vectors.{FitsPair}
use Rattle.map_walks.specs.Way.{way_end}
use Rattle.map_walks.proofs.Straight.{straight}
use Rattle.map_walks.proofs.moves.stretch.Goals as goal

pub returns-then-is_clear_way : goal.returns-then-is_clear_way
returns-then-is_clear_way c =
    let s = c.before.before.before.before.before.before.before.before.before in
    let a = s.args in
    let held : FitsPair a.body.pos = (subst T (sym s.well_formed.1.1.0.1.1.0.1.1.0.1) tt, subst T (sym s.well_formed.1.1.0.1.1.0.1.1.1.0.1) tt) in
    let w = c.way_end-end in
    sym (straight a.sides a.tiles.now a.fraction a.box_ a.turns a.body w.result held (w.ensures ∙ ap (λ (d : vec2). way_end a.body.pos d a.turns) c.mul.ensures) (sym c.is_clear_way.ensures ∙ c.if-is_clear_way.true))

pub returns : goal.returns
returns c = c.turn_by_turn.ensures
