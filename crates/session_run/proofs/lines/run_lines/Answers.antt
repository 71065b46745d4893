use mathlib.Core.Path.{refl, sym, ap, ◌∙◌}
use native.Mathlib.Omega.{arith}
use lib.ListN.{length}
use Rattle.character.specs.Tick.{seats}
use Rattle.session_run.specs.Session.{another, none, then}
use Rattle.session_run.proofs.Due.{another-runs, line_less}
use Rattle.session_run.proofs.lines.run_lines.Goals as goal

pub loop-sides-init : goal.loop-sides-init
loop-sides-init c = (none, refl)

pub run_line-next-requires : goal.run_line-next-requires
run_line-next-requires c =
    let l = c.loop-sides in
    let h = another-runs seats l.session.done l.session.call l.next (length l.buf) (sym c.another.ensures ∙ c.loop-sides-test.true) in
    (h.2, omega (arith, h.1))

pub loop-sides-smaller : goal.loop-sides-smaller
loop-sides-smaller c =
    let l = c.loop-sides in
    let h = another-runs seats l.session.done l.session.call l.next (length l.buf) (sym c.another.ensures ∙ c.loop-sides-test.true) in
    rw h.0 (line_less seats _ _ _ l.session _ _ _ _ c.run_line-next.ensures h.1)

pub loop-sides-preserved : goal.loop-sides-preserved
loop-sides-preserved c =
    let l = c.loop-sides in
    let h = another-runs seats l.session.done l.session.call l.next (length l.buf) (sym c.another.ensures ∙ c.loop-sides-test.true) in
    (then _ _ _ _ _ l.invariant.0 h.0 c.run_line-next.ensures, c.run_line-next.auto.buf ∙ l.invariant.1)

pub shape_of-buf : goal.shape_of-buf
shape_of-buf c = c.loop-sides.invariant.1

pub returns : goal.returns
returns c =
    let l = c.loop-sides in
    record { lines_ran = l.invariant.0; buf_value = ap (another seats l.session.done l.session.call l.next) (sym l.invariant.1) ∙ sym c.another.ensures ∙ c.loop-sides-test.false }
