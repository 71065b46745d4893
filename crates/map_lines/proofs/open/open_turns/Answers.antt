use mathlib.Core.Path.{sym, ◌∙◌, subst}
use native.Mathlib.Omega.{arith}
use lib.Dec.{T}
use borrow.Author.Rules.{rules}
use Rattle.base_turns.proofs.Each.{each_none}
use Rattle.map_lines.proofs.Intervals.{open_turns}
use Rattle.map_lines.proofs.open.open_turns.Goals as goal

pub open_before-requires : goal.open_before-requires
open_before-requires c =
    let pre = c.requires in
    (pre.0, omega (arith, c.min-end.ensures, pre.1), pre.2, subst T (sym c.if-is_bounded_line.true ∙ c.is_bounded_line.ensures) tt, omega (arith, c.min-end.ensures, c.truncated.ensures))

pub returns-then-is_bounded_line : goal.returns-then-is_bounded_line
returns-then-is_bounded_line c = let o = c.open_before.ensures in record { within = omega (arith, o.within, c.min-end.ensures); each_open = o.each_open }

pub returns : goal.returns
returns c = open_turns _ _ _ _ _ _ each_none (omega arith)
