use Rattle.map_totals.specs.Area.{entry_at}
use Rattle.map_totals.proofs.Tables.{entry_place, entry_above}
use Rattle.map_area.proofs.counting.entry_at.Goals.{then-columns-eq0-via-then-columns-eq0, then-columns-eq0-via-else-columns-eq0+then-rows-eq0}
use Rattle.map_area.proofs.counting.entry_at.Goals as goal

pub returns-then-columns-eq0 : goal.returns-then-columns-eq0
unfolding entry_at
returns-then-columns-eq0 c =
    elim c.then-columns-eq0.branch [
      | then-columns-eq0-via-then-columns-eq0 w ↦ simp w.if-columns-eq0.true
      | then-columns-eq0-via-else-columns-eq0+then-rows-eq0 w ↦ let a = c.args in entry_above a.sides a.totals.now a.columns a.rows w.if-rows-eq0.true
    ]

pub returns : goal.returns
returns c = entry_place _ _ _ _ c.if-columns-eq0.false c.if-rows-eq0.false
