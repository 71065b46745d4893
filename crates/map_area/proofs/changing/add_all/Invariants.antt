use Rattle.std.proofs.Common.{◌≡◌, length}
use Rattle.base_turns.proofs.Mapped.{replaced}
use Rattle.map_totals.specs.Area.{added}
use Rattle.map_area.proofs.changing.add_all.Given as goal

abbrev pub invariant-loop-entry : goal.invariant-loop-entry
invariant-loop-entry l = (l.entry-index-end ≡ length l.initial.entry-items) × (length l.entry-items ≡ length l.initial.entry-items) × (l.entry-items ≡ replaced (added l.n) l.entry-index l.initial.entry-items)
