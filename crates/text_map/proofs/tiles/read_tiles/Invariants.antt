use Prim.Native.Nat.{◌*◌, ◌≤◌}
use mathlib.Core.Path.{◌≡◌}
use mathlib.Core.List.{map}
use lib.IntN.{pos}
use lib.ListN.{length, take}
use Rattle.text_decimal.specs.Lines.{All}
use Rattle.text_decimal.proofs.Lines.{Begun}
use Rattle.text_map.specs.Map.{IsTile}
use Rattle.text_map.proofs.Rows.{row_end}
use Rattle.text_map.proofs.tiles.read_tiles.Given as goal

abbrev pub invariant-loop-i : goal.invariant-loop-i
invariant-loop-i l =
    (l.i ≤ l.count) × (l.count ≡ l.width * l.height) × (length l.tiles ≡ length l.initial.tiles) × All IsTile (take l.i l.tiles) × Begun (row_end l.width) l.count (map pos (take l.i l.tiles)) l.text l.at l.place
