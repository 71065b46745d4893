use Rattle.std.proofs.Common.{◌≡◌, length}
use Rattle.base_turns.specs.Turns.{fold, more}
use Rattle.base_turns.proofs.Loop.{Left, always}
use Rattle.test_common.specs.Words.{tile_turn}
use Rattle.test_common.proofs.map.tiles_from.Given as goal

abbrev pub invariant-loop-i : goal.invariant-loop-i
invariant-loop-i l = record {
  run : Left (always (tile_turn l.digits)) 64 l.i l.tiles (more (fold (tile_turn l.digits) 64 0 l.initial.tiles));
  long : length l.tiles ≡ 64;
}
