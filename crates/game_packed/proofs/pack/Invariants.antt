use mathlib.Core.Path.{◌≡◌}
use lib.ListN.{length, take}
use Rattle.base_rows.specs.Put.{put}
use Rattle.game_packed.specs.Packed.{ints_bytes, most_packed}
use Rattle.game_packed.proofs.Sizes.{zeros}
use Rattle.game_packed.proofs.pack.Given as goal

abbrev pub invariant-loop-z : goal.invariant-loop-z
invariant-loop-z l = record {
  made : l.bytes ≡ put (zeros most_packed) 0 (ints_bytes (take l.z-index l.z-items));
  counted : l.count ≡ length (ints_bytes (take l.z-index l.z-items));
  long : length l.bytes ≡ most_packed;
}
