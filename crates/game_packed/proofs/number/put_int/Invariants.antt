use Prim.Native.Nat.{◌+◌}
use mathlib.Core.Path.{◌≡◌}
use lib.ListN.{length}
use Rattle.base_rows.specs.Put.{put}
use Rattle.game_packed.specs.Packed.{later_bytes}
use Rattle.game_packed.proofs.Putting.{Putting}
use Rattle.game_packed.proofs.number.put_int.Given as goal

abbrev pub invariant-loop-left : goal.invariant-loop-left
invariant-loop-left l = record {
  left : Putting l.buf l.next l.left (put l.initial.buf l.initial.next (later_bytes 4 l.initial.left)) (l.initial.next + length (later_bytes 4 l.initial.left));
  long : length l.buf ≡ length l.initial.buf;
}

abbrev pub decreases-loop-left : goal.decreases-loop-left
decreases-loop-left l = l.left
