use Prim.Native.Nat.{◌+◌, ◌-◌, ◌≤◌, ◌<◌}
use mathlib.Core.Path.{◌≡◌}
use lib.ListN.{drop}
use Rattle.game_packed.specs.Unpacked.{later_read}
use Rattle.game_packed.proofs.Later.{scale_of}
use Rattle.game_packed.proofs.number.read_later.Given as goal

abbrev pub invariant-loop-i : goal.invariant-loop-i
invariant-loop-i l = record {
  read : later_read l.negative (3 - l.i) (drop l.i l.later) (l.at + l.i) l.value l.scale ≡ later_read l.negative 3 l.later l.at l.fn.first 64;
  most : l.i ≤ 3;
  scaled : l.scale ≡ scale_of (3 - l.i);
  small : l.value < scale_of (3 - l.i);
}
