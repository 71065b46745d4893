use Prim.Native.Nat.{◌-◌}
use mathlib.Core.Path.{◌≡◌}
use lib.ListN.{length}
use Rattle.game_packed.specs.Unpacked.{ints_read, unpacked}
use Rattle.game_packed.proofs.unpack.Given as goal

abbrev pub invariant-loop-number : goal.invariant-loop-number
invariant-loop-number l = record {
  read : ints_read (15 - l.number-index) l.number-index l.bytes l.at l.number-items ≡ unpacked l.bytes;
  long : length l.number-items ≡ 15;
}
