use Prim.Native.Nat.{◌+◌, ◌%◌}
use mathlib.Core.Path.{ap, ◌∙◌}
use native.Mathlib.Omega.{arith}
use lib.ListN.{length-set}
use mir.Facts.{to_z-of_z}
use Rattle.game_packed.specs.Packed.{kept, sign_bit}
use Rattle.game_packed.proofs.Putting.{put_byte, put_all, first_put}
use Rattle.game_packed.proofs.number.put_int.Goals as goal

pub loop-left-preserved : goal.loop-left-preserved
loop-left-preserved c =
    let l = c.loop-left in
    record {
      left = put_byte l.invariant.left c.loop-left-test.true c.more_bit-in-loop-left.ensures;
      long = length-set l.buf l.next (l.left % 128 + c.more_bit-in-loop-left.result) ∙ l.invariant.long;
    }

pub returns : goal.returns
returns c =
    let a = c.args in
    let read = to_z-of_z c.ranges.z in
    let all = put_all c.loop-left.invariant.left c.loop-left-test.false in
    let room = c.requires in
    let whole = first_put a.buf.now a.at a.z (omega arith) (c.kept-m.ensures ∙ ap kept read) (c.sign_bit.ensures ∙ ap sign_bit read) c.more_bit.ensures in
    (all.0 ∙ whole.0, all.1 ∙ whole.1)
