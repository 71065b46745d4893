use Prim.Native.Nat.{ℕ}
use mathlib.Core.Path.{◌≡◌, refl, sym, ap, ◌∙◌}
use native.Mathlib.Omega.{arith}
use lib.ListN.{length-set}
use lib.Seq.{take_all}
use Rattle.character.specs.Tick.{seats}
use Rattle.world_numbers.specs.Decoding.{each_in}
use Rattle.world_numbers.proofs.RowsIn.{next_read}
use Rattle.send_numbers.specs.Copies.{copy_count, copy_in, copies_decoding}
use Rattle.send_numbers.proofs.copies.decode_copies.Goals as goal

pub loop-id-init : goal.loop-id-init
unfolding each_in
loop-id-init c = (omega arith, refl, refl)

pub loop-id-preserved : goal.loop-id-preserved
loop-id-preserved c =
    let l = c in
    let i = l.loop-id.id in
    (omega arith, length-set l.loop-id.copies i _ ∙ l.loop-id.invariant.1, next_read copy_in copy_count i l.args.numbers.now l.loop-id.copies c.copy_at.result (omega arith) l.loop-id.invariant.2 c.copy_at.ensures)

pub returns : goal.returns
unfolding copies_decoding
returns c =
    let l = c in
    let e : l.loop-id.id ≡ seats = omega arith in
    sym (take_all l.loop-id.id l.loop-id.copies (omega arith)) ∙ l.loop-id.invariant.2 ∙ ap (λ (k : ℕ). each_in copy_in copy_count k l.args.numbers.now) e
