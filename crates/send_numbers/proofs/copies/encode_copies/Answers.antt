use Prim.Native.Nat.{◌+◌, ◌*◌}
use mathlib.Core.List.{[]}
use mathlib.Core.Path.{◌≡◌, refl, sym, ap, ◌∙◌}
use native.Mathlib.Omega.{arith}
use lib.ListN.{length}
use lib.Seq.{take_all}
use borrow.Author.Rules.{rules}
use Rattle.character.specs.Tick.{seats}
use Rattle.world_numbers.specs.Encoding.{each}
use Rattle.world_numbers.proofs.Rows.{next_row}
use Rattle.send_numbers.specs.Copies.{copy_count, copy_numbers, copies_encoding}
use Rattle.send_numbers.proofs.CopiesBack.{copy_long}
use Rattle.send_numbers.proofs.copies.encode_copies.Goals as goal

pub loop-i-init : goal.loop-i-init
unfolding each
loop-i-init c = (omega arith, c.requires, refl)

pub loop-i-preserved : goal.loop-i-preserved
loop-i-preserved c =
    let k = c.copy in
    let r = c.copy_numbers-row in
    let l = c in
    let i = l.loop-i.i in
    let m : length l.args.copies ≡ seats = search rules in
    (omega arith, k.auto.numbers ∙ l.loop-i.invariant.1, next_row copy_numbers copy_count copy_long [] l.args.copies _ i (copy_count * i) (copy_count * (i + 1)) l.loop-i.numbers k.new.numbers r.result (omega arith) (omega arith) l.loop-i.invariant.2 r.ensures k.ensures (omega arith))

pub returns : goal.returns
unfolding copies_encoding
returns c =
    let l = c in
    let i = l.loop-i.i in
    let m : length l.args.copies ≡ seats = search rules in
    sym (take_all (copy_count * i) l.loop-i.numbers (omega arith)) ∙ l.loop-i.invariant.2 ∙ ap (each copy_numbers) (take_all i l.args.copies (omega arith))
