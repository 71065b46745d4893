use Prim.Native.Nat.{◌+◌, ◌*◌, ◌-◌, ◌≤◌}
use mathlib.Core.Path.{◌≡◌, refl, sym, ap, ◌∙◌}
use mathlib.Core.List.{[]}
use native.Mathlib.Omega.{arith}
use lib.ListN.{length, take}
use lib.Seq.{take_all}
use borrow.Author.Rules.{rules}
use Rattle.character.specs.Tick.{seats}
use Rattle.world_numbers.specs.Encoding.{record_count, records_count, each, record_numbers, records_encoding}
use Rattle.world_numbers.proofs.Rows.{next_row, record_long}
use Rattle.world_numbers.proofs.encoding.encode_records.Goals as goal

pub loop-i-init : goal.loop-i-init
unfolding each
loop-i-init c = (omega arith, c.requires, refl)

pub loop-i-preserved : goal.loop-i-preserved
loop-i-preserved c =
    let k = c.copy in
    let r = c.record_numbers-row in
    let l = c in
    let i = l.loop-i.i in
    let m : length l.args.records ≡ seats = search rules in
    (omega arith, k.auto.numbers ∙ l.loop-i.invariant.1, next_row record_numbers record_count record_long [] l.args.records _ i (record_count * i) (record_count * (i + 1)) l.loop-i.numbers k.new.numbers r.result (omega arith) (omega arith) l.loop-i.invariant.2 r.ensures k.ensures (omega arith))

pub returns : goal.returns
unfolding records_encoding
returns c =
    let l = c in
    let i = l.loop-i.i in
    let m : length l.args.records ≡ seats = search rules in
    sym (take_all (record_count * i) l.loop-i.numbers (omega arith)) ∙ l.loop-i.invariant.2 ∙ ap (each record_numbers) (take_all i l.args.records (omega arith))
