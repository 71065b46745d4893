use mathlib.Core.Path.{◌≡◌, sym}
use native.Mathlib.Omega.{arith}
use lib.ListN.{length}
use Rattle.character.specs.Tick.{seats}
use lib.Seq.{set_out}
use borrow.Author.Rules.{rules}
use Rattle.send_calls.proofs.copies.with_copy.Goals as goal

pub returns-else-at-lt-SEATS : goal.returns-else-at-lt-SEATS
returns-else-at-lt-SEATS c =
    let m : length c.args.copies ≡ seats = search rules in
    sym (set_out c.args.copies c.args.at c.args.copy (omega (arith, m, c.if-at-lt-SEATS.false)))
