use Prim.Native.Nat.{ℕ}
use mathlib.Core.Path.{ap, ◌∙◌}
use native.Mathlib.Omega.{arith}
use lib.ListN.{drop}
use Rattle.world_numbers.specs.Decoding.{seat_of}
use Rattle.world_numbers.proofs.RowsIn.{to_end}
use borrow.Author.Rules.{rules}
use Rattle.world_numbers.proofs.decoding.seat_at.Goals as goal

pub seat_place-at-requires : goal.seat_place-at-requires
seat_place-at-requires c = c.requires.1

pub returns : goal.returns
returns c =
    let a = c.args in
    let p = c.seat_place-at in
    c.seat_of.ensures ∙ ap seat_of (to_end p.result a.numbers.now (omega arith) ∙ ap (λ (k : ℕ). drop k a.numbers.now) p.ensures)
