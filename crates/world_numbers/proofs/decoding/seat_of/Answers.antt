use mathlib.Core.Bool.{true, false}
use mathlib.Core.Path.{◌≡◌, sym, ap, ◌∙◌}
use native.Mathlib.Omega.{arith}
use Rattle.game_records.specs.Numbers.{number_at, core_in, input_of_numbers}
use Rattle.game_records.proofs.Bits.{again}
use Rattle.world_numbers.specs.Encoding.{record_count, mark_place}
use Rattle.world_numbers.specs.Decoding.{is_set, seat_of}
use Rattle.world_numbers.proofs.RowsIn.{to_end}
use borrow.Author.Rules.{rules}
use Rattle.world_numbers.proofs.decoding.seat_of.Goals as goal

pub bounds-seat-21 : goal.bounds-seat-21
bounds-seat-21 c = let room = c.requires in omega (arith, room)

pub returns-then-is_set : goal.returns-then-is_set
unfolding seat_of
returns-then-is_set c =
    let s = c.args.seat.now in
    let room = c.requires in
    let z = c.is_set in
    let e : is_set (number_at s 0) ≡ true = sym (z.ensures ∙ ap is_set (again c.is_set-arg-1.given)) ∙ c.if-is_set.true in
    let n = c.core_of.ensures ∙ ap core_in (to_end 1 s (omega arith)) in
    let i = c.input_of.ensures ∙ ap input_of_numbers (to_end record_count s (omega arith)) in
    let g : c.is_set-then-is_set.result ≡ is_set (number_at s mark_place) = c.is_set-then-is_set.ensures ∙ ap is_set (again c.is_set-arg-then-is_set-1.given) in
    simp (e, ← n, ← c.readable.ensures, ← c.from_net-character.ensures, ← i, ← g, c.with_grounded.ensures, c.with_input.ensures, c.with_character.ensures, c.joined.ensures)

pub returns-else-is_set : goal.returns-else-is_set
unfolding seat_of
returns-else-is_set c =
    let z = c.is_set in
    let e : is_set (number_at c.args.seat.now 0) ≡ false = sym (z.ensures ∙ ap is_set (again c.is_set-arg-1.given)) ∙ c.if-is_set.false in
    simp (e, ← c.empty.ensures)
