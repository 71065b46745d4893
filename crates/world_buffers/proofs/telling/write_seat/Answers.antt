use mathlib.Core.List.{List}
use mathlib.Core.Path.{◌≡◌, sym, ap, ◌∙◌}
use Prim.Native.Nat.{ℕ, ◌+◌}
use lib.IntN.{ℤ}
use lib.ListN.{set}
use Rattle.base_rows.specs.Put.{put}
use Rattle.game_records.specs.Numbers.{number_at}
use Rattle.game_records.proofs.Bits.{again}
use Rattle.world_numbers.specs.Encoding.{mark_place, flag}
use Rattle.world_numbers.specs.Decoding.{is_set}
use Rattle.world_buffers.specs.Buffers.{is_there}
use Rattle.world_buffers.proofs.StepAnswers.{seat_there, seat_empty}
use Rattle.world_buffers.proofs.telling.write_seat.Goals.{After-is_set}
use Rattle.world_buffers.proofs.telling.write_seat.Goals as goal

there_is : (c : After-is_set) → c.is_set.result ≡ is_there c.args.world.now c.args.seat
there_is c = c.is_set.ensures ∙ ap is_set (again c.is_set-arg-1.given ∙ ap (number_at c.args.world.now) c.seat_place-at.ensures)

pub returns-then-is_set : goal.returns-then-is_set
returns-then-is_set c =
    let a = c.args in
    let y = c.copy in
    let p = c.seat_place-at in
    ap (λ (z : ℤ). set y.new.numbers (p.result + mark_place) z) (again c.flag.type_inv ∙ c.flag.ensures)
    ∙ ap (λ (d : List ℤ). set d (p.result + mark_place) (flag a.grounded)) y.ensures
    ∙ ap (λ (at : ℕ). set (put a.world.now (at + 1) a.core.now) (at + mark_place) (flag a.grounded)) p.ensures
    ∙ seat_there a.world.now a.seat a.core.now a.grounded (sym (there_is c.before.before.before.before.before) ∙ c.if-is_set.true)

pub returns-else-is_set : goal.returns-else-is_set
returns-else-is_set c = let a = c.args in seat_empty a.world.now a.seat a.core.now a.grounded (sym (there_is c.before) ∙ c.if-is_set.false)
