use mathlib.Core.Path.{◌≡◌, ap, ◌∙◌}
use Prim.Native.Nat.{ℕ, ◌+◌}
use Rattle.num_convert.specs.Casts.{cast_unsigned}
use Rattle.game_records.specs.Numbers.{number_at}
use Rattle.game_records.proofs.Bits.{again}
use Rattle.world_numbers.specs.Encoding.{seat_place, hook_place, state_place}
use Rattle.world_numbers.specs.Decoding.{is_set}
use Rattle.world_buffers.specs.Leaving.{is_attached, holds_in}
use Rattle.world_buffers.proofs.leaving.holds_in.Goals.{After-is_attached, After-is_set}
use Rattle.world_buffers.proofs.leaving.holds_in.Goals as goal

there_is : (c : After-is_set) → c.is_set.result ≡ is_set (number_at c.args.world.now (seat_place c.args.seat))
there_is c = c.is_set.ensures ∙ ap is_set (again c.is_set-arg-1.given ∙ ap (number_at c.args.world.now) c.seat_place-at.ensures)

state_is : (c : After-is_attached) → c.is_attached.result ≡ is_attached (number_at c.args.world.now (seat_place c.args.seat + state_place))
state_is c = c.is_attached.ensures ∙ ap is_attached (again c.is_attached-arg-1.given ∙ ap (λ (at : ℕ). number_at c.args.world.now (at + state_place)) c.seat_place-at.ensures)

pub returns-then-is_attached : goal.returns-then-is_attached
unfolding holds_in
returns-then-is_attached c =
    let l = c.args.world.now in
    let p : c.cast_unsigned.result ≡ cast_unsigned (number_at l (seat_place c.args.seat + hook_place)) = c.cast_unsigned.ensures ∙ ap cast_unsigned (again c.cast_unsigned-arg-1.given ∙ ap (λ (at : ℕ). number_at l (at + hook_place)) c.seat_place-at.ensures) in
    simp (← there_is c.before.before.before.before.before.before, c.if-is_set.true, ← state_is c.before.before.before, c.if-is_attached.true, ← p)

pub returns-else-is_attached : goal.returns-else-is_attached
unfolding holds_in
returns-else-is_attached c = simp (← there_is c.before.before.before.before, c.if-is_set.true, ← state_is c.before, c.if-is_attached.false)

pub returns-else-is_set : goal.returns-else-is_set
unfolding holds_in
returns-else-is_set c = simp (← there_is c.before, c.if-is_set.false)
