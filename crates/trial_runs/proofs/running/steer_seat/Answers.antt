use mathlib.Core.Path.{◌≡◌, sym, ap, ap₂, ◌∙◌}
use Prim.Native.Nat.{ℕ, ◌+◌}
use lib.IntN.{ℤ}
use Rattle.game_records.specs.Numbers.{number_at}
use Rattle.game_records.specs.declared.PlayerInput.{PlayerInput}
use Rattle.game_records.proofs.Bits.{again}
use Rattle.world_step.proofs.Listed.{as_i32}
use Rattle.world_numbers.specs.Encoding.{seat_place}
use Rattle.world_numbers.specs.Decoding.{is_set}
use Rattle.world_buffers.specs.Buffers.{LeftWorld, input_in}
use Rattle.trial_runs.specs.InPlace.{x_place, trial_input, steered_at}
use Rattle.trial_runs.proofs.Steering.{stays}
use Rattle.trial_runs.proofs.running.steer_seat.Goals as goal

pub returns-then-is_set : goal.returns-then-is_set
unfolding steered_at
returns-then-is_set c =
    let s = c in
    let a = s.args in
    let l = a.world.now in
    let q = c.seat_place-at.ensures in
    let i : c.trial_input.result ≡ trial_input a.sides a.player (number_at l (seat_place a.seat + x_place)) = c.trial_input.ensures ∙ ap (trial_input a.sides a.player) (again c.x-1.given ∙ ap (λ (k : ℕ). number_at l (k + x_place)) q) in
    sym (ap (λ (x : LeftWorld). x.world) c.input_in.ensures) ∙ ap₂ (λ (id : ℤ) (v : PlayerInput). (input_in l id v).world) (as_i32 a.seat s.requires.1) i

pub returns-else-is_set : goal.returns-else-is_set
returns-else-is_set c =
    let s = c in
    let a = s.args in
    sym (stays a.sides a.player a.seat a.world.now s.requires.1 s.requires.0 (sym (c.is_set.ensures ∙ ap is_set (again c.is_set-arg-1.given ∙ ap (number_at a.world.now) c.seat_place-at.ensures)) ∙ c.if-is_set.false))
