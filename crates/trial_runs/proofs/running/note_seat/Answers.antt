use mathlib.Core.Bool.{true, false}
use mathlib.Core.Path.{◌≡◌, sym, ap, ap₂, ◌∙◌}
use Prim.Native.Nat.{◌*◌}
use lib.IntN.{ℤ}
use Rattle.game_records.specs.Numbers.{number_at}
use Rattle.game_records.proofs.Bits.{again}
use Rattle.world_numbers.specs.Encoding.{record_count}
use Rattle.world_numbers.specs.Decoding.{is_set}
use Rattle.trial_rule.specs.Trial.{noted}
use Rattle.trial_runs.specs.InPlace.{noted_at}
use Rattle.trial_runs.proofs.running.note_seat.Goals as goal

pub returns-then-is_set : goal.returns-then-is_set
unfolding noted_at
returns-then-is_set c =
    let a = c.args in
    let l = a.records.now in
    let at = record_count * a.seat in
    let q : is_set (number_at l at) ≡ true = sym (c.is_set.ensures ∙ ap is_set (again c.is_set-arg-1.given)) ∙ c.if-is_set.true in
    rw q (c.noted.ensures ∙ ap₂ (λ (x y : ℤ). noted a.sides a.step x y a.player) (again c.x-1.given) (again c.y-1.given))

pub returns : goal.returns
unfolding noted_at
returns c =
    let a = c.args in
    let q : is_set (number_at a.records.now (record_count * a.seat)) ≡ false = sym (c.is_set.ensures ∙ ap is_set (again c.is_set-arg-1.given)) ∙ c.if-is_set.false in
    rw q
