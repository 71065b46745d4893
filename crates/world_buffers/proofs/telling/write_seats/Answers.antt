use Prim.Native.Nat.{ℕ, ◌+◌, ◌*◌, ◌-◌}
use mathlib.Core.Path.{◌≡◌, sym, ap, ◌∙◌}
use native.Mathlib.Omega.{arith}
use lib.ListN.{take, drop}
use Rattle.base_turns.specs.Turns.{more}
use Rattle.base_turns.proofs.Loop.{fold_first, fold_end, turn_on}
use Rattle.game_records.specs.Numbers.{core_count}
use Rattle.world_numbers.specs.Encoding.{record_count}
use Rattle.world_buffers.specs.Stepping.{step_seats}
use Rattle.world_buffers.proofs.StepAnswers.{seat_told}
use borrow.Author.Rules.{rules}
use Rattle.world_buffers.proofs.telling.write_seats.Goals as goal

pub loop-j-init : goal.loop-j-init
unfolding step_seats
loop-j-init c = (c.requires.0, search rules, λ a h. fold_first)

pub loop-j-preserved : goal.loop-j-preserved
loop-j-preserved c =
    let v = c.write_seat in
    let l = c.loop-j in
    let g = c.loop-j-test.true in
    let a = c.args in
    let at = record_count * l.j in
    let n : at + record_count - (at + 1) ≡ core_count = omega arith in
    (v.auto.world ∙ l.invariant.0, omega arith, λ s h. turn_on (l.invariant.2 s h) g (ap more (sym (v.ensures ∙ seat_told s a.rows.now a.marks.now h l.j g l.world _ (ap (λ (k : ℕ). take k (drop (at + 1) a.rows.now)) n)))))

pub returns : goal.returns
returns c = λ s h. sym (fold_end (c.loop-j.invariant.2 s h) c.loop-j-test.false)
