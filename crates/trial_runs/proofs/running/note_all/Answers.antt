use mathlib.Core.List.{List}
use mathlib.Core.Path.{sym, ap, ◌∙◌}
use native.Mathlib.Omega.{arith}
use lib.IntN.{ℤ}
use lib.ListN.{set}
use Rattle.base_turns.specs.Turns.{more}
use Rattle.base_turns.proofs.Loop.{fold_first, fold_end, turn_on}
use Rattle.trial_rule.specs.Trial.{player_at, noted_all}
use Rattle.trial_runs.specs.InPlace.{noted_at}
use Rattle.trial_runs.proofs.Noting.{turn_is}
use Rattle.trial_runs.proofs.running.note_all.Goals as goal

pub loop-j-init : goal.loop-j-init
unfolding noted_all
loop-j-init c = (omega arith, λ rs e q. fold_first)

pub loop-j-preserved : goal.loop-j-preserved
loop-j-preserved c =
    let a = c.args in
    let l = c.loop-j in
    let h = c.loop-j-test.true in
    (omega arith, λ rs e q. turn_on (l.invariant.1 rs e q) h (ap more (sym (ap (set l.players l.j) (c.note_seat-player.ensures ∙ ap (λ (r : List ℤ). noted_at a.sides a.step r l.j (player_at l.players l.j)) q) ∙ turn_is rs l.j (omega (arith, e, h)) a.sides a.step l.players))))

pub returns : goal.returns
returns c = λ rs e q. sym (fold_end (c.loop-j.invariant.1 rs e q) c.loop-j-test.false)
