use Prim.Native.Nat.{◌-◌, ◌≤◌}
use Rattle.base_turns.specs.Turns.{more}
use Rattle.base_turns.proofs.Loop.{Left, always}
use Rattle.character.specs.Tick.{seats}
use Rattle.trial_rule.specs.Trial.{note_turn, noted_all}
use Rattle.trial_runs.specs.InPlace.{RecordsOf}
use Rattle.trial_runs.proofs.running.note_all.Given as goal

abbrev pub invariant-loop-j : goal.invariant-loop-j
invariant-loop-j l = (l.j ≤ seats) × RecordsOf l.records (λ rs. Left (always (note_turn l.sides l.step rs)) seats l.j l.players (more (noted_all seats l.sides l.step rs l.initial.players)))

abbrev pub decreases-loop-j : goal.decreases-loop-j
decreases-loop-j l = seats - l.j
