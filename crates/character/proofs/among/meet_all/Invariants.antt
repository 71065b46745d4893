use mathlib.Core.Logic.{inl, inr, ⊎_elim}
use mathlib.Core.Path.{refl, sym, ap, ◌∙◌}
use Prim.Native.Nat.{◌-◌, ◌<◌}
use native.Mathlib.Omega.{arith}
use borrow.Author.Rules.{rules}
use Rattle.base_turns.proofs.Loop.{Left, always, fold_first, turn_on, fold_end}
use Rattle.base_turns.specs.Turns.{fold, more}
use Rattle.character_hook.specs.Hook.{id_of}
use Rattle.character_meeting.specs.Meeting.{meet}
use Rattle.character.specs.Places.{place_at, Among}
use Rattle.character.specs.Tick.{seats, meet_turn, meet_all}
use Rattle.character.proofs.Held.{left_out}
use Rattle.character.proofs.Scan.{through}
use Rattle.character.proofs.Seat.{seat_turn}
use Rattle.character.proofs.among.meet_all.Given as goal

abbrev pub invariant-loop-j : goal.invariant-loop-j
invariant-loop-j l = Among seats l.present l.xs l.ys (λ ss. Left (always (meet_turn ss l.id l.pos l.hook l.tuning)) seats l.j l.vel (more (fold (meet_turn ss l.id l.pos l.hook l.tuning) seats 0 l.initial.vel)))

abbrev pub decreases-loop-j : goal.decreases-loop-j
decreases-loop-j l = seats - l.j
