use mathlib.Core.Logic.{inl, inr, ⊎_elim}
use mathlib.Core.Path.{refl, sym, ap, ◌∙◌, subst}
use Prim.Native.Nat.{◌-◌}
use native.Mathlib.Omega.{arith}
use lib.Dec.{T}
use borrow.Author.Rules.{rules}
use Rattle.base_turns.proofs.Loop.{Left, always, fold_first, turn_on, fold_end}
use Rattle.base_turns.specs.Turns.{fold, more}
use Rattle.num_order.proofs.Vectors.{FitsPair}
use Rattle.character_hook.specs.Hook.{id_of}
use Rattle.character_hook.specs.Hooking.{nearer}
use Rattle.character_walk.proofs.Unmet.{unmet}
use Rattle.character.specs.Places.{place_at, Among}
use Rattle.character.specs.Tick.{seats, nearest_turn, nearest}
use Rattle.character_aside.proofs.Passed.{left_out}
use Rattle.character.proofs.Seat.{seat_turn}
use Rattle.character.proofs.among.nearest.Given as goal

abbrev pub invariant-loop-j : goal.invariant-loop-j
invariant-loop-j l = Among seats l.present l.xs l.ys (λ ss. Left (always (nearest_turn ss l.id l.from l.to)) seats l.j l.best (more (fold (nearest_turn ss l.id l.from l.to) seats 0 l.initial.best)))

abbrev pub decreases-loop-j : goal.decreases-loop-j
decreases-loop-j l = seats - l.j
