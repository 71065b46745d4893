use mathlib.Core.Bool.{Bool, true, false, cond, true≢false}
use mathlib.Core.List.{List}
use mathlib.Core.Logic.{◌⊎◌, inl, inr, ⊎_elim}
use mathlib.Core.Path.{◌≡◌, refl, sym, ◌∙◌, subst}
use Prim.Native.Nat.{ℕ, ◌+◌, ◌-◌, ◌≤◌, ◌<◌}
use native.Mathlib.Omega.{arith}
use lib.Dec.{T, eqb}
use lib.Ieee.{Float}
use lib.ListN.{length, get_or, set, length-set}
use borrow.Author.Rules.{rules}
use borrow.Author.Tests.{ne_eqb, eqb-false}
use Rattle.num_order.proofs.Vectors.{FitsPair}
use Rattle.num_vec2.specs.Vec2.{vdistance, vmix}
use Rattle.num_vec2.specs.declared.vec2.{vec2}
use Rattle.num_order.proofs.Parts.{part}
use Rattle.character_walk.proofs.Mixed.{untouched}
use Rattle.character_walk.proofs.Mixed as mixed
use Rattle.character_walk.specs.Touching.{touches}
use Rattle.character_walk.specs.Walking.{player_turns}
use Rattle.character_aside.specs.Aside.{may_touch}
use Rattle.character.specs.Near.{Asked}
use Rattle.character.specs.Places.{place_at, PlacesOf, Among}
use Rattle.character.specs.Tick.{seats, slot_at}
use Rattle.character.specs.Walk.{is_close}
use Rattle.character.specs.declared.Slot.{Slot}
use Rattle.character.proofs.Gathered.{asked_none, asked_past, asked_more}
use Rattle.character_aside.proofs.Passed.{left_out}
use Rattle.character.proofs.Scan.{through}
use Rattle.character.proofs.near.gather.Given as goal

-- what holds after j seats
abbrev pub Kept : List Bool → List Float → List Float → ℕ → vec2 → vec2 → ℕ → ℕ → List Float → List Float → Type 0
Kept ps xs ys id from end j m us vs = (m ≤ j) × (j ≤ seats) × (length us ≡ seats) × (length vs ≡ seats) × Among seats ps xs ys (λ ss. Asked ss id from end j m us vs)

abbrev pub invariant-loop-j : goal.invariant-loop-j
invariant-loop-j l = Kept l.present l.xs l.ys l.id l.from l.end l.j l.count l.near_xs l.near_ys

abbrev pub decreases-loop-j : goal.decreases-loop-j
decreases-loop-j l = seats - l.j
