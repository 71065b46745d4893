use mathlib.Core.Path.{◌≡◌}
use Prim.Native.Nat.{◌-◌, ◌≤◌}
use native.Mathlib.Omega.{arith}
use lib.ListN.{length, length-set}
use borrow.Author.Rules.{rules}
use Rattle.character.specs.Tick.{seats}
use Rattle.character.specs.Places.{PlacesOf}
use Rattle.character.proofs.Placed.{places_more}
use Rattle.character.proofs.places.places_of.Given as goal

abbrev pub invariant-loop-j : goal.invariant-loop-j
invariant-loop-j l = (l.j ≤ seats) × (length l.slots ≡ seats) × (length l.present ≡ seats) × (length l.xs ≡ seats) × (length l.ys ≡ seats) × PlacesOf l.j l.slots l.present l.xs l.ys

abbrev pub decreases-loop-j : goal.decreases-loop-j
decreases-loop-j l = seats - l.j
