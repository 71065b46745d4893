use mathlib.Core.Path.{◌≡◌}
use Prim.Native.Nat.{◌-◌, ◌≤◌}
use native.Mathlib.Omega.{arith}
use lib.ListN.{length, length-set}
use borrow.Author.Rules.{rules}
use Rattle.character.specs.Tick.{seats}
use Rattle.character.specs.Places.{PlacesOf}
use Rattle.character.proofs.Placed.{places_more}
use Rattle.character.proofs.places.places_of.Goals as goal

pub loop-j-init : goal.loop-j-init
loop-j-init c = (search rules, search rules, search rules, search rules, search rules, λ k l. absurd (omega arith))

pub offset_bounds-slots-j : goal.offset_bounds-slots-j
offset_bounds-slots-j c = omega arith

pub bounds-slots-j : goal.bounds-slots-j
bounds-slots-j c = omega arith

pub overflow_step-j : goal.overflow_step-j
overflow_step-j c = omega arith

pub loop-j-smaller : goal.loop-j-smaller
loop-j-smaller c = omega arith

pub loop-j-preserved : goal.loop-j-preserved
loop-j-preserved c =
    let l = c.loop-j in
    let h = c.loop-j-test.true in
    (omega arith, l.invariant.1, simp length-set l.invariant.2, simp length-set l.invariant.3, simp length-set l.invariant.4, places_more c.args.slots l.present l.xs l.ys l.j (omega arith) (omega arith) (omega arith) (omega arith) l.invariant.5)

pub returns : goal.returns
returns c = λ k h. c.loop-j.invariant.5 k (omega arith)
