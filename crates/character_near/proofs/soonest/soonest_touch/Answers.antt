use mathlib.Core.Path.{◌≡◌, sym, subst}
use mathlib.Core.List.{List}
use mathlib.Core.Logic.{⊎_elim}
use Prim.Native.Nat.{ℕ, ◌-◌, ◌≤◌}
use native.Mathlib.Omega.{arith}
use lib.Ieee.{Float}
use borrow.Author.Rules.{rules}
use Rattle.num_vec2.specs.declared.vec2.{vec2}
use Rattle.character_aside.specs.First.{FirstTouch}
use Rattle.character_near.specs.Soonest.{Soonest}
use Rattle.character_near.proofs.Walks.{soonest_none, soonest_on, soonest_past}
use Rattle.character_near.proofs.soonest.soonest_touch.Goals.{then-r-turn, else-r-turn}
use Rattle.character_near.proofs.soonest.soonest_touch.Goals as goal

-- in other words
first : {from to : vec2} {distance : Float} {q r : vec2} {end n : ℕ} → q ≡ r → FirstTouch from to distance q 0 end n → FirstTouch from to distance r 0 end n
first {from} {to} {distance} {q} {r} {end} {n} e h = subst (λ (p : vec2). FirstTouch from to distance p 0 end n) e h

reached : {xs ys : List Float} {from to : vec2} {distance : Float} {turns k turn place turn' place' : ℕ} → turn ≡ turn' → place ≡ place' → Soonest xs ys from to distance turns k turn place → Soonest xs ys from to distance turns k turn' place'
reached {xs} {ys} {from} {to} {distance} {turns} {k} {turn} {place} {turn'} {place'} e f h = subst (λ (i : ℕ). Soonest xs ys from to distance turns k i place') e (subst (λ (i : ℕ). Soonest xs ys from to distance turns k turn i) f h)

asked_all : {xs ys : List Float} {from to : vec2} {distance : Float} {turns k m turn place : ℕ} → k ≡ m → Soonest xs ys from to distance turns k turn place → Soonest xs ys from to distance turns m turn place
asked_all {xs} {ys} {from} {to} {distance} {turns} {k} {m} {turn} {place} e h = subst (λ (i : ℕ). Soonest xs ys from to distance turns i turn place) e h

pub loop-k-init : goal.loop-k-init
loop-k-init c = (soonest_none _ _ _ _ _ _, omega arith)

pub offset_bounds-xs-k : goal.offset_bounds-xs-k
offset_bounds-xs-k c = omega arith

pub bounds-xs-k : goal.bounds-xs-k
bounds-xs-k c = omega arith

pub offset_bounds-ys-k : goal.offset_bounds-ys-k
offset_bounds-ys-k c = omega arith

pub bounds-ys-k : goal.bounds-ys-k
bounds-ys-k c = omega arith

pub first_touch-r-requires : goal.first_touch-r-requires
first_touch-r-requires c =
    let pre = c.requires in
    let w = c.loop-k.invariant.0.within in
    (pre.0, omega (arith, pre.1, w), omega (arith, w))

pub overflow_step-k : goal.overflow_step-k
overflow_step-k c = omega arith

pub loop-k-smaller : goal.loop-k-smaller
loop-k-smaller c = omega arith

pub loop-k-preserved : goal.loop-k-preserved
loop-k-preserved c =
    let s = c.loop-k.invariant.0 in
    let f = first c.new-q.ensures c.first_touch-r.ensures in
    elim c.if-r-turn.branch [
      | then-r-turn w ↦ (reached (sym w.turn-is) (sym w.place-is) (soonest_on _ _ _ _ _ _ s f w.if-r-turn.true), omega arith)
      | else-r-turn w ↦ (reached (sym w.turn-is) (sym w.place-is) (soonest_past _ _ _ _ _ _ s f w.if-r-turn.false), omega arith)
    ]

pub returns : goal.returns
returns c = asked_all (omega arith) c.loop-k.invariant.0
