use mathlib.Core.Path.{◌≡◌, sym, ap, ◌∙◌}
use Prim.Native.Nat.{◌^◌}
use native.Mathlib.Omega.{arith}
use lib.Dec.{le→leb}
use lib.Ieee.{Float, in_float}
use borrow.Author.Rules.{rules}
use Rattle.num_convert.specs.Convert.{i32_to_f32}
use Rattle.num_vec2.specs.declared.vec2.{vec2}
use Rattle.character_walk.specs.Walking.{rest_at}
use Rattle.character_near.proofs.Walks.{walk_through, walk-touched}
use Rattle.character_near.proofs.walk.walk_by_place.Goals as goal

rests : (f : Float) (from to : vec2) {last last' p p' q q' : vec2} → last ≡ last' → p ≡ p' → q ≡ q' → rest_at f last from to p q ≡ rest_at f last' from to p' q'
rests f from to {last} {last'} {p} {p'} {q} {q'} e g h = ap (λ (v : vec2). rest_at f v from to p q) e ∙ ap (λ (v : vec2). rest_at f last' from to v q) g ∙ ap (λ (v : vec2). rest_at f last' from to p' v) h

pub offset_bounds-xs-place : goal.offset_bounds-xs-place
offset_bounds-xs-place c = omega (arith, c.soonest_touch-touch.ensures.place_is c.if-turn-turns.true)

pub bounds-xs-place : goal.bounds-xs-place
bounds-xs-place c = omega (arith, c.soonest_touch-touch.ensures.place_is c.if-turn-turns.true)

pub offset_bounds-ys-place : goal.offset_bounds-ys-place
offset_bounds-ys-place c = omega (arith, c.soonest_touch-touch.ensures.place_is c.if-turn-turns.true)

pub bounds-ys-place : goal.bounds-ys-place
bounds-ys-place c = omega (arith, c.soonest_touch-touch.ensures.place_is c.if-turn-turns.true)

pub point_before-last-requires : goal.point_before-last-requires
point_before-last-requires c = omega arith

pub int_to_float-fraction : goal.int_to_float-fraction
unfolding in_float
int_to_float-fraction c = le→leb c.soonest_touch-touch.result.turn (2 ^ 24) (omega arith)

pub returns-then-turn-turns : goal.returns-then-turn-turns
unfolding i32_to_f32
returns-then-turn-turns c =
    let a = c.args in
    c.rest_at.ensures
    ∙ rests _ a.from a.to c.point_before-last.ensures c.mix-p.ensures c.new-q.ensures
    ∙ sym (walk-touched a.xs.now a.ys.now a.from a.to a.distance a.turns c.soonest_touch-touch.ensures c.if-turn-turns.true)

pub returns : goal.returns
returns c = sym (walk_through _ _ _ _ _ _ c.soonest_touch-touch.ensures c.if-turn-turns.false)
