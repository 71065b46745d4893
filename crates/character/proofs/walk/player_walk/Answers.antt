use native.Mathlib.Omega.{arith}
use borrow.Author.Rules.{rules}
use borrow.Author.Tests.{lt-leb, le-leb}
use Rattle.character.specs.Tick.{seats}
use Rattle.character.specs.Walk.{player_walk}
use Rattle.character.proofs.Gathered.{walk_gathered, walk-alone}
use Rattle.character.proofs.walk.player_walk.Goals as goal

pub returns-then-turns-gt-MOST_TURNS : goal.returns-then-turns-gt-MOST_TURNS
unfolding player_walk
returns-then-turns-gt-MOST_TURNS c = λ ss places. simp (c.if-player_collision.true, ← c.distance-distance.ensures, ← c.player_turns-turns.ensures, lt-leb _ _ c.if-turns-gt-MOST_TURNS.true)

pub returns-then-count-eq0 : goal.returns-then-count-eq0
unfolding player_walk
returns-then-count-eq0 c = λ ss places.
    let a = c.args in
    let g = c.gather-count in
    let asked = rw (c.add-end.ensures, c.sub.ensures) at (g.ensures.3 ss places) in
    let alone = walk-alone seats ss a.id a.from a.to g.result _ _ asked c.if-count-eq0.true in
    let e = simp (← c.distance-distance.ensures, ← c.player_turns-turns.ensures) at alone in
    simp (c.if-player_collision.true, ← c.distance-distance.ensures, ← c.player_turns-turns.ensures, le-leb _ _ c.if-turns-gt-MOST_TURNS.false, e)

pub walk_near-requires : goal.walk_near-requires
walk_near-requires c =
    let g = c.gather-count.ensures in
    (search rules, search rules, search rules, omega (arith, g.0, g.1), omega (arith, g.0, g.2))

pub returns-then-player_collision : goal.returns-then-player_collision
unfolding player_walk
returns-then-player_collision c = λ ss places.
    let a = c.args in
    let g = c.gather-count in
    let asked = rw (c.add-end.ensures, c.sub.ensures) at (g.ensures.3 ss places) in
    let e = simp (← c.distance-distance.ensures, ← c.player_turns-turns.ensures, ← c.walk_near.ensures) at (walk_gathered seats ss a.id a.from a.to g.result _ _ asked) in
    simp (c.if-player_collision.true, ← c.distance-distance.ensures, ← c.player_turns-turns.ensures, le-leb _ _ c.if-turns-gt-MOST_TURNS.false, e)

pub returns : goal.returns
unfolding player_walk
returns c = λ ss places. simp c.if-player_collision.false
