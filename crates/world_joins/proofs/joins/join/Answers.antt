use mathlib.Core.Logic.{⊎_elim}
use lib.Dec.{T}
use Rattle.character.specs.Tick.{seats}
use borrow.Author.Tests.{lt-ltb, le-ltb}
use mir.Facts.{to_z-of_z}
use mathlib.Core.Path.{◌≡◌, sym, ap, ◌∙◌, subst}
use Rattle.world.specs.Calls.{place_of, is_in_reach, join}
use borrow.Author.Rules.{rules}
use Rattle.world_joins.proofs.joins.join.Goals.{else-in_reach-via-then-in_reach+else-in_reach-2, else-in_reach-via-else-in_reach}
use Rattle.world_joins.proofs.joins.join.Goals as goal

pub join_at-requires : goal.join_at-requires
join_at-requires c = (subst T (sym c.if-is_map.true ∙ c.is_map.ensures) tt, c.if-at-lt-SEATS.true)

pub returns-then-in_reach-2 : goal.returns-then-in_reach-2
unfolding join
returns-then-in_reach-2 c =
    let a = c in
    let p : c.place_of-at.result ≡ place_of seats a.args.id = c.place_of-at.ensures ∙ ap (place_of seats) (to_z-of_z a.ranges.id) in
    let x : c.in_reach.result ≡ is_in_reach a.args.x = c.in_reach.ensures ∙ ap is_in_reach (to_z-of_z a.ranges.x) in
    let y : c.in_reach-then-in_reach.result ≡ is_in_reach a.args.y = c.in_reach-then-in_reach.ensures ∙ ap is_in_reach (to_z-of_z a.ranges.y) in
    simp (← c.is_map.ensures, c.if-is_map.true, ← p, lt-ltb _ _ c.if-at-lt-SEATS.true, ← x, c.if-in_reach.true, ← y, c.if-in_reach-2.true, c.join_at.ensures, c.point_of.ensures, to_z-of_z a.ranges.x, to_z-of_z a.ranges.y)

pub returns-then-at-lt-SEATS : goal.returns-then-at-lt-SEATS
unfolding join
returns-then-at-lt-SEATS c =
    let a = c in
    let p : c.place_of-at.result ≡ place_of seats a.args.id = c.place_of-at.ensures ∙ ap (place_of seats) (to_z-of_z a.ranges.id) in
    let x : c.in_reach.result ≡ is_in_reach a.args.x = c.in_reach.ensures ∙ ap is_in_reach (to_z-of_z a.ranges.x) in
    elim c.else-in_reach.branch [
      | else-in_reach-via-then-in_reach+else-in_reach-2 w ↦
          let y : _ ≡ is_in_reach a.args.y = w.in_reach-then-in_reach.ensures ∙ ap is_in_reach (to_z-of_z a.ranges.y) in
          simp (← c.is_map.ensures, c.if-is_map.true, ← p, lt-ltb _ _ c.if-at-lt-SEATS.true, ← x, w.if-in_reach.true, ← y, w.if-in_reach-2.false)
      | else-in_reach-via-else-in_reach w ↦ simp (← c.is_map.ensures, c.if-is_map.true, ← p, lt-ltb _ _ c.if-at-lt-SEATS.true, ← x, w.if-in_reach.false)
    ]

pub returns-then-is_map : goal.returns-then-is_map
unfolding join
returns-then-is_map c =
    let p : c.place_of-at.result ≡ place_of seats c.args.id = c.place_of-at.ensures ∙ ap (place_of seats) (to_z-of_z c.ranges.id) in
    simp (← c.is_map.ensures, c.if-is_map.true, ← p, le-ltb _ _ c.if-at-lt-SEATS.false)

pub returns : goal.returns
unfolding join
returns c = simp (← c.is_map.ensures, c.if-is_map.false)
