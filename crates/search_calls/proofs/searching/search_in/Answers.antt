use Prim.Native.Nat.{◌<◌}
use mathlib.Core.Path.{◌≡◌, refl, sym, ap, ◌∙◌, subst}
use mir.Facts.{to_z-of_z}
use Rattle.std.proofs.lemmas.Result.{err_from_is_err_and}
use Rattle.character.specs.Tick.{seats}
use Rattle.world.specs.Calls.{place_of}
use Rattle.world.specs.Readers.{seated}
use Rattle.world_numbers.specs.Decoding.{decoding}
use Rattle.world_buffers.specs.Readers.{told_as}
use Rattle.search_rule.specs.Search.{Found, first_way, goal_of}
use Rattle.search_rule.specs.declared.Goal.{Goal}
use Rattle.search_calls.specs.Numbers.{found_numbers}
use Rattle.search_calls.proofs.Answers.{wrong_world, wrong-way, no_map, searched, found_told, seat_within}
use Rattle.search_calls.proofs.searching.search_in.Goals.{then-world-ne-WORLD-via-then-world-ne-WORLD, then-world-ne-WORLD-via-else-world-ne-WORLD+then-way-ne-WAY}
use Rattle.search_calls.proofs.searching.search_in.Goals as goal
use Rattle.std.specs.Prelude.{Result}
use Rattle.character.specs.declared.Slot.{Slot}
use Rattle.game_refusals.specs.declared.Refusal.{Refusal}

pub returns-then-world-ne-WORLD : goal.returns-then-world-ne-WORLD
returns-then-world-ne-WORLD c =
    let a = c.args in
    elim c.then-world-ne-WORLD.branch [
      | then-world-ne-WORLD-via-then-world-ne-WORLD w ↦ wrong_world a.sides a.tiles.now a.world.now a.id a.x a.y a.way.now w.if-world-ne-WORLD.true
      | then-world-ne-WORLD-via-else-world-ne-WORLD+then-way-ne-WAY w ↦ wrong-way a.sides a.tiles.now a.world.now a.id a.x a.y a.way.now w.if-world-ne-WORLD.false w.if-way-ne-WAY.true
    ]

pub returns-then-not-is_map : goal.returns-then-not-is_map
returns-then-not-is_map c = let a = c.args in no_map a.sides a.tiles.now a.world.now a.id a.x a.y a.way.now c.if-world-ne-WORLD.false c.if-way-ne-WAY.false (sym c.is_map.ensures ∙ c.if-not-is_map.true)

pub returns-in_err-slot : goal.returns-in_err-slot
returns-in_err-slot c =
    let a = c.args in
    let told = c.in_err-slot.ensures ∙ ap (seated seats (decoding seats a.world.now)) (to_z-of_z c.ranges.id) in
    let p = err_from_is_err_and c.from_residual.result c.from_residual.ensures.1 in
    rw (p.1, p.2) (searched a.sides a.tiles.now a.world.now a.id a.x a.y a.way.now c.if-world-ne-WORLD.false c.if-way-ne-WAY.false _ (sym c.is_map.ensures ∙ c.if-not-is_map.false) (sym told))

pub tell_way-requires : goal.tell_way-requires
tell_way-requires c =
    let a = c.args in
    let f = c.ranges in
    let told = c.in_ok-slot.ensures ∙ ap (seated seats (decoding seats a.world.now)) (to_z-of_z f.id) in
    let goal_is : c.goal_of.result ≡ goal_of a.id a.x a.y c.in_ok-slot.slot.input = c.goal_of.ensures ∙ rw (to_z-of_z f.id, to_z-of_z f.x, to_z-of_z f.y) refl in
    (c.if-world-ne-WORLD.false, subst (λ (g : Goal). place_of seats g.id < seats) (sym goal_is) (seat_within seats (decoding seats a.world.now) a.id _ (sym told)), c.if-way-ne-WAY.false)

pub returns : goal.returns
returns c =
    let a = c.args in
    let f = c.ranges in
    let told = c.in_ok-slot.ensures ∙ ap (seated seats (decoding seats a.world.now)) (to_z-of_z f.id) in
    let way : Goal → Found = λ g. first_way seats a.sides a.tiles.now g (decoding seats a.world.now) in
    let goal = goal_of a.id a.x a.y c.in_ok-slot.slot.input in
    let goal_is : c.goal_of.result ≡ goal_of a.id a.x a.y c.in_ok-slot.slot.input = c.goal_of.ensures ∙ rw (to_z-of_z f.id, to_z-of_z f.x, to_z-of_z f.y) refl in
    searched a.sides a.tiles.now a.world.now a.id a.x a.y a.way.now c.if-world-ne-WORLD.false c.if-way-ne-WAY.false _ (sym c.is_map.ensures ∙ c.if-not-is_map.false) (sym told)
    ∙ found_told a.way.now (way goal)
    ∙ ap told_as (sym (c.tell_way.ensures ∙ ap (λ (g : Goal). found_numbers (way g)) goal_is))
