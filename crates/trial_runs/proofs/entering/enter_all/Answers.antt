use Prim.Native.Nat.{ℕ, ◌<◌}
use mathlib.Core.Path.{◌≡◌, sym, ap, ap₂, ◌∙◌, subst}
use native.Mathlib.Omega.{arith}
use lib.ListN.{replicate, set}
use Rattle.std.proofs.lemmas.Result.{err_from_is_err_and}
use Rattle.game_refusals.specs.Refusals.{number_of, number_of_answer}
use Rattle.game_records.proofs.Bits.{again}
use Rattle.character.specs.Tick.{seats}
use Rattle.world.specs.Calls.{place_of}
use Rattle.trial_rule.specs.Trial.{no_player}
use Rattle.trial_runs.proofs.Sides.{both_sides}
use Rattle.world_buffers.specs.Buffers.{join_in}
use Rattle.world.proofs.Numbered.{numbered}
use Rattle.trial_runs.proofs.Worlds.{world_long}
use Rattle.trial_runs.proofs.Joins.{entrant_at, join_within, seat_there, enter_first, enter-end, enter-off, enter-on}
use Rattle.trial_runs.proofs.entering.enter_all.Goals as goal

pub loop-i-init : goal.loop-i-init
loop-i-init c = let a = c.args in enter_first a.sides a.tiles.now a.joins.now a.targets.now a.world.now c.no_players-players.result (replicate seats no_player) c.requires.0 c.no_players-players.ensures

pub overflow_mul-at : goal.overflow_mul-at
overflow_mul-at c = omega (arith, join_within _ _ c.loop-i-test.true)

pub offset_bounds-joins-at : goal.offset_bounds-joins-at
offset_bounds-joins-at c = omega (arith, join_within _ _ c.loop-i-test.true)

pub bounds-joins-at : goal.bounds-joins-at
bounds-joins-at c = omega (arith, join_within _ _ c.loop-i-test.true)

pub overflow_add-x : goal.overflow_add-x
overflow_add-x c = omega (arith, join_within _ _ c.loop-i-test.true)

pub offset_bounds-joins-at-in-loop-i : goal.offset_bounds-joins-at-in-loop-i
offset_bounds-joins-at-in-loop-i c = omega (arith, join_within _ _ c.loop-i-test.true)

pub bounds-joins-at-in-loop-i : goal.bounds-joins-at-in-loop-i
bounds-joins-at-in-loop-i c = omega (arith, join_within _ _ c.loop-i-test.true)

pub overflow_add-y : goal.overflow_add-y
overflow_add-y c = omega (arith, join_within _ _ c.loop-i-test.true)

pub offset_bounds-joins-at-in-loop-i-2 : goal.offset_bounds-joins-at-in-loop-i-2
offset_bounds-joins-at-in-loop-i-2 c = omega (arith, join_within _ _ c.loop-i-test.true)

pub bounds-joins-at-in-loop-i-2 : goal.bounds-joins-at-in-loop-i-2
bounds-joins-at-in-loop-i-2 c = omega (arith, join_within _ _ c.loop-i-test.true)

pub shape_of-world-in_err-join_in : goal.shape_of-world-in_err-join_in
shape_of-world-in_err-join_in c = c.join_in.auto.world ∙ c.loop-i.invariant.long ∙ sym (world_long _ c.requires.0)

pub returns-in_err-join_in : goal.returns-in_err-join_in
returns-in_err-join_in c =
    let a = c.args in
    let l = c.loop-i in
    let j = c.join_in in
    let e = entrant_at a.joins.now a.targets.now l.i in
    let told : join_in a.sides a.tiles.now l.world e.id e.x e.y ≡ record { number = number_of_answer j.result; world = j.new.world } = rw (again c.id-1.given, again c.x-1.given, again c.y-1.given) at j.ensures in
    let refusal = c.in_err-join_in.field-0.0 in
    let number : number_of_answer j.result ≡ number_of refusal = ap number_of_answer c.in_err-join_in.was in
    let p = err_from_is_err_and c.from_residual.result c.from_residual.ensures.1 in
    rw (p.1, p.2) (enter-off a.sides a.tiles.now a.joins.now a.targets.now c.requires.2 _ l.i l.world l.players l.invariant c.loop-i-test.true j.new.world (number_of_answer j.result) told refusal j.new.world (λ z. numbered refusal (sym number ∙ z)) (sym number))

pub overflow_mul-to : goal.overflow_mul-to
overflow_mul-to c = let m = c.requires.2 in omega (arith, m, c.loop-i-test.true)

pub offset_bounds-targets-to : goal.offset_bounds-targets-to
offset_bounds-targets-to c = let m = c.requires.2 in omega (arith, m, c.loop-i-test.true)

pub bounds-targets-to : goal.bounds-targets-to
bounds-targets-to c = let m = c.requires.2 in omega (arith, m, c.loop-i-test.true)

pub overflow_add-to : goal.overflow_add-to
overflow_add-to c = let m = c.requires.2 in omega (arith, m, c.loop-i-test.true)

pub offset_bounds-targets-to-in-loop-i : goal.offset_bounds-targets-to-in-loop-i
offset_bounds-targets-to-in-loop-i c = let m = c.requires.2 in omega (arith, m, c.loop-i-test.true)

pub bounds-targets-to-in-loop-i : goal.bounds-targets-to-in-loop-i
bounds-targets-to-in-loop-i c = let m = c.requires.2 in omega (arith, m, c.loop-i-test.true)

pub entered-requires : goal.entered-requires
entered-requires c = both_sides _ _ c.requires.1

pub offset_bounds-players-place_of : goal.offset_bounds-players-place_of
offset_bounds-players-place_of c =
    let a = c.args in
    let l = c.loop-i in
    let j = c.join_in in
    let e = entrant_at a.joins.now a.targets.now l.i in
    let told : join_in a.sides a.tiles.now l.world e.id e.x e.y ≡ record { number = number_of_answer j.result; world = j.new.world } = rw (again c.id-1.given, again c.x-1.given, again c.y-1.given) at j.ensures in
    let accepted : number_of_answer j.result ≡ 0 = ap number_of_answer c.in_ok-join_in.was in
    let place : c.place_of.result ≡ place_of seats e.id = c.place_of.ensures ∙ ap (place_of seats) (again c.id-1.given) in
    let within : c.place_of.result < seats = subst (λ (k : ℕ). k < seats) (sym place) (seat_there a.sides a.tiles.now l.world j.new.world l.players e (number_of_answer j.result) l.invariant.world told accepted) in
    omega (arith, within)

pub bounds-players-place_of : goal.bounds-players-place_of
bounds-players-place_of c =
    let a = c.args in
    let l = c.loop-i in
    let j = c.join_in in
    let e = entrant_at a.joins.now a.targets.now l.i in
    let told : join_in a.sides a.tiles.now l.world e.id e.x e.y ≡ record { number = number_of_answer j.result; world = j.new.world } = rw (again c.id-1.given, again c.x-1.given, again c.y-1.given) at j.ensures in
    let accepted : number_of_answer j.result ≡ 0 = ap number_of_answer c.in_ok-join_in.was in
    let place : c.place_of.result ≡ place_of seats e.id = c.place_of.ensures ∙ ap (place_of seats) (again c.id-1.given) in
    let within : c.place_of.result < seats = subst (λ (k : ℕ). k < seats) (sym place) (seat_there a.sides a.tiles.now l.world j.new.world l.players e (number_of_answer j.result) l.invariant.world told accepted) in
    within

pub overflow_step-i : goal.overflow_step-i
overflow_step-i c = omega (arith, join_within _ _ c.loop-i-test.true)

pub loop-i-smaller : goal.loop-i-smaller
loop-i-smaller c = omega (arith, c.loop-i-test.true)

pub loop-i-preserved : goal.loop-i-preserved
loop-i-preserved c =
    let a = c.args in
    let l = c.loop-i in
    let j = c.join_in in
    let e = entrant_at a.joins.now a.targets.now l.i in
    let told : join_in a.sides a.tiles.now l.world e.id e.x e.y ≡ record { number = number_of_answer j.result; world = j.new.world } = rw (again c.id-1.given, again c.x-1.given, again c.y-1.given) at j.ensures in
    let accepted : number_of_answer j.result ≡ 0 = ap number_of_answer c.in_ok-join_in.was in
    let place : c.place_of.result ≡ place_of seats e.id = c.place_of.ensures ∙ ap (place_of seats) (again c.id-1.given) in
    let within : c.place_of.result < seats = subst (λ (k : ℕ). k < seats) (sym place) (seat_there a.sides a.tiles.now l.world j.new.world l.players e (number_of_answer j.result) l.invariant.world told accepted) in
    let entered = rw (again c.x-1.given, again c.y-1.given, again c.entered-arg-1.given, again c.entered-arg-in-loop-i-1.given) at (c.entered.ensures e.id) in
    enter-on a.sides a.tiles.now a.joins.now a.targets.now c.requires.2 _ l.i l.world l.players l.invariant c.loop-i-test.true j.new.world (number_of_answer j.result) told _ accepted (ap₂ (set l.players) place entered)

pub shape_of-world : goal.shape_of-world
shape_of-world c = c.loop-i.invariant.long ∙ sym (world_long _ c.requires.0)

pub returns : goal.returns
returns c =
    let a = c.args in
    let l = c.loop-i in
    enter-end a.sides a.tiles.now a.joins.now a.targets.now c.requires.2 _ l.i l.world l.players l.invariant c.loop-i-test.false
