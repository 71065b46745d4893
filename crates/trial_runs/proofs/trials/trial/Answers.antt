use Prim.Native.Nat.{ℕ}
use mathlib.Core.Bool.{true}
use mathlib.Core.List.{List, map}
use mathlib.Core.Path.{◌≡◌, sym, ap, ◌∙◌, subst}
use native.Mathlib.Omega.{arith}
use lib.Dec.{T}
use lib.IntN.{ℤ}
use lib.ListN.{length, replicate}
use mir.Facts.{to_z-of_z}
use Rattle.std.specs.Prelude.{Result}
use Rattle.std.proofs.lemmas.Result.{err_from_is_err_and}
use Rattle.game_refusals.specs.Refusals.{number_of, number_of_answer}
use Rattle.game_refusals.specs.declared.Refusal.{Refusal}
use Rattle.map_tiles.specs.Map.{is_map, count}
use Rattle.character.specs.Tick.{seats}
use Rattle.world.specs.declared.World.{World}
use Rattle.world_numbers.specs.Encoding.{each, encoding}
use Rattle.world.proofs.Numbered.{numbered}
use Rattle.trial_rule.specs.Trial.{no_player, enter_all, nobody_yet, tried, tuned_to}
use Rattle.trial_rule.specs.declared.Player.{Player}
use Rattle.trial_rule.specs.Calls.{tuning_rows, are_whole, trial_fault, entrants, tried_numbers}
use Rattle.trial_runs.specs.InPlace.{Enters}
use Rattle.trial_runs.proofs.OneTurn.{state}
use Rattle.trial_runs.proofs.Answers.{joins-refused, joins-accepted, not_whole, no_map, no-trial, by-join, by_runs, are_whole_lem, few_steps, fresh_is}
use Rattle.trial_runs.proofs.trials.trial.Goals as goal

pub returns-then-not-are_whole : goal.returns-then-not-are_whole
returns-then-not-are_whole c = let a = c.args in not_whole a.sides a.tiles.now a.joins.now a.targets.now a.tunings.now a.steps a.res.now (sym c.are_whole.ensures ∙ c.if-not-are_whole.true)

pub returns-then-not-is_map : goal.returns-then-not-is_map
returns-then-not-is_map c =
    let a = c.args in
    let whole : are_whole seats (length a.joins.now) (length a.targets.now) (length a.tunings.now) (length a.res.now) ≡ true = sym c.are_whole.ensures ∙ c.if-not-are_whole.false in
    no_map a.sides a.tiles.now a.joins.now a.targets.now a.tunings.now a.steps a.res.now whole (sym c.is_map.ensures ∙ c.if-not-is_map.true)

pub returns-in_err-trial_fault : goal.returns-in_err-trial_fault
returns-in_err-trial_fault c =
    let a = c.args in
    let whole : are_whole seats (length a.joins.now) (length a.targets.now) (length a.tunings.now) (length a.res.now) ≡ true = sym c.are_whole.ensures ∙ c.if-not-are_whole.false in
    let on_map : is_map a.sides a.tiles.now ≡ true = sym c.is_map.ensures ∙ c.if-not-is_map.false in
    let fault : number_of_answer c.trial_fault.result ≡ trial_fault a.tunings.now a.steps = c.trial_fault.ensures ∙ ap (trial_fault a.tunings.now) (to_z-of_z c.ranges.steps) in
    let refusal = c.in_err-trial_fault.field-0.0 in
    let number : trial_fault a.tunings.now a.steps ≡ number_of refusal = sym fault ∙ ap number_of_answer c.in_err-trial_fault.was in
    let p = err_from_is_err_and c.from_residual.result c.from_residual.ensures.1 in
    rw (p.1, p.2) (no-trial a.sides a.tiles.now a.joins.now a.targets.now a.tunings.now a.steps a.res.now whole on_map (λ z. numbered refusal (sym number ∙ z)) ∙ ap (λ (k : ℕ). record { number = k; result = a.res.now }) number)

pub enter_all-requires : goal.enter_all-requires
enter_all-requires c =
    let a = c.args in
    let whole : are_whole seats (length a.joins.now) (length a.targets.now) (length a.tunings.now) (length a.res.now) ≡ true = sym c.are_whole.ensures ∙ c.if-not-are_whole.false in
    let on_map : is_map a.sides a.tiles.now ≡ true = sym c.is_map.ensures ∙ c.if-not-is_map.false in
    let start = fresh_is c.encode.new.numbers (c.encode.ensures ∙ ap encoding c.fresh.ensures) in
    (start.0, subst T (sym on_map) tt, (are_whole_lem (length a.joins.now) (length a.targets.now) (length a.tunings.now) (length a.res.now) whole).aims)

pub returns-in_err-players : goal.returns-in_err-players
returns-in_err-players c =
    let a = c.args in
    let whole : are_whole seats (length a.joins.now) (length a.targets.now) (length a.tunings.now) (length a.res.now) ≡ true = sym c.are_whole.ensures ∙ c.if-not-are_whole.false in
    let on_map : is_map a.sides a.tiles.now ≡ true = sym c.is_map.ensures ∙ c.if-not-is_map.false in
    let fault : number_of_answer c.trial_fault.result ≡ trial_fault a.tunings.now a.steps = c.trial_fault.ensures ∙ ap (trial_fault a.tunings.now) (to_z-of_z c.ranges.steps) in
    let fits : trial_fault a.tunings.now a.steps ≡ 0 = sym fault ∙ ap number_of_answer c.in_ok-trial_fault.was in
    let start = fresh_is c.encode.new.numbers (c.encode.ensures ∙ ap encoding c.fresh.ensures) in
    let r = c.enter_all in
    let entered : Enters (enter_all seats a.sides a.tiles.now (entrants a.joins.now a.targets.now) (nobody_yet seats)) r.result r.new.world = subst (λ (w : World). Enters (enter_all seats a.sides a.tiles.now (entrants a.joins.now a.targets.now) (record { world = w; players = replicate seats no_player })) r.result r.new.world) start.1 r.ensures in
    let refusal = c.in_err-players.field-0.0 in
    let p = err_from_is_err_and c.from_residual-in_err-players.result c.from_residual-in_err-players.ensures.1 in
    rw (p.1, p.2) (by-join a.sides a.tiles.now a.joins.now a.targets.now a.tunings.now a.steps a.res.now whole on_map fits _ (joins-refused r.new.world refusal _ (subst (λ (x : Result (List Player) Refusal). Enters (enter_all seats a.sides a.tiles.now (entrants a.joins.now a.targets.now) (nobody_yet seats)) x r.new.world) c.in_err-players.was entered)))

pub overflow_cast-most : goal.overflow_cast-most
overflow_cast-most c =
    let a = c.args in
    let whole : are_whole seats (length a.joins.now) (length a.targets.now) (length a.tunings.now) (length a.res.now) ≡ true = sym c.are_whole.ensures ∙ c.if-not-are_whole.false in
    let on_map : is_map a.sides a.tiles.now ≡ true = sym c.is_map.ensures ∙ c.if-not-is_map.false in
    let fault : number_of_answer c.trial_fault.result ≡ trial_fault a.tunings.now a.steps = c.trial_fault.ensures ∙ ap (trial_fault a.tunings.now) (to_z-of_z c.ranges.steps) in
    let fits : trial_fault a.tunings.now a.steps ≡ 0 = sym fault ∙ ap number_of_answer c.in_ok-trial_fault.was in
    let start = fresh_is c.encode.new.numbers (c.encode.ensures ∙ ap encoding c.fresh.ensures) in
    let z = few_steps _ _ fits in
    let n : c.count-most.result ≡ count a.steps = c.count-most.ensures.0 ∙ ap count (to_z-of_z c.ranges.steps) in
    omega (arith, z, n)

pub run_all-requires : goal.run_all-requires
run_all-requires c =
    let a = c.args in
    let whole : are_whole seats (length a.joins.now) (length a.targets.now) (length a.tunings.now) (length a.res.now) ≡ true = sym c.are_whole.ensures ∙ c.if-not-are_whole.false in
    let on_map : is_map a.sides a.tiles.now ≡ true = sym c.is_map.ensures ∙ c.if-not-is_map.false in
    let fault : number_of_answer c.trial_fault.result ≡ trial_fault a.tunings.now a.steps = c.trial_fault.ensures ∙ ap (trial_fault a.tunings.now) (to_z-of_z c.ranges.steps) in
    let fits : trial_fault a.tunings.now a.steps ≡ 0 = sym fault ∙ ap number_of_answer c.in_ok-trial_fault.was in
    let start = fresh_is c.encode.new.numbers (c.encode.ensures ∙ ap encoding c.fresh.ensures) in
    let r = c.enter_all in
    let entered : Enters (enter_all seats a.sides a.tiles.now (entrants a.joins.now a.targets.now) (nobody_yet seats)) r.result r.new.world = subst (λ (w : World). Enters (enter_all seats a.sides a.tiles.now (entrants a.joins.now a.targets.now) (record { world = w; players = replicate seats no_player })) r.result r.new.world) start.1 r.ensures in
    let w = are_whole_lem (length a.joins.now) (length a.targets.now) (length a.tunings.now) (length a.res.now) whole in
    let j = joins-accepted r.new.world c.in_ok-players.players _ (subst (λ (x : Result (List Player) Refusal). Enters (enter_all seats a.sides a.tiles.now (entrants a.joins.now a.targets.now) (nobody_yet seats)) x r.new.world) c.in_ok-players.was entered) in
    (j.0, subst T (sym on_map) tt, w.whole, w.rows)

pub returns : goal.returns
returns c =
    let a = c.args in
    let whole : are_whole seats (length a.joins.now) (length a.targets.now) (length a.tunings.now) (length a.res.now) ≡ true = sym c.are_whole.ensures ∙ c.if-not-are_whole.false in
    let on_map : is_map a.sides a.tiles.now ≡ true = sym c.is_map.ensures ∙ c.if-not-is_map.false in
    let fault : number_of_answer c.trial_fault.result ≡ trial_fault a.tunings.now a.steps = c.trial_fault.ensures ∙ ap (trial_fault a.tunings.now) (to_z-of_z c.ranges.steps) in
    let fits : trial_fault a.tunings.now a.steps ≡ 0 = sym fault ∙ ap number_of_answer c.in_ok-trial_fault.was in
    let start = fresh_is c.encode.new.numbers (c.encode.ensures ∙ ap encoding c.fresh.ensures) in
    let r = c.enter_all in
    let entered : Enters (enter_all seats a.sides a.tiles.now (entrants a.joins.now a.targets.now) (nobody_yet seats)) r.result r.new.world = subst (λ (w : World). Enters (enter_all seats a.sides a.tiles.now (entrants a.joins.now a.targets.now) (record { world = w; players = replicate seats no_player })) r.result r.new.world) start.1 r.ensures in
    let j = joins-accepted r.new.world c.in_ok-players.players _ (subst (λ (x : Result (List Player) Refusal). Enters (enter_all seats a.sides a.tiles.now (entrants a.joins.now a.targets.now) (nobody_yet seats)) x r.new.world) c.in_ok-players.was entered) in
    let n : c.count-most.result ≡ count a.steps = c.count-most.ensures.0 ∙ ap count (to_z-of_z c.ranges.steps) in
    by_runs a.sides a.tiles.now a.joins.now a.targets.now a.tunings.now a.steps a.res.now whole on_map fits _ j.1
    ∙ ap (λ (l : List ℤ). record { number = 0; result = l }) (sym (c.run_all.ensures ∙ ap (λ (m : ℕ). each tried_numbers (map (λ zs. tried seats a.sides a.tiles.now m (tuned_to zs (state r.new.world c.in_ok-players.players))) (tuning_rows a.tunings.now))) n))
