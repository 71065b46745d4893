use mathlib.Core.Path.{◌≡◌, refl, sym, ap, ◌∙◌, subst}
use mathlib.Core.Bool.{Bool, true, false, cond}
use mathlib.Core.List.{List}
use Prim.Native.Nat.{ℕ}
use lib.Dec.{T, leb}
use lib.Ieee.{Float, ne}
use Rattle.std.proofs.lemmas.Result.{err_from_is_err_and}
use Rattle.std.specs.Prelude.{Result, Ok, Err}
use Rattle.num_convert.specs.Number.{c0}
use Rattle.num_vec2.specs.Vec2.{vdistance}
use Rattle.num_vec2.specs.declared.vec2.{vec2}
use Rattle.game_refusals.specs.declared.Refusal.{Refusal}
use Rattle.game_refusals.specs.declared.Refusal.TheVariants.{TooFar}
use Rattle.game_tuning.specs.declared.Tuning.{Tuning}
use Rattle.map_lines.specs.Limit.{most_turns}
use Rattle.map_tiles.specs.declared.tiles.Sides.{Sides}
use Rattle.map_walks.specs.declared.moves.Body.{Body}
use Rattle.character_walk.specs.Walking.{player_turns, ramped_move}
use Rattle.character.specs.declared.Character.{Character}
use Rattle.character.proofs.Refused.{one_of_two, ramped_refused, rested_refused, flown_refused, net_refused}
use Rattle.world.specs.Step.{of_net, record_of}
use Rattle.character.specs.Records.{to_net}
use Rattle.game_records.specs.declared.CharacterCore.{CharacterCore}
use Rattle.send_alone.specs.Alone.{rest_alone, after_box_alone, move_alone, step_alone}
use Rattle.send_alone.proofs.step_alone.Goals as goal

-- what refuses the move is that it is too far
rest_refused : (from to : vec2) (collision : Float) (e : Refusal) → rest_alone from to collision ≡ Err e → e ≡ TooFar
unfolding rest_alone
rest_refused from to collision e h = go (ne collision c0) h
  where
    go : (b : Bool) → cond b (cond (leb (player_turns (vdistance from to)) most_turns) (Ok to) (Err TooFar)) (Ok to) ≡ Err e → e ≡ TooFar
    go true q = one_of_two (leb (player_turns (vdistance from to)) most_turns) to TooFar e q
    go false q = cc

move_refused : (s : Sides) (ts : List ℕ) (t : Tuning) (c : Character) (e : Refusal) → move_alone s ts t c ≡ Err e → e ≡ TooFar
unfolding move_alone
move_refused s ts t c e h = go (ramped_move s ts c.pos c.vel t) refl h
  where
    go : (b : Result Body Refusal) → ramped_move s ts c.pos c.vel t ≡ b → after_box_alone c t b ≡ Err e → e ≡ TooFar
    go (Err r) q k = let z : r ≡ e = cc in sym z ∙ ramped_refused s ts c.pos c.vel t r q
    go (Ok b) q k = rest_refused c.pos b.pos t.player_collision e (rested_refused c b.vel _ e k)

-- a record is refused for its tick alone
same_net : (c : Character) (a : Result CharacterCore Refusal) → to_net c ≡ a → of_net a ≡ a
same_net c (Ok core) q = refl
same_net c (Err e) q = ap Err (sym (net_refused c e q))

pub grounded-requires : goal.grounded-requires
grounded-requires c = subst T (sym c.if-is_map.true ∙ c.is_map.ensures) tt

pub flown-requires : goal.flown-requires
flown-requires c = subst T (sym c.if-is_map.true ∙ c.is_map.ensures) tt

pub move_alone-requires : goal.move_alone-requires
move_alone-requires c = subst T (sym c.if-is_map.true ∙ c.is_map.ensures) tt

pub returns-in_err-flown : goal.returns-in_err-flown
unfolding step_alone
returns-in_err-flown c =
    let p = err_from_is_err_and c.from_residual.result c.from_residual.ensures.1 in
    let far = flown_refused _ _ _ _ _ _ (sym c.flown.ensures ∙ c.in_err-flown.was) in
    rw (p.1, p.2, far) (simp (← c.is_map.ensures, c.if-is_map.true, ← c.from_net-me.ensures, ← c.grounded.ensures, ← c.steer-steered.ensures, ← c.flown.ensures, c.in_err-flown.was))

pub returns-in_err-moved : goal.returns-in_err-moved
unfolding step_alone record_of
returns-in_err-moved c =
    let p = err_from_is_err_and c.from_residual-in_err-moved.result c.from_residual-in_err-moved.ensures.1 in
    let far = move_refused _ _ _ _ _ (sym c.move_alone.ensures ∙ c.in_err-moved.was) in
    rw (p.1, p.2, far) (simp (← c.is_map.ensures, c.if-is_map.true, ← c.from_net-me.ensures, ← c.grounded.ensures, ← c.steer-steered.ensures, ← c.flown.ensures, c.in_ok-flown.was, ← c.end_of-hook.ensures, ← c.hooked_alone.ensures, ← c.move_alone.ensures, c.in_err-moved.was))

pub returns-then-is_map : goal.returns-then-is_map
unfolding step_alone record_of
returns-then-is_map c =
    c.to_net.ensures
    ∙ simp (← c.is_map.ensures, c.if-is_map.true, ← c.from_net-me.ensures, ← c.grounded.ensures, ← c.steer-steered.ensures, ← c.flown.ensures, c.in_ok-flown.was, ← c.end_of-hook.ensures, ← c.hooked_alone.ensures, ← c.move_alone.ensures, c.in_ok-moved.was)
    (sym (same_net c.in_ok-moved.moved (to_net c.in_ok-moved.moved) refl))

pub returns : goal.returns
unfolding step_alone
returns c = simp (← c.is_map.ensures, c.if-is_map.false)
