use Prim.Native.Nat.{◌+◌, ◌*◌}
use mathlib.Core.List.{List, [], ◌∷◌}
use mathlib.Core.Path.{◌≡◌, refl, sym, ap₂, ◌∙◌}
use native.Mathlib.Omega.{arith}
use lib.IntN.{ℤ}
use lib.ListN.{length}
use lib.Seq.{take_all}
use mir.Syntax.{w32}
use mir.Val.{to_z}
use mir.Facts.{to_z_pos}
use Rattle.character.specs.Tick.{seats}
use Rattle.world_numbers.specs.Encoding.{each}
use Rattle.world_numbers.proofs.Rows.{next_row}
use Rattle.trial_rule.specs.Trial.{no_player}
use Rattle.trial_rule.specs.Calls.{told_count, player_numbers, tried_numbers}
use Rattle.trial_rule.specs.declared.Player.{Player}
use Rattle.trial_rule.proofs.Rows.{player_long}
use borrow.Author.Rules.{rules}
use Rattle.trial_runs.proofs.telling.tried_numbers.Goals as goal

pub loop-j-init : goal.loop-j-init
unfolding each
loop-j-init c = (omega arith, refl, refl)

pub loop-j-preserved : goal.loop-j-preserved
loop-j-preserved c =
    let k = c.copy in
    let r = c.player_numbers-told in
    let l = c.before.before.before.before.before.before.before in
    let j = l.loop-j.j in
    let s = l in
    let m : length s.args.tried.players ≡ seats = s.well_formed.0.1.1.1.0.1.0.1 in
    (omega arith, k.auto.numbers ∙ l.loop-j.invariant.1, next_row player_numbers told_count player_long (to_z w32 s.args.tried.steps ∷ []) s.args.tried.players no_player j (1 + told_count * j) (1 + told_count * (j + 1)) l.loop-j.row k.new.numbers r.result (omega arith) (omega arith) l.loop-j.invariant.2 r.ensures k.ensures (omega arith))

pub returns : goal.returns
unfolding tried_numbers
returns c =
    let l = c.before in
    let j = l.loop-j.j in
    let s = l in
    let a = s.args.tried in
    let m : length a.players ≡ seats = s.well_formed.0.1.1.1.0.1.0.1 in
    sym (take_all (1 + told_count * j) l.loop-j.row (omega arith)) ∙ l.loop-j.invariant.2 ∙ ap₂ (λ (z : ℤ) (ps : List Player). z ∷ each player_numbers ps) (to_z_pos w32 (search rules)) (take_all j a.players (omega arith))
