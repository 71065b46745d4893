use mathlib.Core.Path.{refl, sym, ap, ◌∙◌}
use native.Mathlib.Omega.{arith}
use mathlib.Core.List.{List}
use lib.IntN.{ℤ}
use Rattle.base_rows.specs.Put.{put}
use Rattle.base_turns.proofs.Loop.{turn_on, turn_off, turn_end}
use Rattle.trial_rule.specs.Trial.{tried_of, tried}
use Rattle.trial_runs.proofs.Sides.{both_sides}
use Rattle.trial_runs.proofs.Worlds.{world_long}
use Rattle.trial_runs.proofs.OneTurn.{started, refused, stepped_kept, turned}
use Rattle.game_refusals.specs.Refusals.{number_of_answer}
use Rattle.world.proofs.Numbered.{accepted, declined}
use borrow.Author.Rules.{rules}
use Rattle.trial_runs.proofs.running.run_tuning.Goals as goal

pub copy-requires : goal.copy-requires
copy-requires c = let m = world_long _ c.requires.0 in omega (arith, m)

pub loop-i-init : goal.loop-i-init
loop-i-init c =
    let a = c.args in
    let p = c.requires in
    let k = c.copy in
    let q = c.copy-2 in
    (refl, refl, started a.sides a.tiles.now a.steps _ a.start.now a.tuning.now a.players q.new.numbers p.0 refl p.2 (q.ensures ∙ ap (λ (x : List ℤ). put x 0 a.tuning.now) k.ensures))

pub slice_bounds-steer_all-end : goal.slice_bounds-steer_all-end
slice_bounds-steer_all-end c = sym c.loop-i.invariant.2.long

pub steer_all-requires : goal.steer_all-requires
steer_all-requires c = (c.loop-i.invariant.2.long, (both_sides _ _ c.requires.1).0)

pub returns-then-is_err : goal.returns-then-is_err
unfolding tried
returns-then-is_err c =
    let a = c.args in
    let l = c.loop-i in
    let v = c.steer_all in
    let t = c.step_in in
    sym (ap (tried_of a.steps) (turn_off l.invariant.2.left c.loop-i-test.true (refused a.sides a.tiles.now l.world l.players l.invariant.2.world v.new.world _ _ _ (number_of_answer t.result) v.ensures l.invariant.0 l.invariant.1 (t.ensures 0) l.i (declined t.result (sym c.is_err.ensures.value ∙ c.if-is_err.true)))))

pub note_all-next-requires : goal.note_all-next-requires
note_all-next-requires c = let s = both_sides _ _ c.requires.1 in (search rules, s.0, s.1)

pub loop-i-preserved : goal.loop-i-preserved
loop-i-preserved c =
    let a = c.args in
    let l = c.loop-i in
    let v = c.steer_all in
    let t = c.step_in in
    let z = accepted t.result (sym c.is_err.ensures.value ∙ c.if-is_err.false) in
    let w = stepped_kept a.sides a.tiles.now l.world l.players l.invariant.2.world v.new.world _ _ _ (number_of_answer t.result) v.ensures l.invariant.0 l.invariant.1 (t.ensures 0) z in (
      search rules,
      search rules,
      record {
        world = w;
        long = world_long _ w;
        left = turn_on l.invariant.2.left c.loop-i-test.true (turned a.sides a.tiles.now l.world l.players l.invariant.2.world v.new.world _ _ _ (number_of_answer t.result) v.ensures l.invariant.0 l.invariant.1 (t.ensures 0) z l.i c.note_all-next.result c.note_all-next.ensures);
      },
    )

pub returns : goal.returns
unfolding tried
returns c = sym (ap (tried_of c.args.steps) (turn_end c.loop-i.invariant.2.left c.loop-i-test.false))
