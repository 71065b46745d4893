use Rattle.std.proofs.Common.{ℕ, set, sym, refl, ap, ◌∙◌, length-set, rules, le-ltb, lt-ltb}
use Rattle.test_common.specs.Words.{hex_of, tile_turn, tiles_of}
use Rattle.base_turns.specs.Turns.{more}
use Rattle.base_turns.proofs.Loop.{fold_first, turn_on}
use Rattle.test_common.proofs.Ends.{fold_over, among, same_at, behind_end}
use Rattle.test_common.proofs.map.tiles_from.Goals as goal

pub loop-i-init : goal.loop-i-init
loop-i-init c = record { run = fold_first; long = search rules }

pub loop-i-preserved : goal.loop-i-preserved
loop-i-preserved c =
    let l = c.loop-i in
    let f = c.first-digit-items in
    let i = among 64 c.args.digits.now f.result.now f.ensures l.i c.loop-i-test.true in
    let e = c.hex.ensures.0 ∙ ap hex_of (same_at 64 c.args.digits.now f.result.now f.ensures l.i 0 c.loop-i-test.true) in
    record {
      run = turn_on l.invariant.run i.0 (rw (lt-ltb l.i _ i.1) (ap (λ (d : ℕ). more (set l.tiles l.i d)) (sym e)));
      long = length-set l.tiles l.i c.hex.result ∙ l.invariant.long;
    }

pub returns : goal.returns
unfolding tiles_of
returns c =
    let l = c.loop-i in
    let f = c.first-digit-items in
    sym (fold_over (tile_turn c.args.digits.now) 64 l.i l.tiles _ l.invariant.run (λ k a b. rw (le-ltb k _ (behind_end 64 c.args.digits.now f.result.now f.ensures l.i k c.loop-i-test.false a b)) refl))

pub bounds-tiles-i : goal.bounds-tiles-i
bounds-tiles-i c = let f = c.first-digit-items in (among 64 c.args.digits.now f.result.now f.ensures c.loop-i.i c.loop-i-test.true).0
