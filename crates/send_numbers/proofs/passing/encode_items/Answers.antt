use Prim.Native.Nat.{ℕ}
use mathlib.Core.Path.{◌≡◌, ◌∙◌, subst}
use native.Mathlib.Omega.{arith}
use lib.ListN.{length}
use borrow.Author.Rules.{rules}
use Rattle.send_numbers.proofs.PassedBack.{Written, none_written, next-written}
use Rattle.character.specs.Tick.{seats}
use Rattle.send_rule.specs.Send.{most_passed}
use Rattle.send_numbers.proofs.passing.encode_items.Goals as goal

pub loop-i-init : goal.loop-i-init
loop-i-init c = (omega arith, c.requires.1, none_written _ _)

pub loop-i-preserved : goal.loop-i-preserved
loop-i-preserved c =
    let k = c.put_passed-at in
    let l = c in
    let s = c in
    let m : length s.args.items ≡ most_passed seats = search rules in
    (omega arith, k.auto.numbers ∙ l.loop-i.invariant.1, next-written s.args.numbers.now s.args.items l.loop-i.i l.loop-i.numbers _ l.loop-i.at k.result _ l.loop-i.invariant.2 (omega arith) k.ensures.0 k.ensures.1)

pub returns : goal.returns
returns c =
    let l = c in
    let e : l.loop-i.i ≡ l.args.count = omega arith in
    let w = subst (λ (k : ℕ). Written l.args.numbers.now l.args.items k l.loop-i.numbers l.loop-i.at) e l.loop-i.invariant.2 in
    (w.all, w.end)
