use mathlib.Core.Path.{◌≡◌, refl}
use mir.Facts.{to_z-of_z}
use borrow.Author.Tests.{not-true, not-false}
use Rattle.world.specs.declared.call.Call.TheVariants as call
use Rattle.role_rule.specs.Roles.{may_ask}
use Rattle.role_rule.specs.declared.Ask.TheVariants as ask
use borrow.Author.Rules.{rules}
use Rattle.ponguriena.proofs.calls.ponguriena_step.Goals as goal

pub returns-then-not-may_ask : goal.returns-then-not-may_ask
returns-then-not-may_ask c =
    let a = c.args in
    let f = c.ranges in
    let may : c.may_ask.result ≡ may_ask a.role (ask.Call call.Step) = rw (to_z-of_z f.role) at c.may_ask.ensures in
    rw (← may, c.if-not-may_ask.true, c.into.ensures) refl

pub returns : goal.returns
returns c =
    let a = c.args in
    let f = c.ranges in
    let may : c.may_ask.result ≡ may_ask a.role (ask.Call call.Step) = rw (to_z-of_z f.role) at c.may_ask.ensures in
    rw (← may, c.if-not-may_ask.false, c.answer_with.ensures.0, c.answer_with.ensures.1) (c.step_in.ensures a.count.now)
