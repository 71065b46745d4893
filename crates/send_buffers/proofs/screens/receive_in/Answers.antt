use mathlib.Core.Path.{ap, ◌∙◌}
use Rattle.std.proofs.lemmas.Result.{err_from_is_err_and}
use Rattle.character.specs.Tick.{seats}
use Rattle.send_rule.specs.declared.Screen.{Screen}
use Rattle.send_rule.specs.Send.{receive}
use Rattle.send_numbers.specs.Copies.{screen_encoding}
use Rattle.send_buffers.proofs.Taken.{screen_wrong, nothing-taken, thing-taken}
use Rattle.send_buffers.proofs.screens.receive_in.Goals as goal

pub returns-then-screen-ne-SCREEN : goal.returns-then-screen-ne-SCREEN
returns-then-screen-ne-SCREEN c n = let a = c.args in screen_wrong a.sides a.tiles.now a.screen.now a.passed.now n c.if-screen-ne-SCREEN.true

pub returns-in_err-thing : goal.returns-in_err-thing
returns-in_err-thing c n =
    let a = c.args in
    let p = err_from_is_err_and c.from_residual.result c.from_residual.ensures.1 in
    rw (p.1, p.2) (nothing-taken a.sides a.tiles.now a.screen.now a.passed.now n c.if-screen-ne-SCREEN.false c.read_passed.result c.read_passed.ensures c.in_err-thing.field-0.0 c.in_err-thing.was)

pub returns : goal.returns
returns c n =
    let a = c.args in
    let k = c.encode_screen in
    thing-taken a.sides a.tiles.now a.screen.now a.passed.now n c.if-screen-ne-SCREEN.false c.read_passed.result c.read_passed.ensures c.in_ok-thing.thing c.in_ok-thing.count k.new.numbers c.in_ok-thing.was (k.ensures ∙ ap screen_encoding (c.receive-next.ensures ∙ ap (λ (z : Screen). receive seats a.sides a.tiles.now z c.in_ok-thing.thing) c.decode_screen.ensures))
