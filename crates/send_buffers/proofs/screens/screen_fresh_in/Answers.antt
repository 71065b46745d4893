use mathlib.Core.Path.{ap, ◌∙◌}
use Rattle.send_numbers.specs.Copies.{screen_encoding}
use Rattle.send_buffers.proofs.Kept.{fresh_wrong, fresh_right}
use Rattle.send_buffers.proofs.screens.screen_fresh_in.Goals as goal

pub returns-then-screen-ne-SCREEN : goal.returns-then-screen-ne-SCREEN
returns-then-screen-ne-SCREEN c = fresh_wrong _ _ c.args.screen.now c.if-screen-ne-SCREEN.true

pub returns : goal.returns
returns c = let k = c.encode_screen in fresh_right _ _ c.args.screen.now k.new.numbers c.if-screen-ne-SCREEN.false (k.ensures ∙ ap screen_encoding c.fresh_screen.ensures)
