use mathlib.Core.Path.{ap, ◌∙◌}
use Rattle.send_numbers.specs.Copies.{copies_encoding}
use Rattle.send_buffers.proofs.Kept.{fresh_wrong, fresh_right}
use Rattle.send_buffers.proofs.sending.sender_fresh_in.Goals as goal

pub returns-then-sender-ne-SENDER : goal.returns-then-sender-ne-SENDER
returns-then-sender-ne-SENDER c = fresh_wrong _ _ c.args.sender.now c.if-sender-ne-SENDER.true

pub returns : goal.returns
returns c = let k = c.encode_copies in fresh_right _ _ c.args.sender.now k.new.numbers c.if-sender-ne-SENDER.false (k.ensures ∙ ap copies_encoding c.no_copies.ensures)
