use borrow.Author.Rules.{rules}
use Rattle.text_reading.proofs.Codes.{has_join, has_leave, has_input, has_step, has_tune}
use Rattle.text_reading.proofs.code.decode.Goals as goal

pub returns-in-1 : goal.returns-in-1
returns-in-1 c = has_join c.args.values (search rules) (search rules) (search rules) (search rules) (search rules) (search rules) (search rules) (search rules) (search rules) (search rules) (search rules) (search rules)

pub returns-in-2 : goal.returns-in-2
returns-in-2 c = has_leave c.args.values (search rules) (search rules) (search rules) (search rules) (search rules) (search rules) (search rules) (search rules) (search rules) (search rules) (search rules) (search rules) (search rules) (search rules)

pub returns-in-3 : goal.returns-in-3
returns-in-3 c = has_input c.args.values (search rules) (search rules) (search rules) (search rules) (search rules) (search rules) (search rules) (search rules) (search rules)

pub returns-in-4 : goal.returns-in-4
returns-in-4 c = has_step c.args.values (search rules) (search rules) (search rules) (search rules) (search rules) (search rules) (search rules) (search rules) (search rules) (search rules) (search rules) (search rules) (search rules) (search rules) (search rules)

pub returns-in-5 : goal.returns-in-5
returns-in-5 c = has_tune c.args.values (search rules) (search rules) (search rules) (search rules) (search rules) (search rules) (search rules) (search rules) (search rules) (search rules) (search rules) (search rules) (search rules)
