use Rattle.text_reading.proofs.Calls.{no_values, no_call, a_call}
use Rattle.text_reading.proofs.call_lines.next_call.Goals as goal

pub returns-in_err-values : goal.returns-in_err-values
returns-in_err-values c = rw c.from_residual.ensures (no_values _ _ c.in_err-values.ensures)

pub returns-in_err-call : goal.returns-in_err-call
returns-in_err-call c = rw c.from_residual-in_err-call.ensures (no_call _ _ _ _ c.in_ok-values.ensures c.in_err-call.ensures)

pub returns : goal.returns
returns c = a_call _ _ _ _ c.in_ok-values.ensures _ c.in_ok-call.ensures
