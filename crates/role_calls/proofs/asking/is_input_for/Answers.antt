use mathlib.Core.Path.{◌∙◌}
use Rattle.num_convert.proofs.Signed.{read}
use Rattle.role_calls.proofs.Ids.{whole, id_is, no_id}
use Rattle.role_calls.proofs.asking.is_input_for.Goals as goal

pub overflow_cast-result : goal.overflow_cast-result
overflow_cast-result c =
    rw (read c.in-Input.id c.in-Input.known_told-1-own.given.0.1) (whole c.in-Input.id (rw (read c.in-Input.id c.in-Input.known_told-1-own.given.0.1) at c.if-id-ge0.true) c.in-Input.known_told-1-own.given.0.1)

pub returns-then-id-ge0 : goal.returns-then-id-ge0
returns-then-id-ge0 c =
    rw (c.in-Input.is, read c.in-Input.id c.in-Input.known_told-1-own.given.0.1) (id_is _ c.in-Input.id (rw (read c.in-Input.id c.in-Input.known_told-1-own.given.0.1) at c.if-id-ge0.true))

pub returns-else-id-ge0 : goal.returns-else-id-ge0
returns-else-id-ge0 c =
    rw (c.in-Input.is, read c.in-Input.id c.in-Input.known_told-1-own.given.0.1) (rw (read c.in-Input.id c.in-Input.known_told-1-own.given.0.1) at c.if-id-ge0.false ∙ no_id _ c.in-Input.id (rw (read c.in-Input.id c.in-Input.known_told-1-own.given.0.1) at c.if-id-ge0.false))
