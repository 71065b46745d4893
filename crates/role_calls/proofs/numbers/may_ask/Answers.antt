use mathlib.Core.Path.{◌≡◌, sym, ap, ◌∙◌}
use lib.IntN.{ℤ, negsuc, nat_abs}
use mir.Facts.{to_z-of_z}
use mir.Syntax.{w32}
use mir.Val.{to_z, of_z}
use Rattle.role_rule.specs.Roles.{allowed, may_ask}
use Rattle.role_rule.specs.declared.Role.TheVariants.{Seat}
use Rattle.role_calls.proofs.Ids.{whole, seat_asks, nobody_asks}
use Rattle.role_calls.proofs.numbers.may_ask.Goals as goal

pub overflow_cast-role : goal.overflow_cast-role
overflow_cast-role c =
    let e = to_z-of_z c.ranges.role in
    rw e (whole c.args.role (rw e at c.if-role-ge0.true) c.ranges.role.sfits)

pub returns-then-role-ge0 : goal.returns-then-role-ge0
returns-then-role-ge0 c =
    let e = to_z-of_z c.ranges.role in
    c.allowed.ensures ∙ ap (λ (z : ℤ). allowed (Seat (nat_abs z)) c.args.ask) e ∙ seat_asks c.args.role c.args.ask (rw e at c.if-role-ge0.true)

pub returns-then-role-eq-REFEREE : goal.returns-then-role-eq-REFEREE
unfolding may_ask
returns-then-role-eq-REFEREE c =
    let e : c.args.role ≡ negsuc 0 = sym (to_z-of_z c.ranges.role) ∙ ap (to_z w32) c.if-role-eq-REFEREE.true in
    simp (e, ← c.allowed-then-role-eq-REFEREE.ensures)

pub returns-then-role-eq-BOARD : goal.returns-then-role-eq-BOARD
unfolding may_ask
returns-then-role-eq-BOARD c =
    let e : c.args.role ≡ negsuc 1 = sym (to_z-of_z c.ranges.role) ∙ ap (to_z w32) c.if-role-eq-BOARD.true in
    simp (e, ← c.allowed-then-role-eq-BOARD.ensures)

pub returns : goal.returns
returns c =
    let e = to_z-of_z c.ranges.role in
    nobody_asks c.args.role c.args.ask (rw e at c.if-role-ge0.false) (λ q. c.if-role-eq-REFEREE.false (ap (of_z w32) q)) (λ q. c.if-role-eq-BOARD.false (ap (of_z w32) q))
