use mathlib.Core.Bool.{true, false}
use mathlib.Core.Path.{sym, ap, ◌∙◌, subst}
use Prim.Native.Nat.{ℕ, ◌+◌}
use lib.ListN.{drop}
use Rattle.num_convert.specs.Convert.{i32_to_f32, from256ths}
use Rattle.num_vec2.specs.Vec2.{vnew}
use Rattle.game_records.specs.Numbers.{number_at}
use Rattle.game_records.proofs.Bits.{again}
use Rattle.world_numbers.specs.Decoding.{is_set, seat_of}
use Rattle.world_inplace.specs.Bodies.{Embodied}
use Rattle.world_inplace.proofs.Read.{somebody, nobody}
use borrow.Author.Rules.{rules}
use Rattle.world_inplace.proofs.reading.body_at.Goals as goal

pub returns-then-is_set : goal.returns-then-is_set
returns-then-is_set c =
    let a = c.args in
    let at = c.seat_place-at in
    let e = ap is_set (sym (again c.is_set-arg-1.given)) ∙ sym c.is_set.ensures ∙ c.if-is_set.true in
    rw (c.place_at.ensures, c.speed_at.ensures) (subst (λ (i : ℕ). Embodied (seat_of (drop i a.numbers.now)) true (vnew (i32_to_f32 (number_at a.numbers.now (at.result + 2))) (i32_to_f32 (number_at a.numbers.now (at.result + 2 + 1)))) (vnew (from256ths (number_at a.numbers.now (at.result + 4))) (from256ths (number_at a.numbers.now (at.result + 4 + 1))))) at.ensures (somebody a.numbers.now at.result e))

pub returns : goal.returns
returns c =
    let a = c.args in
    let at = c.seat_place-at in
    let e = ap is_set (sym (again c.is_set-arg-1.given)) ∙ sym c.is_set.ensures ∙ c.if-is_set.false in
    subst (λ (i : ℕ). Embodied (seat_of (drop i a.numbers.now)) false c.new.result c.new-2.result) at.ensures (nobody a.numbers.now at.result e c.new.result c.new-2.result)
