use mathlib.Core.Bool.{true≢false}
use mathlib.Core.Path.{sym, ap, ◌∙◌}
use lib.Ieee.{binary32, of_bits}
use borrow.Author.Tests.{eqb-true}
use Rattle.test_states.proofs.Told.{point_in, character_in_lem}
use Rattle.test_states.proofs.states.is_character.Goals as goal

pub returns-then-not-is_point : goal.returns-then-not-is_point
returns-then-not-is_point c h = absurd (true≢false (sym h))

pub returns-then-not-is_point-2 : goal.returns-then-not-is_point-2
returns-then-not-is_point-2 c h = absurd (true≢false (sym h))

pub returns-then-not-is_hook : goal.returns-then-not-is_hook
returns-then-not-is_hook c h = absurd (true≢false (sym h))

pub returns-then-jumps-nth : goal.returns-then-jumps-nth
returns-then-jumps-nth c h = absurd (true≢false (sym h))

pub returns-then-not-is_float : goal.returns-then-not-is_float
returns-then-not-is_float c h = absurd (true≢false (sym h))

pub returns : goal.returns
returns c h =
    character_in_lem c.args.character c.args.words.now
    (point_in (c.is_point.ensures c.if-not-is_point.false) c.nth.ensures c.nth-2.ensures)
    (point_in (c.is_point-2.ensures c.if-not-is_point-2.false) c.nth-3.ensures c.nth-4.ensures)
    (c.is_hook.ensures c.if-not-is_hook.false)
    (sym c.jumps.ensures ∙ c.if-jumps-nth.false ∙ c.nth-5.ensures)
    (sym c.to_radians.ensures ∙ c.is_float.ensures c.if-not-is_float.false ∙ ap (of_bits binary32) c.nth-6.ensures)
    (sym c.direction_number.ensures ∙ eqb-true _ _ h ∙ c.nth-7.ensures)
