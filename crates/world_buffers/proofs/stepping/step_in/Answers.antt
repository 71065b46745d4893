use mathlib.Core.Path.{sym, ◌∙◌, subst}
use native.Mathlib.Omega.{arith}
use lib.Dec.{T}
use Rattle.character.specs.Tick.{seats}
use Rattle.game_refusals.specs.Refusals.{bad_map}
use Rattle.world.specs.Step.{step_refused}
use Rattle.world_numbers.specs.Decoding.{decoding}
use Rattle.world_buffers.proofs.StepAnswers.{wrong_world, wrong_records, wrong_removed, right_lengths, on_map_lem, off_map, step-refused}
use Rattle.world_buffers.proofs.stepping.step_in.Goals.{then-world-ne-WORLD-via-then-world-ne-WORLD, then-world-ne-WORLD-via-else-world-ne-WORLD+then-records-ne-RECORDS, then-world-ne-WORLD-via-else-world-ne-WORLD+else-records-ne-RECORDS+then-removed-ne-SEATS}
use Rattle.world_buffers.proofs.stepping.step_in.Goals as goal

pub returns-then-world-ne-WORLD : goal.returns-then-world-ne-WORLD
returns-then-world-ne-WORLD c n =
    let a = c.args in
    elim c.then-world-ne-WORLD.branch [
      | then-world-ne-WORLD-via-then-world-ne-WORLD w ↦ wrong_world a.sides a.tiles.now a.world.now (record { records = a.records.now; removed = a.removed.now; count = n }) w.if-world-ne-WORLD.true
      | then-world-ne-WORLD-via-else-world-ne-WORLD+then-records-ne-RECORDS w ↦ wrong_records a.sides a.tiles.now a.world.now (record { records = a.records.now; removed = a.removed.now; count = n }) w.if-world-ne-WORLD.false w.if-records-ne-RECORDS.true
      | then-world-ne-WORLD-via-else-world-ne-WORLD+else-records-ne-RECORDS+then-removed-ne-SEATS w ↦ wrong_removed a.sides a.tiles.now a.world.now (record { records = a.records.now; removed = a.removed.now; count = n }) w.if-world-ne-WORLD.false w.if-records-ne-RECORDS.false w.if-removed-ne-SEATS.true
    ]

pub step_on_in-requires : goal.step_on_in-requires
step_on_in-requires c = (subst T (sym (sym c.is_map.ensures ∙ c.if-not-is_map.false)) tt, c.if-world-ne-WORLD.false, c.if-records-ne-RECORDS.false, c.if-removed-ne-SEATS.false)

pub returns-then-not-is_map : goal.returns-then-not-is_map
returns-then-not-is_map c n =
    let a = c.args in
    let w = decoding seats a.world.now in
    right_lengths a.sides a.tiles.now a.world.now (record { records = a.records.now; removed = a.removed.now; count = n }) _ _ c.if-world-ne-WORLD.false c.if-records-ne-RECORDS.false c.if-removed-ne-SEATS.false (off_map w a.sides a.tiles.now (sym c.is_map.ensures ∙ c.if-not-is_map.true)) (step-refused a.world.now (record { records = a.records.now; removed = a.removed.now; count = n }) (step_refused seats w bad_map) (λ z. omega arith))

pub returns : goal.returns
returns c n =
    let a = c.args in
    right_lengths a.sides a.tiles.now a.world.now (record { records = a.records.now; removed = a.removed.now; count = n }) _ _ c.if-world-ne-WORLD.false c.if-records-ne-RECORDS.false c.if-removed-ne-SEATS.false (on_map_lem (decoding seats a.world.now) a.sides a.tiles.now (sym c.is_map.ensures ∙ c.if-not-is_map.false)) (c.step_on_in.ensures n)
