use Prim.Native.Nat.{◌*◌}
use mathlib.Core.Bool.{true≢false}
use mathlib.Core.Path.{◌≡◌, sym, ap, ◌∙◌}
use Rattle.game_records.specs.Numbers.{number_at}
use Rattle.game_records.proofs.Bits.{again}
use Rattle.world_numbers.specs.Encoding.{record_count}
use Rattle.world_numbers.specs.Decoding.{is_set}
use Rattle.search_calls.proofs.Steps.{same_test, is_there_lem, not_x, nobody}
use Rattle.search_calls.proofs.stepping.record_is_at.Goals.{then-is_set, else-is_set}
use Rattle.search_calls.proofs.stepping.record_is_at.Goals as goal

pub returns-then-records-place : goal.returns-then-records-place
returns-then-records-place c =
    let a = c.args in
    let there : is_set (number_at a.records.now (record_count * a.at)) ≡ c.is_set.result = sym (c.is_set.ensures ∙ ap is_set (again c.is_set-arg-1.given)) in
    elim c.if-is_set.branch [
      | then-is_set w ↦ same_test _ a.goal.y c.result-1.given c.struct_told-then-records-place-1.given.1.1.0.1 ∙ is_there_lem a.records.now a.at a.goal (there ∙ w.if-is_set.true) (sym (same_test _ a.goal.x w.t13-1.given w.struct_told-1.given.1.0.1) ∙ sym w.value-is ∙ c.if-records-place.true)
      | else-is_set w ↦ absurd (true≢false (sym c.if-records-place.true ∙ w.value-is ∙ w.if-is_set.false))
    ]

pub returns-else-records-place : goal.returns-else-records-place
returns-else-records-place c =
    let a = c.args in
    let there : is_set (number_at a.records.now (record_count * a.at)) ≡ c.is_set.result = sym (c.is_set.ensures ∙ ap is_set (again c.is_set-arg-1.given)) in
    elim c.if-is_set.branch [
      | then-is_set w ↦ c.if-records-place.false ∙ not_x a.records.now a.at a.goal (there ∙ w.if-is_set.true) (sym (same_test _ a.goal.x w.t13-1.given w.struct_told-1.given.1.0.1) ∙ sym w.value-is ∙ c.if-records-place.false)
      | else-is_set w ↦ c.if-records-place.false ∙ nobody a.records.now a.at a.goal (there ∙ w.if-is_set.false)
    ]
