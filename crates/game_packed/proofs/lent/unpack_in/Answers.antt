use mathlib.Core.List.{List}
use mathlib.Core.Path.{sym, ap, ◌∙◌}
use lib.IntN.{ℤ}
use borrow.Author.Tests.{eq-eqb}
use Rattle.std.specs.Prelude.{ℕ, Result, Err}
use Rattle.std.specs.Result.{result_unwrap_or}
use Rattle.std.proofs.lemmas.Result.{err_from_is_err_and}
use Rattle.game_refusals.specs.Refusals.{number_of_answer}
use Rattle.game_refusals.specs.declared.Refusal.{Refusal}
use Rattle.game_packed.specs.Lent.{unpack_in}
use Rattle.game_packed.proofs.Writing.{lent_lengths_lem}
use Rattle.game_packed.proofs.lent.unpack_in.Goals as goal

pub returns-then-record-ne-CORE : goal.returns-then-record-ne-CORE
returns-then-record-ne-CORE c = λ k. lent_lengths_lem.unpacking c.args.bytes.now c.args.record.now k c.if-record-ne-CORE.true

pub returns-in_err-core : goal.returns-in_err-core
unfolding unpack_in
returns-in_err-core c = λ k.
    let p = err_from_is_err_and c.from_residual.result c.from_residual.ensures.1 in
    simp (eq-eqb _ _ c.if-record-ne-CORE.false, ← c.unpack.ensures, c.in_err-core.was) (ap (λ (r : Result ℕ Refusal). record { number = number_of_answer r; numbers = c.args.record.now; used = result_unwrap_or r k }) (sym (p.1 ∙ ap Err p.2)))

pub returns : goal.returns
unfolding unpack_in
returns c = λ k.
    let whole = c.copy_from_slice.ensures.after ∙ c.core_numbers.ensures in
    simp (eq-eqb _ _ c.if-record-ne-CORE.false, ← c.unpack.ensures, c.in_ok-core.was) (ap (λ (l : List ℤ). record { number = 0; numbers = l; used = c.in_ok-core.used }) (sym whole))
