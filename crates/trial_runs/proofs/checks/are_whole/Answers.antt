use Prim.Native.Nat.{ℕ, ◌*◌, ◌/◌, ◌%◌}
use mathlib.Core.Bool.{Bool, true, false, true≢false, ◌&&◌}
use mathlib.Core.Path.{◌≡◌, refl, sym, ap, ◌∙◌}
use native.Mathlib.Nat.{div-add-mod'}
use native.Mathlib.Omega.{arith}
use lib.Dec.{eqb}
use borrow.Author.Tests.{eq-eqb, ne_eqb, eqb-true, eqb-false}
use Rattle.game_tuning.specs.Tuning.{tuning_count}
use Rattle.character.specs.Tick.{seats}
use Rattle.trial_rule.specs.Calls.{join_count, target_count, row_count, are_whole}
use Rattle.trial_runs.proofs.checks.are_whole.Goals.{then-joins-eq0, else-joins-eq0, then-targets-joins, else-targets-joins, then-tunings-eq0, else-tunings-eq0}
use Rattle.trial_runs.proofs.checks.are_whole.Goals as goal

-- so many whole rows, by the quotient
rows_by_quotient : (r t : ℕ) → r % row_count seats ≡ 0 → eqb (r / row_count seats) t ≡ eqb r (row_count seats * t)
rows_by_quotient r t h = go (eqb (r / row_count seats) t) refl
  where
    go : (b : Bool) → eqb (r / row_count seats) t ≡ b → b ≡ eqb r (row_count seats * t)
    go true e = let q = eqb-true (r / row_count seats) t e in sym (eq-eqb r (row_count seats * t) (omega (arith, div-add-mod' r (row_count seats))))
    go false e = sym (ne_eqb r (row_count seats * t) (λ z. eqb-false (r / row_count seats) t e (omega (arith, div-add-mod' r (row_count seats)))))

no_rows : (r t : ℕ) → (r % row_count seats ≡ 0 → ⊥) → eqb r (row_count seats * t) ≡ false
no_rows r t h = ne_eqb r (row_count seats * t) (λ z. h (omega (arith, div-add-mod' r (row_count seats))))

pub returns-then-res-eq0 : goal.returns-then-res-eq0
unfolding are_whole
returns-then-res-eq0 c =
    let a = c.args in
    let joins : c.if-joins-eq0.value ≡ eqb (a.joins % join_count) 0 && eqb a.targets (target_count * (a.joins / join_count)) =
    elim c.if-joins-eq0.branch [
      | then-joins-eq0 w ↦ w.value-is ∙ sym (rw (eq-eqb _ _ w.if-joins-eq0.true) refl)
      | else-joins-eq0 w ↦ let e : eqb (a.joins % join_count) 0 ≡ false = ne_eqb _ _ w.if-joins-eq0.false in w.value-is ∙ e ∙ sym (rw e refl)
    ] in
    let tunings : c.if-targets-joins.value ≡ c.if-joins-eq0.value && eqb (a.tunings % tuning_count) 0 =
    elim c.if-targets-joins.branch [
      | then-targets-joins w ↦ w.value-is ∙ sym (rw w.if-targets-joins.true refl)
      | else-targets-joins w ↦ w.value-is ∙ w.if-targets-joins.false ∙ sym (rw w.if-targets-joins.false refl)
    ] in
    elim c.if-tunings-eq0.branch [
      | then-tunings-eq0 w ↦ let whole : eqb (a.joins % join_count) 0 && eqb a.targets (target_count * (a.joins / join_count)) && eqb (a.tunings % tuning_count) 0 ≡ true = sym (tunings ∙ ap (λ (b : Bool). b && eqb (a.tunings % tuning_count) 0) joins) ∙ w.if-tunings-eq0.true in rows_by_quotient a.res (a.tunings / tuning_count) (eqb-true _ _ (sym w.value-is ∙ c.if-res-eq0.true)) ∙ rw whole refl
      | else-tunings-eq0 w ↦ absurd (true≢false (sym c.if-res-eq0.true ∙ w.value-is ∙ w.if-tunings-eq0.false))
    ]

pub returns-else-res-eq0 : goal.returns-else-res-eq0
unfolding are_whole
returns-else-res-eq0 c =
    let a = c.args in
    let joins : c.if-joins-eq0.value ≡ eqb (a.joins % join_count) 0 && eqb a.targets (target_count * (a.joins / join_count)) =
    elim c.if-joins-eq0.branch [
      | then-joins-eq0 w ↦ w.value-is ∙ sym (rw (eq-eqb _ _ w.if-joins-eq0.true) refl)
      | else-joins-eq0 w ↦ let e : eqb (a.joins % join_count) 0 ≡ false = ne_eqb _ _ w.if-joins-eq0.false in w.value-is ∙ e ∙ sym (rw e refl)
    ] in
    let tunings : c.if-targets-joins.value ≡ c.if-joins-eq0.value && eqb (a.tunings % tuning_count) 0 =
    elim c.if-targets-joins.branch [
      | then-targets-joins w ↦ w.value-is ∙ sym (rw w.if-targets-joins.true refl)
      | else-targets-joins w ↦ w.value-is ∙ w.if-targets-joins.false ∙ sym (rw w.if-targets-joins.false refl)
    ] in
    elim c.if-tunings-eq0.branch [
      | then-tunings-eq0 w ↦ let whole : eqb (a.joins % join_count) 0 && eqb a.targets (target_count * (a.joins / join_count)) && eqb (a.tunings % tuning_count) 0 ≡ true = sym (tunings ∙ ap (λ (b : Bool). b && eqb (a.tunings % tuning_count) 0) joins) ∙ w.if-tunings-eq0.true in c.if-res-eq0.false ∙ rw (whole, no_rows a.res (a.tunings / tuning_count) (eqb-false _ _ (sym w.value-is ∙ c.if-res-eq0.false))) refl
      | else-tunings-eq0 w ↦ let whole : eqb (a.joins % join_count) 0 && eqb a.targets (target_count * (a.joins / join_count)) && eqb (a.tunings % tuning_count) 0 ≡ false = sym (tunings ∙ ap (λ (b : Bool). b && eqb (a.tunings % tuning_count) 0) joins) ∙ w.if-tunings-eq0.false in c.if-res-eq0.false ∙ rw whole refl
    ]
