use mathlib.Core.List.{List}
use mathlib.Core.Logic.{inl, inr, ⊎_elim}
use mathlib.Core.Path.{sym, ap, ◌∙◌}
use Prim.Native.Nat.{ℕ}
use borrow.Author.Tests.{eq-eqb}
use Rattle.game_packed.specs.Packed.{packed}
use Rattle.game_packed.specs.Lent.{left_packed, pack_in}
use Rattle.game_packed.proofs.Writing.{lent_lengths_lem}
use Rattle.game_packed.proofs.lent.pack_in.Goals as goal

pub returns-then-record-ne-CORE : goal.returns-then-record-ne-CORE
returns-then-record-ne-CORE c = λ k. lent_lengths_lem.packing c.args.record.now c.args.bytes.now k (⊎_elim (λ n. inl n) (λ p. inr p.1) c.then-record-ne-CORE.either)

pub returns : goal.returns
unfolding pack_in
returns c = λ k.
    let p = c.pack-packed in
    let is = p.ensures ∙ ap packed c.core_of.ensures in
    let whole = c.copy_from_slice.ensures.after in
    simp (eq-eqb _ _ c.if-record-ne-CORE.false, eq-eqb _ _ c.if-bytes-ne-MOST_PACKED.false) (ap left_packed (sym is) ∙ ap (λ (b : List ℕ). record { number = 0; bytes = b; count = p.result.count }) (sym whole))
