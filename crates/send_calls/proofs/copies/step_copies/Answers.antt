use Prim.Native.Nat.{ℕ}
use mathlib.Core.Bool.{false}
use mathlib.Core.List.{List}
use mathlib.Core.Path.{◌≡◌, sym, ap, ◌∙◌}
use native.Mathlib.Omega.{arith}
use lib.ListN.{set}
use lib.Seq.{set-get_or}
use Rattle.base_turns.specs.Turns.{fold, more}
use Rattle.base_turns.proofs.Loop.{fold_first, turn_on, fold_end}
use Rattle.game_tuning.specs.declared.Tuning.{Tuning}
use Rattle.map_tiles.specs.declared.tiles.Sides.{Sides}
use Rattle.character.specs.Tick.{seats}
use Rattle.send_rule.specs.Send.{no_copy, copy_at}
use Rattle.send_rule.specs.declared.Copy.{Copy}
use Rattle.send_alone.specs.Alone.{copy_alone, alone_turn, copies_alone}
use Rattle.send_alone.proofs.Copies.{copies_alone_lem}
use Rattle.send_calls.proofs.copies.step_copies.Goals.{then-copy, else-copy}
use Rattle.send_calls.proofs.copies.step_copies.Goals as goal

-- where there is no copy, none is set
none_stays : (s : Sides) (ts : List ℕ) (t : Tuning) (cs : List Copy) (k : ℕ) → (copy_at cs k).kept ≡ false → alone_turn s ts t k cs ≡ cs
unfolding copy_alone
none_stays s ts t cs k e = rw e (set-get_or cs k no_copy)

pub loop-k-init : goal.loop-k-init
loop-k-init c = fold_first

pub bounds-all-k : goal.bounds-all-k
bounds-all-k c = omega arith

pub bounds-all-k-then-copy : goal.bounds-all-k-then-copy
bounds-all-k-then-copy c = omega arith

pub overflow_step-k : goal.overflow_step-k
overflow_step-k c = omega arith

pub loop-k-smaller : goal.loop-k-smaller
loop-k-smaller c = omega arith

pub loop-k-preserved : goal.loop-k-preserved
loop-k-preserved c =
    let l = c.loop-k in
    let h = c.loop-k-test.true in
    elim c.if-copy.branch [
      | then-copy w ↦ turn_on l.invariant h (ap more (sym (w.all-is ∙ ap (set l.all l.k) w.step_copy.ensures)))
      | else-copy w ↦ turn_on l.invariant h (ap more (none_stays _ _ _ l.all l.k w.if-copy.false ∙ sym w.all-is))
    ]

pub returns : goal.returns
unfolding copies_alone
returns c =
    let a = c.args in
    sym (fold_end c.loop-k.invariant c.loop-k-test.false) ∙ ap (λ (t : Tuning). fold (alone_turn a.sides a.tiles.now t) seats 0 a.copies) c.tuning_of-tuning.ensures ∙ sym (copies_alone_lem seats a.sides a.tiles.now a.tunings a.copies)
