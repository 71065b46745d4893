use Prim.Native.Nat.{ℕ, ◌+◌, ◌<◌}
use mathlib.Core.Bool.{Bool, false}
use mathlib.Core.List.{List}
use mathlib.Core.Path.{◌≡◌, ◌∙◌}
use native.Mathlib.Decide.{ℕ_discrete}
use native.Mathlib.Omega.{arith}
use lib.ListN.{length, get_or, set, length-set}
use lib.Seq.{get_or-set_same, get_or-set_other}
use Rattle.character.specs.Tick.{slot_at}
use Rattle.character.specs.declared.Slot.{Slot}
use borrow.Author.Rules.{rules}
use Rattle.world_buffers.proofs.telling.marks_of.Goals as goal

-- one mark more
more : (ss : List Slot) (marks : List Bool) (j : ℕ) → j < length marks → ((i : ℕ) → i < j → get_or marks i false ≡ (slot_at ss i).grounded) → (i : ℕ) → i < j + 1 → get_or (set marks j (slot_at ss j).grounded) i false ≡ (slot_at ss i).grounded
more ss marks j l h i q = go (ℕ_discrete i j)
  where
    go : Dec (i ≡ j) → get_or (set marks j (slot_at ss j).grounded) i false ≡ (slot_at ss i).grounded
    go (yes e) = rw e (get_or-set_same marks j _ false l)
    go (no d) = get_or-set_other marks j i _ false d ∙ h i (omega arith)

pub loop-j-init : goal.loop-j-init
loop-j-init c = (search rules, search rules, λ i l. absurd (omega arith))

pub loop-j-preserved : goal.loop-j-preserved
loop-j-preserved c =
    let l = c.loop-j in
    let a = c.args in
    let h = c.loop-j-test.true in
    (omega arith, length-set l.marks l.j _ ∙ l.invariant.1, more a.slots l.marks l.j (omega (arith, l.invariant.1)) l.invariant.2)

pub returns : goal.returns
returns c = λ i h. c.loop-j.invariant.2 i (omega arith)
