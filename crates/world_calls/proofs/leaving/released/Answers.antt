use mathlib.Core.Bool.{false}
use mathlib.Core.Path.{◌≡◌}
use Prim.Native.Nat.{ℕ}
use lib.Dec.{eqb}
use borrow.Author.Rules.{rules}
use borrow.Author.Tests.{eq-eqb, ne_eqb}
use Rattle.character_hook.proofs.Variants.{not_grabbed}
use Rattle.character_hook.specs.Hook.{on_grabbed, holds}
use Rattle.character_hook.specs.declared.hook.CharacterId.{CharacterId}
use Rattle.character_hook.specs.declared.hook.Hook.TheVariants.{Retracted, Grabbed}
use Rattle.character.specs.Character.{with_hook}
use Rattle.character.specs.Slot.{with_character}
use Rattle.character.specs.declared.Slot.{Slot}
use Rattle.world.specs.Calls.{released, released_slot}
use borrow.Enum.Refused.{opened}
use Rattle.world_calls.proofs.leaving.released.Goals as goal

-- on plain values: nobody is held; another is; k is
module _ (x : Slot) (k : ℕ) where
  nobody : on_grabbed (λ c t. eqb c.0 k) false x.character.hook ≡ false → x ≡ released_slot x k
  unfolding released holds
  nobody e = rw e

  another : (c : CharacterId) (t : ℕ) → x.character.hook ≡ Grabbed c t → (c.0 ≡ k → ⊥) → x ≡ released_slot x k
  unfolding released holds
  another c t e d = rw (e, ne_eqb c.0 k d)

  held : (c : CharacterId) (t : ℕ) → x.character.hook ≡ Grabbed c t → c.0 ≡ k → with_character x (with_hook x.character Retracted) ≡ released_slot x k
  unfolding released holds
  held c t e d = rw (e, eq-eqb c.0 k d)

pub returns-in_default : goal.returns-in_default
returns-in_default c =
    let a = c.args in
    nobody a.slot a.at (not_grabbed (λ d t. eqb d.0 a.at) false a.slot.character.hook (opened c.in_default.in_default-own.keys2))

pub returns-then-cid-at : goal.returns-then-cid-at
returns-then-cid-at c = another _ _ _ _ c.in-Grabbed.is c.if-cid-at.true

pub returns : goal.returns
returns c = simp (c.with_character.ensures, c.with_hook.ensures) (held _ _ _ _ c.in-Grabbed.is c.if-cid-at.false)
