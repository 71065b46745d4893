use Prim.Native.Nat.{ℕ, ◌+◌, ◌≤◌, ◌<◌}
use mathlib.Core.Path.{◌≡◌, sym, ap, ◌∙◌, subst}
use lib.IntN.{ℤ}
use mir.Facts.{to_z-of_z}
use borrow.Author.Rules.{rules}
use Rattle.game_tuning.specs.Tuning.{hold_of}
use Rattle.character_hook.proofs.Hold.{held_past, held_on}
use Rattle.character_hook.proofs.Variants.{not_grabbed}
use Rattle.character_hook.specs.declared.hook.CharacterId.{CharacterId}
use Rattle.character_hook.specs.declared.hook.Hook.{Hook}
use Rattle.character_hook.specs.declared.hook.Hook.TheVariants.{Retracted, Grabbed}
use Rattle.character_hook.specs.Hooking.{hold}
use borrow.Enum.Refused.{opened}
use Rattle.character_hook.proofs.hook.Hook.hold.Goals as goal

pub returns-in_default : goal.returns-in_default
unfolding hold
returns-in_default c = rw (not_grabbed _ _ _ (opened c.in_default.in_default-own.keys2))

full : (h : Hook) (c : CharacterId) (t : ℕ) (z : ℤ) (m : ℕ) → h ≡ Grabbed c t → m ≡ hold_of z → m ≤ t → Retracted ≡ hold h z
full h c t z m e f l = rw e (sym (held_past c t z (subst (λ (k : ℕ). k ≤ t) f l)))

counted : (h : Hook) (c : CharacterId) (t : ℕ) (z : ℤ) (m : ℕ) → h ≡ Grabbed c t → m ≡ hold_of z → t < m → Grabbed c (t + 1) ≡ hold h z
counted h c t z m e f l = rw e (sym (held_on c t z (subst (λ (k : ℕ). t < k) f l)))

pub returns-then-tick-hold_of : goal.returns-then-tick-hold_of
returns-then-tick-hold_of c =
    let s = c in
    full _ _ _ s.args.steps _ c.in-Grabbed.is (c.hold_of.ensures ∙ ap hold_of (to_z-of_z s.ranges.steps)) c.if-tick-hold_of.true

pub returns : goal.returns
returns c =
    let s = c in
    counted _ _ _ s.args.steps _ c.in-Grabbed.is (c.hold_of.ensures ∙ ap hold_of (to_z-of_z s.ranges.steps)) c.if-tick-hold_of.false
