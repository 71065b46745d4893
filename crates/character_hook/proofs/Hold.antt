-- What the count of a held hook makes of it: one tick more below the hold, Retracted at it and past it. Assumes nothing.
use Prim.Native.Nat.{ℕ, ◌+◌, ◌≤◌, ◌<◌}
use native.Mathlib.Omega.{arith}
use mathlib.Core.Bool.{Bool, true, false, cond}
use mathlib.Core.Path.{◌≡◌, refl}
use lib.Dec.{ltb}
use lib.IntN.{ℤ}
use borrow.Author.Tests.{lt-ltb, le-ltb, ltb-false}
use Rattle.game_tuning.specs.Tuning.{hold_of}
use Rattle.character_hook.specs.Hook.{tick_of}
use Rattle.character_hook.specs.Hooking.{hold}
use Rattle.character_hook.specs.declared.hook.CharacterId.{CharacterId}
use Rattle.character_hook.specs.declared.hook.Hook.{Hook}
use Rattle.character_hook.specs.declared.hook.Hook.TheVariants.{Retracted, Idle, Flying, Grabbed, Attached, Retracting0, Retracting1, Retracting2}

pub held_past : (c : CharacterId) (t : ℕ) (z : ℤ) → hold_of z ≤ t → hold (Grabbed c t) z ≡ Retracted
unfolding hold
held_past c t z l = rw (lt-ltb (hold_of z) (t + 1) (omega (arith, l))) refl

pub held_on : (c : CharacterId) (t : ℕ) (z : ℤ) → t < hold_of z → hold (Grabbed c t) z ≡ Grabbed c (t + 1)
unfolding hold
held_on c t z l = rw (le-ltb (hold_of z) (t + 1) (omega (arith, l))) refl

-- so it leaves no hook that has held for longer than the hold
pub hold-short : (h : Hook) (z : ℤ) → tick_of (hold h z) ≤ hold_of z
unfolding hold tick_of
hold-short Retracted z = omega arith
hold-short Idle z = omega arith
hold-short (Flying p d) z = omega arith
hold-short (Grabbed c t) z = go (ltb (hold_of z) (t + 1)) refl
  where
    go : (b : Bool) → ltb (hold_of z) (t + 1) ≡ b → tick_of (cond b Retracted (Grabbed c (t + 1))) ≤ hold_of z
    go true e = omega arith
    go false e = ltb-false (hold_of z) (t + 1) e
hold-short (Attached p) z = omega arith
hold-short (Retracting0 p) z = omega arith
hold-short (Retracting1 p) z = omega arith
hold-short (Retracting2 p) z = omega arith
