-- The seat of whom a hook holds: who is far and elsewhere is not met, and nobody else is pulled. Assumes nothing.
use mathlib.Core.Bool.{Bool, true, false, cond, true≢false}
use mathlib.Core.List.{List}
use mathlib.Core.Path.{◌≡◌, refl}
use Prim.Native.Nat.{ℕ, ◌<◌}
use lib.Dec.{eqb, ltb}
use borrow.Author.Tests.{ltb-true, eq-eqb, ne_eqb, lt-ltb, eqb-false}
use Rattle.num_vec2.specs.declared.vec2.{vec2}
use Rattle.character_hook.specs.Hook.{id_of, holds}
use Rattle.character_hook.specs.declared.hook.Hook.{Hook}
use Rattle.character_hook.specs.declared.hook.Hook.TheVariants.{Retracted, Idle, Flying, Grabbed, Attached, Retracting0, Retracting1, Retracting2}
use Rattle.character_meeting.proofs.FarPush.{far_meet}
use Rattle.character_meeting.specs.Meeting.{is_beyond, meet}
use Rattle.game_tuning.specs.declared.Tuning.{Tuning}
use Rattle.character.specs.Among.{held_seat, may_meet, pull_at}
use Rattle.character.specs.Tick.{slot_at, pull_from, pull_of}
use Rattle.character.specs.declared.Slot.{Slot}

module _ (n own : ℕ) where
  -- a seat
  pub held_below : (h : Hook) → own < n → held_seat n h own < n
  unfolding held_seat
  held_below Retracted l = l
  held_below Idle l = l
  held_below (Flying p d) l = l
  held_below (Grabbed cid ticks) l = go (ltb cid.0 n) refl
    where
      go : (b : Bool) → ltb cid.0 n ≡ b → cond b cid.0 own < n
      go true e = ltb-true cid.0 n e
      go false e = l
  held_below (Attached p) l = l
  held_below (Retracting0 p) l = l
  held_below (Retracting1 p) l = l
  held_below (Retracting2 p) l = l

  -- at every other seat but the own one stands nobody whom it holds
  pub not_held : (h : Hook) (j : ℕ) → j < n → (j ≡ own → ⊥) → (j ≡ held_seat n h own → ⊥) → holds h j ≡ false
  unfolding held_seat holds
  not_held Retracted j l o k = refl
  not_held Idle j l o k = refl
  not_held (Flying p d) j l o k = refl
  not_held (Grabbed cid ticks) j l o k = ne_eqb cid.0 j (λ (e : cid.0 ≡ j). k (rw e (rw (lt-ltb j n l))))
  not_held (Attached p) j l o k = refl
  not_held (Retracting0 p) j l o k = refl
  not_held (Retracting1 p) j l o k = refl
  not_held (Retracting2 p) j l o k = refl

  -- so a meeting that is left out would change nothing
  pub left_out : (p v : vec2) (h : Hook) (q : vec2) (j : ℕ) (t : Tuning) → j < n → (j ≡ own → ⊥) → may_meet p q j (held_seat n h own) ≡ false → v ≡ meet p v h q (id_of j) t
  unfolding may_meet
  left_out p v h q j t l o e = go (is_beyond p q) refl e
    where
      go : (b : Bool) → is_beyond p q ≡ b → cond b (eqb j (held_seat n h own)) true ≡ false → v ≡ meet p v h q (id_of j) t
      go true far k = far_meet p v h q (id_of j) t far (not_held h j l o (eqb-false j (held_seat n h own) k))
      go false far k = absurd (true≢false k)

  -- and a pull is what happens at that seat
  pub pull-held : (ss : List Slot) (p : vec2) (h : Hook) (t : Tuning) → let held = held_seat n h own in let other = slot_at ss held in pull_of n ss own p h t ≡ pull_at p own held other.present other.character.pos other.character.vel t
  unfolding held_seat pull_at pull_of
  pull-held ss p Retracted t = rw (eq-eqb own own refl)
  pull-held ss p Idle t = rw (eq-eqb own own refl)
  pull-held ss p (Flying a d) t = rw (eq-eqb own own refl)
  pull-held ss p (Grabbed cid ticks) t = go (ltb cid.0 n) refl
    where
      go : (b : Bool) → ltb cid.0 n ≡ b → pull_from n ss own p t cid ticks ≡ pull_at p own (cond b cid.0 own) (slot_at ss (cond b cid.0 own)).present (slot_at ss (cond b cid.0 own)).character.pos (slot_at ss (cond b cid.0 own)).character.vel t
      go true e = rw e
      go false e = simp (e, eq-eqb own own refl)
  pull-held ss p (Attached a) t = rw (eq-eqb own own refl)
  pull-held ss p (Retracting0 a) t = rw (eq-eqb own own refl)
  pull-held ss p (Retracting1 a) t = rw (eq-eqb own own refl)
  pull-held ss p (Retracting2 a) t = rw (eq-eqb own own refl)
