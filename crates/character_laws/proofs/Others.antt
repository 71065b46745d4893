-- A tick that is not refused leaves its character where it is, and pulls only somebody who is there; a pull changes a velocity and nothing else. Assumes nothing.
use mathlib.Core.Path.{◌≡◌, refl, sym, ◌∙◌}
use mathlib.Core.Bool.{Bool, true, false, cond, true≢false}
use mathlib.Core.List.{List}
use Prim.Native.Nat.{ℕ}
use lib.Dec.{eqb, ltb}
use lib.ListN.{length, length-set}
use Rattle.num_vec2.specs.Vec2.{vdistance}
use Rattle.num_vec2.specs.declared.vec2.{vec2}
use Rattle.character_hook.specs.declared.hook.CharacterId.{CharacterId}
use Rattle.character_hook.specs.declared.hook.Hook.{Hook}
use Rattle.game_records.specs.declared.PlayerInput.{PlayerInput}
use Rattle.map_tiles.specs.declared.tiles.Sides.{Sides}
use Rattle.game_tuning.specs.declared.Tuning.{Tuning}
use Rattle.character_motion.specs.Controls.{grounded}
use Rattle.character_hook.specs.Hooking.{hold}
use Rattle.character_meeting.specs.Meeting.{drags, pull_on}
use Rattle.character_meeting.specs.declared.meeting.HookPull.{HookPull}
use Rattle.character.specs.Slot.{with_character}
use Rattle.character.specs.declared.Character.{Character}
use Rattle.character.specs.declared.Slot.{Slot}
use Rattle.character.specs.declared.tick.AfterTick.{AfterTick}
use Rattle.character.specs.Character.{with_vel}
use Rattle.character.specs.Tick.{slot_at, nowhere, steer, flight, pull_from, pull_of, after_pull, hooked, ticked, tick_at}
use Rattle.character_laws.proofs.Choices.{either, on_grabbed_lem}
use Rattle.character_laws.proofs.Slots.{set_every}
use Rattle.std.specs.Prelude.{Option, None, Result, Ok, Err}
use Rattle.game_refusals.specs.declared.Refusal.{Refusal}
use Rattle.std.specs.Prelude.{Some}

-- a fact of what a tick leaves that is not refused
abbrev pub Then : (AfterTick → Type 0) → Result AfterTick Refusal → Type 0
Then P (Err e) = Unit {0}
Then P (Ok a) = P a

-- ---- the ticking character stays where it is
pub tick_pos : (n : ℕ) (c : Character) (id : ℕ) (ss : List Slot) (s : Sides) (ts : List ℕ) (i : PlayerInput) (t : Tuning) → Then (λ a. a.me.pos ≡ c.pos) (tick_at n c id ss s ts i t)
unfolding tick_at steer hooked
tick_pos n c id ss s ts i t = let d = steer c (grounded s ts c.pos) i t in go (flight n d.hook c.pos id ss s ts t)
  where
    go : (f : Result Hook Refusal) → Then (λ a. a.me.pos ≡ c.pos) (ticked n (steer c (grounded s ts c.pos) i t) (grounded s ts c.pos) id ss t f)
    go (Err e) = tt
    go (Ok h) = refl

-- ---- its floor mark is of where it stands
pub tick-grounded : (n : ℕ) (c : Character) (id : ℕ) (ss : List Slot) (s : Sides) (ts : List ℕ) (i : PlayerInput) (t : Tuning) → Then (λ a. a.grounded ≡ grounded s ts c.pos) (tick_at n c id ss s ts i t)
unfolding tick_at hooked
tick-grounded n c id ss s ts i t = let d = steer c (grounded s ts c.pos) i t in go d (flight n d.hook c.pos id ss s ts t)
  where
    go : (d : Character) (f : Result Hook Refusal) → Then (λ a. a.grounded ≡ grounded s ts c.pos) (ticked n d (grounded s ts c.pos) id ss t f)
    go d (Err e) = tt
    go d (Ok h) = refl

-- ---- whoever is pulled is there
abbrev pub There : List Slot → Option HookPull → Type 0
There ss None = Unit {0}
There ss (Some p) = (slot_at ss p.cid.0).present ≡ true

pull_there : (n : ℕ) (ss : List Slot) (id : ℕ) (p : vec2) (h : Hook) (t : Tuning) → There ss (pull_of n ss id p h t)
unfolding pull_of pull_on
pull_there n ss id p h t = on_grabbed_lem (There ss) None tt (pull_from n ss id p t) h (λ k ticks. go k (ltb k.0 n) (eqb k.0 id) (slot_at ss k.0).present refl)
  where
    go : (k : CharacterId) (a b d : Bool) → (slot_at ss k.0).present ≡ d → There ss (cond a (cond b None (cond d (pull_on p k (slot_at ss k.0).character.pos (slot_at ss k.0).character.vel t) None)) None)
    go k false b d e = tt
    go k true true d e = tt
    go k true false false e = tt
    go k true false true e = either (There ss) (drags (vdistance p (slot_at ss k.0).character.pos) t) e tt

pub tick_there : (n : ℕ) (c : Character) (id : ℕ) (ss : List Slot) (s : Sides) (ts : List ℕ) (i : PlayerInput) (t : Tuning) → Then (λ a. There ss a.pull) (tick_at n c id ss s ts i t)
unfolding tick_at hooked
tick_there n c id ss s ts i t = let d = steer c (grounded s ts c.pos) i t in go d (flight n d.hook c.pos id ss s ts t)
  where
    go : (d : Character) (f : Result Hook Refusal) → Then (λ a. There ss a.pull) (ticked n d (grounded s ts c.pos) id ss t f)
    go d (Err e) = tt
    go d (Ok h) = pull_there n ss id d.pos (hold h t.hook_hold) t

-- ---- the slots after a pull

-- s and u differ in the character's velocity at most
abbrev pub SameButVel : Slot → Slot → Type 0
SameButVel s u = u ≡ with_character s (with_vel s.character u.character.vel)

module _ (ss : List Slot) where
  -- who is present, where everybody is and what everybody's hook and input are: as before
  pub pulled_others : (k : Option HookPull) (j : ℕ) → SameButVel (slot_at ss j) (slot_at (after_pull ss k) j)
  unfolding after_pull
  pulled_others None = λ j. refl
  pulled_others (Some p) = set_every (λ i x. SameButVel (slot_at ss i) x) ss p.cid.0 (with_character (slot_at ss p.cid.0) (with_vel (slot_at ss p.cid.0).character p.vel)) nowhere (λ i. refl) refl

  -- where nobody is: the whole slot as before
  pub pulled_absent : (k : Option HookPull) → There ss k → (j : ℕ) → (slot_at ss j).present ≡ false → slot_at (after_pull ss k) j ≡ slot_at ss j
  unfolding after_pull
  pulled_absent None h = λ j q. refl
  pulled_absent (Some p) h = set_every (λ i x. (slot_at ss i).present ≡ false → x ≡ slot_at ss i) ss p.cid.0 (with_character (slot_at ss p.cid.0) (with_vel (slot_at ss p.cid.0).character p.vel)) nowhere (λ i q. refl) (λ q. absurd (true≢false (sym h ∙ q)))

  -- as many slots as before
  pub pulled-length : (k : Option HookPull) → length (after_pull ss k) ≡ length ss
  unfolding after_pull
  pulled-length None = refl
  pulled-length (Some p) = length-set ss p.cid.0 (with_character (slot_at ss p.cid.0) (with_vel (slot_at ss p.cid.0).character p.vel))
