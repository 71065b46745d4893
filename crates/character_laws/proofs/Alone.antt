-- With player collision and player hooking both 0 a tick depends on no other slot and pulls nobody. Assumes nothing.
use mathlib.Core.Path.{◌≡◌, refl, ◌∙◌}
use mathlib.Core.Bool.{Bool, true, false, cond}
use mathlib.Core.List.{List}
use Prim.Native.Nat.{ℕ}
use lib.Dec.{eqb, ltb}
use lib.Ieee.{ne}
use Rattle.base_turns.proofs.Kept.{fold-kept}
use Rattle.num_convert.specs.Number.{c0}
use Rattle.num_vec2.specs.declared.vec2.{vec2}
use Rattle.character_hook.specs.Hook.{id_of}
use Rattle.character_hook.specs.declared.hook.CharacterId.{CharacterId}
use Rattle.character_hook.specs.declared.hook.Hook.{Hook}
use Rattle.character_hook.specs.declared.hook.Hook.TheVariants.{Retracted, Idle, Flying, Grabbed, Attached, Retracting0, Retracting1, Retracting2}
use Rattle.game_records.specs.declared.PlayerInput.{PlayerInput}
use Rattle.map_tiles.specs.declared.tiles.Sides.{Sides}
use Rattle.game_tuning.specs.declared.Tuning.{Tuning}
use Rattle.character_motion.specs.Controls.{grounded}
use Rattle.character_hook.specs.Hooking.{hold}
use Rattle.character_hook.specs.Dragging.{dragged}
use Rattle.character_hook.specs.Flying.{flown}
use Rattle.character_hook.specs.declared.flying.Way.{Way}
use Rattle.character_hook.specs.declared.flying.Way.TheVariants as way
use Rattle.character_meeting.specs.Meeting.{push, drags, held, pull_on, meet}
use Rattle.character_meeting.specs.declared.meeting.HookPull.{HookPull}
use Rattle.character.specs.declared.Character.{Character}
use Rattle.character.specs.declared.Slot.{Slot}
use Rattle.character.specs.Tick.{slot_at, steer, caught, flight, meet_turn, meet_all, pull_from, pull_of, hooked, ticked, tick_at}
use Rattle.character_laws.proofs.Choices.{either, on_grabbed_lem}
use Rattle.character_laws.proofs.Others.{Then}
use Rattle.std.specs.Prelude.{Option, None, Result, Ok, Err}
use Rattle.game_refusals.specs.declared.Refusal.{Refusal}

same : (v : vec2) (b : Bool) → cond b v v ≡ v
same v true = refl
same v false = refl

module _ (t : Tuning) (collision : ne t.player_collision c0 ≡ false) (hooking : ne t.player_hooking c0 ≡ false) where
  -- nobody changes the own velocity
  meet-alone : (p v : vec2) (h : Hook) (q : vec2) (cid : CharacterId) → meet p v h q cid t ≡ v
  unfolding meet push held drags
  meet-alone p v Retracted q cid = rw collision
  meet-alone p v Idle q cid = rw collision
  meet-alone p v (Flying a b) q cid = rw collision
  meet-alone p v (Grabbed c k) q cid = rw (collision, hooking) (same v (eqb c.0 cid.0))
  meet-alone p v (Attached a) q cid = rw collision
  meet-alone p v (Retracting0 a) q cid = rw collision
  meet-alone p v (Retracting1 a) q cid = rw collision
  meet-alone p v (Retracting2 a) q cid = rw collision

  turn_alone : (ss : List Slot) (id : ℕ) (p : vec2) (h : Hook) (j : ℕ) (v : vec2) → meet_turn ss id p h t j v ≡ v
  turn_alone ss id p h j v = rw (meet-alone p v h (slot_at ss j).character.pos (id_of j), same v (slot_at ss j).present) (same v (eqb j id))

  meet-all-alone : (n : ℕ) (ss : List Slot) (id : ℕ) (p v : vec2) (h : Hook) → meet_all n ss id p v h t ≡ v
  unfolding meet_all
  meet-all-alone n ss id p v h = fold-kept (meet_turn ss id p h t) (λ w. w ≡ v) (λ j w e. turn_alone ss id p h j w ∙ e) n 0 v refl

  pull_on_alone : (p : vec2) (cid : CharacterId) (q u : vec2) → pull_on p cid q u t ≡ None
  unfolding pull_on drags
  pull_on_alone p cid q u = rw hooking

  pull-alone : (n : ℕ) (ss : List Slot) (id : ℕ) (p : vec2) (h : Hook) → pull_of n ss id p h t ≡ None
  unfolding pull_of
  pull-alone n ss id p h =
      let Is : Option HookPull → Type 0 = λ k. k ≡ None in
      on_grabbed_lem Is None refl (pull_from n ss id p t) h (λ c k. let o = slot_at ss c.0 in either Is (ltb c.0 n) (either Is (eqb c.0 id) refl (either Is o.present (pull_on_alone p c o.character.pos o.character.vel) refl)) refl)

  -- a hook passes everybody
  caught-alone : (n : ℕ) (w : Result Way Refusal) (id : ℕ) (ss us : List Slot) → caught n w id ss t.player_hooking ≡ caught n w id us t.player_hooking
  unfolding caught
  caught-alone n (Err e) id ss us = refl
  caught-alone n (Ok (way.Still h)) id ss us = refl
  caught-alone n (Ok (way.Along from to h)) id ss us = rw hooking

  flight-alone : (n : ℕ) (h : Hook) (p : vec2) (id : ℕ) (ss us : List Slot) (s : Sides) (ts : List ℕ) → flight n h p id ss s ts t ≡ flight n h p id us s ts t
  flight-alone n h p id ss us s ts = caught-alone n (flown h p s ts t) id ss us

  hooked-alone : (n : ℕ) (c : Character) (g : Bool) (h : Hook) (id : ℕ) (ss us : List Slot) → hooked n c g h id ss t ≡ hooked n c g h id us t
  unfolding hooked
  hooked-alone n c g h id ss us =
      let p = c.pos in
      let v = dragged h p c.vel c.move_direction t in
      rw (meet-all-alone n ss id p v (hold h t.hook_hold), meet-all-alone n us id p v (hold h t.hook_hold), pull-alone n ss id p (hold h t.hook_hold), pull-alone n us id p (hold h t.hook_hold))

  ticked-alone : (n : ℕ) (c : Character) (g : Bool) (id : ℕ) (ss us : List Slot) (f : Result Hook Refusal) → ticked n c g id ss t f ≡ ticked n c g id us t f
  ticked-alone n c g id ss us (Err e) = refl
  ticked-alone n c g id ss us (Ok h) = rw (hooked-alone n c g h id ss us)

  -- the same answer whoever else is there
  pub tick-alone : (n : ℕ) (c : Character) (id : ℕ) (ss us : List Slot) (s : Sides) (ts : List ℕ) (i : PlayerInput) → tick_at n c id ss s ts i t ≡ tick_at n c id us s ts i t
  unfolding tick_at
  tick-alone n c id ss us s ts i =
      let k = steer c (grounded s ts c.pos) i t in
      rw (flight-alone n k.hook c.pos id ss us s ts) (ticked-alone n k (grounded s ts c.pos) id ss us (flight n k.hook c.pos id us s ts t))

  -- and nobody is pulled
  pub tick_pulls_nobody : (n : ℕ) (c : Character) (id : ℕ) (ss : List Slot) (s : Sides) (ts : List ℕ) (i : PlayerInput) → Then (λ a. a.pull ≡ None) (tick_at n c id ss s ts i t)
  unfolding tick_at hooked
  tick_pulls_nobody n c id ss s ts i = let d = steer c (grounded s ts c.pos) i t in go d (flight n d.hook c.pos id ss s ts t)
    where
      go : (d : Character) (f : Result Hook Refusal) → Then (λ a. a.pull ≡ None) (ticked n d (grounded s ts c.pos) id ss t f)
      go d (Err e) = tt
      go d (Ok h) = pull-alone n ss id d.pos (hold h t.hook_hold)
