-- After a tick every velocity is a pair of f32 values, where every velocity was. Assumes nothing.
use mathlib.Core.Bool.{Bool, true, false}
use mathlib.Core.List.{List}
use Prim.Native.Nat.{ℕ}
use lib.Dec.{T, eqb, ltb}
use lib.IntN.{ℤ, pos}
use lib.ListN.{get_or}
use lib.Ieee.{Float, binary32, fits, neg, add, lt, ne}
use lib.Ieee.Fits.{neg-fits, add-fits, mul-fits, div-fits}
use Rattle.base_turns.proofs.Kept.{fold-kept}
use Rattle.num_convert.specs.Number.{c0, clamp, saturated_add, c1_5}
use Rattle.num_convert.specs.Convert.{c100, i32_to_f32, hundredths_to_f32}
use Rattle.num_vec2.specs.Vec2.{vadd, vmul, vlength, vnormalize, vdistance}
use Rattle.num_vec2.specs.declared.vec2.{vec2}
use Rattle.num_order.proofs.Vectors.{FitsPair}
use Rattle.game_input.specs.declared.direction.MoveDirection.{MoveDirection}
use Rattle.game_input.specs.declared.direction.MoveDirection.TheVariants.{Left, None, Right}
use Rattle.character_hook.specs.Hook.{id_of}
use Rattle.character_hook.specs.declared.hook.CharacterId.{CharacterId}
use Rattle.character_hook.specs.declared.hook.Hook.{Hook}
use Rattle.game_records.specs.declared.PlayerInput.{PlayerInput}
use Rattle.map_tiles.specs.declared.tiles.Sides.{Sides}
use Rattle.game_tuning.specs.Tuning.{tuning_at, tuning_of}
use Rattle.game_tuning.specs.declared.Tuning.{Tuning}
use Rattle.character_motion.specs.Controls.{grounded, control_of, jump, slowed, walk, clamp_speed}
use Rattle.game_constants.specs.Constants.{max_velocity}
use Rattle.character_motion.specs.declared.controls.Control.{Control}
use Rattle.character_motion.specs.declared.controls.JumpState.{JumpState}
use Rattle.character_hook.specs.Hooking.{hold}
use Rattle.character_hook.specs.Dragging.{hook_vel, drag, dragged}
use Rattle.game_constants.specs.Constants.{disable_hook_distance}
use Rattle.character_meeting.specs.Meeting as meeting
use Rattle.character_meeting.specs.declared.meeting.HookPull.{HookPull}
use Rattle.character.specs.Slot.{with_character}
use Rattle.character.specs.declared.Character.{Character}
use Rattle.character.specs.declared.Slot.{Slot}
use Rattle.character.specs.declared.tick.AfterTick.{AfterTick}
use Rattle.character.specs.Character.{with_vel}
use Rattle.character.specs.Tick.{slot_at, nowhere, steer, flight, meet_turn, meet_all, pull_from, pull_of, after_pull, hooked, ticked, tick_at}
use Rattle.character_laws.proofs.Choices.{either, on_attached_lem, on_grabbed_lem}
use Rattle.character_laws.proofs.Others.{Then}
use Rattle.character_laws.proofs.Slots.{set_every}
use Rattle.std.specs.Prelude.{Option, Result, Ok, Err}
use Rattle.game_refusals.specs.declared.Refusal.{Refusal}
use Rattle.std.specs.Prelude.{Some}
use Rattle.std.specs.declared.option.Option.TheVariants as option

pub add_pair : (v w : vec2) → FitsPair (vadd v w)
unfolding vadd
add_pair v w = (add-fits binary32 v.x w.x, add-fits binary32 v.y w.y)

mul_pair : (v : vec2) (k : Float) → FitsPair (vmul v k)
unfolding vmul
mul_pair v k = (mul-fits binary32 v.x k, mul-fits binary32 v.y k)

-- ---- the character alone

saturated_fits : (m v d : Float) → T (fits binary32 m) → T (fits binary32 v) → T (fits binary32 (saturated_add (neg m) m v d))
unfolding saturated_add clamp
saturated_fits m v d h k =
    let P : Float → Type 0 = λ x. T (fits binary32 x) in
    let w = add binary32 v d in
    let s : P (clamp w (neg m) m) = either P (lt w (neg m)) (neg-fits binary32 m h) (either P (lt m w) h (add-fits binary32 v d)) in
    either P (lt d c0) (either P (lt v (neg m)) k s) (either P (lt m v) k s)

slowed_fits : (d : MoveDirection) (v f : Float) → T (fits binary32 v) → T (fits binary32 (slowed d v f))
slowed_fits Left v f h = h
slowed_fits None v f h = mul-fits binary32 v f
slowed_fits Right v f h = h

walk_fits : (v : Float) (d : MoveDirection) (c : Control) → T (fits binary32 c.max_speed) → T (fits binary32 v) → T (fits binary32 (walk v d c))
unfolding walk
walk_fits v d c h k = slowed_fits d _ _ (saturated_fits c.max_speed v _ h k)

clamp_speed_fits : (v : vec2) → FitsPair v → FitsPair (clamp_speed v)
unfolding clamp_speed
clamp_speed_fits v h = either FitsPair (lt max_velocity (vlength v)) (mul_pair (vnormalize v) max_velocity) h

drag_fits : (p v q : vec2) (d : MoveDirection) (t : Tuning) → FitsPair v → FitsPair (drag p v q d t)
unfolding drag
drag_fits p v q d t h =
    let new = vadd v (hook_vel p q d t) in
    let k = add_pair v (hook_vel p q d t) in
    either FitsPair (lt disable_hook_distance (vdistance q p)) (either FitsPair (lt (vlength new) t.hook_drag_speed) k (either FitsPair (lt (vlength new) (vlength v)) k h)) h

dragged_fits : (h : Hook) (p v : vec2) (d : MoveDirection) (t : Tuning) → FitsPair v → FitsPair (dragged h p v d t)
unfolding dragged
dragged_fits h p v d t k = on_attached_lem FitsPair v k (λ q. drag p v q d t) h (λ q. drag_fits p v q d t k)

-- ---- two that meet

push_fits : (p v q : vec2) (distance collision : Float) → FitsPair v → FitsPair (meeting.push p v q distance collision)
unfolding meeting.push meeting.pushed
push_fits p v q distance collision h =
    either FitsPair (ne collision c0) (either FitsPair (lt distance meeting.c35) (either FitsPair (lt c0 distance) (mul_pair _ meeting.c0_85) h) h) h

pull_fits : (v : vec2) (accel : Float) (d : vec2) (factor speed : Float) → T (fits binary32 speed) → FitsPair v → FitsPair (meeting.pull v accel d factor speed)
unfolding meeting.pull
pull_fits v accel d factor speed h k = (saturated_fits speed v.x _ h k.0, saturated_fits speed v.y _ h k.1)

-- every slot's velocity, those past the end included
abbrev pub FitsSlots : List Slot → Type 0
FitsSlots ss = (k : ℕ) → FitsPair (slot_at ss k).character.vel

-- the velocity of whom a hook pulls
abbrev pub FitsPull : Option HookPull → Type 0
FitsPull option.None = Unit {0}
FitsPull (Some p) = FitsPair p.vel

abbrev pub FitsAfter : AfterTick → Type 0
FitsAfter a = FitsPair a.me.vel × FitsPull a.pull

-- ---- with the tunings of a world
module _ (tunings : List ℤ) where
  abbrev t : Tuning
  t = tuning_of tunings

  tuning_fits : (i : ℕ) → T (fits binary32 (tuning_at tunings i))
  unfolding tuning_at hundredths_to_f32
  tuning_fits i = div-fits binary32 (i32_to_f32 (get_or tunings i (pos 0))) c100

  control_fits : (on_ground : Bool) → T (fits binary32 (control_of on_ground t).max_speed)
  unfolding control_of tuning_of
  control_fits true = tuning_fits 0
  control_fits false = tuning_fits 5

  jump_fits : (j : JumpState) (pressed on_ground : Bool) → T (fits binary32 j.vel_y) → T (fits binary32 (jump j pressed on_ground t).vel_y)
  unfolding jump tuning_of
  jump_fits j pressed on_ground h =
      let P : JumpState → Type 0 = λ k. T (fits binary32 k.vel_y) in
      either P pressed (either P j.jumped_already h (either P on_ground (neg-fits binary32 _ (tuning_fits 3)) (either P j.used_airjump h (neg-fits binary32 _ (tuning_fits 4))))) h

  steer_fits : (c : Character) (on_ground : Bool) (i : PlayerInput) → FitsPair c.vel → FitsPair (steer c on_ground i t).vel
  unfolding steer
  steer_fits c on_ground i h = (walk_fits c.vel.x _ _ (control_fits on_ground) h.0, jump_fits _ _ on_ground (add-fits binary32 c.vel.y t.gravity))

  pulled_fits : (p q u : vec2) (distance : Float) → FitsPair u → FitsPair (meeting.pulled p q u distance t)
  unfolding meeting.pulled tuning_of
  pulled_fits p q u distance h = pull_fits u _ _ c1_5 _ (tuning_fits 11) h

  own_fits : (p v q : vec2) (distance : Float) → FitsPair v → FitsPair (meeting.dragged p v q distance t)
  unfolding meeting.dragged tuning_of
  own_fits p v q distance h = pull_fits v _ _ meeting.c0_25 _ (tuning_fits 11) h

  held_fits : (p v q : vec2) → FitsPair v → FitsPair (meeting.held p v q t)
  unfolding meeting.held
  held_fits p v q h = let d = vdistance p q in either FitsPair (meeting.drags d t) (own_fits p v q d h) h

  meet_fits : (p v : vec2) (h : Hook) (q : vec2) (cid : CharacterId) → FitsPair v → FitsPair (meeting.meet p v h q cid t)
  unfolding meeting.meet
  meet_fits p v h q cid k =
      let w = meeting.push p v q (vdistance p q) t.player_collision in
      let b : FitsPair w = push_fits p v q (vdistance p q) t.player_collision k in
      on_grabbed_lem FitsPair w b (meeting.drag_if p w q t cid) h (λ c n. either FitsPair (eqb c.0 cid.0) (held_fits p w q b) b)

  turn_fits : (ss : List Slot) (id : ℕ) (p : vec2) (h : Hook) (j : ℕ) (v : vec2) → FitsPair v → FitsPair (meet_turn ss id p h t j v)
  turn_fits ss id p h j v k = let o = slot_at ss j in either FitsPair (eqb j id) k (either FitsPair o.present (meet_fits p v h o.character.pos (id_of j) k) k)

  meet_all_fits : (n : ℕ) (ss : List Slot) (id : ℕ) (p v : vec2) (h : Hook) → FitsPair v → FitsPair (meet_all n ss id p v h t)
  unfolding meet_all
  meet_all_fits n ss id p v h k = fold-kept (meet_turn ss id p h t) FitsPair (turn_fits ss id p h) n 0 v k

  pull_on_fits : (p : vec2) (cid : CharacterId) (q u : vec2) → FitsPair u → FitsPull (meeting.pull_on p cid q u t)
  unfolding meeting.pull_on
  pull_on_fits p cid q u h = let d = vdistance p q in either FitsPull (meeting.drags d t) (pulled_fits p q u d h) tt

  pull_of_fits : (n : ℕ) (ss : List Slot) (id : ℕ) (p : vec2) (h : Hook) → FitsSlots ss → FitsPull (pull_of n ss id p h t)
  unfolding pull_of
  pull_of_fits n ss id p h l =
      on_grabbed_lem FitsPull option.None tt (pull_from n ss id p t) h (λ c k. let o = slot_at ss c.0 in either FitsPull (ltb c.0 n) (either FitsPull (eqb c.0 id) tt (either FitsPull o.present (pull_on_fits p c o.character.pos o.character.vel (l c.0)) tt)) tt)

  ticked_fits : (n : ℕ) (c : Character) (g : Bool) (id : ℕ) (ss : List Slot) (f : Result Hook Refusal) → FitsPair c.vel → FitsSlots ss → Then FitsAfter (ticked n c g id ss t f)
  unfolding hooked
  ticked_fits n c g id ss (Err e) k l = tt
  ticked_fits n c g id ss (Ok f) k l =
      let v = dragged f c.pos c.vel c.move_direction t in
      (clamp_speed_fits _ (meet_all_fits n ss id c.pos v (hold f t.hook_hold) (dragged_fits f c.pos c.vel c.move_direction t k)), pull_of_fits n ss id c.pos (hold f t.hook_hold) l)

-- after a tick every velocity is one where every velocity was: the ticking character's and that of whom its hook pulls
pub tick_fits : (n : ℕ) (c : Character) (id : ℕ) (ss : List Slot) (s : Sides) (ts : List ℕ) (i : PlayerInput) (tunings : List ℤ)
    → FitsPair c.vel → FitsSlots ss → Then FitsAfter (tick_at n c id ss s ts i (tuning_of tunings))
unfolding tick_at
tick_fits n c id ss s ts i tunings h k =
    let g = grounded s ts c.pos in
    let d = steer c g i (tuning_of tunings) in
    ticked_fits tunings n d g id ss (flight n d.hook c.pos id ss s ts (tuning_of tunings)) (steer_fits tunings c g i h) k

-- and so every slot's after the pull
pub after_pull_fits : (ss : List Slot) (k : Option HookPull) → FitsSlots ss → FitsPull k → FitsSlots (after_pull ss k)
unfolding after_pull
after_pull_fits ss option.None h f = h
after_pull_fits ss (Some p) h f = set_every (λ i x. FitsPair x.character.vel) ss p.cid.0 (with_character (slot_at ss p.cid.0) (with_vel (slot_at ss p.cid.0).character p.vel)) nowhere h f
