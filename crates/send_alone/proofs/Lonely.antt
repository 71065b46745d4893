-- A tick and a move among slots where nobody else is. Assumes nothing.
use Prim.Native.Nat.{ℕ}
use mathlib.Core.Bool.{Bool, true, false, cond}
use mathlib.Core.List.{List}
use mathlib.Core.Path.{◌≡◌, refl, ap, ◌∙◌}
use lib.Dec.{eqb, ltb}
use lib.Ieee.{Float, binary32, div, ne}
use lib.IntN.{pos}
use borrow.Author.Tests.{eqb-false}
use Rattle.base_turns.specs.Turns.{Turn, more, stop, run}
use Rattle.base_turns.proofs.Kept.{Ends, fold-kept, run-kept}
use Rattle.num_convert.specs.Number.{c0}
use Rattle.num_convert.specs.Convert.{i32_to_f32}
use Rattle.num_vec2.specs.Vec2.{vdistance, vmix}
use Rattle.num_vec2.specs.declared.vec2.{vec2}
use Rattle.game_records.specs.declared.PlayerInput.{PlayerInput}
use Rattle.game_tuning.specs.declared.Tuning.{Tuning}
use Rattle.map_tiles.specs.declared.tiles.Sides.{Sides}
use Rattle.character_hook.specs.Dragging.{dragged}
use Rattle.character_hook.specs.Flying.{flown}
use Rattle.character_hook.specs.Hooking.{grab, hold}
use Rattle.character_hook.specs.declared.hook.Hook.{Hook}
use Rattle.character_hook.specs.declared.flying.Way.{Way}
use Rattle.character_hook.specs.declared.flying.Way.TheVariants as way
use Rattle.character_motion.specs.Controls.{grounded}
use Rattle.character_walk.specs.Walking.{ramped_move, player_turns}
use Rattle.character_meeting.specs.declared.meeting.HookPull.{HookPull}
use Rattle.character.specs.Tick.{slot_at, steer, nearest_turn, nearest, caught, flight, meet_turn, meet_all, pull_from, pull_of, hooked, ticked, tick_at}
use Rattle.character.specs.Walk.{is_close, slot_turn, walk_turn, or_to, walk_among, player_walk, rested, after_box, move_at}
use Rattle.character.specs.declared.Character.{Character}
use Rattle.character.specs.declared.Slot.{Slot}
use Rattle.character_laws.proofs.Choices.{either, on_grabbed_lem}
use Rattle.world.proofs.Seats.{by_test}
use Rattle.send_alone.specs.Alone.{flown_to, hooked_alone, rest_alone, after_box_alone, move_alone}
use Rattle.send_alone.proofs.Only.{none_acts}
use Rattle.std.specs.Prelude.{Option, None, Result, Ok, Err}
use Rattle.character.specs.declared.tick.AfterTick.{AfterTick}
use Rattle.map_walks.specs.declared.moves.Body.{Body}
use Rattle.game_refusals.specs.declared.Refusal.{Refusal}

-- nobody is there but k
abbrev pub Lonely : ℕ → List Slot → Type 0
Lonely k ss = (j : ℕ) → (j ≡ k → ⊥) → (slot_at ss j).present ≡ false

same : {A : Type 0} (b : Bool) (x : A) → cond b x x ≡ x
same true x = refl
same false x = refl

-- what a tick that is not refused leaves of somebody alone
abbrev pub ticked_to : Character → Bool → Tuning → Result Hook Refusal → Result AfterTick Refusal
ticked_to c g t (Err e) = Err e
ticked_to c g t (Ok h) = Ok (record { me = hooked_alone c h t; pull = None; grounded = g })

module _ (n k : ℕ) (ss : List Slot) (lone : Lonely k ss) where
  -- a test of another's presence: itself, or nobody
  skips : {A : Type 0} (j : ℕ) (x y : A) → cond (eqb j k) x (cond (slot_at ss j).present y x) ≡ x
  skips j x y = by_test (λ z. z ≡ x) (eqb j k) (λ e. refl) (λ e. rw (lone j (eqb-false j k e)))

  -- ---- the tick
  nearest-nobody : (from to : vec2) → nearest n ss k from to ≡ None
  unfolding nearest
  nearest-nobody from to = fold-kept (nearest_turn ss k from to) (λ b. b ≡ None) (λ j b e. skips j b _ ∙ e) n 0 None refl

  caught-nobody : (w : Result Way Refusal) (hooking : Float) → caught n w k ss hooking ≡ flown_to w
  unfolding caught grab
  caught-nobody (Err e) hooking = refl
  caught-nobody (Ok (way.Still h)) hooking = refl
  caught-nobody (Ok (way.Along from to h)) hooking = rw (nearest-nobody from to) (ap Ok (same (ne hooking c0) h))

  meet-nobody : (p v : vec2) (h : Hook) (t : Tuning) → meet_all n ss k p v h t ≡ v
  unfolding meet_all
  meet-nobody p v h t = fold-kept (meet_turn ss k p h t) (λ w. w ≡ v) (λ j w e. skips j w _ ∙ e) n 0 v refl

  pull-nobody : (p : vec2) (h : Hook) (t : Tuning) → pull_of n ss k p h t ≡ None
  unfolding pull_of
  pull-nobody p h t =
      let Is : Option HookPull → Type 0 = λ x. x ≡ None in
      on_grabbed_lem Is None refl (pull_from n ss k p t) h (λ c m. either Is (ltb c.0 n) (skips c.0 None _) refl)

  hooked-nobody : (c : Character) (g : Bool) (h : Hook) (t : Tuning) → hooked n c g h k ss t ≡ record { me = hooked_alone c h t; pull = None; grounded = g }
  unfolding hooked
  hooked-nobody c g h t = rw (meet-nobody c.pos (dragged h c.pos c.vel c.move_direction t) (hold h t.hook_hold) t, pull-nobody c.pos (hold h t.hook_hold) t)

  ticked-nobody : (c : Character) (g : Bool) (t : Tuning) (f : Result Hook Refusal) → ticked n c g k ss t f ≡ ticked_to c g t f
  ticked-nobody c g t (Err e) = refl
  ticked-nobody c g t (Ok h) = ap Ok (hooked-nobody c g h t)

  pub tick_lonely : (c : Character) (s : Sides) (ts : List ℕ) (i : PlayerInput) (t : Tuning) → let g = grounded s ts c.pos in let d = steer c g i t in tick_at n c k ss s ts i t ≡ ticked_to d g t (flown_to (flown d.hook c.pos s ts t))
  unfolding tick_at
  tick_lonely c s ts i t =
      let g = grounded s ts c.pos in
      let d = steer c g i t in
      ticked-nobody d g t (flight n d.hook c.pos k ss s ts t) ∙ ap (ticked_to d g t) (caught-nobody (flown d.hook c.pos s ts t) t.player_hooking)

  -- ---- the move
  close_nobody : (j : ℕ) (p : vec2) → is_close (slot_at ss j) k j p ≡ false
  unfolding is_close
  close_nobody j p = skips j false _

  walk-nobody : (from to : vec2) (distance : Float) (turns : ℕ) → walk_among n ss k from to distance turns ≡ to
  unfolding walk_among
  walk-nobody from to distance turns = ends (run (walk_turn n ss k from to distance) turns 0 from) (run-kept (walk_turn n ss k from to distance) (λ i p. Unit {0}) (λ r. ⊥) goes_on_lem turns 0 from tt)
    where
      goes_on_lem : (i : ℕ) (last : vec2) → Unit {0} → Ends (λ p. Unit {0}) (λ r. ⊥) (walk_turn n ss k from to distance i last)
      goes_on_lem i last u =
          let fraction = div binary32 (i32_to_f32 (pos i)) distance in
          let p = vmix from to fraction in
          rw (none_acts (slot_turn ss k from to last fraction p) n 0 tt (λ j l. rw (close_nobody j p) refl)) tt

      ends : (a : Turn vec2 vec2) → Ends (λ p. Unit {0}) (λ r. ⊥) a → or_to to a ≡ to
      ends (more p) u = refl
      ends (stop p) u = absurd u

  rest_nobody : (from to : vec2) (collision : Float) → player_walk n ss k from to collision ≡ rest_alone from to collision
  unfolding player_walk rest_alone
  rest_nobody from to collision = rw (walk-nobody from to (vdistance from to) (player_turns (vdistance from to)))

  pub move_lonely : (c : Character) (s : Sides) (ts : List ℕ) (t : Tuning) → move_at n c k ss s ts t ≡ move_alone s ts t c
  unfolding move_at move_alone
  move_lonely c s ts t = go (ramped_move s ts c.pos c.vel t)
    where
      go : (b : Result Body Refusal) → after_box n c k ss t b ≡ after_box_alone c t b
      go (Err e) = refl
      go (Ok b) = ap (rested c b.vel) (rest_nobody c.pos b.pos t.player_collision)
