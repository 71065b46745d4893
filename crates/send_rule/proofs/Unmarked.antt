-- The floor marks change nothing that a step tells. Assumes nothing.
use Prim.Native.Nat.{ℕ, zero, suc}
use mathlib.Core.Bool.{Bool, true, false, cond}
use mathlib.Core.List.{List, [], ◌∷◌, map}
use mathlib.Core.Path.{◌≡◌, refl, sym, ap, ◌∙◌, subst, fun_ext}
use lib.Ieee.{Float, binary32, div}
use lib.IntN.{ℤ, pos}
use lib.ListN.{set, get_or-map}
use Rattle.base_turns.specs.Turns.{Turn, more, stop, next, run, fold}
use Rattle.base_turns.proofs.Kept.{Alike, run_alike}
use Rattle.num_convert.specs.Convert.{i32_to_f32}
use Rattle.num_vec2.specs.Vec2.{vdistance, vmix}
use Rattle.num_vec2.specs.declared.vec2.{vec2}
use Rattle.game_records.specs.declared.PlayerInput.{PlayerInput}
use Rattle.game_refusals.specs.Refusals.{bad_map}
use Rattle.game_tuning.specs.Tuning.{tuning_of}
use Rattle.game_tuning.specs.declared.Tuning.{Tuning}
use Rattle.map_tiles.specs.Map.{is_map}
use Rattle.map_tiles.specs.declared.tiles.Sides.{Sides}
use Rattle.character_hook.specs.Hook.{on_grabbed}
use Rattle.character_hook.specs.Hooking.{hold}
use Rattle.character_hook.specs.Dragging.{dragged}
use Rattle.character_hook.specs.Flying.{flown}
use Rattle.character_hook.specs.declared.flying.Way.{Way}
use Rattle.character_hook.specs.declared.flying.Way.TheVariants as way
use Rattle.character_hook.specs.declared.hook.CharacterId.{CharacterId}
use Rattle.character_hook.specs.declared.hook.Hook.{Hook}
use Rattle.character_hook.specs.declared.hooking.Nearest.{Nearest}
use Rattle.character_motion.specs.Controls.{grounded}
use Rattle.character_walk.specs.Walking.{ramped_move, player_turns}
use Rattle.character_meeting.specs.declared.meeting.HookPull.{HookPull}
use Rattle.character.specs.Character.{with_vel}
use Rattle.character.specs.Records.{from_net}
use Rattle.character.specs.Slot.{with_character, with_grounded}
use Rattle.character.specs.Tick.{slot_at, nowhere, steer, caught, flight, meet_all, pull_of, after_pull, hooked, ticked, tick_at, ticked_slot}
use Rattle.character.specs.Tick as tick
use Rattle.character.specs.Walk.{is_close, slot_turn, walk_turn, or_to, walk_among, player_walk, rested, after_box, move_at}
use Rattle.character.specs.declared.Character.{Character}
use Rattle.character.specs.declared.Slot.{Slot}
use Rattle.character.specs.declared.tick.AfterTick.{AfterTick}
use Rattle.world.specs.Removal.{ids_of, dying}
use Rattle.world.specs.Run.{told_by}
use Rattle.world.specs.Step.{Moving, after_tick, tick_turn, tick_all, record_of, publish, move_turn, moving_from, move_all, step_refused, step_answer, step_on, step}
use Rattle.world.specs.declared.Published.{Published}
use Rattle.world.specs.declared.World.{World}
use Rattle.std.specs.Prelude.{Option, None, Result, Ok, Err}
use Rattle.game_records.specs.declared.CharacterCore.{CharacterCore}
use Rattle.map_walks.specs.declared.moves.Body.{Body}
use Rattle.game_refusals.specs.declared.Refusal.{Refusal}
use Rattle.std.specs.Prelude.{Some}

-- ---- slots without their marks

abbrev pub without_mark : Slot → Slot
without_mark x = with_grounded x false

abbrev pub without_marks : List Slot → List Slot
without_marks ss = map without_mark ss

pub without_at : (ss : List Slot) (j : ℕ) → slot_at (without_marks ss) j ≡ without_mark (slot_at ss j)
without_at ss j = get_or-map without_mark ss j nowhere

without_set : (ss : List Slot) (j : ℕ) (x : Slot) → without_marks (set ss j x) ≡ set (without_marks ss) j (without_mark x)
without_set [] j x = refl
without_set (y ∷ ss) zero x = refl
without_set (y ∷ ss) (suc j) x = ap (λ (us : List Slot). without_mark y ∷ us) (without_set ss j x)

-- a slot with another character
without_put : (ss : List Slot) (j : ℕ) (f : Character → Character) → without_marks (set ss j (with_character (slot_at ss j) (f (slot_at ss j).character))) ≡ set (without_marks ss) j (with_character (slot_at (without_marks ss) j) (f (slot_at (without_marks ss) j).character))
without_put ss j f = without_set ss j _ ∙ ap (λ (x : Slot). set (without_marks ss) j (with_character x (f x.character))) (sym (without_at ss j))

-- ---- one tick
module _ (n : ℕ) (ss : List Slot) (id : ℕ) where
  nearest_without : (from to : vec2) → tick.nearest n (without_marks ss) id from to ≡ tick.nearest n ss id from to
  unfolding tick.nearest
  nearest_without from to = ap (λ (f : ℕ → Option Nearest → Option Nearest). fold f n 0 None) (fun_ext (λ j. fun_ext (λ best. rw (without_at ss j))))

  caught_without : (w : Result Way Refusal) (hooking : Float) → caught n w id (without_marks ss) hooking ≡ caught n w id ss hooking
  unfolding caught
  caught_without (Err e) hooking = refl
  caught_without (Ok (way.Still h)) hooking = refl
  caught_without (Ok (way.Along from to h)) hooking = rw (nearest_without from to)

  meet_without : (p v : vec2) (h : Hook) (t : Tuning) → meet_all n (without_marks ss) id p v h t ≡ meet_all n ss id p v h t
  unfolding meet_all
  meet_without p v h t = ap (λ (f : ℕ → vec2 → vec2). fold f n 0 v) (fun_ext (λ j. fun_ext (λ u. rw (without_at ss j))))

  pull_without : (p : vec2) (h : Hook) (t : Tuning) → pull_of n (without_marks ss) id p h t ≡ pull_of n ss id p h t
  unfolding pull_of
  pull_without p h t = ap (λ (f : CharacterId → ℕ → Option HookPull). on_grabbed f None h) (fun_ext (λ c. fun_ext (λ k. rw (without_at ss c.0))))

  ticked_without : (c : Character) (g : Bool) (t : Tuning) (f : Result Hook Refusal) → ticked n c g id (without_marks ss) t f ≡ ticked n c g id ss t f
  unfolding hooked
  ticked_without c g t (Err e) = refl
  ticked_without c g t (Ok h) = let v = dragged h c.pos c.vel c.move_direction t in rw (meet_without c.pos v (hold h t.hook_hold) t, pull_without c.pos (hold h t.hook_hold) t)

  tick_without : (c : Character) (s : Sides) (ts : List ℕ) (i : PlayerInput) (t : Tuning) → tick_at n c id (without_marks ss) s ts i t ≡ tick_at n c id ss s ts i t
  unfolding tick_at
  tick_without c s ts i t =
      let g = grounded s ts c.pos in
      let d = steer c g i t in
      ap (ticked n d g id (without_marks ss) t) (caught_without (flown d.hook c.pos s ts t) t.player_hooking) ∙ ticked_without d g t (flight n d.hook c.pos id ss s ts t)

  -- ---- one move
  close_without : (from to last : vec2) (fraction : Float) (p : vec2) → slot_turn (without_marks ss) id from to last fraction p ≡ slot_turn ss id from to last fraction p
  unfolding is_close
  close_without from to last fraction p = fun_ext (λ j. fun_ext (λ u. rw (without_at ss j)))

  turn_without : (from to : vec2) (distance : Float) (i : ℕ) (last : vec2) → walk_turn n (without_marks ss) id from to distance i last ≡ walk_turn n ss id from to distance i last
  turn_without from to distance i last =
      let fraction = div binary32 (i32_to_f32 (pos i)) distance in
      let p = vmix from to fraction in
      ap (λ (f : ℕ → Unit {0} → Turn (Unit {0}) vec2). next (λ u. more p) (run f n 0 tt)) (close_without from to last fraction p)

  among_without : (from to : vec2) (distance : Float) (turns : ℕ) → walk_among n (without_marks ss) id from to distance turns ≡ walk_among n ss id from to distance turns
  unfolding walk_among
  among_without from to distance turns = ap (λ (f : ℕ → vec2 → Turn vec2 vec2). or_to to (run f turns 0 from)) (fun_ext (λ i. fun_ext (turn_without from to distance i)))

  walk_without : (from to : vec2) (collision : Float) → player_walk n (without_marks ss) id from to collision ≡ player_walk n ss id from to collision
  unfolding player_walk
  walk_without from to collision = let d = vdistance from to in rw (among_without from to d (player_turns d))

  box_without : (c : Character) (t : Tuning) (b : Result Body Refusal) → after_box n c id (without_marks ss) t b ≡ after_box n c id ss t b
  box_without c t (Err e) = refl
  box_without c t (Ok b) = ap (rested c b.vel) (walk_without c.pos b.pos t.player_collision)

  move_without : (c : Character) (s : Sides) (ts : List ℕ) (t : Tuning) → move_at n c id (without_marks ss) s ts t ≡ move_at n c id ss s ts t
  unfolding move_at
  move_without c s ts t = box_without c t (ramped_move s ts c.pos c.vel t)

-- ---- slots that differ in their marks at most
abbrev SameButMarks : List Slot → List Slot → Type 0
SameButMarks us vs = without_marks us ≡ without_marks vs

without_same : (us vs : List Slot) → SameButMarks us vs → (j : ℕ) → without_mark (slot_at us j) ≡ without_mark (slot_at vs j)
without_same us vs h j = sym (without_at us j) ∙ ap (λ (ss : List Slot). slot_at ss j) h ∙ without_at vs j

pull-put : (ss : List Slot) (k : Option HookPull) → without_marks (after_pull ss k) ≡ after_pull (without_marks ss) k
unfolding after_pull
pull-put ss None = refl
pull-put ss (Some p) = without_put ss p.cid.0 (λ c. with_vel c p.vel)

module _ (n : ℕ) (s : Sides) (ts : List ℕ) (t : Tuning) where
  -- ---- the ticks
  ticked-put : (us : List Slot) (j : ℕ) (a : AfterTick) → without_marks (set us j (ticked_slot (slot_at us j) a)) ≡ set (without_marks us) j (with_character (slot_at (without_marks us) j) a.me)
  ticked-put us j a = without_set us j (ticked_slot (slot_at us j) a) ∙ ap (λ (x : Slot). set (without_marks us) j (with_character x a.me)) (sym (without_at us j))

  after-tick : (us vs : List Slot) → SameButMarks us vs → (j : ℕ) (k : Result AfterTick Refusal) → Alike SameButMarks ◌≡◌ (after_tick us j k) (after_tick vs j k)
  after-tick us vs h j (Err e) = refl
  after-tick us vs h j (Ok a) =
      let e : without_marks (after_pull us a.pull) ≡ without_marks (after_pull vs a.pull) = pull-put us a.pull ∙ ap (λ (ss : List Slot). after_pull ss a.pull) h ∙ sym (pull-put vs a.pull) in
      ticked-put (after_pull us a.pull) j a ∙ ap (λ (ss : List Slot). set ss j (with_character (slot_at ss j) a.me)) e ∙ sym (ticked-put (after_pull vs a.pull) j a)

  tick_turn_lem : (j : ℕ) (us vs : List Slot) → SameButMarks us vs → Alike SameButMarks ◌≡◌ (tick_turn n s ts t j us) (tick_turn n s ts t j vs)
  tick_turn_lem j us vs h =
      subst (λ (x : Slot). Alike SameButMarks ◌≡◌ (tick_turn n s ts t j us) (cond x.present (after_tick vs j (tick_at n x.character j vs s ts x.input t)) (more vs))) (without_same us vs h j)
      (subst (λ (k : Result AfterTick Refusal). Alike SameButMarks ◌≡◌ (tick_turn n s ts t j us) (cond (slot_at us j).present (after_tick vs j k) (more vs))) same (go (slot_at us j).present))
    where
      k : Result AfterTick Refusal
      k = tick_at n (slot_at us j).character j us s ts (slot_at us j).input t

      same : tick_at n (slot_at us j).character j us s ts (slot_at us j).input t ≡ tick_at n (slot_at us j).character j vs s ts (slot_at us j).input t
      same = sym (tick_without n us j (slot_at us j).character s ts (slot_at us j).input t) ∙ ap (λ (ss : List Slot). tick_at n (slot_at us j).character j ss s ts (slot_at us j).input t) h ∙ tick_without n vs j (slot_at us j).character s ts (slot_at us j).input t

      go : (b : Bool) → Alike SameButMarks ◌≡◌ (cond b (after_tick us j k) (more us)) (cond b (after_tick vs j k) (more vs))
      go true = after-tick us vs h j k
      go false = h

  ticks_alike : (us vs : List Slot) → SameButMarks us vs → Alike SameButMarks ◌≡◌ (tick_all n us s ts t) (tick_all n vs s ts t)
  unfolding tick_all
  ticks_alike us vs h = run_alike (tick_turn n s ts t) (tick_turn n s ts t) SameButMarks ◌≡◌ tick_turn_lem n 0 us vs h

  -- ---- the moves
  abbrev Moves : Moving → Moving → Type 0
  Moves a b = SameButMarks a.slots b.slots × (a.records ≡ b.records)

  published : (a b : Moving) → Moves a b → (j : ℕ) (r : Result CharacterCore Refusal) → Alike Moves ◌≡◌ (publish a j r) (publish b j r)
  published a b h j (Err k) = refl
  published a b h j (Ok core) =
      (without_put a.slots j (λ c. from_net core) ∙ ap (λ (ss : List Slot). set ss j (with_character (slot_at ss j) (from_net core))) h.0 ∙ sym (without_put b.slots j (λ c. from_net core)), ap (λ (rs : List Published). set rs j (record { present = true; core = core })) h.1)

  move_turn_lem : (j : ℕ) (a b : Moving) → Moves a b → Alike Moves ◌≡◌ (move_turn n s ts t j a) (move_turn n s ts t j b)
  move_turn_lem j a b h =
      subst (λ (x : Slot). Alike Moves ◌≡◌ (move_turn n s ts t j a) (cond x.present (publish b j (record_of (move_at n x.character j b.slots s ts t))) (more b))) (without_same a.slots b.slots h.0 j)
      (subst (λ (k : Result Character Refusal). Alike Moves ◌≡◌ (move_turn n s ts t j a) (cond me.present (publish b j (record_of k)) (more b))) same (go me.present))
    where
      me : Slot
      me = slot_at a.slots j

      same : move_at n me.character j a.slots s ts t ≡ move_at n me.character j b.slots s ts t
      same = sym (move_without n a.slots j me.character s ts t) ∙ ap (λ (ss : List Slot). move_at n me.character j ss s ts t) h.0 ∙ move_without n b.slots j me.character s ts t

      go : (c : Bool) → Alike Moves ◌≡◌ (cond c (publish a j (record_of (move_at n me.character j a.slots s ts t))) (more a)) (cond c (publish b j (record_of (move_at n me.character j a.slots s ts t))) (more b))
      go true = published a b h j (record_of (move_at n me.character j a.slots s ts t))
      go false = h

  moves_alike : (us vs : List Slot) → SameButMarks us vs → Alike Moves ◌≡◌ (move_all n us s ts t) (move_all n vs s ts t)
  unfolding move_all
  moves_alike us vs h = run_alike (move_turn n s ts t) (move_turn n s ts t) Moves ◌≡◌ move_turn_lem n 0 (moving_from n us) (moving_from n vs) (h, refl)

-- ---- a step
module _ (n : ℕ) (s : Sides) (ts : List ℕ) where
  dying_without : (ss : List Slot) → dying n s ts (without_marks ss) ≡ dying n s ts ss
  unfolding dying
  dying_without ss = ap (λ (f : ℕ → Bool). ids_of f n 0) (fun_ext (λ j. rw (without_at ss j)))

  module _ (w v : World) where
    moved : (a b : Turn Moving ℕ) → Alike (Moves n s ts (tuning_of w.tunings)) ◌≡◌ a b → told_by (step_answer n w s ts a) ≡ told_by (step_answer n v s ts b)
    moved (stop k) (stop r) h = rw h
    moved (more a) (more b) h = let e : dying n s ts a.slots ≡ dying n s ts b.slots = sym (dying_without a.slots) ∙ ap (dying n s ts) h.0 ∙ dying_without b.slots in rw (e, h.1)
    moved (stop k) (more b) h = absurd h
    moved (more a) (stop r) h = absurd h

    pub marks-untold : without_marks w.slots ≡ without_marks v.slots → w.tunings ≡ v.tunings → told_by (step n w s ts) ≡ told_by (step n v s ts)
    unfolding step step_on
    marks-untold h e = subst (λ (u : List ℤ). told_by (step n w s ts) ≡ told_by (cond (is_map s ts) (step_answer n v s ts (next (λ ss. move_all n ss s ts (tuning_of u)) (tick_all n v.slots s ts (tuning_of u)))) (step_refused n v bad_map))) e (go (is_map s ts))
      where
        t : Tuning
        t = tuning_of w.tunings

        ticked-then : (a b : Turn (List Slot) ℕ) → Alike SameButMarks ◌≡◌ a b → told_by (step_answer n w s ts (next (λ ss. move_all n ss s ts t) a)) ≡ told_by (step_answer n v s ts (next (λ ss. move_all n ss s ts t) b))
        ticked-then (stop k) (stop r) q = rw q
        ticked-then (more us) (more vs) q = moved (move_all n us s ts t) (move_all n vs s ts t) (moves_alike n s ts t us vs q)
        ticked-then (stop k) (more vs) q = absurd q
        ticked-then (more us) (stop r) q = absurd q

        go : (b : Bool) → told_by (cond b (step_answer n w s ts (next (λ ss. move_all n ss s ts t) (tick_all n w.slots s ts t))) (step_refused n w bad_map)) ≡ told_by (cond b (step_answer n v s ts (next (λ ss. move_all n ss s ts t) (tick_all n v.slots s ts t))) (step_refused n v bad_map))
        go true = ticked-then (tick_all n w.slots s ts t) (tick_all n v.slots s ts t) (ticks_alike n s ts t w.slots v.slots h)
        go false = refl
