-- The step of a seat that is alone is what the world's own step tells of it. Assumes nothing.
use Prim.Native.Nat.{ℕ, ◌<◌}
use native.Mathlib.Omega.{arith}
use mathlib.Core.Bool.{Bool, true, false, cond, ◌&&◌}
use mathlib.Core.List.{List}
use mathlib.Core.Path.{◌≡◌, refl, sym, ap, ◌∙◌, subst}
use lib.IntN.{ℤ}
use lib.ListN.{length, set, replicate, length-set, length-replicate}
use lib.Seq.{get_or-set_same, get_or-set_other}
use Rattle.base_turns.specs.Turns.{Turn, more, stop, next}
use Rattle.game_refusals.specs.Refusals.{bad_map, too_far}
use Rattle.game_tuning.specs.Tuning.{tuning_of}
use Rattle.game_tuning.specs.declared.Tuning.{Tuning}
use Rattle.map_tiles.specs.Box.{on_deadly}
use Rattle.map_tiles.specs.Map.{is_map}
use Rattle.map_tiles.specs.declared.tiles.Sides.{Sides}
use Rattle.character_hook.specs.Flying.{flown}
use Rattle.character_hook.specs.declared.hook.Hook.{Hook}
use Rattle.character_motion.specs.Controls.{grounded}
use Rattle.character.specs.Records.{from_net}
use Rattle.character.specs.Slot.{empty_slot, with_character}
use Rattle.character.specs.Tick.{slot_at, nowhere, after_pull, steer, tick_at, ticked_slot}
use Rattle.character.specs.declared.Character.{Character}
use Rattle.character.specs.declared.Slot.{Slot}
use Rattle.character.specs.Walk.{move_at}
use Rattle.character_laws.proofs.Slots.{replicate_every}
use Rattle.world.specs.Removal.{dying, is_in}
use Rattle.world.specs.Step.{Moving, unpublished, after_tick, tick_turn, tick_all, record_of, publish, move_turn, moving_from, move_all, step_answer, step_on, step}
use Rattle.world.specs.declared.Published.{Published}
use Rattle.world.specs.Answered.{Stepped}
use Rattle.world.specs.declared.World.{World}
use Rattle.world.proofs.Removal.{dying_are, listed_ids}
use Rattle.send_rule.specs.Send.{copy_slot, small_world, alone}
use Rattle.send_rule.specs.declared.Copy.{Copy}
use Rattle.send_alone.specs.Alone.{flown_to, hooked_alone, move_alone, record_alone, step_alone, ToldAlone, StepsAlone}
use Rattle.send_alone.proofs.Lonely.{Lonely, ticked_to, tick_lonely, move_lonely}
use Rattle.send_alone.proofs.Only.{one_acts}
use Rattle.std.specs.Prelude.{None, Result, Ok, Err}
use Rattle.game_records.specs.declared.CharacterCore.{CharacterCore}
use Rattle.game_refusals.specs.declared.Refusal.{Refusal}
use Rattle.game_refusals.specs.declared.Refusal.TheVariants.{BadMap}

module _ (n k : ℕ) (l : k < n) (s : Sides) (ts : List ℕ) (t : Tuning) where
  -- ---- slots of which k's alone is set
  set_lonely : (ss : List Slot) (x : Slot) → length ss ≡ n → Lonely k ss → Lonely k (set ss k x)
  set_lonely ss x full h j d = ap (λ (y : Slot). y.present) (get_or-set_other ss k j x nowhere d) ∙ h j d

  set_there : (ss : List Slot) (x : Slot) → length ss ≡ n → slot_at (set ss k x) k ≡ x
  set_there ss x full = get_or-set_same ss k x nowhere (omega (arith, full, l))

  -- a turn of another does nothing
  tick_none : (ss : List Slot) → Lonely k ss → (j : ℕ) → (j ≡ k → ⊥) → tick_turn n s ts t j ss ≡ more ss
  tick_none ss h j d = rw (h j d)

  move_none : (m : Moving) → Lonely k m.slots → (j : ℕ) → (j ≡ k → ⊥) → move_turn n s ts t j m ≡ more m
  move_none m h j d = rw (h j d)

  -- ---- the ticks
  module _ (ss : List Slot) (full : length ss ≡ n) (lone : Lonely k ss) (x : Slot) (at : slot_at ss k ≡ x) (there : x.present ≡ true) where
    abbrev grounds : Bool
    grounds = grounded s ts x.character.pos

    abbrev steered : Character
    steered = steer x.character grounds x.input t

    -- the slot of k after a tick with the hook h, and all slots
    abbrev own : Hook → Slot
    own h = ticked_slot x (record { me = hooked_alone steered h t; pull = None; grounded = grounds })

    abbrev ticked : Hook → List Slot
    ticked h = set ss k (own h)

    abbrev after_flight : Result Hook Refusal → Turn (List Slot) ℕ
    after_flight (Err e) = stop too_far
    after_flight (Ok h) = more (ticked h)

    abbrev flies : Result Hook Refusal
    flies = flown_to (flown steered.hook x.character.pos s ts t)

    lands : (f : Result Hook Refusal) → after_tick ss k (ticked_to steered grounds t f) ≡ after_flight f
    unfolding after_pull
    lands (Err e) = refl
    lands (Ok h) = ap (λ (y : Slot). more (set ss k (ticked_slot y (record { me = hooked_alone steered h t; pull = None; grounded = grounds })))) at

    own-tick : tick_turn n s ts t k ss ≡ after_flight flies
    own-tick = ap (λ (y : Slot). cond y.present (after_tick ss k (tick_at n y.character k ss s ts y.input t)) (more ss)) at ∙ ap (λ (b : Bool). cond b (after_tick ss k (tick_at n x.character k ss s ts x.input t)) (more ss)) there ∙ ap (after_tick ss k) (tick_lonely n k ss lone x.character s ts x.input t) ∙ lands flies

    -- nobody comes
    landed-lonely : (f : Result Hook Refusal) (u : List Slot) → after_flight f ≡ more u → Lonely k u
    landed-lonely (Err why) u e = let z : ◌≡◌ {A = ℕ} 0 1 = cc in absurd (omega arith)
    landed-lonely (Ok h) u e = let z : ticked h ≡ u = cc in subst (Lonely k) z (set_lonely ss (own h) full lone)

    ticks-alone : tick_all n ss s ts t ≡ after_flight flies
    unfolding tick_all
    ticks-alone = one_acts (tick_turn n s ts t) n 0 k ss (omega arith) (omega arith) (tick_none ss lone) (λ u e. tick_none u (landed-lonely flies u (sym own-tick ∙ e))) ∙ own-tick

    -- ---- the moves
    module _ (h : Hook) where
      abbrev begun : Moving
      begun = moving_from n (ticked h)

      abbrev taken : Result CharacterCore Refusal
      taken = record_of (move_alone s ts t (hooked_alone steered h t))

      own-move : move_turn n s ts t k begun ≡ publish begun k taken
      own-move = ap (λ (y : Slot). cond y.present (publish begun k (record_of (move_at n y.character k (ticked h) s ts t))) (more begun)) (set_there ss (own h) full) ∙ ap (λ (b : Bool). cond b (publish begun k (record_of (move_at n (hooked_alone steered h t) k (ticked h) s ts t))) (more begun)) there ∙ ap (λ (d : Result Character Refusal). publish begun k (record_of d)) (move_lonely n k (ticked h) (set_lonely ss (own h) full lone) (hooked_alone steered h t) s ts t)

      moved-lonely : (r : Result CharacterCore Refusal) (m : Moving) → publish begun k r ≡ more m → Lonely k m.slots
      moved-lonely (Err q) m e = let z : ◌≡◌ {A = ℕ} 0 1 = cc in absurd (omega arith)
      moved-lonely (Ok core) m e = let z : record { slots = set (ticked h) k (with_character (slot_at (ticked h) k) (from_net core)); records = set (replicate n unpublished) k (record { present = true; core = core }) } ≡ m = cc in subst (λ (v : Moving). Lonely k v.slots) z (set_lonely (ticked h) (with_character (slot_at (ticked h) k) (from_net core)) (length-set ss k (own h) ∙ full) (set_lonely ss (own h) full lone))

      moves-alone : move_all n (ticked h) s ts t ≡ publish begun k taken
      unfolding move_all
      moves-alone = one_acts (move_turn n s ts t) n 0 k begun (omega arith) (omega arith) (move_none begun (set_lonely ss (own h) full lone)) (λ m e. move_none m (moved-lonely taken m (sym own-move ∙ e))) ∙ own-move

      -- ---- the answer
      told : (w : World) (r : Result CharacterCore Refusal) → ToldAlone s ts k (step_answer n w s ts (publish begun k r)) r
      told w (Err q) = refl
      told w (Ok core) =
          let us = set (ticked h) k (with_character (slot_at (ticked h) k) (from_net core)) in
          let size : length (ticked h) ≡ n = length-set ss k (own h) ∙ full in
          let mine : slot_at us k ≡ with_character (own h) (from_net core) = set_there (ticked h) (with_character (slot_at (ticked h) k) (from_net core)) size ∙ ap (λ (y : Slot). with_character y (from_net core)) (set_there ss (own h) full) in
          (refl, ap (λ (p : Published). p.core) (get_or-set_same (replicate n unpublished) k (record { present = true; core = core }) unpublished (omega (arith, l, length-replicate n unpublished))), ap (is_in k) (listed_ids n (dying n s ts us)) ∙ dying_are n s ts us k l ∙ ap (λ (y : Slot). y.present && on_deadly s ts y.character.pos) mine ∙ ap (λ (b : Bool). b && on_deadly s ts (from_net core).pos) there)

    answers : (w : World) (f : Result Hook Refusal) → ToldAlone s ts k (step_answer n w s ts (next (λ us. move_all n us s ts t) (after_flight f))) (record_alone s ts t steered f)
    answers w (Err e) = refl
    answers w (Ok h) = subst (λ (a : Turn Moving ℕ). ToldAlone s ts k (step_answer n w s ts a) (taken h)) (sym (moves-alone h)) (told h w (taken h))

-- ---- in its small world
module _ (n k : ℕ) (l : k < n) (s : Sides) (ts : List ℕ) (tunings : List ℤ) (c : Copy) where
  abbrev nobody : List Slot
  nobody = replicate n empty_slot

  abbrev small : List Slot
  small = set nobody k (copy_slot c)

  size : length small ≡ n
  size = length-set nobody k (copy_slot c) ∙ length-replicate n empty_slot

  there : slot_at small k ≡ copy_slot c
  there = get_or-set_same nobody k (copy_slot c) nowhere (omega (arith, l, length-replicate n empty_slot))

  lone : Lonely k small
  lone j d = ap (λ (y : Slot). y.present) (get_or-set_other nobody k j (copy_slot c) nowhere d) ∙ replicate_every (λ (y : Slot). y.present ≡ false) n empty_slot nowhere refl refl j

  abbrev t : Tuning
  t = tuning_of tunings

  abbrev flight : Result Hook Refusal
  flight = flies n k l s ts t small size lone (copy_slot c) there refl

  on_map_lem : (w : World) → ToldAlone s ts k (step_answer n w s ts (next (λ us. move_all n us s ts t) (tick_all n small s ts t))) (record_alone s ts t (steered n k l s ts t small size lone (copy_slot c) there refl) flight)
  on_map_lem w = subst (λ (a : Turn (List Slot) ℕ). ToldAlone s ts k (step_answer n w s ts (next (λ us. move_all n us s ts t) a)) (record_alone s ts t (steered n k l s ts t small size lone (copy_slot c) there refl) flight)) (sym (ticks-alone n k l s ts t small size lone (copy_slot c) there refl)) (answers n k l s ts t small size lone (copy_slot c) there refl w flight)

both : (s : Sides) (ts : List ℕ) (k : ℕ) (b : Bool) (a d : Stepped) (x y : Result CharacterCore Refusal) → ToldAlone s ts k a x → ToldAlone s ts k d y → ToldAlone s ts k (cond b a d) (cond b x y)
both s ts k true a d x y h g = h
both s ts k false a d x y h g = g

pub steps_alone : (n : ℕ) → StepsAlone n
unfolding alone small_world step_alone step step_on
steps_alone n s ts tunings k c l = both s ts k (is_map s ts) _ _ _ (Err BadMap) (on_map_lem n k l s ts tunings c (small_world n tunings k c)) refl
