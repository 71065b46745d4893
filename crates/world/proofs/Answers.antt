-- In every world the number of a join, a leave, an input and a tune is the lowest that fits, a step is refused with 1 just where the map is none, and a refused call tells its number alone. Assumes nothing.
use Prim.Native.Nat.{ℕ, ◌≤◌, ◌<◌}
use native.Mathlib.Omega.{arith}
use mathlib.Core.Bool.{Bool, true, false, cond, ◌&&◌, true≢false}
use mathlib.Core.List.{List, []}
use mathlib.Core.Logic.{◌⊎◌, inl, inr, ⊎_elim, ◌↔◌}
use mathlib.Core.Path.{◌≡◌, refl, sym, ap, ◌∙◌, subst}
use lib.Dec.{T, eqb, ltb, leb}
use lib.IntN.{ℤ, pos, negsuc, nat_abs}
use borrow.Author.Tests.{ltb-true, ltb-false, leb-true, leb-false, eqb-true, lt-ltb, le-leb, eq-eqb}
use Rattle.map_tiles.specs.Map.{is_side, is_map, solid}
use Rattle.map_tiles.specs.Box.{check_box, character_box}
use Rattle.map_tiles.specs.declared.tiles.Sides.{Sides}
use Rattle.map_tiles.proofs.Corners.{character_corners}
use Rattle.map_tiles.proofs.Maps.{is_map_lem}
use Rattle.num_vec2.specs.declared.vec2.{vec2}
use Rattle.base_turns.specs.Turns.{Turn, more, stop, next}
use Rattle.base_turns.proofs.Kept.{Ends, run-kept}
use Rattle.game_constants.specs.Constants.{max_hook_grab_time}
use Rattle.game_refusals.specs.Refusals.{bad_map, bad_tuning, bad_hold}
use Rattle.game_tuning.specs.Tuning.{tuning_count, hook_hold, is_hold, may_tune, tuning_of}
use Rattle.game_tuning.specs.declared.Tuning.{Tuning}
use Rattle.character.specs.Slot.{joined_slot}
use Rattle.character.specs.Tick.{slot_at, tick_at}
use Rattle.character.specs.Records.{to_net}
use Rattle.character.specs.declared.Slot.{Slot}
use Rattle.character_laws.proofs.Slots.{replicate_every}
use Rattle.world.specs.declared.call.Call.{Call}
use Rattle.world.specs.declared.call.Call.TheVariants.{Join, Leave, Input, Step, Tune}
use Rattle.world.specs.World.{with_slot, with_tuning}
use Rattle.world.specs.Calls.{refused, accepted, place_of, is_in_reach, point_of, join_at, join, if_present, leave, input, tune}
use Rattle.world.specs.Run.{input_of, ran}
use Rattle.world.specs.Step.{Moving, unpublished, after_tick, tick_turn, tick_all, of_net, record_of, publish, move_in, move_turn, moving_from, move_all, step_refused, step_answer, step_on, step}
use Rattle.world.specs.Demand3.{CornersClear}
use Rattle.world.specs.Answers.{LowestFirst, Outside, IsMap, Present, IsHold, JoinFits, SeatFits, TuneFits, Untold, Answers}
use Rattle.world.specs.Answers as fits
use Rattle.world.specs.Answered.{Stepped}
use Rattle.world.specs.declared.World.{World}
use Rattle.world.proofs.Demand3.{corners_clear}
use Rattle.world.proofs.Removal.{listed_ids}
use Rattle.world.proofs.Seats.{by_test}
use Rattle.std.specs.Prelude.{Result, Ok, Err}
use Rattle.game_records.specs.declared.CharacterCore.{CharacterCore}
use Rattle.character.specs.declared.Character.{Character}
use Rattle.character.specs.declared.tick.AfterTick.{AfterTick}
use Rattle.game_refusals.specs.declared.Refusal.{Refusal}
use Rattle.game_refusals.specs.declared.Refusal.TheVariants.{TickTooLarge}

-- ---- the lowest
module _ (Fits : ℕ → Type 0) where
  pub none_fits : ((k : ℕ) → Fits k → ⊥) → LowestFirst Fits 0
  none_fits h = record { accepted = (λ e. h, λ g. refl); refused = λ k l. (λ e. absurd (omega (arith, e)), λ f. absurd (h k f.0)) }

  pub lowest_fits : (r : ℕ) → 0 < r → Fits r → ((k : ℕ) → k < r → Fits k → ⊥) → LowestFirst Fits r
  lowest_fits r p f h = record {
    accepted = (λ e. absurd (omega (arith, e)), λ g. absurd (g r f));
    refused = λ k l. (λ e. (subst Fits e f, λ j b. h j (omega (arith, e, b))), λ g. go k g (ltb r k) (ltb k r) refl refl);
  }
    where
      go : (k : ℕ) → Fits k × ((j : ℕ) → j < k → Fits j → ⊥) → (b c : Bool) → ltb r k ≡ b → ltb k r ≡ c → r ≡ k
      go k g true c l m = absurd (g.1 r (ltb-true r k l) f)
      go k g false true l m = absurd (h k (ltb-true k r m) g.0)
      go k g false false l m = let a = ltb-false r k l in let b = ltb-false k r m in omega (arith, a, b)

-- ---- seats
pub place_is : (n : ℕ) (z : ℤ) → place_of n z < n → z ≡ pos (place_of n z)
unfolding place_of
place_is n (pos k) = go (ltb k n)
  where
    go : (b : Bool) → cond b k n < n → pos k ≡ pos (cond b k n)
    go true l = refl
    go false l = absurd (omega arith)
place_is n (negsuc k) = λ l. absurd (omega arith)

pub place_outside : (n : ℕ) (z : ℤ) → n ≤ place_of n z → Outside n z
unfolding place_of
place_outside n z h k l e = let q : place_of n z ≡ k = ap (place_of n) e ∙ ap (λ (b : Bool). cond b k n) (lt-ltb k n l) in omega (arith, h, q)

module _ (w : World) (n : ℕ) (id : ℤ) (l : place_of n id < n) where
  pub seat_present : (slot_at w.slots (place_of n id)).present ≡ true → Present w id
  seat_present p = record { seat = place_of n id; is = place_is n id l; there = p }

  pub seat_absent : (slot_at w.slots (place_of n id)).present ≡ false → Present w id → ⊥
  seat_absent p q = let e : place_of n id ≡ q.seat = ap nat_abs (sym (place_is n id l) ∙ q.is) in true≢false (sym q.there ∙ ap (λ (k : ℕ). (slot_at w.slots k).present) (sym e) ∙ p)

  pub seat_inside : Outside n id → ⊥
  seat_inside o = o (place_of n id) l (place_is n id l)

-- ---- leave and input
module _ (n : ℕ) (w : World) (id : ℤ) where
  pub seat_none : (Before : ℕ → Type 0) → (Before 2 → Outside n id → ⊥) → (Before 8 → Present w id) → (k : ℕ) → Before k → SeatFits n w id k → ⊥
  seat_none B o p k b (fits.SeatFits.no_seat e f) = o (subst B e b) f
  seat_none B o p k b (fits.SeatFits.absent e f) = f (p (subst B e b))

  pub seat_lowest : (r : ℕ) → r ≡ cond (ltb (place_of n id) n) (cond (slot_at w.slots (place_of n id)).present 0 8) 2 → LowestFirst (SeatFits n w id) r
  seat_lowest r e = subst (LowestFirst (SeatFits n w id)) (sym e) (go (ltb (place_of n id) n) (slot_at w.slots (place_of n id)).present refl refl)
    where
      go : (b c : Bool) → ltb (place_of n id) n ≡ b → (slot_at w.slots (place_of n id)).present ≡ c → LowestFirst (SeatFits n w id) (cond b (cond c 0 8) 2)
      go false c l p = lowest_fits _ 2 (omega arith) (fits.SeatFits.no_seat refl (place_outside n id (ltb-false (place_of n id) n l))) (seat_none (λ k. k < 2) (λ b. absurd (omega arith)) (λ b. absurd (omega arith)))
      go true false l p = let h = ltb-true (place_of n id) n l in lowest_fits _ 8 (omega arith) (fits.SeatFits.absent refl (seat_absent w n id h p)) (seat_none (λ k. k < 8) (λ b. seat_inside w n id h) (λ b. absurd (omega arith)))
      go true true l p = let h = ltb-true (place_of n id) n l in none_fits _ (λ k. seat_none (λ j. Unit {0}) (λ b. seat_inside w n id h) (λ b. seat_present w n id h p) k tt)

  seat_number : (u : World) → (cond (ltb (place_of n id) n) (if_present w (place_of n id) u) (refused w 2)).number ≡ cond (ltb (place_of n id) n) (cond (slot_at w.slots (place_of n id)).present 0 8) 2
  seat_number u = go (ltb (place_of n id) n) (slot_at w.slots (place_of n id)).present
    where
      go : (b c : Bool) → (cond b (cond c (accepted u) (refused w 8)) (refused w 2)).number ≡ cond b (cond c 0 8) 2
      go false c = refl
      go true false = refl
      go true true = refl

-- ---- tune
hold_is : (z : ℤ) → is_hold z ≡ true → IsHold z
unfolding is_hold
hold_is (pos k) e = go (leb 1 k) (leb k max_hook_grab_time) refl refl e
  where
    go : (b c : Bool) → leb 1 k ≡ b → leb k max_hook_grab_time ≡ c → (b && c) ≡ true → IsHold (pos k)
    go true true l m q = record { steps = k; is = refl; least = leb-true 1 k l; most = leb-true k max_hook_grab_time m }
    go true false l m q = absurd (true≢false (sym q))
    go false c l m q = absurd (true≢false (sym q))
hold_is (negsuc k) e = absurd (true≢false (sym e))

is_hold_lem : (z : ℤ) → IsHold z → is_hold z ≡ true
unfolding is_hold
is_hold_lem z h = ap is_hold h.is ∙ rw (le-leb 1 h.steps h.least, le-leb h.steps max_hook_grab_time h.most)

module _ (index z : ℤ) where
  abbrev k : ℕ
  k = place_of tuning_count index

  tune_none : (Before : ℕ → Type 0) → (Before 3 → Outside tuning_count index → ⊥) → (Before 16 → index ≡ pos hook_hold → IsHold z) → (j : ℕ) → Before j → TuneFits index z j → ⊥
  tune_none B o h j b (fits.TuneFits.no_tuning e f) = o (subst B e b) f
  tune_none B o h j b (fits.TuneFits.no_hold e i f) = f (h (subst B e b) i)

  known : k < tuning_count → Outside tuning_count index → ⊥
  known l o = o k l (place_is tuning_count index l)

  no_hold : k < tuning_count → may_tune k z ≡ false → TuneFits index z 16
  unfolding may_tune
  no_hold l = go (eqb k hook_hold) refl
    where
      go : (b : Bool) → eqb k hook_hold ≡ b → cond b (is_hold z) true ≡ false → TuneFits index z 16
      go true e m = fits.TuneFits.no_hold refl (place_is tuning_count index l ∙ ap pos (eqb-true k hook_hold e)) (λ h. true≢false (sym (is_hold_lem z h) ∙ m))
      go false e m = absurd (true≢false m)

  takes : may_tune k z ≡ true → index ≡ pos hook_hold → IsHold z
  unfolding may_tune place_of
  takes m e = hold_is z (sym (ap (λ (i : ℤ). may_tune (place_of tuning_count i) z) e) ∙ m)

  tune_lowest : (w : World) → LowestFirst (TuneFits index z) (tune w index z).number
  unfolding tune
  tune_lowest w = go (ltb k tuning_count) (may_tune k z) refl refl
    where
      go : (b c : Bool) → ltb k tuning_count ≡ b → may_tune k z ≡ c → LowestFirst (TuneFits index z) (cond b (cond c (accepted (with_tuning w k z)) (refused w bad_hold)) (refused w bad_tuning)).number
      go false c l m = lowest_fits _ 3 (omega arith) (fits.TuneFits.no_tuning refl (place_outside tuning_count index (ltb-false k tuning_count l))) (tune_none (λ j. j < 3) (λ b. absurd (omega arith)) (λ b. absurd (omega arith)))
      go true false l m = let h = ltb-true k tuning_count l in lowest_fits _ 16 (omega arith) (no_hold h m) (tune_none (λ j. j < 16) (λ b. known h) (λ b. absurd (omega arith)))
      go true true l m = none_fits _ (λ j. tune_none (λ i. Unit {0}) (λ b. known (ltb-true k tuning_count l)) (λ b. takes m) j tt)

-- ---- join
pub map_is : (s : Sides) (ts : List ℕ) → is_map s ts ≡ true → IsMap s ts
map_is s ts e = let m = is_map_lem s ts (subst T (sym e) tt) in record { width = (m.wide, m.narrow); height = (m.high, m.low); bytes = m.bytes }

pub is_no_map : (s : Sides) (ts : List ℕ) → is_map s ts ≡ false → IsMap s ts → ⊥
unfolding is_map is_side
is_no_map s ts e m = true≢false (sym (rw (le-leb 1 _ m.width.0, le-leb _ 1024 m.width.1, le-leb 1 _ m.height.0, le-leb _ 1024 m.height.1, eq-eqb _ _ m.bytes)) ∙ e)

corner_solid : (s : Sides) (ts : List ℕ) (p : vec2) → check_box s ts p character_box ≡ true → CornersClear s ts p → ⊥
unfolding check_box
corner_solid s ts p e c = true≢false (sym e ∙ character_corners solid s ts p ∙ rw (c.right_bottom, c.left_top, c.right_top, c.left_bottom))

module _ (n : ℕ) (s : Sides) (ts : List ℕ) (w : World) (id x y : ℤ) where
  abbrev Far : Type 0
  Far = (100000 < nat_abs x) ⊎ (100000 < nat_abs y)

  far_x : is_in_reach x ≡ false → Far
  unfolding is_in_reach
  far_x e = inl (leb-false (nat_abs x) 100000 e)

  far_y : is_in_reach y ≡ false → Far
  unfolding is_in_reach
  far_y e = inr (leb-false (nat_abs y) 100000 e)

  near : is_in_reach x ≡ true → is_in_reach y ≡ true → Far → ⊥
  unfolding is_in_reach
  near a b f = let l = leb-true (nat_abs x) 100000 a in let m = leb-true (nat_abs y) 100000 b in ⊎_elim (λ q. omega (arith, l, q)) (λ q. omega (arith, m, q)) f

  join_none : (Before : ℕ → Type 0) → (Before 1 → IsMap s ts) → (Before 2 → Outside n id → ⊥) → (Before 4 → Far → ⊥) → (Before 5 → CornersClear s ts (point_of x y)) → (Before 7 → Present w id → ⊥) → (k : ℕ) → Before k → JoinFits n s ts w id x y k → ⊥
  unfolding point_of
  join_none B m o r c p k b (fits.JoinFits.no_map e f) = f (m (subst B e b))
  join_none B m o r c p k b (fits.JoinFits.no_seat e f) = o (subst B e b) f
  join_none B m o r c p k b (fits.JoinFits.far e f) = r (subst B e b) f
  join_none B m o r c p k b (fits.JoinFits.box_not_clear e f) = f (c (subst B e b))
  join_none B m o r c p k b (fits.JoinFits.present e f) = p (subst B e b) f

  abbrev at : ℕ
  at = place_of n id

  abbrev Lowest : ℕ → Type 0
  Lowest = LowestFirst (JoinFits n s ts w id x y)

  join-at : IsMap s ts → at < n → is_in_reach x ≡ true → is_in_reach y ≡ true → Lowest (join_at w s ts at (point_of x y)).number
  unfolding join_at point_of
  join-at m l a b = go (check_box s ts (point_of x y) character_box) (slot_at w.slots at).present refl refl
    where
      go : (c d : Bool) → check_box s ts (point_of x y) character_box ≡ c → (slot_at w.slots at).present ≡ d → Lowest (cond c (refused w 5) (cond d (refused w 7) (accepted (with_slot w at (joined_slot (point_of x y)))))).number
      go true d e p = lowest_fits _ 5 (omega arith) (fits.JoinFits.box_not_clear refl (corner_solid s ts (point_of x y) e)) (join_none (λ k. k < 5) (λ q. m) (λ q. seat_inside w n id l) (λ q. near a b) (λ q. absurd (omega arith)) (λ q. absurd (omega arith)))
      go false true e p = lowest_fits _ 7 (omega arith) (fits.JoinFits.present refl (seat_present w n id l p)) (join_none (λ k. k < 7) (λ q. m) (λ q. seat_inside w n id l) (λ q. near a b) (λ q. corners_clear s ts (point_of x y) e) (λ q. absurd (omega arith)))
      go false false e p = none_fits _ (λ k. join_none (λ j. Unit {0}) (λ q. m) (λ q. seat_inside w n id l) (λ q. near a b) (λ q. corners_clear s ts (point_of x y) e) (λ q. seat_absent w n id l p) k tt)

  join_lowest : Lowest (join n w s ts id x y).number
  unfolding join
  join_lowest = go (is_map s ts) (ltb at n) (is_in_reach x) (is_in_reach y) refl refl refl refl
    where
      far : IsMap s ts → at < n → Far → Lowest 4
      far m l f = lowest_fits _ 4 (omega arith) (fits.JoinFits.far refl f) (join_none (λ k. k < 4) (λ q. m) (λ q. seat_inside w n id l) (λ q. absurd (omega arith)) (λ q. absurd (omega arith)) (λ q. absurd (omega arith)))

      go : (b c d e : Bool) → is_map s ts ≡ b → ltb at n ≡ c → is_in_reach x ≡ d → is_in_reach y ≡ e → Lowest (cond b (cond c (cond (d && e) (join_at w s ts at (point_of x y)) (refused w 4)) (refused w 2)) (refused w 1)).number
      go false c d e m l p q = lowest_fits _ 1 (omega arith) (fits.JoinFits.no_map refl (is_no_map s ts m)) (join_none (λ k. k < 1) (λ q. absurd (omega arith)) (λ q. absurd (omega arith)) (λ q. absurd (omega arith)) (λ q. absurd (omega arith)) (λ q. absurd (omega arith)))
      go true false d e m l p q = lowest_fits _ 2 (omega arith) (fits.JoinFits.no_seat refl (place_outside n id (ltb-false at n l))) (join_none (λ k. k < 2) (λ q. map_is s ts m) (λ q. absurd (omega arith)) (λ q. absurd (omega arith)) (λ q. absurd (omega arith)) (λ q. absurd (omega arith)))
      go true true false e m l p q = far (map_is s ts m) (ltb-true at n l) (far_x p)
      go true true true false m l p q = far (map_is s ts m) (ltb-true at n l) (far_y q)
      go true true true true m l p q = join-at (map_is s ts m) (ltb-true at n l) p q

-- ---- step
module _ (n : ℕ) (s : Sides) (ts : List ℕ) where
  -- a tick or a move that is refused is so with 9 or 10
  tick_late : (t : Tuning) (j : ℕ) (us : List Slot) → Unit {0} → Ends (λ vs. Unit {0}) (λ r. 1 < r) (tick_turn n s ts t j us)
  tick_late t j us h = let x = slot_at us j in by_test (Ends (λ vs. Unit {0}) (λ r. 1 < r)) x.present (λ p. ticks (tick_at n x.character j us s ts x.input t)) (λ p. tt)
    where
      ticks : (a : Result AfterTick Refusal) → Ends (λ vs. Unit {0}) (λ r. 1 < r) (after_tick us j a)
      ticks (Err e) = omega arith
      ticks (Ok a) = tt

  move_late : (t : Tuning) (j : ℕ) (m : Moving) → Unit {0} → Ends (λ o. Unit {0}) (λ r. 1 < r) (move_turn n s ts t j m)
  unfolding record_of
  move_late t j m h = by_test (Ends (λ o. Unit {0}) (λ r. 1 < r)) (slot_at m.slots j).present (λ p. moves (move_in n s ts t m.slots j)) (λ p. tt)
    where
      recorded : (o : Result CharacterCore Refusal) → Ends (λ o. Unit {0}) (λ r. 1 < r) (publish m j (of_net o))
      recorded (Err e) = omega arith
      recorded (Ok c) = tt

      moves : (a : Result Character Refusal) → Ends (λ o. Unit {0}) (λ r. 1 < r) (publish m j (record_of a))
      moves (Err e) = omega arith
      moves (Ok c) = recorded (to_net c)

  module _ (w : World) where
    abbrev Late : Stepped → Type 0
    Late a = a.number ≡ 1 → ⊥

    moved-late : (a : Turn Moving ℕ) → Ends (λ m. Unit {0}) (λ r. 1 < r) a → Late (step_answer n w s ts a)
    moved-late (more m) h e = omega (arith, e)
    moved-late (stop r) h e = omega (arith, h, e)

    ticked-late : (t : Tuning) (a : Turn (List Slot) ℕ) → Ends (λ us. Unit {0}) (λ r. 1 < r) a → Late (step_answer n w s ts (next (λ us. move_all n us s ts t) a))
    unfolding move_all
    ticked-late t (more us) h = moved-late (move_all n us s ts t) (run-kept (move_turn n s ts t) (λ i m. Unit {0}) (λ r. 1 < r) (move_late t) n 0 (moving_from n us) tt)
    ticked-late t (stop r) h = moved-late (stop r) h

    step_map : ((step n w s ts).number ≡ bad_map) ↔ (IsMap s ts → ⊥)
    unfolding step step_on tick_all
    step_map = let t = tuning_of w.tunings in by_test (λ (a : Stepped). (a.number ≡ bad_map) ↔ (IsMap s ts → ⊥)) (is_map s ts) (λ e. (λ q. absurd (ticked-late t (tick_all n w.slots s ts t) (run-kept (tick_turn n s ts t) (λ i us. Unit {0}) (λ r. 1 < r) (tick_late t) n 0 w.slots tt) q), λ h. absurd (h (map_is s ts e)))) (λ e. (λ q. is_no_map s ts e, λ h. refl))

-- ---- a refused call tells its number alone
module _ (n : ℕ) where
  -- what every answer tells but that of an accepted step
  untold : (r : ℕ) (w : World) → Untold (step_refused n w r)
  untold r w = record { records = replicate_every (λ p. p.present ≡ false) n unpublished unpublished refl refl; removed = listed_ids n [] }

  abbrev Alone : Stepped → Type 0
  Alone a = (a.number ≡ 0 → ⊥) → Untold a

  module _ (s : Sides) (ts : List ℕ) (w : World) where
    answer-alone : (a : Turn Moving ℕ) → Alone (step_answer n w s ts a)
    answer-alone (more m) h = absurd (h refl)
    answer-alone (stop k) h = untold k w

    step-alone : Alone (step n w s ts)
    unfolding step step_on
    step-alone = let t = tuning_of w.tunings in by_test Alone (is_map s ts) (λ e. answer-alone (next (λ us. move_all n us s ts t) (tick_all n w.slots s ts t))) (λ e h. untold bad_map w)

    pub call-alone : (c : Call) → Alone (ran n s ts w c)
    call-alone (Join id x y) h = untold (join n w s ts id x y).number (join n w s ts id x y).world
    call-alone (Leave id) h = untold (leave n w id).number (leave n w id).world
    call-alone (Input id d x y j k) h = untold (input n w id (input_of d x y j k)).number (input n w id (input_of d x y j k)).world
    call-alone Step h = step-alone h
    call-alone (Tune index z) h = untold (tune w index z).number (tune w index z).world

-- ---- the theorem
pub answers : (n : ℕ) → Answers n
unfolding leave input
answers n = record {
  join = join_lowest n;
  leave = λ s ts w id. seat_lowest n w id _ (seat_number n w id _);
  input = λ s ts w id d x y j h. seat_lowest n w id _ (seat_number n w id _);
  tune = λ s ts w index z. tune_lowest index z w;
  step = step_map n;
  alone = call-alone n;
}
