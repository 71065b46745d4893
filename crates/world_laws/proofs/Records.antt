-- What each number of a record is made of. Assumes nothing.
use Prim.Native.Nat.{ℕ, zero, suc, ◌+◌, ◌≤◌, ◌<◌}
use native.Mathlib.Omega.{arith}
use mathlib.Core.Bool.{Bool, true, false, cond}
use mathlib.Core.List.{List}
use mathlib.Core.Path.{◌≡◌, refl, sym, ap, ◌∙◌, subst}
use denote.Floats.{passes}
use lib.Dec.{T, leb}
use lib.IntN.{ℤ, pos, negsuc, nat_abs}
use lib.Signed.{le_z_yes}
use borrow.Author.Tests.{le-leb}
use Rattle.base_turns.proofs.Kept.{Ends}
use Rattle.num_convert.specs.Convert.{to256ths}
use Rattle.num_convert.specs.Whole.{round_to_i32}
use Rattle.num_convert.proofs.Scaled.{from256ths-back}
use Rattle.num_convert.proofs.Wholes.{few_digits}
use Rattle.aim_rule.specs.Angle.{net_angle, upper_angle}
use Rattle.aim_rule.specs.Scan.{is_zero, upright_angle}
use Rattle.aim_rule.proofs.Quarters.{net_size}
use Rattle.aim_rule.proofs.Search.{angle_largest}
use Rattle.game_input.specs.Direction.{from_int, as_int, angle_to_net, angle_from_net}
use Rattle.game_input.specs.Inputs.{move_direction, aim}
use Rattle.game_input.specs.declared.direction.MoveDirection.{MoveDirection}
use Rattle.game_input.specs.declared.direction.MoveDirection.TheVariants.{Left, None, Right}
use Rattle.game_records.specs.declared.CharacterCore.{CharacterCore}
use Rattle.game_records.specs.declared.PlayerInput.{PlayerInput}
use Rattle.game_tuning.specs.Tuning.{tuning_of}
use Rattle.game_tuning.specs.declared.Tuning.{Tuning}
use Rattle.map_tiles.specs.declared.tiles.Sides.{Sides}
use Rattle.character_hook.specs.Hook.{net_state, net_pos, net_dir, tick_of, net_hooked_player}
use Rattle.character_hook.specs.declared.hook.Hook.{Hook}
use Rattle.character_hook.specs.declared.hook.Hook.TheVariants.{Retracted, Idle, Flying, Grabbed, Attached, Retracting0, Retracting1, Retracting2}
use Rattle.character_motion.specs.Controls.{grounded}
use Rattle.character.specs.Records.{net_jumped, core_of}
use Rattle.character.specs.Tick.{slot_at, steer, flight, hooked, ticked, tick_at, ticked_slot}
use Rattle.character.specs.declared.Character.{Character}
use Rattle.character.specs.declared.Slot.{Slot}
use Rattle.character_laws.proofs.Back.{record_of_lem}
use Rattle.character_laws.proofs.Others.{Then, SameButVel}
use Rattle.world.specs.Calls.{place_of}
use Rattle.world.specs.Demand3.{record_at}
use Rattle.world.specs.Readers.{read_of}
use Rattle.world.specs.Step.{tick_all, step}
use Rattle.world.specs.declared.Published.{Published}
use Rattle.world.specs.declared.World.{World}
use Rattle.world.specs.declared.reading.Query.TheVariants as query
use Rattle.world.specs.ReadAnswer as reading
use Rattle.world.proofs.Answers.{place_is}
use Rattle.world.proofs.Readings.{record_read}
use Rattle.world_laws.specs.Records.{direction_number, jump_number, HookNumbers, HookMadeOf, MadeOf, Points, TakenFrom, RecordsMade}
use Rattle.world_laws.proofs.Left.{step-taken}
use Rattle.world_laws.proofs.Ticks.{ticks_own}
use Rattle.std.specs.Prelude.{Result, Ok, Err}
use Rattle.character.specs.declared.tick.AfterTick.{AfterTick}
use Rattle.game_refusals.specs.declared.Refusal.{Refusal}

-- ---- the record of a character
numbers : (c : Character) (h : Hook) → c.hook ≡ h → HookNumbers (core_of c) (net_state h) (net_hooked_player h) (pos (tick_of h)) (net_pos h) (net_dir h)
unfolding core_of to256ths
numbers c h e = record {
  hook_state = ap net_state e;
  hooked_player = ap net_hooked_player e;
  hook_tick = ap (λ (x : Hook). pos (tick_of x)) e;
  hook_x = ap (λ (x : Hook). round_to_i32 (net_pos x).x) e;
  hook_y = ap (λ (x : Hook). round_to_i32 (net_pos x).y) e;
  hook_dx = ap (λ (x : Hook). to256ths (net_dir x).x) e;
  hook_dy = ap (λ (x : Hook). to256ths (net_dir x).y) e;
}

hook_made : (c : Character) (h : Hook) → c.hook ≡ h → HookMadeOf (core_of c) h
unfolding net_state net_hooked_player tick_of net_pos net_dir
hook_made c Retracted e = numbers c Retracted e
hook_made c Idle e = numbers c Idle e
hook_made c (Flying p d) e = numbers c (Flying p d) e
hook_made c (Grabbed k t) e = numbers c (Grabbed k t) e
hook_made c (Attached p) e = numbers c (Attached p) e
hook_made c (Retracting0 p) e = numbers c (Retracting0 p) e
hook_made c (Retracting1 p) e = numbers c (Retracting1 p) e
hook_made c (Retracting2 p) e = numbers c (Retracting2 p) e

direction_made : (d : MoveDirection) → as_int d ≡ direction_number d
unfolding as_int
direction_made Left = refl
direction_made None = refl
direction_made Right = refl

jump_made : (a b : Bool) → pos (cond a 2 0 + cond b 1 0) ≡ jump_number a b
jump_made true true = refl
jump_made true false = refl
jump_made false true = refl
jump_made false false = refl

pub made_of : (c : Character) → MadeOf c (core_of c)
unfolding core_of to256ths angle_to_net net_jumped
made_of c = record {
  tick = refl;
  x = refl;
  y = refl;
  vel_x = refl;
  vel_y = refl;
  angle = refl;
  direction = direction_made c.move_direction;
  jumped = jump_made c.used_airjump c.jumped_already;
  hook = hook_made c c.hook refl;
}

-- ---- the aim
angle_small : (x y : ℤ) → nat_abs (net_angle x y) ≤ 804
unfolding upright_angle
angle_small x y = subst (λ (k : ℕ). k ≤ 804) (sym (net_size x y)) (go (is_zero x (nat_abs y)))
  where
    go : (b : Bool) → cond b 0 (upper_angle x (pos (nat_abs y))) ≤ 804
    go true = omega arith
    go false = (angle_largest x (nat_abs y)).within

aim-back : (i : PlayerInput) → angle_to_net (aim i) ≡ net_angle i.target_x i.target_y
unfolding angle_to_net aim angle_from_net
aim-back i =
    let z = net_angle i.target_x i.target_y in
    let l : nat_abs z ≤ 804 = angle_small i.target_x i.target_y in
    from256ths-back z (few_digits (nat_abs z) (omega (arith, l))) (omega (arith, l)) 0 (omega arith)

-- ---- the direction
pointed : (d : ℤ) → Points (as_int (from_int d)) d
unfolding as_int from_int
pointed (negsuc n) = record { left = λ e. le_z_yes (below n); none = λ e. absurd (apart e); right = λ e. absurd (far e) }
  where
    below : (k : ℕ) → T (leb 0 k)
    below k = passes (leb 0 k) (le-leb 0 k (omega arith))

    apart : negsuc 0 ≡ pos 0 → ⊥
    apart e = let z : ◌≡◌ {A = ℕ} 0 1 = cc in omega arith

    far : negsuc 0 ≡ pos 1 → ⊥
    far e = let z : ◌≡◌ {A = ℕ} 0 1 = cc in omega arith
pointed (pos zero) = record { left = λ e. absurd (apart e); none = λ e. refl; right = λ e. absurd (far e) }
  where
    apart : pos 0 ≡ negsuc 0 → ⊥
    apart e = let z : ◌≡◌ {A = ℕ} 0 1 = cc in omega arith

    far : pos 0 ≡ pos 1 → ⊥
    far e = let z : ◌≡◌ {A = ℕ} 0 1 = cc in omega arith
pointed (pos (suc n)) = record { left = λ e. absurd (apart e); none = λ e. absurd (far e); right = λ e. le_z_yes (passes (leb 1 (suc n)) (le-leb 1 (suc n) (omega arith))) }
  where
    apart : pos 1 ≡ negsuc 0 → ⊥
    apart e = let z : ◌≡◌ {A = ℕ} 0 1 = cc in omega arith

    far : pos 1 ≡ pos 0 → ⊥
    far e = let z : ◌≡◌ {A = ℕ} 0 1 = cc in omega arith

-- ---- the ticks
-- a tick aims and points as its input says
tick_steers : (n : ℕ) (c : Character) (id : ℕ) (ss : List Slot) (s : Sides) (ts : List ℕ) (i : PlayerInput) (t : Tuning) → Then (λ a. (a.me.angle ≡ aim i) × (a.me.move_direction ≡ move_direction i)) (tick_at n c id ss s ts i t)
unfolding tick_at steer hooked
tick_steers n c id ss s ts i t = go (steer c g i t) refl refl (flight n (steer c g i t).hook c.pos id ss s ts t)
  where
    g : Bool
    g = grounded s ts c.pos

    go : (d : Character) → d.angle ≡ aim i → d.move_direction ≡ move_direction i → (f : Result Hook Refusal) → Then (λ a. (a.me.angle ≡ aim i) × (a.me.move_direction ≡ move_direction i)) (ticked n d g id ss t f)
    go d a b (Err e) = tt
    go d a b (Ok h) = (a, b)

module _ (i : PlayerInput) where
  record Waiting (x : Slot) : Type 0 where
    present : x.present ≡ true
    input : x.input ≡ i

  abbrev Steered : Slot → Type 0
  Steered x = (x.character.angle ≡ aim i) × (x.character.move_direction ≡ move_direction i)

  ticks_steer : (n : ℕ) (s : Sides) (ts : List ℕ) (t : Tuning) (j : ℕ) → j < n → (us : List Slot) → Waiting (slot_at us j) → Ends (λ vs. Steered (slot_at vs j)) (λ q. Unit {0}) (tick_all n us s ts t)
  ticks_steer n s ts t j = ticks_own n s ts t j Waiting Steered (λ x h. h.present)
      (λ x y e h. subst Waiting (sym e) (record { present = h.present; input = h.input })) (λ x y e h. subst Steered (sym e) h)
      (λ us h. own us (tick_at n (slot_at us j).character j us s ts (slot_at us j).input t) (rw h.input (tick_steers n (slot_at us j).character j us s ts i t)))
    where
      own : (us : List Slot) (r : Result AfterTick Refusal) → Then (λ a. (a.me.angle ≡ aim i) × (a.me.move_direction ≡ move_direction i)) r → Then (λ a. (x : Slot) → SameButVel (slot_at us j) x → Steered (ticked_slot x a)) r
      own us (Err why) e = tt
      own us (Ok a) e = λ x q. e

-- ---- the claims
step_made : (n : ℕ) (s : Sides) (ts : List ℕ) (w : World) (j : ℕ) → (step n w s ts).number ≡ 0 → j < n → (slot_at w.slots j).present ≡ true → TakenFrom n w s ts j (record_at (step n w s ts).records j).core (slot_at w.slots j).input
unfolding core_of move_direction
step_made n s ts w j e l p =
    let i = (slot_at w.slots j).input in
    let r = step-taken n w s ts _ _ (ticks_steer i n s ts (tuning_of w.tunings) j l w.slots (record { present = p; input = refl })) e in
    let q = r.taken j l (r.same.present j ∙ p) in
    let core : (record_at (step n w s ts).records j).core ≡ core_of q.made = ap (λ (x : Published). x.core) q.is in
    let angle : (core_of q.made).angle ≡ net_angle i.target_x i.target_y = ap (λ (c : Character). angle_to_net c.angle) q.rest ∙ ap angle_to_net r.ticked.0 ∙ aim-back i in
    let direction : as_int (from_int i.direction) ≡ (core_of q.made).direction = sym (ap (λ (c : Character). as_int c.move_direction) q.rest ∙ ap as_int r.ticked.1) in
    let points : Points (core_of q.made).direction i.direction = subst (λ (z : ℤ). Points z i.direction) direction (pointed i.direction) in
    rw core (record { character = q.made; left = sym (r.left j) ∙ q.left; made = made_of q.made; aimed = angle; points = points })

read_made : (n : ℕ) (w : World) (k : ℕ) (r : CharacterCore) → read_of n w (query.Record (pos k)) ≡ reading.Record r → MadeOf (slot_at w.slots k).character r
read_made n w k r e =
    let h = record_read n w (pos k) r e in
    let q : place_of n (pos k) ≡ k = ap nat_abs (sym (place_is n (pos k) h.inside)) in
    let is : r ≡ core_of (slot_at w.slots k).character = (record_of_lem _ r h.net).0 ∙ ap (λ (j : ℕ). core_of (slot_at w.slots j).character) q in
    rw is (made_of (slot_at w.slots k).character)

pub records_made : (n : ℕ) → RecordsMade n
records_made n = record { step = step_made n; read = read_made n }
