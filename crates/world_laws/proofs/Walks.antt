-- A walk's count, and the numbers of the answers that it decides. Assumes nothing.
use Prim.Native.Nat.{ℕ, zero, suc, ◌+◌, ◌<◌}
use native.Mathlib.Omega.{arith}
use mathlib.Core.Bool.{Bool, true, false, cond, true≢false}
use mathlib.Core.List.{List}
use mathlib.Core.Logic.{◌↔◌}
use mathlib.Core.Path.{◌≡◌, refl, sym, ap, ◌∙◌, subst}
use denote.Floats.{passes, is_true}
use lib.Dec.{leb, ltb}
use lib.Ieee.{Float, binary32, mul, lt, ne}
use lib.IntN.{ℤ, pos, negsuc, ◌+ℤ◌}
use lib.Signed.{le_z_yes}
use borrow.Author.Tests.{leb-true, leb-false, ltb-true, ltb-false, le-leb, lt-ltb}
use Rattle.num_convert.specs.Number.{c0}
use Rattle.num_convert.specs.Whole.{round_to_i32, trunc_to_i32}
use Rattle.num_ramp.specs.Ramp.{velocity_ramp}
use Rattle.num_vec2.specs.Vec2.{vlength, vdistance}
use Rattle.num_vec2.specs.declared.vec2.{vec2}
use Rattle.map_tiles.specs.Box.{character_box}
use Rattle.map_tiles.specs.Map.{count, is_map}
use Rattle.map_tiles.specs.declared.tiles.Sides.{Sides}
use Rattle.map_lines.specs.Limit.{most_turns}
use Rattle.map_lines.specs.Line.{line_turns, line_hit, walk_line, check_line}
use Rattle.map_walks.specs.Move.{least_dist, box_turns, box_turns_taken, walk_box, move_box}
use Rattle.map_walks.specs.Move as boxes
use Rattle.map_walks.specs.declared.moves.Body.{Body}
use Rattle.character_walk.specs.Walking.{c50, unramped, ramped_move, player_turns}
use Rattle.game_records.specs.declared.PlayerInput.{PlayerInput}
use Rattle.game_tuning.specs.Tuning.{tuning_of}
use Rattle.game_tuning.specs.declared.Tuning.{Tuning}
use Rattle.character_hook.specs.Flying.{struck_on, flown}
use Rattle.character_hook.specs.Hooking.{fly, retract}
use Rattle.character_hook.specs.declared.flying.Way.TheVariants as way
use Rattle.character_hook.specs.declared.hook.CharacterId.{CharacterId}
use Rattle.character_hook.specs.declared.hook.Hook.{Hook}
use Rattle.character_hook.specs.declared.hook.Hook.TheVariants.{Retracted, Idle, Flying, Grabbed, Attached, Retracting0, Retracting1, Retracting2}
use Rattle.character_motion.specs.Controls.{grounded}
use Rattle.character.specs.Tick.{steer, caught, flight, ticked, tick_at, tick}
use Rattle.character.specs.declared.Character.{Character}
use Rattle.character.specs.Walk.{walk_among, player_walk, rested, after_box, move_at, move}
use Rattle.character.specs.declared.Slot.{Slot}
use Rattle.world.specs.Answers.{LowestFirst, IsMap}
use Rattle.world.proofs.Answers.{none_fits, lowest_fits, map_is, is_no_map}
use Rattle.world_laws.specs.Walks.{line_count, TooMany, BoxTooFar, WalkTooFar, LineFits, BoxFits, FliesTooFar, hook_fired, TickFits, MoveFits, ramped_vel, WalksRefused}
use Rattle.world_laws.specs.Walks as fits
use Rattle.std.specs.Prelude.{Option, Result, Ok, Err}
use Rattle.map_tiles.specs.declared.point.Tile.{Tile}
use Rattle.game_refusals.specs.declared.Refusal.{Refusal}
use Rattle.game_refusals.specs.declared.Refusal.TheVariants.{BadMap, BadId, TooFar}
use Rattle.game_refusals.specs.Refusals.{number_of_answer}
use Rattle.game_refusals.specs.Refusals.{number_of}
use Rattle.character.proofs.Refused.{line_refused, flight_refused, ramped_refused, player_refused}

-- ---- counts
-- a count of turns is above the limit just where it is too many
many : (z : ℤ) → leb (count z) most_turns ≡ false → TooMany z
many (pos n) e = le_z_yes (passes (leb 65537 n) (le-leb 65537 n (leb-false n most_turns e)))
many (negsuc n) e = absurd (true≢false e)

few : (z : ℤ) → leb (count z) most_turns ≡ true → TooMany z → ⊥
few (pos n) e h = let a = leb-true n most_turns e in let b = leb-true 65537 n (is_true (leb 65537 n) h.le) in omega (arith, a, b)
few (negsuc n) e h = h.le

-- and with the 1 that is added outside
many_more : (z : ℤ) → leb (count z + 1) most_turns ≡ false → TooMany (z +ℤ pos 1)
many_more (pos n) e = le_z_yes (passes (leb 65537 (n + 1)) (le-leb 65537 (n + 1) (leb-false (n + 1) most_turns e)))
many_more (negsuc n) e = absurd (true≢false e)

few_more : (z : ℤ) → leb (count z + 1) most_turns ≡ true → TooMany (z +ℤ pos 1) → ⊥
few_more (pos n) e h = let a = leb-true (n + 1) most_turns e in let b = leb-true 65537 (n + 1) (is_true (leb 65537 (n + 1)) h.le) in omega (arith, a, b)
few_more (negsuc zero) e h = h.le
few_more (negsuc (suc n)) e h = let l : ltb 1 (suc (suc n)) ≡ true = lt-ltb 1 (suc (suc n)) (omega arith) in rw l at h.le

-- ---- `check_line` and `move_box`
line_none : (s : Sides) (ts : List ℕ) (from to : vec2) (Before : ℕ → Type 0) → (Before 1 → IsMap s ts) → (Before 9 → TooMany (line_count from to) → ⊥) → (k : ℕ) → Before k → LineFits s ts from to k → ⊥
line_none s ts from to B m f k b (fits.LineFits.no_map e q) = q (m (subst B e b))
line_none s ts from to B m f k b (fits.LineFits.too_far e q) = f (subst B e b) q

line_number_lem : (s : Sides) (ts : List ℕ) (from to : vec2) → LowestFirst (LineFits s ts from to) (number_of_answer (check_line s ts from to))
unfolding check_line walk_line line_turns
line_number_lem s ts from to = go (is_map s ts) (leb (line_turns (vdistance from to)) most_turns) refl refl
  where
    go : (b c : Bool) → is_map s ts ≡ b → leb (count (line_count from to)) most_turns ≡ c → LowestFirst (LineFits s ts from to) (number_of_answer (cond b ((cond c (Ok (line_hit s ts from to (vdistance from to) (line_turns (vdistance from to)))) (Err TooFar))) (Err BadMap)))
    go false c m l = lowest_fits _ 1 (omega arith) (fits.LineFits.no_map refl (is_no_map s ts m)) (line_none s ts from to (λ k. k < 1) (λ b. absurd (omega arith)) (λ b. absurd (omega arith)))
    go true false m l = lowest_fits _ 9 (omega arith) (fits.LineFits.too_far refl (many (line_count from to) l)) (line_none s ts from to (λ k. k < 9) (λ b. map_is s ts m) (λ b. absurd (omega arith)))
    go true true m l = none_fits _ (λ k. line_none s ts from to (λ j. Unit {0}) (λ b. map_is s ts m) (λ b. few (line_count from to) l) k tt)

box_none : (s : Sides) (ts : List ℕ) (vel : vec2) (Before : ℕ → Type 0) → (Before 1 → IsMap s ts) → (Before 9 → BoxTooFar vel → ⊥) → (k : ℕ) → Before k → BoxFits s ts vel k → ⊥
box_none s ts vel B m f k b (fits.BoxFits.no_map e q) = q (m (subst B e b))
box_none s ts vel B m f k b (fits.BoxFits.too_far e q) = f (subst B e b) q

-- the box's turns are too many just where it is too far
box_many : (vel : vec2) → leb (box_turns (vlength vel)) most_turns ≡ false → BoxTooFar vel
unfolding box_turns
box_many vel = go (lt least_dist (vlength vel)) refl
  where
    go : (b : Bool) → lt least_dist (vlength vel) ≡ b → leb (cond b (count (round_to_i32 (vlength vel)) + 1) 0) most_turns ≡ false → BoxTooFar vel
    go true e l = record { moves = e; many = many_more (round_to_i32 (vlength vel)) l }
    go false e l = absurd (true≢false l)

box_few : (vel : vec2) → leb (box_turns (vlength vel)) most_turns ≡ true → BoxTooFar vel → ⊥
unfolding box_turns
box_few vel l h = few_more (round_to_i32 (vlength vel)) (ap (λ (b : Bool). leb (cond b (count (round_to_i32 (vlength vel)) + 1) 0) most_turns) (sym h.moves) ∙ l) h.many

box_number_lem : (s : Sides) (ts : List ℕ) (at vel box : vec2) → LowestFirst (BoxFits s ts vel) (number_of_answer (move_box s ts at vel box))
unfolding move_box walk_box
box_number_lem s ts at vel box = go (is_map s ts) (leb (box_turns (vlength vel)) most_turns) refl refl
  where
    go : (b c : Bool) → is_map s ts ≡ b → leb (box_turns (vlength vel)) most_turns ≡ c → LowestFirst (BoxFits s ts vel) (number_of_answer (cond b (cond c (Ok (box_turns_taken s ts (record { pos = at; vel = vel }) box (box_turns (vlength vel)))) (Err TooFar)) (Err BadMap)))
    go false c m l = lowest_fits _ 1 (omega arith) (fits.BoxFits.no_map refl (is_no_map s ts m)) (box_none s ts vel (λ k. k < 1) (λ b. absurd (omega arith)) (λ b. absurd (omega arith)))
    go true false m l = lowest_fits _ 9 (omega arith) (fits.BoxFits.too_far refl (box_many vel l)) (box_none s ts vel (λ k. k < 9) (λ b. map_is s ts m) (λ b. absurd (omega arith)))
    go true true m l = none_fits _ (λ k. box_none s ts vel (λ j. Unit {0}) (λ b. map_is s ts m) (λ b. box_few vel l) k tt)

-- ---- the player walk
player_walk_lem : (n : ℕ) (ss : List Slot) (id : ℕ) (from to : vec2) (collision : Float) → (player_walk n ss id from to collision ≡ (Err TooFar)) ↔ WalkTooFar from to collision
unfolding player_walk player_turns
player_walk_lem n ss id from to collision = go (ne collision c0) (leb (player_turns (vdistance from to)) most_turns) refl refl
  where
    near : (p : vec2) → Ok p ≡ (Err TooFar) → ⊥
    near p e = let z : ◌≡◌ {A = ℕ} 0 1 = cc in omega arith

    go : (b c : Bool) → ne collision c0 ≡ b → leb (count (trunc_to_i32 (vdistance from to)) + 1) most_turns ≡ c → (cond b (cond c (Ok (walk_among n ss id from to (vdistance from to) (player_turns (vdistance from to)))) (Err TooFar)) (Ok to) ≡ (Err TooFar)) ↔ WalkTooFar from to collision
    go false c e l = (λ q. absurd (near to q), λ h. absurd (true≢false (sym h.collides ∙ e)))
    go true true e l = (λ q. absurd (near _ q), λ h. absurd (few_more (trunc_to_i32 (vdistance from to)) l h.many))
    go true false e l = (λ q. record { collides = e; many = many_more (trunc_to_i32 (vdistance from to)) l }, λ h. refl)

-- ---- `tick`
line_far : (s : Sides) (ts : List ℕ) (from to : vec2) → (walk_line s ts from to ≡ (Err TooFar)) ↔ TooMany (line_count from to)
unfolding walk_line line_turns
line_far s ts from to = go (leb (count (line_count from to)) most_turns) refl
  where
    met : (h : Option (vec2 × Tile)) → Ok h ≡ (Err TooFar) → ⊥
    met h e = let z : ◌≡◌ {A = ℕ} 0 1 = cc in omega arith

    go : (b : Bool) → leb (count (line_count from to)) most_turns ≡ b → (cond b (Ok (line_hit s ts from to (vdistance from to) (line_turns (vdistance from to)))) (Err TooFar) ≡ (Err TooFar)) ↔ TooMany (line_count from to)
    go true l = (λ e. absurd (met _ e), λ h. absurd (few (line_count from to) l h))
    go false l = (λ e. many (line_count from to) l, λ h. refl)

module _ (n : ℕ) (p : vec2) (id : ℕ) (ss : List Slot) (s : Sides) (ts : List ℕ) (t : Tuning) where
  reaches : (h : Hook) → ◌≡◌ {A = Result Hook Refusal} (Ok h) (Err TooFar) → ⊥
  reaches h e = let z : ◌≡◌ {A = ℕ} 0 1 = cc in omega arith

  -- a hook that does not fly is not too far
  still : (h g : Hook) → ((from d : vec2) → h ≡ Flying from d → ⊥) → caught n (Ok (way.Still g)) id ss t.player_hooking ≡ (Err TooFar) ↔ FliesTooFar h p t
  unfolding caught
  still h g f = (λ e. absurd (reaches g e), λ q. absurd (f q.from q.dir q.flies))

  flight_far : (h : Hook) → (flight n h p id ss s ts t ≡ (Err TooFar)) ↔ FliesTooFar h p t
  unfolding flown caught retract
  flight_far Retracted = still Retracted Retracted (λ from d e. let z : ◌≡◌ {A = ℕ} 0 1 = cc in omega arith)
  flight_far Idle = still Idle Idle (λ from d e. let z : ◌≡◌ {A = ℕ} 0 1 = cc in omega arith)
  flight_far (Flying from d) = go (walk_line s ts from (fly from d p t).to) (line_refused s ts from (fly from d p t).to) (line_far s ts from (fly from d p t).to)
    where
      go : (w : Result (Option (vec2 × Tile)) Refusal) → ((r : Refusal) → w ≡ Err r → r ≡ TooFar) → (w ≡ (Err TooFar)) ↔ TooMany (line_count from (fly from d p t).to) → (caught n (struck_on from (fly from d p t) w) id ss t.player_hooking ≡ (Err TooFar)) ↔ FliesTooFar (Flying from d) p t
      go (Err r) far q = (λ e. record { from = from; dir = d; flies = refl; many = q.0 (ap Err (far r refl)) }, λ h. ap Err (far r refl))
      go (Ok hit) far q = (λ e. absurd (reaches _ e), λ h. absurd (met (q.1 (same h))))
        where
          met : Ok hit ≡ (Err TooFar) → ⊥
          met e = let z : ◌≡◌ {A = ℕ} 0 1 = cc in omega arith

          same : FliesTooFar (Flying from d) p t → TooMany (line_count from (fly from d p t).to)
          same h = let a : from ≡ h.from = cc h.flies in let b : d ≡ h.dir = cc h.flies in rw (a, b) h.many
  flight_far (Grabbed c k) = still (Grabbed c k) (Grabbed c k) (λ from d e. let z : ◌≡◌ {A = ℕ} 0 1 = cc in omega arith)
  flight_far (Attached a) = still (Attached a) (Attached a) (λ from d e. let z : ◌≡◌ {A = ℕ} 0 1 = cc in omega arith)
  flight_far (Retracting0 a) = still (Retracting0 a) (Retracting1 a) (λ from d e. let z : ◌≡◌ {A = ℕ} 0 1 = cc in omega arith)
  flight_far (Retracting1 a) = still (Retracting1 a) (Retracting2 a) (λ from d e. let z : ◌≡◌ {A = ℕ} 0 1 = cc in omega arith)
  flight_far (Retracting2 a) = still (Retracting2 a) Retracted (λ from d e. let z : ◌≡◌ {A = ℕ} 0 1 = cc in omega arith)

module _ (n : ℕ) (c : Character) (id : CharacterId) (ss : List Slot) (s : Sides) (ts : List ℕ) (i : PlayerInput) (tunings : List ℤ) where
  abbrev t : Tuning
  t = tuning_of tunings

  tick_none : (Before : ℕ → Type 0) → (Before 1 → IsMap s ts) → (Before 2 → id.0 < n) → (Before 9 → FliesTooFar (hook_fired c i) c.pos t → ⊥) → (k : ℕ) → Before k → TickFits n c id s ts i t k → ⊥
  tick_none B m l f k b (fits.TickFits.no_map e q) = q (m (subst B e b))
  tick_none B m l f k b (fits.TickFits.no_seat e q) = let h = l (subst B e b) in omega (arith, h)
  tick_none B m l f k b (fits.TickFits.too_far e q) = f (subst B e b) q

  tick_number_lem : LowestFirst (TickFits n c id s ts i t) (number_of_answer (tick n c id ss s ts i tunings))
  unfolding tick tick_at steer
  tick_number_lem = go (is_map s ts) (ltb id.0 n) refl refl
    where
      g : Bool
      g = grounded s ts c.pos

      on : is_map s ts ≡ true → id.0 < n → (f : Result Hook Refusal) → ((r : Refusal) → f ≡ Err r → r ≡ TooFar) → (f ≡ (Err TooFar)) ↔ FliesTooFar (hook_fired c i) c.pos t → LowestFirst (TickFits n c id s ts i t) (number_of_answer (ticked n (steer c g i t) g id.0 ss t f))
      on m l (Err r) far q = subst (LowestFirst (TickFits n c id s ts i t)) (sym (ap number_of (far r refl))) (lowest_fits _ 9 (omega arith) (fits.TickFits.too_far refl (q.0 (ap Err (far r refl)))) (tick_none (λ k. k < 9) (λ b. map_is s ts m) (λ b. l) (λ b. absurd (omega arith))))
      on m l (Ok h) far q = none_fits _ (λ k. tick_none (λ j. Unit {0}) (λ b. map_is s ts m) (λ b. l) (λ b z. reaches n c.pos id.0 ss s ts t h (q.1 z)) k tt)

      go : (b d : Bool) → is_map s ts ≡ b → ltb id.0 n ≡ d → LowestFirst (TickFits n c id s ts i t) (number_of_answer (cond b (cond d (tick_at n c id.0 ss s ts i t) (Err BadId)) (Err BadMap)))
      go false d m l = lowest_fits _ 1 (omega arith) (fits.TickFits.no_map refl (is_no_map s ts m)) (tick_none (λ k. k < 1) (λ b. absurd (omega arith)) (λ b. absurd (omega arith)) (λ b. absurd (omega arith)))
      go true false m l = lowest_fits _ 2 (omega arith) (fits.TickFits.no_seat refl (ltb-false id.0 n l)) (tick_none (λ k. k < 2) (λ b. map_is s ts m) (λ b. absurd (omega arith)) (λ b. absurd (omega arith)))
      go true true m l = on m (ltb-true id.0 n l) (flight n (hook_fired c i) c.pos id.0 ss s ts t) (flight_refused n (hook_fired c i) c.pos id.0 ss s ts t) (flight_far n c.pos id.0 ss s ts t (hook_fired c i))

-- ---- `move_`
box_far : (s : Sides) (ts : List ℕ) (p v box : vec2) → (walk_box s ts p v box ≡ (Err TooFar)) ↔ BoxTooFar v
unfolding walk_box
box_far s ts p v box = go (leb (box_turns (vlength v)) most_turns) refl
  where
    moves : (b : Body) → Ok b ≡ (Err TooFar) → ⊥
    moves b e = let z : ◌≡◌ {A = ℕ} 0 1 = cc in omega arith

    go : (b : Bool) → leb (box_turns (vlength v)) most_turns ≡ b → (cond b (Ok (box_turns_taken s ts (record { pos = p; vel = v }) box (box_turns (vlength v)))) (Err TooFar) ≡ (Err TooFar)) ↔ BoxTooFar v
    go true l = (λ e. absurd (moves _ e), λ h. absurd (box_few v l h))
    go false l = (λ e. box_many v l, λ h. refl)

ramped_far : (s : Sides) (ts : List ℕ) (p v : vec2) (t : Tuning) → (ramped_move s ts p v t ≡ (Err TooFar)) ↔ BoxTooFar (ramped_vel v t)
unfolding ramped_move
ramped_far s ts p v t = go (walk_box s ts p (ramped_vel v t) character_box) (box_far s ts p (ramped_vel v t) character_box)
  where
    ramp : Float
    ramp = velocity_ramp (mul binary32 (vlength v) c50) t.velramp_start t.velramp_range t.velramp_curvature

    moves : (b c : Body) → Ok b ≡ (Err TooFar) → Ok c ≡ (Err TooFar)
    moves b c e = let z : ◌≡◌ {A = ℕ} 0 1 = cc in absurd (omega arith)

    go : (w : Result Body Refusal) → (w ≡ (Err TooFar)) ↔ BoxTooFar (ramped_vel v t) → (unramped ramp w ≡ (Err TooFar)) ↔ BoxTooFar (ramped_vel v t)
    go (Err e) q = q
    go (Ok b) q = (λ e. q.0 (moves _ b e), λ h. moves b _ (q.1 h))

module _ (n : ℕ) (c : Character) (id : CharacterId) (ss : List Slot) (s : Sides) (ts : List ℕ) (tunings : List ℤ) where
  abbrev tuning : Tuning
  tuning = tuning_of tunings

  abbrev Fits : ℕ → Type 0
  Fits = MoveFits n c id s ts tuning

  abbrev WalkFar : Body → Type 0
  WalkFar b = WalkTooFar c.pos b.pos tuning.player_collision

  move_none : (Before : ℕ → Type 0) → (Before 1 → IsMap s ts) → (Before 2 → id.0 < n) → (Before 9 → BoxTooFar (ramped_vel c.vel tuning) → ⊥) → (Before 9 → (b : Body) → ramped_move s ts c.pos c.vel tuning ≡ Ok b → WalkFar b → ⊥) → (k : ℕ) → Before k → Fits k → ⊥
  move_none B m l f g k b (fits.MoveFits.no_map e q) = q (m (subst B e b))
  move_none B m l f g k b (fits.MoveFits.no_seat e q) = let h = l (subst B e b) in omega (arith, h)
  move_none B m l f g k b (fits.MoveFits.box_too_far e q) = f (subst B e b) q
  move_none B m l f g k b (fits.MoveFits.walk_too_far e body r q) = g (subst B e b) body r q

  move_number_lem : LowestFirst Fits (number_of_answer (move n c id ss s ts tunings))
  unfolding move move_at
  move_number_lem = go (is_map s ts) (ltb id.0 n) refl refl
    where
      nine : is_map s ts ≡ true → id.0 < n → Fits 9 → LowestFirst Fits 9
      nine m l f = lowest_fits _ 9 (omega arith) f (move_none (λ k. k < 9) (λ b. map_is s ts m) (λ b. l) (λ b. absurd (omega arith)) (λ b. absurd (omega arith)))

      walks : is_map s ts ≡ true → id.0 < n → (b : Body) → ramped_move s ts c.pos c.vel tuning ≡ Ok b → (BoxTooFar (ramped_vel c.vel tuning) → ⊥) → (w : Result vec2 Refusal) → ((r : Refusal) → w ≡ Err r → r ≡ TooFar) → (w ≡ (Err TooFar)) ↔ WalkFar b → LowestFirst Fits (number_of_answer (rested c b.vel w))
      walks m l b e f (Err r) far q = subst (LowestFirst Fits) (sym (ap number_of (far r refl))) (nine m l (fits.MoveFits.walk_too_far refl b e (q.0 (ap Err (far r refl)))))
      walks m l b e f (Ok p) known q = none_fits _ (λ k. move_none (λ j. Unit {0}) (λ z. map_is s ts m) (λ z. l) (λ z. f) (λ z d r h. far (q.1 (subst WalkFar (same d r) h))) k tt)
        where
          far : Ok p ≡ (Err TooFar) → ⊥
          far z = let o : ◌≡◌ {A = ℕ} 0 1 = cc in omega arith

          same : (d : Body) → ramped_move s ts c.pos c.vel tuning ≡ Ok d → d ≡ b
          same d r = let z : Ok d ≡ Ok b = sym r ∙ e in cc

      boxes : is_map s ts ≡ true → id.0 < n → (w : Result Body Refusal) → ramped_move s ts c.pos c.vel tuning ≡ w → LowestFirst Fits (number_of_answer (after_box n c id.0 ss tuning w))
      boxes m l (Err r) e =
          let far = ramped_refused s ts c.pos c.vel tuning r e in
          subst (LowestFirst Fits) (sym (ap number_of far)) (nine m l (fits.MoveFits.box_too_far refl ((ramped_far s ts c.pos c.vel tuning).0 (e ∙ ap Err far))))
      boxes m l (Ok b) e = walks m l b e (λ h. moves (sym ((ramped_far s ts c.pos c.vel tuning).1 h) ∙ e)) (player_walk n ss id.0 c.pos b.pos tuning.player_collision) (player_refused n ss id.0 c.pos b.pos tuning.player_collision) (player_walk_lem n ss id.0 c.pos b.pos tuning.player_collision)
        where
          moves : (Err TooFar) ≡ Ok b → ⊥
          moves z = let o : ◌≡◌ {A = ℕ} 0 1 = cc in omega arith

      go : (b d : Bool) → is_map s ts ≡ b → ltb id.0 n ≡ d → LowestFirst Fits (number_of_answer (cond b (cond d (move_at n c id.0 ss s ts tuning) (Err BadId)) (Err BadMap)))
      go false d m l = lowest_fits _ 1 (omega arith) (fits.MoveFits.no_map refl (is_no_map s ts m)) (move_none (λ k. k < 1) (λ b. absurd (omega arith)) (λ b. absurd (omega arith)) (λ b. absurd (omega arith)) (λ b. absurd (omega arith)))
      go true false m l = lowest_fits _ 2 (omega arith) (fits.MoveFits.no_seat refl (ltb-false id.0 n l)) (move_none (λ k. k < 2) (λ b. map_is s ts m) (λ b. absurd (omega arith)) (λ b. absurd (omega arith)) (λ b. absurd (omega arith)))
      go true true m l = boxes m (ltb-true id.0 n l) (ramped_move s ts c.pos c.vel tuning) refl

pub walks_refused : WalksRefused
walks_refused = record { line = line_number_lem; box = box_number_lem; player = player_walk_lem; player_only = player_refused; tick = tick_number_lem; move = move_number_lem }
