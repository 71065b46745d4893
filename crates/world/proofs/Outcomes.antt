-- What becomes of a join, a leave, an input and a tune: refused, or under what was tested one world. Assumes nothing.
use Prim.Native.Nat.{ℕ, suc, ◌≤◌, ◌<◌}
use native.Mathlib.Omega.{arith}
use mathlib.Core.Bool.{Bool, true, false, cond, ◌&&◌}
use mathlib.Core.List.{List}
use mathlib.Core.Path.{◌≡◌, refl, sym, ap, ◌∙◌}
use lib.Dec.{eqb, ltb}
use lib.IntN.{ℤ, pos, negsuc}
use borrow.Author.Tests.{ltb-true, leb-true, ne_eqb}
use Rattle.map_tiles.specs.Map.{is_map}
use Rattle.map_tiles.specs.declared.tiles.Sides.{Sides}
use Rattle.map_tiles.specs.Box.{check_box, Clear, character_box}
use Rattle.game_records.specs.declared.PlayerInput.{PlayerInput}
use Rattle.game_refusals.specs.Refusals.{bad_tuning, bad_hold}
use Rattle.game_tuning.specs.Tuning.{tuning_count, may_tune}
use Rattle.character.specs.Slot.{joined_slot, with_input}
use Rattle.character.specs.declared.Slot.{Slot}
use Rattle.character.specs.Tick.{slot_at}
use Rattle.num_convert.specs.Casts.{IsI32}
use Rattle.world.specs.World.{with_slot, with_tuning}
use Rattle.world.specs.Calls.{refused, accepted, place_of, is_in_reach, point_of, join_at, join, if_present, vacate, leave, input, tune}
use Rattle.world.specs.Answered.{Answer}
use Rattle.world.specs.declared.World.{World}

-- a is a refusal that leaves w, or under the facts F it goes on with the world u
pub data Outcome (w u : World) (F : Type 0) (a : Answer) : Type 0 where
  no : (r : ℕ) → a ≡ refused w (suc r) → Outcome w u F a
  yes : F → a ≡ accepted u → Outcome w u F a

-- what w has, and u under those facts, the answer's world has
pub outcome_kept : {F : Type 0} (P : World → Type 0) (w u : World) (a : Answer) → Outcome w u F a → P w → (F → P u) → P a.world
outcome_kept P w u a (no r e) h f = rw e h
outcome_kept P w u a (yes q e) h f = rw e (f q)

-- a coordinate in reach is an i32
pub reach_i32 : (z : ℤ) → is_in_reach z ≡ true → IsI32 z
unfolding is_in_reach
reach_i32 (pos k) e = let h : k ≤ 100000 = leb-true k 100000 e in omega arith
reach_i32 (negsuc k) e = let h : suc k ≤ 100000 = leb-true (suc k) 100000 e in omega arith

-- it is u where the answer is 0, and w where it is not
pub outcome_world : {F : Type 0} (w u : World) (a : Answer) → Outcome w u F a → a.world ≡ cond (eqb a.number 0) u w
outcome_world w u a (no r e) = rw (e, ne_eqb (suc r) 0 (λ q. omega arith))
outcome_world w u a (yes f e) = rw e

-- under those facts
pub outcome_facts : {F : Type 0} (w u : World) (a : Answer) → Outcome w u F a → a.number ≡ 0 → F
outcome_facts w u a (no r e) q = let z : suc r ≡ 0 = sym (ap (λ (b : Answer). b.number) e) ∙ q in absurd (omega arith)
outcome_facts w u a (yes f e) q = f

-- ---- join
module _ (n : ℕ) (w : World) (s : Sides) (ts : List ℕ) where
  -- what an accepted join has been tested for
  pub record Joins (id x y : ℤ) : Type 0 where
    pub seat : place_of n id < n
    pub x-reach : is_in_reach x ≡ true
    pub y-reach : is_in_reach y ≡ true
    pub clear : Clear s ts (point_of x y) character_box

  join-at : (id x y : ℤ) → place_of n id < n → is_in_reach x ≡ true → is_in_reach y ≡ true → Outcome w (with_slot w (place_of n id) (joined_slot (point_of x y))) (Joins id x y) (join_at w s ts (place_of n id) (point_of x y))
  unfolding join_at
  join-at id x y l a b = go (check_box s ts (point_of x y) character_box) (slot_at w.slots (place_of n id)).present refl
    where
      go : (c d : Bool) → check_box s ts (point_of x y) character_box ≡ c → Outcome w (with_slot w (place_of n id) (joined_slot (point_of x y))) (Joins id x y) (cond c (refused w 5) (cond d (refused w 7) (accepted (with_slot w (place_of n id) (joined_slot (point_of x y))))))
      go true d e = no 4 refl
      go false true e = no 6 refl
      go false false e = yes (record { seat = l; x-reach = a; y-reach = b; clear = e }) refl

  pub join_outcome : (id x y : ℤ) → Outcome w (with_slot w (place_of n id) (joined_slot (point_of x y))) (Joins id x y) (join n w s ts id x y)
  unfolding join
  join_outcome id x y = go (is_map s ts) (ltb (place_of n id) n) (is_in_reach x) (is_in_reach y) refl refl refl
    where
      go : (b c d e : Bool) → ltb (place_of n id) n ≡ c → is_in_reach x ≡ d → is_in_reach y ≡ e → Outcome w (with_slot w (place_of n id) (joined_slot (point_of x y))) (Joins id x y) (cond b (cond c (cond (d && e) (join_at w s ts (place_of n id) (point_of x y)) (refused w 4)) (refused w 2)) (refused w 1))
      go false c d e l p q = no 0 refl
      go true false d e l p q = no 1 refl
      go true true false e l p q = no 3 refl
      go true true true false l p q = no 3 refl
      go true true true true l p q = join-at id x y (ltb-true (place_of n id) n l) p q

-- ---- leave and input
module _ (n : ℕ) (w : World) where
  -- the seat is one, and somebody is there
  pub record Seated (id : ℤ) : Type 0 where
    pub seat : place_of n id < n
    pub there : (slot_at w.slots (place_of n id)).present ≡ true

  seated : (id : ℤ) (u : World) → Outcome w u (Seated id) (cond (ltb (place_of n id) n) (if_present w (place_of n id) u) (refused w 2))
  seated id u = go (ltb (place_of n id) n) (slot_at w.slots (place_of n id)).present refl refl
    where
      go : (b c : Bool) → ltb (place_of n id) n ≡ b → (slot_at w.slots (place_of n id)).present ≡ c → Outcome w u (Seated id) (cond b (cond c (accepted u) (refused w 8)) (refused w 2))
      go false c l p = no 1 refl
      go true false l p = no 7 refl
      go true true l p = yes (record { seat = ltb-true (place_of n id) n l; there = p }) refl

  pub leave_outcome : (id : ℤ) → Outcome w (vacate w (place_of n id)) (Seated id) (leave n w id)
  unfolding leave
  leave_outcome id = seated id (vacate w (place_of n id))

  pub input_outcome : (id : ℤ) (i : PlayerInput) → Outcome w (with_slot w (place_of n id) (with_input (slot_at w.slots (place_of n id)) i)) (Seated id) (input n w id i)
  unfolding input
  input_outcome id i = seated id (with_slot w (place_of n id) (with_input (slot_at w.slots (place_of n id)) i))

-- ---- tune
module _ (w : World) (index z : ℤ) where
  abbrev k : ℕ
  k = place_of tuning_count index

  -- what an accepted tune has been tested for
  pub record Tunes : Type 0 where
    pub index-known : k < tuning_count
    pub taken : may_tune k z ≡ true

  pub tune_outcome : Outcome w (with_tuning w k z) Tunes (tune w index z)
  unfolding tune
  tune_outcome = go (ltb k tuning_count) (may_tune k z) refl refl
    where
      go : (b c : Bool) → ltb k tuning_count ≡ b → may_tune k z ≡ c → Outcome w (with_tuning w k z) Tunes (cond b (cond c (accepted (with_tuning w k z)) (refused w bad_hold)) (refused w bad_tuning))
      go false c l p = no 2 refl
      go true false l p = no 15 refl
      go true true l p = yes (record { index-known = ltb-true k tuning_count l; taken = p }) refl

-- ---- in which number a call ends, by who is at the seat that it names
module _ (n : ℕ) (w v : World) (id : ℤ) (same : (slot_at w.slots (place_of n id)).present ≡ (slot_at v.slots (place_of n id)).present) where
  pub join_number : (s : Sides) (ts : List ℕ) (x y : ℤ) → (join n w s ts id x y).number ≡ (join n v s ts id x y).number
  unfolding join join_at
  join_number s ts x y = rw same (go (is_map s ts) (ltb j n) (is_in_reach x && is_in_reach y) (check_box s ts (point_of x y) character_box) (slot_at v.slots j).present)
    where
      j : ℕ
      j = place_of n id

      new : Slot
      new = joined_slot (point_of x y)

      go : (a b c d e : Bool) → (cond a (cond b (cond c (cond d (refused w 5) (cond e (refused w 7) (accepted (with_slot w j new)))) (refused w 4)) (refused w 2)) (refused w 1)).number ≡ (cond a (cond b (cond c (cond d (refused v 5) (cond e (refused v 7) (accepted (with_slot v j new)))) (refused v 4)) (refused v 2)) (refused v 1)).number
      go false b c d e = refl
      go true false c d e = refl
      go true true false d e = refl
      go true true true true e = refl
      go true true true false true = refl
      go true true true false false = refl

  seat_number : (w' v' : World) → (cond (ltb (place_of n id) n) (if_present w (place_of n id) w') (refused w 2)).number ≡ (cond (ltb (place_of n id) n) (if_present v (place_of n id) v') (refused v 2)).number
  seat_number w' v' = rw same (go (ltb (place_of n id) n) (slot_at v.slots (place_of n id)).present)
    where
      go : (a b : Bool) → (cond a (cond b (accepted w') (refused w 8)) (refused w 2)).number ≡ (cond a (cond b (accepted v') (refused v 8)) (refused v 2)).number
      go false b = refl
      go true false = refl
      go true true = refl

  pub leave_number : (leave n w id).number ≡ (leave n v id).number
  unfolding leave
  leave_number = seat_number _ _

  pub input_number : (i : PlayerInput) → (input n w id i).number ≡ (input n v id i).number
  unfolding input
  input_number i = seat_number _ _

pub tune_number : (w v : World) (index z : ℤ) → (tune w index z).number ≡ (tune v index z).number
unfolding tune
tune_number w v index z = let k = place_of tuning_count index in go k (ltb k tuning_count) (may_tune k z)
  where
    go : (k : ℕ) (b c : Bool) → (cond b (cond c (accepted (with_tuning w k z)) (refused w bad_hold)) (refused w bad_tuning)).number ≡ (cond b (cond c (accepted (with_tuning v k z)) (refused v bad_hold)) (refused v bad_tuning)).number
    go k true true = refl
    go k true false = refl
    go k false c = refl
