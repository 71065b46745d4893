-- Those who are gathered answer for all: whoever is left out is close at no turn of the player walk. Assumes nothing.
use mathlib.Core.Path.{◌≡◌, refl, sym, ap, ◌∙◌}
use mathlib.Core.Bool.{Bool, false, cond}
use mathlib.Core.List.{List}
use Prim.Native.Nat.{ℕ, zero, suc, ◌+◌, ◌≤◌, ◌<◌}
use native.Mathlib.Numerals.{add-one}
use native.Mathlib.Omega.{arith}
use lib.IntN.{pos}
use lib.ListN.{length, set}
use lib.Seq.{get_or-set_same, get_or-set_other}
use lib.Ieee.{Float, nan, binary32, div}
use Rattle.base_turns.specs.Turns.{Turn, more, stop, next, run}
use Rattle.base_turns.proofs.Last.{run_last}
use Rattle.num_convert.specs.Convert.{i32_to_f32}
use Rattle.num_vec2.specs.Vec2.{vdistance, vmix}
use Rattle.num_vec2.specs.declared.vec2.{vec2}
use Rattle.character_walk.specs.Touching.{touches}
use Rattle.character_walk.specs.Walking.{player_turns, rest_at}
use Rattle.num_order.proofs.Parts.{part}
use Rattle.character_walk.proofs.Mixed as mixed
use Rattle.character.specs.declared.Slot.{Slot}
use Rattle.character.specs.Places.{place_at}
use Rattle.character.specs.Tick.{slot_at}
use Rattle.character.specs.Walk.{is_close, slot_turn, walk_turn, or_to, walk_among}
use Rattle.character_near.specs.Near.{near_turn, near_walk_turn, walk_near}
use Rattle.character.specs.Near.{Asked}

-- ---- a walk whose turns are another's
module _ {R : Type 0} where
  -- a turn that goes on changes nothing
  goes_on_lem : (f : ℕ → Unit {0} → Turn (Unit {0}) R) (j : ℕ) → f j tt ≡ more tt → (t : Turn (Unit {0}) R) → next (f j) t ≡ t
  goes_on_lem f j h (more u) = h
  goes_on_lem f j h (stop r) = refl

  next_same : (f g : Unit {0} → Turn (Unit {0}) R) → f tt ≡ g tt → (t : Turn (Unit {0}) R) → next f t ≡ next g t
  next_same f g h (more u) = h
  next_same f g h (stop r) = refl

  last_turn : (f : ℕ → Unit {0} → Turn (Unit {0}) R) (j : ℕ) → run f (j + 1) 0 tt ≡ next (f j) (run f j 0 tt)
  last_turn f j = ap (λ (n : ℕ). run f n 0 tt) (add-one j) ∙ run_last f j 0 tt ∙ ap (λ (n : ℕ). next (f n) (run f j 0 tt)) (omega arith)

next_alike : {S R : Type 0} (f g : S → Turn S R) → ((u : S) → f u ≡ g u) → (t : Turn S R) → next f t ≡ next g t
next_alike f g h (more u) = h u
next_alike f g h (stop r) = refl

-- up to the index k
run_same : {S R : Type 0} (f g : ℕ → S → Turn S R) (k : ℕ) → ((i : ℕ) (s : S) → i < k → f i s ≡ g i s) → (n i : ℕ) (s : S) → n + i ≤ k → run f n i s ≡ run g n i s
unfolding run
run_same f g k h zero i s l = refl
run_same f g k h (suc n) i s l = ap (next (run f n (suc i))) (h i s (omega arith)) ∙ next_alike (run f n (suc i)) (run g n (suc i)) (λ u. run_same f g k h n (suc i) u (omega arith)) (g i s)

-- ---- a place that is written
place_same : (xs ys : List Float) (m : ℕ) (q : vec2) → m < length xs → m < length ys → place_at (set xs m q.x) (set ys m q.y) m ≡ q
place_same xs ys m q w v = simp (get_or-set_same xs m q.x nan w, get_or-set_same ys m q.y nan v)

place_other : (xs ys : List Float) (m n : ℕ) (q : vec2) → (n ≡ m → ⊥) → place_at (set xs m q.x) (set ys m q.y) n ≡ place_at xs ys n
place_other xs ys m n q h = simp (get_or-set_other xs m n q.x nan h, get_or-set_other ys m n q.y nan h)

-- ---- the places that are asked, slot by slot
module _ (ss : List Slot) (id : ℕ) (from end : vec2) where
  pub asked_none : (xs ys : List Float) → Asked ss id from end 0 0 xs ys
  unfolding run
  asked_none xs ys = record { same = λ to z i last l. refl }

  -- the slot j is close at no turn
  pub asked_past : (j m : ℕ) (xs ys : List Float) → ((to : vec2) → end ≡ mixed.end from to → (i : ℕ) → i < player_turns (vdistance from to) → is_close (slot_at ss j) id j (vmix from to (part from to i)) ≡ false) → Asked ss id from end j m xs ys → Asked ss id from end (j + 1) m xs ys
  asked_past j m xs ys h k = record {
    same = λ to z i last l.
        let f = part from to i in
        let p = vmix from to f in
        let s = slot_turn ss id from to last f p in
        last_turn s j
        ∙ goes_on_lem s j (ap (λ (b : Bool). cond b (stop (rest_at f last from to p (slot_at ss j).character.pos)) (more tt)) (h to z i l)) (run s j 0 tt)
        ∙ k.same to z i last l;
  }

  -- or its place is one more to ask
  pub asked_more : (j m : ℕ) (xs ys : List Float) → m < length xs → m < length ys → ((p : vec2) → is_close (slot_at ss j) id j p ≡ touches p (slot_at ss j).character.pos) → Asked ss id from end j m xs ys → Asked ss id from end (j + 1) (m + 1) (set xs m (slot_at ss j).character.pos.x) (set ys m (slot_at ss j).character.pos.y)
  asked_more j m xs ys w v h k = record {
    same = λ to z i last l.
        let f = part from to i in
        let p = vmix from to f in
        let q = (slot_at ss j).character.pos in
        let s = slot_turn ss id from to last f p in
        let old = near_turn xs ys from to last f p in
        let new = near_turn (set xs m q.x) (set ys m q.y) from to last f p in
        let one : vec2 → Turn (Unit {0}) vec2 = λ c. cond (touches p c) (stop (rest_at f last from to p c)) (more tt) in
        last_turn s j
        ∙ ap (next (s j)) (k.same to z i last l ∙ run_same old new m (λ n u y. ap one (sym (place_other xs ys m n q (λ e. omega arith)))) m 0 tt (omega arith))
        ∙ next_same (s j) (new m) (ap (λ (b : Bool). cond b (stop (rest_at f last from to p q)) (more tt)) (h p) ∙ ap one (sym (place_same xs ys m q w v))) (run new m 0 tt)
        ∙ sym (last_turn new m);
  }

-- ---- the walk
pub walk_gathered : (n : ℕ) (ss : List Slot) (id : ℕ) (from to : vec2) (m : ℕ) (xs ys : List Float) → Asked ss id from (mixed.end from to) n m xs ys → walk_among n ss id from to (vdistance from to) (player_turns (vdistance from to)) ≡ walk_near m xs ys from to (vdistance from to) (player_turns (vdistance from to))
unfolding walk_among walk_near
walk_gathered n ss id from to m xs ys k =
    let d = vdistance from to in
    let t = player_turns d in
    ap (or_to to) (run_same (walk_turn n ss id from to d) (near_walk_turn m xs ys from to d) t (λ i last l. ap (next (λ u. more (vmix from to (part from to i)))) (k.same to refl i last l)) t 0 from (omega arith))

-- where nobody is asked it goes to its end
pub walk-alone : (n : ℕ) (ss : List Slot) (id : ℕ) (from to : vec2) (m : ℕ) (xs ys : List Float) → Asked ss id from (mixed.end from to) n m xs ys → m ≡ 0 → walk_among n ss id from to (vdistance from to) (player_turns (vdistance from to)) ≡ to
unfolding walk_near run
walk-alone n ss id from to m xs ys k z = walk_gathered n ss id from to m xs ys k ∙ ap (λ (l : ℕ). walk_near l xs ys from to d (player_turns d)) z ∙ go (player_turns d) 0 from
  where
    d : Float
    d = vdistance from to

    go : (l i : ℕ) (last : vec2) → or_to to (run (near_walk_turn 0 xs ys from to d) l i last) ≡ to
    go zero i last = refl
    go (suc l) i last = go l (suc i) (vmix from to (div binary32 (i32_to_f32 (pos i)) d))
