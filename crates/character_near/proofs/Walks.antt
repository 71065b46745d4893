-- A player walk that is searched place by place ends as the walk turn by turn. Assumes nothing.
use Prim.Native.Nat.{ℕ, zero, suc, ◌+◌, ◌≤◌, ◌<◌}
use mathlib.Core.Bool.{Bool, true, false, cond}
use mathlib.Core.List.{List}
use mathlib.Core.Logic.{⊎_elim}
use mathlib.Core.Path.{◌≡◌, ap, ◌∙◌, subst}
use native.Mathlib.Nat.{eq-or-lt_of_le}
use native.Mathlib.Numerals.{add-one}
use native.Mathlib.Omega.{arith}
use lib.IntN.{pos}
use lib.Ieee.{Float, binary32, div}
use Rattle.base_turns.specs.Turns.{Turn, more, stop, run, next}
use Rattle.base_turns.proofs.Each.{not_both}
use Rattle.base_turns.proofs.Loop.{Left, turn_first, turn_on, turn_off, turn_end}
use Rattle.num_convert.specs.Convert.{i32_to_f32}
use Rattle.num_vec2.specs.declared.vec2.{vec2}
use Rattle.map_lines.specs.Points.{point_at}
use Rattle.character_walk.specs.Walking.{rest_at}
use Rattle.character_aside.specs.First.{FirstTouch}
use Rattle.character_near.specs.Near.{place_at, near_turn, near_walk_turn, or_to, walk_near, point_before}
use Rattle.character_near.specs.Soonest.{touched, Soonest}

module _ (xs ys : List Float) (from to : vec2) (distance : Float) (turns : ℕ) where
  pub soonest_none : Soonest xs ys from to distance turns 0 turns 0
  soonest_none = record { within = omega arith; before = λ i j h l. absurd (not_both 0 j (omega arith) l); place_is = λ h. absurd (not_both turns turns (omega arith) h); place_touched = λ h. absurd (not_both turns turns (omega arith) h); place_first = λ h. absurd (not_both turns turns (omega arith) h) }

  -- a place up to k is one before k, or k
  and_one : (k j : ℕ) → j < k + 1 → {P : Type 0} → (j < k → P) → (j ≡ k → P) → P
  and_one k j h f g = ⊎_elim (λ (e : j ≡ k). g e) (λ (l : j < k). f l) (eq-or-lt_of_le (omega arith))

  -- the place k is touched sooner
  pub soonest_on : {k turn place r : ℕ} → Soonest xs ys from to distance turns k turn place → FirstTouch from to distance (place_at xs ys k) 0 turn r → r < turn → Soonest xs ys from to distance turns (k + 1) r k
  soonest_on {k} {turn} {place} {r} s f h = record {
    within = omega (arith, s.within);
    before = λ i j a b. and_one k j b (λ l. s.before i j (omega arith) l) (λ e. ap (touched xs ys from to distance i) e ∙ f.before i (omega arith) a);
    place_is = λ a. omega arith;
    place_touched = λ a. f.met h;
    place_first = λ a j l. s.before r j h l;
  }

  -- the place k is not
  pub soonest_past : {k turn place r : ℕ} → Soonest xs ys from to distance turns k turn place → FirstTouch from to distance (place_at xs ys k) 0 turn r → turn ≤ r → Soonest xs ys from to distance turns (k + 1) turn place
  soonest_past {k} {turn} {place} {r} s f h = record {
    within = s.within;
    before = λ i j a b. and_one k j b (λ l. s.before i j a l) (λ e. ap (touched xs ys from to distance i) e ∙ f.before i (omega arith) (omega arith));
    place_is = λ a. omega (arith, s.place_is a);
    place_touched = s.place_touched;
    place_first = s.place_first;
  }

  -- ---- the walk
  abbrev part : ℕ → Float
  part i = div binary32 (i32_to_f32 (pos i)) distance

  abbrev asks : ℕ → vec2 → ℕ → Unit {0} → Turn (Unit {0}) vec2
  asks i last = near_turn xs ys from to last (part i) (point_at from to distance i)

  -- turn i touches none of the first k places
  untouched_places : (m i : ℕ) (last : vec2) (k : ℕ) → k ≤ m → ((j : ℕ) → j < k → touched xs ys from to distance i j ≡ false) → Left (asks i last) m k tt (run (asks i last) m 0 tt)
  untouched_places m i last zero l h = turn_first
  untouched_places m i last (suc k) l h =
      subst (λ (n : ℕ). Left (asks i last) m n tt (run (asks i last) m 0 tt)) (add-one k)
      (turn_on (untouched_places m i last k (omega arith) (λ j a. h j (omega arith))) (omega arith) (ap (λ (b : Bool). cond b (stop (rest_at (part i) last from to (point_at from to distance i) (place_at xs ys k))) (more tt)) (h k (omega arith))))

  untouched_turn : (m i : ℕ) (last : vec2) → ((j : ℕ) → j < m → touched xs ys from to distance i j ≡ false) → near_walk_turn m xs ys from to distance i last ≡ more (point_at from to distance i)
  untouched_turn m i last h = ap (next (λ u. more (point_at from to distance i))) (turn_end (untouched_places m i last m (omega arith) h) (omega arith))

  -- the turns before the touch
  untouched_turns : (m turn : ℕ) → turn ≤ turns → ((i j : ℕ) → i < turn → j < m → touched xs ys from to distance i j ≡ false) → Left (near_walk_turn m xs ys from to distance) turns turn (point_before from to distance turn) (run (near_walk_turn m xs ys from to distance) turns 0 from)
  untouched_turns m zero l h = turn_first
  untouched_turns m (suc i) l h =
      subst (λ (n : ℕ). Left (near_walk_turn m xs ys from to distance) turns n (point_at from to distance i) (run (near_walk_turn m xs ys from to distance) turns 0 from)) (add-one i)
      (turn_on (untouched_turns m i (omega arith) (λ a j u v. h a j (omega arith) v)) (omega arith) (untouched_turn m i (point_before from to distance i) (λ j v. h i j (omega arith) v)))

  -- no turn touches a place
  pub walk_through : {m turn place : ℕ} → Soonest xs ys from to distance turns m turn place → turns ≤ turn → walk_near m xs ys from to distance turns ≡ to
  unfolding walk_near
  walk_through {m} {turn} {place} s h = ap (or_to to) (turn_end (untouched_turns m turns (omega arith) (λ i j a b. s.before i j (omega arith) b)) (omega arith))

  -- a turn does
  pub walk-touched : {m turn place : ℕ} → Soonest xs ys from to distance turns m turn place → turn < turns → walk_near m xs ys from to distance turns ≡ rest_at (part turn) (point_before from to distance turn) from to (point_at from to distance turn) (place_at xs ys place)
  unfolding walk_near
  walk-touched {m} {turn} {place} s h =
      let last = point_before from to distance turn in
      let p = point_at from to distance turn in
      let rest = rest_at (part turn) last from to p (place_at xs ys place) in
      let stops : run (asks turn last) m 0 tt ≡ stop rest = turn_off (untouched_places m turn last place (omega (arith, s.place_is h)) (s.place_first h)) (s.place_is h) (ap (λ (b : Bool). cond b (stop rest) (more tt)) (s.place_touched h)) in
      ap (or_to to) (turn_off (untouched_turns m turn (omega arith) s.before) h (ap (next (λ u. more p)) stops))
