-- A search for the first turn that touches a player at q. Assumes nothing.
use Prim.Native.Nat.{ℕ, ◌≤◌, ◌<◌}
use mathlib.Core.Bool.{Bool, true, false, not, true≢false}
use mathlib.Core.Path.{◌≡◌, refl, sym, ap, ◌∙◌, subst}
use native.Mathlib.Omega.{arith}
use lib.Ieee.{Float}
use Rattle.base_turns.proofs.Each.{Each, each_over, not_both}
use Rattle.num_vec2.specs.Vec2.{vdistance}
use Rattle.num_vec2.specs.declared.vec2.{vec2}
use Rattle.map_lines.specs.Points.{point_at}
use Rattle.character_walk.specs.Touching.{touches}
use Rattle.character_walk.specs.Walking.{player_turns}
use Rattle.character_walk.proofs.Interval.{untouched-between}
use Rattle.character_aside.specs.Aside.{may_touch}
use Rattle.character_aside.specs.First.{is_aside_interval, FirstTouch, last_before, Untouched}
use Rattle.character_aside.proofs.Passed.{beside}

negated : (b : Bool) → not b ≡ true → b ≡ false
negated true e = absurd (true≢false (sym e))
negated false e = refl

module _ (from to : vec2) (distance : Float) (q : vec2) where
  -- no turn up to end touches q
  pub none_touched : (first end : ℕ) {i : ℕ} → Each (Untouched from to distance q) first i → first ≤ end → end ≤ i → FirstTouch from to distance q first end end
  none_touched first end {i} e h k = record { begun = h; within = omega arith; before = λ j l g. e.each j l (omega arith); met = λ g. absurd (not_both end end (omega arith) g) }

  -- turn i does
  pub touched-at : (first end i : ℕ) → Each (Untouched from to distance q) first i → i < end → touches (point_at from to distance i) q ≡ true → FirstTouch from to distance q first end i
  touched-at first end i e h t = record { begun = e.begun; within = omega arith; before = e.each; met = λ g. t }

  -- a search among the turns from i up to n that found r, or none
  pub found_later : (first i n end r : ℕ) → Each (Untouched from to distance q) first i → FirstTouch from to distance q i n r → n ≤ end → r < n → FirstTouch from to distance q first end r
  found_later first i n end r e f h l =
      let w = each_over r e f.begun (λ j a b. f.before j a b) in
      touched-at first end r w (omega arith) (f.met l)

  pub found_none : (first i n r : ℕ) → Each (Untouched from to distance q) first i → FirstTouch from to distance q i n r → n ≤ r → Each (Untouched from to distance q) first n
  found_none first i n r e f h = each_over n e (omega (arith, f.begun, f.within)) (λ j a b. f.before j a (omega arith))

  -- an interval with q to one side
  pub interval_aside : (first i n : ℕ) → Each (Untouched from to distance q) first i → i < n → distance ≡ vdistance from to → n ≤ player_turns distance → is_aside_interval from to distance q i n ≡ true → Each (Untouched from to distance q) first n
  unfolding is_aside_interval
  interval_aside first i n e h d k m =
      let D = vdistance from to in
      let K : n ≤ player_turns D = subst (λ (x : Float). n ≤ player_turns x) d k in
      let M = subst (λ (x : Float). may_touch (point_at from to x i) (point_at from to x (last_before n)) q ≡ false) d (negated (may_touch (point_at from to distance i) (point_at from to distance (last_before n)) q) m) in
      each_over n e (omega arith)
      (λ j l g. ap (λ (x : Float). touches (point_at from to x j) q) d ∙ untouched-between from to i j (last_before n) l (omega arith) (omega arith) q (beside (point_at from to D i) (point_at from to D (last_before n)) q M))
