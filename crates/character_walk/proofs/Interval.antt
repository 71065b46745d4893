-- An interval of the player walk's turns: a player 28 or more to one side of its first and its last point is touched at none of them. Assumes nothing.
use mathlib.Core.Path.{◌≡◌, sym, ap, ◌∙◌, subst}
use mathlib.Core.Logic.{inl, inr, ◌⊎◌, ⊎_elim}
use mathlib.Core.Bool.{true, false}
use Prim.Native.Nat.{ℕ, ◌≤◌, ◌<◌}
use native.Mathlib.Omega.{arith}
use lib.Ieee.{Float, nan, inf, fin, binary32, Format, neg, add, sub, mul, is_nan}
use Rattle.game_constants.specs.Constants.{character_size}
use Rattle.num_vec2.specs.Vec2.{vadd, vsub, vmul, vmix, vdistance}
use Rattle.num_vec2.specs.declared.vec2.{vec2}
use Rattle.character_walk.specs.Touching.{touches}
use Rattle.character_walk.specs.Walking.{player_turns}
use Rattle.num_order.proofs.Chain.{Number, le_left, le_right, nan_or}
use Rattle.num_order.proofs.Nans.{add_nan, mul_nan, second, sub_nan, subtrahend}
use Rattle.num_order.proofs.Monotone.{NonNegative, factor_nonnegative, point, points_between}
use Rattle.num_order.proofs.Parts.{part, part_mono}
use Rattle.character_walk.proofs.Far.{not_touching}
use Rattle.character_walk.proofs.Apart.{Aside, Wide, apart_x, apart_y, aside}
use Rattle.character_walk.proofs.Mixed.{Beside, end_number, turn_factor}

-- the first is no nan
first_number : (a b q : Float) → Aside a b q → Number a
first_number a b q (inl h) = subtrahend binary32 q a (le_right character_size (sub binary32 q a) h.0)
first_number a b q (inr h) = subtrahend binary32 q a (le_left (sub binary32 q a) (neg character_size) h.0)

-- a product that is no nan has a first factor that is none
multiplicand : (f : Format) (x k : Float) → Number (mul f x k) → Number x
unfolding mul is_nan
multiplicand f nan k a = a
multiplicand f (inf s) k a = tt
multiplicand f (fin s m e) k a = tt

not_nan : Number nan → ⊥
unfolding is_nan
not_nan a = a

module _ (from to : vec2) where
  -- the point of turn i
  abbrev pub at : ℕ → vec2
  at i = vmix from to (part from to i)

  -- a fraction whose point is no nan
  fraction_at : (x d : Float) (i : ℕ) → i < player_turns (vdistance from to) → Number (point binary32 x d (part from to i)) → NonNegative (part from to i)
  fraction_at x d i l a =
      ⊎_elim (λ e. absurd (not_nan (subst Number (ap (λ (k : Float). point binary32 x d k) e ∙ ap (add binary32 x) (mul_nan binary32 d) ∙ add_nan binary32 x) a)))
      (λ h. factor_nonnegative (part from to i) h) (turn_factor from to i l)

  module _ (a i b : ℕ) (h : a ≤ i) (g : i ≤ b) (l : b < player_turns (vdistance from to)) where
    -- a coordinate
    coordinate : (x d q : Float) → Aside (point binary32 x d (part from to a)) (point binary32 x d (part from to b)) q
        → (sub binary32 q (point binary32 x d (part from to i)) ≡ nan) ⊎ Wide (sub binary32 q (point binary32 x d (part from to i)))
    coordinate x d q k =
        let p : ℕ → Float = λ j. point binary32 x d (part from to j) in
        let A = first_number (p a) (p b) q k in
        let B = end_number (p a) (p b) q k in
        ⊎_elim (λ e. inl (sub_nan binary32 q (p i) e))
        (λ I.
        let u = fraction_at x d a (omega arith) A in
        let v = fraction_at x d i (omega arith) I in
        let w = fraction_at x d b l B in
        aside (p a) (p i) (p b) q
        (points_between binary32 x d (part from to a) (part from to i) (part from to b) u v w (part_mono from to a i h u v) (part_mono from to i b g v w) (multiplicand binary32 d (part from to a) (second binary32 x (mul binary32 d (part from to a)) A)) A I B) k)
        (nan_or (p i))

    pub untouched-between : (q : vec2) → Beside (at a) (at b) q → touches (at i) q ≡ false
    unfolding vmix vadd vmul vsub
    untouched-between q (inl k) = sym (not_touching (at i) q (apart_x (at i) q (coordinate from.x (sub binary32 to.x from.x) q.x k)))
    untouched-between q (inr k) = sym (not_touching (at i) q (apart_y (at i) q (coordinate from.y (sub binary32 to.y from.y) q.y k)))
