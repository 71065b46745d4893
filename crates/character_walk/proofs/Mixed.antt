-- Whoever is 28 or more to one side of both ends of a way, in a coordinate, has no point of it nearer, and is touched at no turn of the player walk. Assumes nothing.
use mathlib.Core.Path.{◌≡◌, ap, ◌∙◌}
use mathlib.Core.Logic.{inl, inr, ◌⊎◌, ⊎_elim}
use mathlib.Core.Bool.{false}
use Prim.Native.Nat.{ℕ, ◌<◌}
use native.Mathlib.Omega.{arith}
use lib.Dec.{T}
use lib.Ieee.{Float, nan, binary32, neg, add, sub, mul, lt, fits}
use lib.Ieee.Fits.{sub-fits}
use Rattle.num_convert.specs.Whole.{trunc_to_i32}
use Rattle.game_constants.specs.Constants.{character_size}
use Rattle.num_vec2.specs.Vec2.{vadd, vsub, vmul, vmix, vdistance}
use Rattle.num_vec2.specs.declared.vec2.{vec2}
use Rattle.map_tiles.proofs.Counts.{count_size}
use Rattle.character_walk.specs.Touching.{touches}
use Rattle.character_walk.specs.Walking.{player_turns}
use Rattle.num_order.proofs.Chain.{Number, le_left, le_right, nan_or}
use Rattle.num_order.proofs.Nans.{add_nan, mul_nan, sub_nan, subtrahend}
use Rattle.num_order.proofs.Products.{Factor}
use Rattle.num_order.proofs.Points.{point_between}
use Rattle.character_walk.proofs.Far.{not_touching}
use Rattle.character_walk.proofs.Apart.{Aside, Wide, apart_x, apart_y, aside}
use Rattle.num_order.proofs.Parts.{part, part_factor}
use Rattle.num_order.proofs.Vectors.{FitsPair}

-- the second is no nan
pub end_number : (a b q : Float) → Aside a b q → Number b
end_number a b q (inl h) = subtrahend binary32 q b (le_right character_size (sub binary32 q b) h.1)
end_number a b q (inr h) = subtrahend binary32 q b (le_left (sub binary32 q b) (neg character_size) h.1)

-- ---- a coordinate of a point on the way from x by d
module _ (x d v q : Float) (t : T (fits binary32 x)) (u : T (fits binary32 d)) (k : Aside x (add binary32 x d) q) where
  mixed : (v ≡ nan) ⊎ Factor v → (sub binary32 q (add binary32 x (mul binary32 d v)) ≡ nan) ⊎ Wide (sub binary32 q (add binary32 x (mul binary32 d v)))
  mixed (inl e) = inl (sub_nan binary32 q (add binary32 x (mul binary32 d v)) (ap (λ (z : Float). add binary32 x (mul binary32 d z)) e ∙ ap (add binary32 x) (mul_nan binary32 d) ∙ add_nan binary32 x))
  mixed (inr h) =
      ⊎_elim (λ e. inl (sub_nan binary32 q (add binary32 x (mul binary32 d v)) e))
      (λ a. aside x (add binary32 x (mul binary32 d v)) (add binary32 x d) q (point_between binary32 x d v t u h a (end_number x (add binary32 x d) q k)) k)
      (nan_or (add binary32 x (mul binary32 d v)))

-- where the way from one place to another ends, as the walk has it
abbrev pub end : vec2 → vec2 → vec2
end from to = vadd from (vsub to from)

-- q is 28 or more to one side of both points, in a coordinate
abbrev pub Beside : vec2 → vec2 → vec2 → Type 0
Beside a b q = Aside a.x b.x q.x ⊎ Aside a.y b.y q.y

-- q is 28 or more to one side of both ends of the way, in a coordinate
abbrev pub Away : vec2 → vec2 → vec2 → Type 0
Away from to q = Beside from (end from to) q

-- so no point of the way is nearer than 28
pub mixed-apart : (from to q : vec2) (v : Float) → (v ≡ nan) ⊎ Factor v → FitsPair from → Away from to q → lt (vdistance (vmix from to v) q) character_size ≡ false
unfolding vmix vadd vmul vsub
mixed-apart from to q v h t (inl k) = apart_x (vmix from to v) q (mixed from.x (sub binary32 to.x from.x) v q.x t.0 (sub-fits binary32 to.x from.x) k h)
mixed-apart from to q v h t (inr k) = apart_y (vmix from to v) q (mixed from.y (sub binary32 to.y from.y) v q.y t.1 (sub-fits binary32 to.y from.y) k h)

-- ---- the turns of the player walk
pub turn_factor : (from to : vec2) (i : ℕ) → i < player_turns (vdistance from to) → (part from to i ≡ nan) ⊎ Factor (part from to i)
unfolding player_turns
turn_factor from to i l = part_factor from to i (omega (arith, count_size (trunc_to_i32 (vdistance from to))))

pub untouched : (from to q : vec2) (i : ℕ) → i < player_turns (vdistance from to) → FitsPair from → Away from to q → false ≡ touches (vmix from to (part from to i)) q
untouched from to q i l t k = not_touching (vmix from to (part from to i)) q (mixed-apart from to q (part from to i) (turn_factor from to i l) t k)
