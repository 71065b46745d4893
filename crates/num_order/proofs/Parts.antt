-- The fraction of a way that a turn is at: i over the way's length. It is nan or lies from 0 to 1, and no later turn has a smaller one. Assumes nothing.
use mathlib.Core.Path.{◌≡◌, ap, ◌∙◌, subst}
use mathlib.Core.Logic.{inl, inr, ◌⊎◌, ⊎_elim}
use Prim.Native.Nat.{ℕ, ◌≤◌}
use lib.Dec.{T}
use lib.IntN.{pos}
use lib.Signed.{mag}
use lib.Ieee.{Float, nan, binary32, div, le, of_int}
use Rattle.num_convert.specs.Whole.{trunc_to_i32}
use Rattle.num_convert.specs.Convert.{i32_to_f32}
use Rattle.num_vec2.specs.Vec2.{vdistance}
use Rattle.num_vec2.specs.declared.vec2.{vec2}
use Rattle.num_order.proofs.Chain.{nought}
use Rattle.num_order.proofs.Nans.{div_nan}
use Rattle.num_order.proofs.Products.{Factor}
use Rattle.num_order.proofs.Fractions.{fraction}
use Rattle.num_order.proofs.Monotone.{NonNegative, div_mono, whole_mono}
use Rattle.num_order.proofs.Vectors.{distance_fits, distance_up}

module _ (from to : vec2) where
  abbrev pub part : ℕ → Float
  part i = div binary32 (i32_to_f32 (pos i)) (vdistance from to)

  -- up to the truncated length
  pub part_factor : (i : ℕ) → i ≤ mag (trunc_to_i32 (vdistance from to)) → (part i ≡ nan) ⊎ Factor (part i)
  unfolding i32_to_f32
  part_factor i l =
      ⊎_elim (λ e. inl (ap (div binary32 (of_int binary32 (pos i))) e ∙ div_nan binary32 (of_int binary32 (pos i))))
      (λ z. fraction binary32 (vdistance from to) i (distance_fits from to) z l) (distance_up from to)

  pub part_mono : (i j : ℕ) → i ≤ j → NonNegative (part i) → NonNegative (part j) → T (le (part i) (part j))
  unfolding i32_to_f32 le
  part_mono i j h I J =
      ⊎_elim (λ e. absurd (subst (λ (k : Float). T (le nought k)) (ap (div binary32 (of_int binary32 (pos i))) e ∙ div_nan binary32 (of_int binary32 (pos i))) I.from))
      (λ z. div_mono binary32 (of_int binary32 (pos i)) (of_int binary32 (pos j)) (vdistance from to) (whole_mono binary32 i j h) z I.bounded J.bounded) (distance_up from to)
