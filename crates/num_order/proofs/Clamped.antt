-- A value that is clamped is nan or lies within its bounds. Assumes nothing.
use mathlib.Core.Path.{◌≡◌, refl}
use mathlib.Core.Logic.{inl, inr, ◌⊎◌, ⊎_elim}
use mathlib.Core.Bool.{Bool, true, false, cond}
use lib.Dec.{T}
use lib.Ieee.{Float, nan, lt, le, of_bits}
use Rattle.num_convert.specs.Number.{c0, c1, clamp}
use Rattle.num_order.proofs.Chain.{at_least, le_left, le_refl, le_right, nan_or}
use Rattle.num_order.proofs.Products.{Factor}

pub clamp_within : (x low high : Float) → T (le low high) → (clamp x low high ≡ nan) ⊎ (T (le low (clamp x low high)) × T (le (clamp x low high) high))
unfolding clamp
clamp_within x low high h = go (lt x low) (lt high x) refl refl
  where
    go : (b c : Bool) → lt x low ≡ b → lt high x ≡ c → (cond b low (cond c high x) ≡ nan) ⊎ (T (le low (cond b low (cond c high x))) × T (le (cond b low (cond c high x)) high))
    go true c d e = inr (le_refl low (le_left low high h), h)
    go false true d e = inr (h, le_refl high (le_right low high h))
    go false false d e = ⊎_elim inl (λ a. inr (at_least x low a (le_left low high h) d, at_least high x (le_right low high h) a e)) (nan_or x)

-- between 0 and 1 it is a factor
pub clamp_factor : (x : Float) → (clamp x c0 c1 ≡ nan) ⊎ Factor (clamp x c0 c1)
unfolding le of_bits
clamp_factor x = ⊎_elim inl (λ h. inr (record { from = h.0; to = h.1 })) (clamp_within x c0 c1 tt)
