-- By way of a float a fraction rounds past i exactly from i + 1/2 on, unless it lies closer below that than a float does. Assumes nothing.
use mathlib.Core.Path.{◌≡◌, sym, ap, ◌∙◌}
use mathlib.Core.Logic.{◌↔◌}
use mathlib.Core.Bool.{false}
use Prim.Native.Nat.{ℕ, suc, ◌+◌, ◌-◌, ◌*◌, ◌^◌, ◌≤◌, ◌<◌}
use native.Mathlib.Nat.{lt_of_lt_of_le, lt_of_not-le, mul_assoc, mul-lt-mul_of_pos_right, pow-suc}
use native.Mathlib.Omega.{arith}
use native.Mathlib.Decide.{dec_le}
use lib.Dec.{lit≤, lit<}
use lib.Pow.{pow-add, pow_pos, pow_mono, shl_lt}
use lib.Ieee.{binary32, round}
use lib.Ieee.Exact.{round_exact}
use Rattle.num_convert.specs.Whole.{round_to_i32}
use Rattle.map_corners.proofs.Reach.{Past, value_past, round_past}

-- g of the 2 ^ t-ths, which are a float
pub exact_past : (g t i : ℕ) → g < 2 ^ 24 → t ≤ 149 → i < 2 ^ 16 → Past i (round_to_i32 (round binary32 false g (2 ^ t))) ↔ ((i * 2 + 1) * 2 ^ t ≤ g * 2)
exact_past g t i G h I =
    let w : 149 - t + t ≡ 149 = omega arith in
    let k : 24 + (149 - t) ≤ 277 = omega arith in
    let e : g * 2 ^ 149 ≡ g * 2 ^ (149 - t) * 2 ^ t = ap (λ (x : ℕ). g * 2 ^ x) (sym w) ∙ ap (λ (x : ℕ). g * x) (pow-add 2 (149 - t) t) ∙ sym (mul_assoc g (2 ^ (149 - t)) (2 ^ t)) in
    value_past (round binary32 false g (2 ^ t)) g (2 ^ t) i (pow_pos t) I
    (round_exact binary32 false g (2 ^ t) g (149 - t) (pow_pos t) G (lt_of_lt_of_le (shl_lt 24 (149 - t) G) (pow_mono k)) e)

-- n / c, where i + 1/2 is a number of 2 ^ suc v-ths that is a float
module _ (i v n c : ℕ) (C : 0 < c) (I : i < 2 ^ 16) (fine : v ≤ 18) (H : (i * 2 + 1) * 2 ^ v < 2 ^ 24) where
  from_half : (i * 2 + 1) * c ≤ n * 2 → Past i (round_to_i32 (round binary32 false n c))
  from_half h = round_past (i * 2 + 1) 2 n c i (lit< tt) C h ((exact_past (i * 2 + 1) 1 i (omega arith) (lit≤ tt) I).1 (omega arith))

  -- one of them below
  below_half : n * 2 ^ suc v + c ≤ (i * 2 + 1) * 2 ^ v * c → Past i (round_to_i32 (round binary32 false n c)) → ⊥
  below_half h r =
      let g = (i * 2 + 1) * 2 ^ v - 1 in
      let e : g + 1 ≡ (i * 2 + 1) * 2 ^ v = omega (arith, pow_pos v) in
      let l : n * 2 ^ suc v ≤ g * c = omega (arith, ap (λ (x : ℕ). x * c) e) in
      let p = (exact_past g (suc v) i (omega arith) (omega arith) I).0 (round_past n c g (2 ^ suc v) i C (pow_pos (suc v)) l r) in
      absurd (omega (arith, ap (λ (x : ℕ). (i * 2 + 1) * x) (pow-suc 2 v)))

  pub crossing : (n * 2 ^ suc v < (i * 2 + 1) * 2 ^ v * c → n * 2 ^ suc v + c ≤ (i * 2 + 1) * 2 ^ v * c) → Past i (round_to_i32 (round binary32 false n c)) ↔ ((i * 2 + 1) * c ≤ n * 2)
  crossing h = (go (dec_le ((i * 2 + 1) * c) (n * 2)), from_half)
    where
      go : Dec ((i * 2 + 1) * c ≤ n * 2) → Past i (round_to_i32 (round binary32 false n c)) → (i * 2 + 1) * c ≤ n * 2
      go (yes p) r = p
      go (no p) r = absurd (below_half (h (omega (arith, mul-lt-mul_of_pos_right (lt_of_not-le p) (pow_pos v), ap (λ (x : ℕ). n * x) (pow-suc 2 v)))) r)
