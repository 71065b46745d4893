-- Which whole numbers a rounded float is past, and the tile that they tell. Assumes nothing.
use mathlib.Core.Path.{◌≡◌, refl, sym}
use mathlib.Core.Logic.{inl, inr, ◌↔◌}
use mathlib.Core.Bool.{true, false, ◌&&◌, ◌||◌, true≢false}
use Prim.Native.Nat.{ℕ, zero, suc, ◌+◌, ◌-◌, ◌*◌, ◌/◌, ◌^◌, ◌≤◌, ◌<◌, min, zero-le}
use native.Mathlib.Nat.{le_of_eq, le_of_lt, le_antisymm, le-div_iff_mul-le, mul-pos}
use native.Mathlib.Omega.{arith}
use lib.Dec.{T, ltb, eqb, ltb→lt, eqb→eq, lit<}
use lib.IntN.{ℤ, pos, negsuc, neg_ℤ}
use lib.Ieee.{Float, nan, inf, fin, binary32, up, down, round, le}
use lib.Ieee.Exact.{HasValue}
use lib.Ieee.Fits.{down_pos, and_l}
use lib.Ieee.Nearest.{div_mono}
use lib.Ieee.Order.{round_mono}
use mir.Facts.{or_yes}
use Rattle.num_convert.specs.Whole.{cut, whole_of, round_to_i32}
use Rattle.map_corners.specs.Tile.{tile_of}
use Rattle.base_binary32.proofs.Sign.{HasSign, round_sign}

-- i < z
abbrev pub Past : ℕ → ℤ → Type 0
Past i (pos n) = i < n
Past i (negsuc n) = ⊥

-- ---- the tile is told by which of 31, 63, .. 32735 are passed
tile_le : (w : ℕ) (y z : ℤ) → w ≤ 1024 → ((k : ℕ) → k < 1023 → Past (32 * k + 31) y → Past (32 * k + 31) z) → tile_of w y ≤ tile_of w z
unfolding tile_of
tile_le w (negsuc n) z W h = zero-le
tile_le w (pos n) z W h = go (min (n / 32) (w - 1)) (omega arith) (omega arith)
  where
    at : (k : ℕ) (z : ℤ) → k < w - 1 → Past (32 * k + 31) z → k < tile_of w z
    at k (pos m) l r = omega arith
    at k (negsuc m) l r = absurd r

    go : (t : ℕ) → t ≤ n / 32 → t ≤ w - 1 → t ≤ tile_of w z
    go zero a b = zero-le
    go (suc k) a b = at k z b (h k (omega arith) (omega arith))

pub tile_same : (w : ℕ) (y z : ℤ) → w ≤ 1024 → ((k : ℕ) → k < 1023 → Past (32 * k + 31) y ↔ Past (32 * k + 31) z) → tile_of w y ≡ tile_of w z
tile_same w y z W h = le_antisymm (tile_le w y z W (λ k l. (h k l).0)) (tile_le w z y W (λ k l. (h k l).1))

-- ---- a value rounds past i from i + 1/2 on
cut_past : (i a c : ℕ) → 0 < c → (i < cut 1 a c) ↔ ((i * 2 + 1) * c ≤ a * 2)
cut_past i a c C =
    let q : (suc i ≤ cut 1 a c) ↔ (suc i * (c * 2) ≤ a * 2 + 1 * c) = le-div_iff_mul-le (mul-pos C (lit< tt)) in
    (λ h. omega (arith, q.0 h), λ h. q.1 (omega arith))

pub cut_mono : (a c b d : ℕ) → 0 < c → 0 < d → a * d ≤ b * c → cut 1 a c ≤ cut 1 b d
cut_mono a c b d C D h = div_mono (a * 2 + 1 * c) (c * 2) (b * 2 + 1 * d) (d * 2) (mul-pos C (lit< tt)) (mul-pos D (lit< tt)) (omega arith)

pub value_past : (x : Float) (a c i : ℕ) → 0 < c → i < 2 ^ 16 → HasValue x false a c → Past i (round_to_i32 x) ↔ ((i * 2 + 1) * c ≤ a * 2)
unfolding whole_of
value_past nan a c i C I v = absurd v
value_past (inf s) a c i C I v = absurd v
value_past (fin true m e) a c i C I v = absurd (true≢false v.0)
value_past (fin false m e) a c i C I v =
    let u = cut_mono (m * up e) (down e) a c (down_pos e) C (le_of_eq v.1) in
    let d = cut_mono a c (m * up e) (down e) C (down_pos e) (le_of_eq (sym v.1)) in
    let p = cut_past i a c C in
    (λ h. p.0 (omega arith), λ h. omega (arith, p.1 h))

-- and with a sign past none
pub negative_past : (x : Float) (i : ℕ) → HasSign x true → Past i (round_to_i32 x) → ⊥
unfolding whole_of
negative_past nan i s r = s
negative_past (inf true) i s r = r
negative_past (inf false) i s r = true≢false (sym s)
negative_past (fin true m e) i s r = go (min (cut 1 (m * up e) (down e)) (2 ^ 31)) r
  where
    go : (n : ℕ) → Past i (neg_ℤ (pos n)) → ⊥
    go zero r = absurd (omega (arith, r))
    go (suc n) r = r
negative_past (fin false m e) i s r = true≢false (sym s)

-- ---- a larger value rounds no less far
lt_or_eq : (a b : ℕ) → T (ltb a b || (eqb a b && true)) → a ≤ b
lt_or_eq a b t = elim (or_yes (ltb a b) (eqb a b && true) t) [ inl l ↦ le_of_lt (ltb→lt a b l) | inr e ↦ le_of_eq (eqb→eq a b (and_l (eqb a b) true e)) ]

past_mono : (x y : Float) (i : ℕ) → HasSign y false → T (le x y) → Past i (round_to_i32 x) → Past i (round_to_i32 y)
unfolding le whole_of
past_mono nan y i s l r = absurd l
past_mono (inf true) y i s l r = absurd r
past_mono (inf false) nan i s l r = absurd l
past_mono (inf false) (inf true) i s l r = absurd l
past_mono (inf false) (inf false) i s l r = r
past_mono (inf false) (fin t n d) i s l r = absurd l
past_mono (fin true m e) y i s l r = absurd (negative_past (fin true m e) i refl r)
past_mono (fin false m e) nan i s l r = absurd l
past_mono (fin false m e) (inf true) i s l r = absurd l
past_mono (fin false m e) (inf false) i s l r = omega arith
past_mono (fin false m e) (fin true n d) i s l r = absurd (true≢false s)
past_mono (fin false m e) (fin false n d) i s l r =
    let h = cut_mono (m * up e) (down e) (n * up d) (down d) (down_pos e) (down_pos d) (lt_or_eq (m * up e * down d) (n * up d * down e) l) in
    omega arith

pub round_past : (a c b d i : ℕ) → 0 < c → 0 < d → a * d ≤ b * c → Past i (round_to_i32 (round binary32 false a c)) → Past i (round_to_i32 (round binary32 false b d))
round_past a c b d i C D h = past_mono (round binary32 false a c) (round binary32 false b d) i (round_sign binary32 false b d) (round_mono binary32 a c b d C D h)
