-- The rules of document 01 for the tables. Definitions only.
use Rattle.std.specs.Prelude.{◌≡◌, ℕ, ◌+◌, ◌^◌, ◌≤◌, ◌<◌, ℤ, pos, nat_abs, ◌+ℤ◌, ◌-ℤ◌, ◌*ℤ◌, get_or, length}
use Rattle.aim_tables.specs.Tables.{cos_t, sin_t}

-- C[n] and S[n]
abbrev pub cos_at : ℕ → ℤ
cos_at n = get_or cos_t n (pos 0)

abbrev pub sin_at : ℕ → ℤ
sin_at n = get_or sin_t n (pos 0)

-- |a − b|
abbrev pub apart : ℤ → ℤ → ℕ
apart a b = nat_abs (a -ℤ b)

pub record TableRules : Type 0 where
  pub cos_length : length cos_t ≡ 805
  pub sin_length : length sin_t ≡ 805
  pub cos0 : cos_at 0 ≡ pos (2 ^ 30)
  pub sin0 : sin_at 0 ≡ pos 0
  pub sin1 : sin_at 1 ≡ pos 4194293
  pub unit : (n : ℕ) → n < 805 → apart (cos_at n *ℤ cos_at n +ℤ sin_at n *ℤ sin_at n) (pos (2 ^ 60)) ≤ 2 ^ 31
  pub turn : (n : ℕ) → n < 804 → apart (cos_at n *ℤ sin_at (n + 1) -ℤ sin_at n *ℤ cos_at (n + 1)) (pos (2 ^ 30) *ℤ sin_at 1) ≤ 2 ^ 32
