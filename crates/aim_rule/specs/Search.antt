-- What the functions of the search say to each other. Definitions only.
use Rattle.std.specs.Prelude.{ℕ, ◌+◌, ◌*◌, ◌^◌, ◌≤◌, T, ℤ, nat_abs}
use Rattle.std.specs.Int.Signed.{non_neg}

-- a target with y ≥ 0, of numbers of the size of an i32
pub record Target (x y : ℤ) : Type 0 where
  pub x_small : nat_abs x ≤ 2 ^ 31
  pub y_small : nat_abs y ≤ 2 ^ 31
  pub up : T (non_neg y)

-- how far y × C[n] − x × S[n] may be off where each entry is known up to 2
abbrev pub doubt : ℤ → ℤ → ℕ
doubt x y = nat_abs y * 2 + nat_abs x * 2
