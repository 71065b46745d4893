-- Differences and sums modulo 2 ^ 32. Assumes nothing.
use Rattle.std.proofs.Common.{◌≡◌, ℕ, ◌+◌, ◌%◌, ◌^◌, ◌<◌, arith}
use Rattle.map_totals.specs.Area.{minus}

-- what b added to wraps back to a
pub less : (a b x : ℕ) → a < 2 ^ 32 → b < 2 ^ 32 → x < 2 ^ 32 → (x + b) % 2 ^ 32 ≡ a → x ≡ (a + minus b) % 2 ^ 32
less a b x ha hb hx p = omega arith

pub wraps : (a b c d x y z : ℕ) → x ≡ (a + b) % 2 ^ 32 → y ≡ (x + c) % 2 ^ 32 → z ≡ (y + d) % 2 ^ 32 → z ≡ (a + b + c + d) % 2 ^ 32
wraps a b c d x y z p q r = omega arith
