-- The sum of the angles of 32 a and b is near the table's entry at 32 a + b, for every entry by one computed test. Assumes nothing.
use Rattle.std.proofs.Common.{ℕ, ◌*◌, ◌/◌, ◌%◌, ◌<◌, ◌≤◌, Bool, ◌&&◌, T, leb}
use mir.Facts.{and_yes, leb_yes}
use Rattle.aim_tables.specs.Tables.{cos_t, sin_t}
use Rattle.aim_tables.specs.Rules.{cos_at, sin_at, apart}
use Rattle.aim_tables.proofs.Every.{every_below, below_at}
use Rattle.aim_angle.specs.declared.near.Point.{Point}
use Rattle.aim_angle.specs.Near.{turned}

abbrev sum : ℕ → Point
sum n = turned (cos_at (32 * (n / 32))) (sin_at (32 * (n / 32))) (cos_at (n % 32)) (sin_at (n % 32))

close? : ℕ → Bool
close? n = leb (apart (sum n).c (cos_at n)) 2 && leb (apart (sum n).s (sin_at n)) 2

close_of : (n : ℕ) → T (close? n) → (apart (sum n).c (cos_at n) ≤ 2) × (apart (sum n).s (sin_at n) ≤ 2)
unfolding close?
close_of n t = let p = and_yes (leb (apart (sum n).c (cos_at n)) 2) (leb (apart (sum n).s (sin_at n)) 2) t in (leb_yes p.0, leb_yes p.1)

all_close : T (every_below close? 805)
unfolding close? cos_t sin_t turned
all_close = tt

pub close : (n : ℕ) → n < 805 → (apart (sum n).c (cos_at n) ≤ 2) × (apart (sum n).s (sin_at n) ≤ 2)
close n h = close_of n (below_at close? 805 all_close n h)
