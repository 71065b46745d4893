-- The entry that a scan from a guess begins at, and what was read to tell it: inside the quarter, and never more than 403 with the scan. Assumes nothing.
use mathlib.Core.Path.{◌≡◌, ap, ◌∙◌}
use mathlib.Core.Bool.{true, false}
use Prim.Native.Nat.{ℕ, suc, ◌+◌, ◌≤◌, ◌<◌}
use native.Mathlib.Omega.{arith}
use lib.IntN.{ℤ, pos, negsuc}
use Rattle.aim_rule.specs.Angle.{fitting, largest, upper_angle}
use Rattle.aim_rule.specs.Scan.{first_entry}
use Rattle.aim_rule.specs.Search.{Target}
use Rattle.aim_rule.proofs.Quarters.{from_below, quarter}
use Rattle.aim_rule.proofs.Entries.{fits_below, quarter_reads}
use Rattle.aim_scan.proofs.Upright.{first_within}

-- the scan from an entry finds the angle, and reads at most 403 with what was read before
abbrev pub Starts : ℤ → ℤ → ℕ → ℕ → Type 0
Starts x y from read = (largest (fitting x y) from ≡ upper_angle x y) × (from ≤ first_entry x) × (read + from + 1 ≤ upper_angle x y + 403)

one_on : (n : ℕ) → suc (n + 1) ≡ n + 2
one_on n = omega arith

pub from_first : (x y : ℤ) → Target x y → (first : ℕ) → first ≡ first_entry x → Starts x y first 0
from_first x (pos y) t first e = (ap (largest (fitting x (pos y))) e ∙ quarter x y, omega arith, omega (arith, quarter_reads x y))
from_first x (negsuc y) t first e = absurd t.up

pub next_within : (x : ℤ) (n first : ℕ) → first ≡ first_entry x → n + 1 < first → n + 2 ≤ 804
next_within x n first e h = omega (arith, first_within x)

-- the entry after the next fits
pub from_tested : (x y : ℤ) → Target x y → (n first : ℕ) → first ≡ first_entry x → n + 1 < first → first < n + 404 → fitting x y (n + 2) ≡ true → Starts x y first 1
from_tested x (pos y) t n first e h k f =
    let b = fits_below x y (n + 2) (next_within x n first e h) f in
    let s = from_first x (pos y) t first e in (s.0, s.1, omega arith)
from_tested x (negsuc y) t n first e h k f = absurd t.up

-- it does not
pub from_guess : (x y : ℤ) → Target x y → (n first : ℕ) → first ≡ first_entry x → n + 1 < first → fitting x y (n + 2) ≡ false → Starts x y (n + 1) 1
from_guess x (pos y) t n first e h f =
    let w = next_within x n first e h in
    (from_below x y (n + 1) (omega arith) (ap (fitting x (pos y)) (one_on n) ∙ f), omega arith, omega (arith, quarter_reads x y))
from_guess x (negsuc y) t n first e h f = absurd t.up
