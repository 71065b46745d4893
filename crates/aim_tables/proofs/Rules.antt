-- The rules of the tables, over the whole of them, and what a search in them needs. Assumes nothing.
use mathlib.Core.Path.{refl, subst}
use mathlib.Core.Bool.{Bool, ◌&&◌}
use Prim.Native.Nat.{ℕ, zero, suc, ◌+◌, ◌*◌, ◌^◌, ◌≤◌, ◌<◌}
use native.Mathlib.Nat.{not-le_of_lt}
use native.Mathlib.Numerals.{add-one}
use native.Mathlib.Omega.{arith}
use lib.Dec.{T, leb, lt→ltb, lit<}
use lib.IntN.{ℤ, pos, negsuc, nat_abs, ◌+ℤ◌, ◌-ℤ◌, ◌*ℤ◌, +ℤ_idl}
use lib.Signed.{lt_z}
use mir.Facts.{and_yes, leb_yes}
use Rattle.aim_tables.specs.Tables.{cos_t, sin_t}
use Rattle.aim_tables.specs.Rules.{cos_at, sin_at, apart, TableRules}
use Rattle.aim_tables.proofs.Every.{every_below, below_at}

abbrev off_unit : ℤ → ℤ → ℕ
off_unit c s = apart (c *ℤ c +ℤ s *ℤ s) (pos (2 ^ 60))

abbrev turned : ℤ → ℤ → ℤ → ℤ → ℤ
turned c s c' s' = c *ℤ s' -ℤ s *ℤ c'

abbrev off_turn : ℤ → ℤ → ℤ → ℤ → ℕ
off_turn c s c' s' = apart (turned c s c' s') (pos (2 ^ 30 * 4194293))

-- ---- at each entry: the unit rule, and that no entry is larger than 2 ^ 30

entry? : ℤ → ℤ → Bool
entry? c s = leb (off_unit c s) (2 ^ 31) && (leb (nat_abs c) (2 ^ 30) && leb (nat_abs s) (2 ^ 30))

record Entry (c s : ℤ) : Type 0 where
  unit : off_unit c s ≤ 2 ^ 31
  small : (nat_abs c ≤ 2 ^ 30) × (nat_abs s ≤ 2 ^ 30)

entry_of : (c s : ℤ) → T (entry? c s) → Entry c s
unfolding entry?
entry_of c s t =
    let p = and_yes (leb (off_unit c s) (2 ^ 31)) (leb (nat_abs c) (2 ^ 30) && leb (nat_abs s) (2 ^ 30)) t in
    let q = and_yes (leb (nat_abs c) (2 ^ 30)) (leb (nat_abs s) (2 ^ 30)) p.1 in
    record { unit = leb_yes p.0; small = (leb_yes q.0, leb_yes q.1) }

every_entry : T (every_below (λ n. entry? (cos_at n) (sin_at n)) 805)
unfolding entry? cos_t sin_t
every_entry = tt

entry : (n : ℕ) → n < 805 → Entry (cos_at n) (sin_at n)
entry n h = entry_of (cos_at n) (sin_at n) (below_at (λ n. entry? (cos_at n) (sin_at n)) 805 every_entry n h)

-- ---- from each entry to the next: the turning rule, and that the next sine is above 0

step? : ℤ → ℤ → ℤ → ℤ → Bool
step? c s c' s' = leb (off_turn c s c' s') (2 ^ 32) && lt_z (pos 0) s'

record Step (c s c' s' : ℤ) : Type 0 where
  turn : off_turn c s c' s' ≤ 2 ^ 32
  above : T (lt_z (pos 0) s')

step_of : (c s c' s' : ℤ) → T (step? c s c' s') → Step c s c' s'
unfolding step?
step_of c s c' s' t = let p = and_yes (leb (off_turn c s c' s') (2 ^ 32)) (lt_z (pos 0) s') t in record { turn = leb_yes p.0; above = p.1 }

every_step : T (every_below (λ n. step? (cos_at n) (sin_at n) (cos_at (suc n)) (sin_at (suc n))) 804)
unfolding step? cos_t sin_t
every_step = tt

step : (n : ℕ) → n < 804 → Step (cos_at n) (sin_at n) (cos_at (suc n)) (sin_at (suc n))
step n h = step_of (cos_at n) (sin_at n) (cos_at (suc n)) (sin_at (suc n)) (below_at (λ n. step? (cos_at n) (sin_at n) (cos_at (suc n)) (sin_at (suc n))) 804 every_step n h)

-- ---- the rules

pub table_rules : TableRules
unfolding cos_t sin_t
table_rules = record {
  cos_length = refl;
  sin_length = refl;
  cos0 = refl;
  sin0 = refl;
  sin1 = refl;
  unit = λ n h. (entry n h).unit;
  turn = λ n h. rw add-one (step n h).turn;
}

-- ---- what a search needs of them

pub small : (n : ℕ) → n < 805 → (nat_abs (cos_at n) ≤ 2 ^ 30) × (nat_abs (sin_at n) ≤ 2 ^ 30)
small n h = (entry n h).small

pub sin_above : (n : ℕ) → n < 804 → T (lt_z (pos 0) (sin_at (suc n)))
sin_above n h = (step n h).above

-- what is nearer to k than k is large is above 0
near_above : (z : ℤ) (k b : ℕ) → nat_abs (z -ℤ pos (suc k)) ≤ b → b < suc k → T (lt_z (pos 0) z)
near_above (pos zero) k b h l = absurd (not-le_of_lt l (subst (λ (z : ℤ). nat_abs z ≤ b) (+ℤ_idl (negsuc k)) h))
near_above (pos (suc n)) k b h l = lt→ltb 0 (suc n) (omega arith)
near_above (negsuc n) k b h l = absurd (more n k b h l)
  where
    more : (n k b : ℕ) → suc (suc (n + k)) ≤ b → b < suc k → ⊥
    more n k b h l = omega arith

pub turn_above : (n : ℕ) → n < 804 → T (lt_z (pos 0) (turned (cos_at n) (sin_at n) (cos_at (suc n)) (sin_at (suc n))))
turn_above n h = near_above (turned (cos_at n) (sin_at n) (cos_at (suc n)) (sin_at (suc n))) 4503587816210431 (2 ^ 32) (step n h).turn (lit< tt)
