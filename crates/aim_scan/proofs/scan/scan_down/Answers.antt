use mathlib.Core.Path.{◌≡◌, refl, sym, ap, ap₂, ◌∙◌}
use mathlib.Core.Bool.{Bool, true, false, true≢false}
use Prim.Native.Nat.{ℕ, zero, suc, ◌-◌, ◌≤◌}
use native.Mathlib.Nat.{le_refl}
use native.Mathlib.Omega.{arith}
use lib.IntN.{ℤ}
use mir.Syntax.{w64}
use mir.Val.{to_z, of_z}
use mir.Facts.{to_z-of_z}
use Rattle.aim_rule.specs.Angle.{fitting, largest}
use Rattle.aim_rule.specs.Search.{Target}
use Rattle.aim_rule.proofs.Search.{held, first_fits}
use Rattle.aim_scan.proofs.scan.scan_down.Goals.{In-loop-n}
use Rattle.aim_scan.proofs.scan.scan_down.Goals as goal

-- ---- on whole numbers

-- an entry that does not fit is not the last one
more_below : (x y : ℤ) (n : ℕ) → Target x y → fitting x y n ≡ false → 1 ≤ n
more_below x y zero t e = absurd (true≢false (sym (first_fits x y t) ∙ e))
more_below x y (suc n) t e = omega arith

passed : (p : ℕ → Bool) (n : ℕ) → 1 ≤ n → p n ≡ false → largest p n ≡ largest p (n - 1)
unfolding largest
passed p zero h e = absurd (omega arith)
passed p (suc n) h e = rw e (ap (largest p) (one_less n))
  where
    one_less : (n : ℕ) → n ≡ suc n - 1
    one_less n = omega arith

ends : (p : ℕ → Bool) (n : ℕ) → p n ≡ true → n ≡ largest p n
unfolding largest
ends p zero e = refl
ends p (suc n) e = rw e refl

-- ---- at the machine

-- the entry does not fit
missed : (c : In-loop-n) → fitting (to_z w64 (of_z w64 c.before.before.before.args.x)) (to_z w64 (of_z w64 c.before.before.before.args.y)) c.before.before.loop-n.n ≡ false
missed c = sym c.before.fits.ensures ∙ c.loop-n-test.true

lower : (c : In-loop-n) → 1 ≤ c.before.before.loop-n.n
lower c = let s = c.before.before.before in more_below (to_z w64 (of_z w64 s.args.x)) (to_z w64 (of_z w64 s.args.y)) c.before.before.loop-n.n (held s.ranges.x s.ranges.y s.requires.0) (missed c)

pub loop-n-init : goal.loop-n-init
loop-n-init c = record { within = le_refl c.args.from; same = refl; count = omega arith }

pub fits-requires : goal.fits-requires
fits-requires c = let s = c.before in let l = c.loop-n.invariant.within in let f = s.requires.1 in (held s.ranges.x s.ranges.y s.requires.0, omega (arith, l, f))

pub overflow_sub-n : goal.overflow_sub-n
overflow_sub-n c = lower c

pub overflow_add-read : goal.overflow_add-read
overflow_add-read c = let l = c.before.before.loop-n.invariant in let k = l.count in let f = c.before.before.before.requires.1 in omega (arith, k, f)

pub loop-n-smaller : goal.loop-n-smaller
loop-n-smaller c = let h = lower c in omega (arith, h)

pub loop-n-preserved : goal.loop-n-preserved
loop-n-preserved c =
    let l = c.before.before.loop-n.invariant in
    let h = lower c in
    let i = l.within in
    let k = l.count in
    record { within = omega (arith, h, i); same = l.same ∙ passed _ c.before.before.loop-n.n h (missed c); count = omega (arith, h, k) }

pub returns : goal.returns
returns c =
    let s = c.before.before.before in
    let l = c.before.before.loop-n in
    let k = l.invariant.count in
    let i = l.invariant.within in
    let hit = sym c.before.fits.ensures ∙ c.loop-n-test.false in
    (ends _ l.n hit ∙ sym l.invariant.same ∙ ap₂ (λ (x y : ℤ). largest (fitting x y) s.args.from) (to_z-of_z s.ranges.x) (to_z-of_z s.ranges.y), i, omega (arith, k, i))
