use mathlib.Core.Bool.{true, false, true≢false}
use mathlib.Core.Path.{◌≡◌, refl, sym, ap, ◌∙◌}
use Prim.Native.Nat.{zero, suc, ◌≤◌, ◌<◌}
use native.Mathlib.Omega.{arith}
use lib.IntN.{ℤ, pos, negsuc}
use lib.Signed.{lt_z}
use mir.Facts.{to_z-of_z}
use borrow.Author.Tests.{ltb-true, ltb-false}
use Rattle.game_input.specs.Direction.{from_int}
use Rattle.game_input.specs.declared.direction.MoveDirection.TheVariants.{Left, None, Right}
use Rattle.game_input.proofs.direction.MoveDirection.from_int.Goals as goal

left : (i : ℤ) → lt_z i (pos 0) ≡ true → Left ≡ from_int i
unfolding from_int
left (negsuc n) t = refl
left (pos n) t = absurd (below_none (ltb-true n 0 t))
  where
    below_none : n < 0 → ⊥
    below_none h = omega arith

right : (i : ℤ) → lt_z (pos 0) i ≡ true → Right ≡ from_int i
unfolding from_int
right (negsuc n) t = absurd (true≢false (sym t))
right (pos zero) t = absurd (true≢false (sym t))
right (pos (suc n)) t = refl

neither : (i : ℤ) → lt_z i (pos 0) ≡ false → lt_z (pos 0) i ≡ false → None ≡ from_int i
unfolding from_int
neither (negsuc n) t u = absurd (true≢false t)
neither (pos zero) t u = refl
neither (pos (suc n)) t u = absurd (not_both (ltb-false 0 (suc n) u))
  where
    not_both : suc n ≤ 0 → ⊥
    not_both h = omega arith

pub returns-then-i-lt0 : goal.returns-then-i-lt0
returns-then-i-lt0 c = left c.before.args.i (ap (λ (z : ℤ). lt_z z (pos 0)) (sym (to_z-of_z c.before.ranges.i)) ∙ c.if-i-lt0.true)

pub returns-then-i-gt0 : goal.returns-then-i-gt0
returns-then-i-gt0 c = right c.before.before.args.i (ap (λ (z : ℤ). lt_z (pos 0) z) (sym (to_z-of_z c.before.before.ranges.i)) ∙ c.if-i-gt0.true)

pub returns-else-i-gt0 : goal.returns-else-i-gt0
returns-else-i-gt0 c =
    let s = c.before.before in
    neither s.args.i (ap (λ (z : ℤ). lt_z z (pos 0)) (sym (to_z-of_z s.ranges.i)) ∙ c.before.if-i-lt0.false) (ap (λ (z : ℤ). lt_z (pos 0) z) (sym (to_z-of_z s.ranges.i)) ∙ c.if-i-gt0.false)
