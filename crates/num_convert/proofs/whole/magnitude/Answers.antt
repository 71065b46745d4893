use Rattle.std.proofs.Common.{◌≡◌, ℕ, ◌+◌, ◌-◌, ◌*◌, ◌/◌, ◌%◌, ◌^◌, ◌<◌, false, sym, ap, ◌∙◌, subst, lt_of_lt_of_le, mod-eq_of_lt, div-le_self, arith, lit≤}
use lib.Ieee.{binary32, of_bits}
use lib.Ieee.Exact.{HasValue}
use Rattle.num_convert.specs.Whole.{cut}
use Rattle.base_binary32.proofs.Patterns.{units_of, pattern_value, same_units}
use Rattle.num_convert.proofs.Cut.{cut_low, cut_middle, cut_high, high_lt}
use Rattle.num_convert.proofs.whole.magnitude.Goals as goal

-- the value of the pattern, in units
units_are : (p n : ℕ) → p < 1325400064 → HasValue (of_bits binary32 p) false n (2 ^ 149) → n ≡ units_of (p / 8388608) (p % 8388608)
units_are p n h v = same_units (of_bits binary32 p) false n (units_of (p / 8388608) (p % 8388608)) v (pattern_value p (omega arith))

pub overflow_add-result : goal.overflow_add-result
overflow_add-result c = omega (arith, div-le_self ((c.before.before.args.p % 8388608 + 8388608) * 2) (2 ^ (150 - c.before.before.args.p / 8388608)))

pub returns-then-e-lt126 : goal.returns-then-e-lt126
returns-then-e-lt126 c = let s = c.before in (omega arith, λ n v. sym (ap (λ (k : ℕ). cut s.args.up k (2 ^ 149)) (units_are s.args.p n s.requires.0 v) ∙ cut_low s.args.up _ (s.args.p % 8388608) s.requires.1 (omega arith) c.if-e-lt126.true))

pub returns-then-e-le150 : goal.returns-then-e-le150
returns-then-e-le150 c = let s = c.before.before in (
  omega (arith, div-le_self ((s.args.p % 8388608 + 8388608) * 2) (2 ^ (150 - s.args.p / 8388608))),
  λ n v. sym (ap (λ (k : ℕ). cut s.args.up k (2 ^ 149)) (units_are s.args.p n s.requires.0 v) ∙ cut_middle s.args.up _ (s.args.p % 8388608) c.before.if-e-lt126.false c.if-e-le150.true),
)

pub returns-else-e-le150 : goal.returns-else-e-le150
returns-else-e-le150 c =
    let s = c.before.before in
    let p = s.args.p in
    let l = high_lt (p / 8388608) (p % 8388608) (omega arith) c.if-e-le150.false (omega arith) in
    let w : (p % 8388608 + 8388608) * 2 ^ (p / 8388608 - 150) % 2 ^ 64 ≡ (p % 8388608 + 8388608) * 2 ^ (p / 8388608 - 150) = mod-eq_of_lt (lt_of_lt_of_le l (lit≤ tt)) in (
      subst (λ (r : ℕ). r < 2 ^ 31) (sym w) l,
      λ n v. w ∙ sym (ap (λ (k : ℕ). cut s.args.up k (2 ^ 149)) (units_are p n s.requires.0 v) ∙ cut_high s.args.up _ (p % 8388608) s.requires.1 c.if-e-le150.false),
    )
