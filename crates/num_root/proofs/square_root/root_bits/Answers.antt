use mathlib.Core.Path.{◌≡◌, refl, sym, ap, ◌∙◌, subst}
use mathlib.Core.Bool.{false}
use Prim.Native.Nat.{ℕ, zero, suc, ◌+◌, ◌-◌, ◌*◌, ◌/◌, ◌%◌, ◌^◌, ◌≤◌, ◌<◌}
use native.Mathlib.Nat.{mul-one, mod-eq_of_lt, lt_of_lt_of_le}
use native.Mathlib.Omega.{arith}
use lib.Dec.{lit≤}
use lib.Ieee.{binary32, of_bits}
use lib.Ieee.Bits.{of_bits-fits}
use lib.Ieee.Exact.{HasValue}
use Rattle.base_binary32.proofs.Patterns.{units_of, pattern_value}
use Rattle.num_root.proofs.Rooted.{lift, Lifted, lifted, finer, moved}
use Rattle.num_root.proofs.square_root.root_bits.Goals.{Joined-e-eq0, then-e-eq0, else-e-eq0}
use Rattle.num_root.proofs.square_root.root_bits.Goals as goal

-- w and t are the parts of the value with the pattern b
record Parts (b w t : ℕ) : Type 0 where
  lo : 2 ^ 23 ≤ w
  hi : w < 2 ^ 24
  least : 126 ≤ t
  most : t < 403
  value : HasValue (of_bits binary32 b) false (w * 2 ^ t) (2 ^ 298)

-- ---- of a subnormal value, whose digits the code shifts
digits : (b : ℕ) → 0 < b → b / 8388608 ≡ 0 → Lifted (b % 8388608)
digits b p e = lifted (b % 8388608) (omega arith) (omega arith)

low : (b : ℕ) → 0 < b → b < 2139095040 → b / 8388608 ≡ 0 → Parts b (b % 8388608 * 2 ^ lift (b % 8388608) % 2 ^ 32) (149 - lift (b % 8388608))
low b p h e =
    let f = b % 8388608 in
    let z = lift f in
    let d = digits b p e in
    let l : z ≤ 23 = d.most in
    let v : HasValue (of_bits binary32 b) false f (2 ^ 149) = subst (λ (k : ℕ). HasValue (of_bits binary32 b) false (units_of k f) (2 ^ 149)) e (pattern_value b h) in
    subst (λ (w : ℕ). Parts b w (149 - z)) (sym (mod-eq_of_lt (lt_of_lt_of_le d.hi (lit≤ tt))))
    (record {
      lo = d.lo;
      hi = d.hi;
      least = omega arith;
      most = omega arith;
      value = finer (of_bits binary32 b) f (f * 2 ^ z * 2 ^ (149 - z)) (ap (λ (k : ℕ). k * 2 ^ 149) (sym (mul-one f)) ∙ moved f 0 z (omega arith) ∙ ap (λ (k : ℕ). f * 2 ^ z * 2 ^ k) (omega arith)) v;
    })

-- ---- of any other
high : (b : ℕ) → b < 2139095040 → (b / 8388608 ≡ 0 → ⊥) → Parts b (b % 8388608 + 8388608) (b / 8388608 + 148)
high b h e = record { lo = omega arith; hi = omega arith; least = omega arith; most = omega arith; value = finer (of_bits binary32 b) (units_of (b / 8388608) (b % 8388608)) ((b % 8388608 + 8388608) * 2 ^ (b / 8388608 + 148)) (go (b / 8388608) e) (pattern_value b h) }
  where
    go : (x : ℕ) → (x ≡ 0 → ⊥) → units_of x (b % 8388608) * 2 ^ 149 ≡ (b % 8388608 + 8388608) * 2 ^ (x + 148)
    go zero n = absurd (n refl)
    go (suc x) n = let m = b % 8388608 + 8388608 in moved m x 0 (omega arith) ∙ ap (λ (k : ℕ). k * 2 ^ (x + 149)) (mul-one m) ∙ ap (λ (k : ℕ). m * 2 ^ k) (omega arith)

parts : (c : Joined-e-eq0) → Parts c.before.args.b c.if-e-eq0.w.0 c.if-e-eq0.w.1
parts c =
    let b = c.before.args.b in
    let p = c.before.requires in
    elim c.if-e-eq0.branch [ then-e-eq0 w ↦ rw w.w-is (low b p.0 p.1 w.if-e-eq0.true) | else-e-eq0 w ↦ rw w.w-is (high b p.1 w.if-e-eq0.false) ]

pub overflow_sub-z : goal.overflow_sub-z
overflow_sub-z c = omega (arith, (digits c.before.args.b c.before.requires.0 c.if-e-eq0.true).least)

pub overflow_shl-w : goal.overflow_shl-w
overflow_shl-w c = omega (arith, (digits c.before.args.b c.before.requires.0 c.if-e-eq0.true).most)

pub overflow_sub-w : goal.overflow_sub-w
overflow_sub-w c = omega (arith, (digits c.before.args.b c.before.requires.0 c.if-e-eq0.true).most)

pub root_parts-requires : goal.root_parts-requires
root_parts-requires c = let p = parts c in (p.lo, p.hi, p.least, p.most)

pub returns : goal.returns
returns c = let b = c.before.before.args.b in (c.root_parts.ensures.0, c.root_parts.ensures.1 (of_bits binary32 b) (of_bits-fits binary32 b) (parts c.before).value)
