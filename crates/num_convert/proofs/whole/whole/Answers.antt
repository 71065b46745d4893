use Rattle.std.proofs.Common.{◌≡◌, ℕ, ◌^◌, ◌<◌, Bool, cond, T, ℤ, pos, ◌-ℤ◌, neg_ℤ, sym, ap, ◌∙◌, subst, to_z-of_z, w32, SFits, to_z, of_z, le-leb}
use borrow.Author.Tests.{lt-leb}
use lib.Ieee.{binary32, fits}
use mir.Facts.{to_z_pos}
use Rattle.base_binary32.proofs.Nans.{equal_no_nan}
use Rattle.num_convert.proofs.Ranges.{in_range, out_of_range, at_nan, minus, neg_fits}
use Rattle.num_convert.proofs.whole.whole.Goals.{Start}
use Rattle.num_convert.proofs.whole.whole.Goals as goal

held : (c : Start) → T (fits binary32 c.args.x)
held c = subst T (sym c.well_formed.0.1) tt

-- 0 - r
negated : (r : ℕ) → r < 2 ^ 31 → pos 0 -ℤ to_z w32 r ≡ neg_ℤ (pos r)
negated r h = ap (λ (k : ℤ). pos 0 -ℤ k) (to_z_pos w32 h) ∙ minus (pos r)

pub returns-then-x : goal.returns-then-x
returns-then-x c = at_nan _ _ c.if-x.true

pub float_to_bits-b : goal.float_to_bits-b
float_to_bits-b c = equal_no_nan _ c.if-x.false

pub overflow_sub-result : goal.overflow_sub-result
overflow_sub-result c = let r = c.before.magnitude-w in subst (SFits w32) (sym (negated r.result r.ensures.0)) (neg_fits r.result r.ensures.0)

-- the whole number with its sign, at each branch's end
pub returns-then-b-lt2147483648 : goal.returns-then-b-lt2147483648
returns-then-b-lt2147483648 c =
    let s = c.before.before.before.before in
    let r = c.before.magnitude-w.result in
    let e = c.before.magnitude-w.ensures in
    to_z_pos w32 e.0 ∙ sym (in_range s.args.up s.args.x r (held s) c.before.before.if-p-lt1325400064.true e.0 e.1 ∙ ap (λ (b : Bool). cond b (neg_ℤ (pos r)) (pos r)) (lt-leb _ _ c.if-b-lt2147483648.true))

pub returns-else-b-lt2147483648 : goal.returns-else-b-lt2147483648
returns-else-b-lt2147483648 c =
    let s = c.before.before.before.before in
    let r = c.before.magnitude-w.result in
    let e = c.before.magnitude-w.ensures in
    ap (λ (k : ℤ). to_z w32 (of_z w32 k)) (negated r e.0) ∙ to_z-of_z (neg_fits r e.0) ∙ sym (in_range s.args.up s.args.x r (held s) c.before.before.if-p-lt1325400064.true e.0 e.1 ∙ ap (λ (b : Bool). cond b (neg_ℤ (pos r)) (pos r)) (le-leb _ _ c.if-b-lt2147483648.false))

pub returns-then-b-lt2147483648-2 : goal.returns-then-b-lt2147483648-2
returns-then-b-lt2147483648-2 c =
    let s = c.before.before.before in
    sym (out_of_range s.args.up s.args.x (held s) (equal_no_nan _ c.before.before.if-x.false) c.before.if-p-lt1325400064.false ∙ ap (λ (b : Bool). cond b (neg_ℤ (pos (2 ^ 31))) (pos 2147483647)) (lt-leb _ _ c.if-b-lt2147483648-2.true))

pub returns-else-b-lt2147483648-2 : goal.returns-else-b-lt2147483648-2
returns-else-b-lt2147483648-2 c =
    let s = c.before.before.before in
    sym (out_of_range s.args.up s.args.x (held s) (equal_no_nan _ c.before.before.if-x.false) c.before.if-p-lt1325400064.false ∙ ap (λ (b : Bool). cond b (neg_ℤ (pos (2 ^ 31))) (pos 2147483647)) (le-leb _ _ c.if-b-lt2147483648-2.false))
