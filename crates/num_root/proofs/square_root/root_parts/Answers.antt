use mathlib.Core.Path.{sym, subst}
use Prim.Native.Nat.{ℕ, suc, ◌*◌, ◌%◌, ◌^◌, ◌≤◌, ◌<◌}
use native.Mathlib.Numerals.{add-one}
use native.Mathlib.Omega.{arith}
use Rattle.num_root.proofs.Squares.{small}
use Rattle.num_root.proofs.Floors.{Floor}
use Rattle.num_root.proofs.Rooted.{wide, Shifted, shifted, root_pattern}
use Rattle.num_root.proofs.square_root.root_parts.Goals.{After-isqrt-s, Start}
use Rattle.num_root.proofs.square_root.root_parts.Goals as goal

facts : (c : Start) → Shifted c.args.w c.args.t
facts c = shifted c.args.w c.args.t c.requires.0 c.requires.1 (omega arith)

floor : (c : After-isqrt-s) → Floor (wide c.before.before.args.w c.before.before.args.t) c.isqrt-s.result
floor c =
    let w = facts c.before.before in
    let s = c.isqrt-s.result in
    let n = wide c.before.before.args.w c.before.before.args.t in
    (subst (λ (k : ℕ). s * s ≤ k) w.whole c.isqrt-s.ensures.0, subst (λ (k : ℕ). k < suc s * suc s) w.whole (subst (λ (k : ℕ). n % 2 ^ 64 < k * k) (add-one s) c.isqrt-s.ensures.1))

bound : (c : After-isqrt-s) → c.isqrt-s.result < 2 ^ 25
bound c = small c.isqrt-s.result _ (floor c).0 (facts c.before.before).hi

pub isqrt-s-requires : goal.isqrt-s-requires
isqrt-s-requires c = (subst (λ (n : ℕ). n < 2 ^ 50) (sym (facts c.before).whole) (facts c.before).hi, c.guess.ensures)

pub overflow_add-result-2 : goal.overflow_add-result-2
overflow_add-result-2 c = omega (arith, bound c)

pub overflow_cast-result : goal.overflow_cast-result
overflow_cast-result c = omega (arith, bound c)

pub overflow_add-result-3 : goal.overflow_add-result-3
overflow_add-result-3 c = omega (arith, bound c)

pub returns : goal.returns
returns c = let s = c.before.before in (omega (arith, bound c), root_pattern s.args.w s.args.t c.isqrt-s.result s.requires.0 s.requires.1 s.requires.2 s.requires.3 (floor c))
