use Prim.Native.Nat.{ℕ, zero, suc, ◌-◌, ◌≤◌}
use mathlib.Core.Path.{◌≡◌, refl, sym, ap, ◌∙◌}
use native.Mathlib.Omega.{arith}
use lib.Ieee.{Float}
use borrow.Author.Rules.{rules}
use Rattle.num_vec2.specs.declared.vec2.{vec2}
use Rattle.map_lines.specs.Points.{point_at}
use Rattle.character_near.specs.Near.{point_before}
use Rattle.character_near.proofs.walk.point_before.Goals as goal

start : (from to : vec2) (d : Float) (i : ℕ) → i ≡ 0 → from ≡ point_before from to d i
start from to d i e = ap (point_before from to d) (sym e)

later : (from to : vec2) (d : Float) (i : ℕ) → 1 ≤ i → point_at from to d (i - 1) ≡ point_before from to d i
later from to d zero h = absurd (omega arith)
later from to d (suc i) h = ap (point_at from to d) (one_less i)
  where
    one_less : (i : ℕ) → suc i - 1 ≡ i
    one_less i = omega arith

pub returns-then-i-eq0 : goal.returns-then-i-eq0
returns-then-i-eq0 c = start _ _ _ c.args.i (omega arith)

pub overflow_sub-i : goal.overflow_sub-i
overflow_sub-i c = omega arith

pub point_at-requires : goal.point_at-requires
point_at-requires c = omega arith

pub returns : goal.returns
returns c = c.point_at.ensures ∙ later _ _ _ c.args.i (omega arith)
