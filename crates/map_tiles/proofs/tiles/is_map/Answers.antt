use mathlib.Core.Bool.{Bool, false, not}
use mathlib.Core.Path.{◌≡◌, sym, ◌∙◌, subst}
use Prim.Native.Nat.{ℕ, ◌*◌, ◌≤◌, ◌<◌}
use native.Mathlib.Nat.{le_trans, lt_of_le_of_lt, mul-le-mul_left, mul-le-mul_right}
use mathlib.Core.Bool.{true}
use borrow.Author.Tests.{not-true, not-false}
use lib.Dec.{T, lit<}
use Rattle.map_tiles.specs.Map.{is_side, is_map}
use Rattle.map_tiles.proofs.Maps.{is_side_lem}
use borrow.Author.Rules.{rules}
use Rattle.map_tiles.proofs.tiles.is_map.Goals.{After-struct_known-1}
use Rattle.map_tiles.proofs.tiles.is_map.Goals as goal

-- the number of tiles is at most 2 ^ 20
side : (b : Bool) (n : ℕ) → b ≡ is_side n → b ≡ true → n ≤ 1024
side b n e h = (is_side_lem n (subst T (sym h ∙ e) tt)).1

product : (c : After-struct_known-1) → c.before.before.before.before.before.before.before.args.sides.width * c.before.before.before.before.before.before.before.args.sides.height ≤ 1024 * 1024
product c =
    let s = c.before.before.before.before.before.before.before.args.sides in
    let w = side _ s.width c.before.before.before.before.before.is_side.ensures c.before.before.before.before.if-not-is_side.false in
    let h = side _ s.height c.before.before.before.is_side-2.ensures c.before.before.if-not-is_side-2.false in
    le_trans (mul-le-mul_right s.height w) (mul-le-mul_left 1024 h)

pub returns-then-not-is_side : goal.returns-then-not-is_side
unfolding is_map
returns-then-not-is_side c = simp (← c.before.before.is_side.ensures, c.if-not-is_side.true)

pub returns-then-not-is_side-2 : goal.returns-then-not-is_side-2
unfolding is_map
returns-then-not-is_side-2 c = simp (← c.before.before.before.before.is_side.ensures, c.before.before.before.if-not-is_side.false, ← c.before.before.is_side-2.ensures, c.if-not-is_side-2.true)

pub overflow_mul-result : goal.overflow_mul-result
overflow_mul-result c = record { fits = lt_of_le_of_lt (product c) (lit< tt) }

pub overflow_cast-result : goal.overflow_cast-result
overflow_cast-result c = record { fits = lt_of_le_of_lt (product c) (lit< tt) }

pub returns : goal.returns
unfolding is_map
returns c = simp (← c.before.before.before.before.before.is_side.ensures, c.before.before.before.before.if-not-is_side.false, ← c.before.before.before.is_side-2.ensures, c.before.before.if-not-is_side-2.false)
