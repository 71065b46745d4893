use mathlib.Core.Path.{◌≡◌, sym, ap, ◌∙◌}
use mathlib.Core.Bool.{Bool, true, false, cond, ◌||◌}
use mathlib.Core.List.{List}
use Prim.Native.Nat.{ℕ}
use Rattle.num_convert.specs.Number.{c0}
use Rattle.num_vec2.specs.Vec2.{vnew}
use Rattle.num_vec2.specs.declared.vec2.{vec2}
use Rattle.map_tiles.specs.declared.tiles.Sides.{Sides}
use Rattle.map_walks.specs.declared.moves.Body.{Body}
use Rattle.map_tiles.specs.Box.{check_box}
use Rattle.map_walks.specs.Move.{body_of, blocked}
use borrow.Author.Rules.{rules}
use Rattle.map_walks.proofs.moves.blocked.Goals.{After-check_box-hit_x}
use Rattle.map_walks.proofs.moves.blocked.Goals as goal

-- what `blocked` gives, by its two tests
outcome : Body → vec2 → Bool → Bool → Body
outcome b new hit_y hit_x =
    cond (hit_y || hit_x)
    (body_of (cond hit_x b.pos.x new.x) (cond hit_y b.pos.y new.y) (cond hit_x c0 b.vel.x) (cond hit_y c0 b.vel.y))
    (body_of b.pos.x b.pos.y c0 c0)

blocked_is : (s : Sides) (ts : List ℕ) (b : Body) (new box : vec2) (hit_y hit_x : Bool) → check_box s ts (vnew b.pos.x new.y) box ≡ hit_y → check_box s ts (vnew new.x b.pos.y) box ≡ hit_x → blocked s ts b new box ≡ outcome b new hit_y hit_x
unfolding blocked outcome
blocked_is s ts b new box hit_y hit_x p q = simp (p, q)

blocked-at : (c : After-check_box-hit_x) (hit_y hit_x : Bool) → c.check_box-hit_y.result ≡ hit_y → c.check_box-hit_x.result ≡ hit_x
    → blocked c.args.sides c.args.tiles.now c.args.body c.args.new_pos c.args.box_ ≡ outcome c.args.body c.args.new_pos hit_y hit_x
blocked-at c hit_y hit_x p q =
    let a = c.args in
    blocked_is a.sides a.tiles.now a.body a.new_pos a.box_ hit_y hit_x
    (ap (λ (v : vec2). check_box a.sides a.tiles.now v a.box_) (sym c.new.ensures) ∙ sym c.check_box-hit_y.ensures ∙ p)
    (ap (λ (v : vec2). check_box a.sides a.tiles.now v a.box_) (sym c.new-2.ensures) ∙ sym c.check_box-hit_x.ensures ∙ q)

pub returns-then-hit_x : goal.returns-then-hit_x
unfolding outcome
returns-then-hit_x c = c.body_of.ensures ∙ sym (blocked-at (record { before = c.before.before.before.before; type_inv = record { tiles = c.type_inv.tiles } }) true true c.if-hit_y.true c.if-hit_x.true)

pub returns-then-hit_y : goal.returns-then-hit_y
unfolding outcome
returns-then-hit_y c = c.body_of-then-hit_y.ensures ∙ sym (blocked-at (record { before = c.before.before.before.before; type_inv = record { tiles = c.type_inv.tiles } }) true false c.if-hit_y.true c.if-hit_x.false)

pub returns-then-hit_x-2 : goal.returns-then-hit_x-2
unfolding outcome
returns-then-hit_x-2 c = c.body_of-then-hit_x-2.ensures ∙ sym (blocked-at (record { before = c.before.before.before.before; type_inv = record { tiles = c.type_inv.tiles } }) false true c.if-hit_y.false c.if-hit_x-2.true)

pub returns : goal.returns
unfolding outcome
returns c = c.body_of-2.ensures ∙ sym (blocked-at (record { before = c.before.before.before.before; type_inv = record { tiles = c.type_inv.tiles } }) false false c.if-hit_y.false c.if-hit_x-2.false)
