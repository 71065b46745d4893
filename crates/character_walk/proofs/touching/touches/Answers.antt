use mathlib.Core.Path.{◌≡◌, sym, ap, ◌∙◌, subst}
use lib.Dec.{T}
use lib.Ieee.{Float, binary32, le}
use borrow.Author.Rules.{rules}
use Rattle.num_root.specs.Root.{root}
use Rattle.num_vec2.specs.Vec2.{vdistance}
use Rattle.character_walk.specs.Touching.{touches}
use Rattle.character_walk.proofs.Far.{c784, square, square_is, distance_is, far}
use Rattle.character_walk.proofs.touching.touches.Goals as goal

pub returns-then-square : goal.returns-then-square
returns-then-square c =
    let a = c.args in
    let e : c.dot-square.result ≡ square a.p a.q = square_is a.p a.q _ _ c.sub-way.ensures c.dot-square.ensures in
    far a.p a.q (subst (λ (x : Float). T (le c784 x)) e (subst T (sym c.if-square.true) tt))

pub returns-then-d : goal.returns-then-d
unfolding touches
returns-then-d c =
    let b = c in
    let a = b.args in
    let d : c.root-d.result ≡ vdistance a.p a.q = c.root-d.ensures ∙ ap (root binary32) (square_is a.p a.q _ _ b.sub-way.ensures b.dot-square.ensures) ∙ distance_is a.p a.q in
    simp (← d, c.if-d.true)

pub returns-else-d : goal.returns-else-d
unfolding touches
returns-else-d c =
    let b = c in
    let a = b.args in
    let d : c.root-d.result ≡ vdistance a.p a.q = c.root-d.ensures ∙ ap (root binary32) (square_is a.p a.q _ _ b.sub-way.ensures b.dot-square.ensures) ∙ distance_is a.p a.q in
    simp (← d, c.if-d.false)
