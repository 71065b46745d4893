use Rattle.std.proofs.Common.{◌≡◌, true, sym, refl, ◌∙◌, true≢false}
use lib.Ieee.{Float, nan, inf, fin, is_nan}
use Rattle.num_ramp.specs.Power.{powf}
use Rattle.num_ramp.proofs.power.powf.Goals as goal

at_nan : (c e : Float) → is_nan e ≡ true → e ≡ powf c e
unfolding powf is_nan
at_nan c nan h = refl
at_nan c (inf s) h = absurd (true≢false (sym h))
at_nan c (fin s m x) h = absurd (true≢false (sym h))

pub returns-then-is_nan : goal.returns-then-is_nan
returns-then-is_nan c = at_nan c.args.c c.args.e (sym c.is_nan.ensures.value ∙ c.if-is_nan.true)

pub parts-k-requires : goal.parts-k-requires
parts-k-requires c = rw (sym c.is_nan.ensures.value ∙ c.if-is_nan.false) tt

pub returns-then-e : goal.returns-then-e
unfolding powf
returns-then-e c = simp (sym c.is_nan.ensures.value ∙ c.if-is_nan.false, c.if-e.true, ← c.parts-k.ensures, ← c.squares.ensures, ← c.roots-p.ensures)

pub returns-else-e : goal.returns-else-e
unfolding powf
returns-else-e c = simp (sym c.is_nan.ensures.value ∙ c.if-is_nan.false, c.if-e.false, ← c.parts-k.ensures, ← c.squares.ensures, ← c.roots-p.ensures)
