use Rattle.std.proofs.Common.{◌≡◌, ℕ, ◌+◌, Bool, true, false, leb, ℤ, pos, negsuc, refl, sym, ap, ◌∙◌, ap₂, true≢false, arith, to_z-of_z, w32, SFits, to_z, of_z}
use borrow.Author.Tests.{leb-false}
use lib.Signed.{le_z}
use Rattle.map_tiles.specs.Map.{count}
use Rattle.map_totals.specs.Calls.{is_span}
use Rattle.map_area.proofs.counting.is_span.Goals.{then-from-ge0, else-from-ge0}
use Rattle.map_area.proofs.counting.is_span.Goals as goal

read : (y z : ℤ) (b : Bool) → SFits w32 z → le_z y (to_z w32 (of_z w32 z)) ≡ b → le_z y z ≡ b
read y z b f h = rw (to_z-of_z f) at h

before : (from n : ℤ) (side : ℕ) → le_z (pos 0) from ≡ false → false ≡ is_span from n side
unfolding is_span
before (pos from) n side h = absurd (let l = leb-false 0 from h in omega arith)
before (negsuc from) n side h = refl

none : (from n : ℤ) (side : ℕ) → le_z (pos 1) n ≡ false → false ≡ is_span from n side
unfolding is_span
none (pos from) (pos n) side h = rw h refl
none (pos from) (negsuc n) side h = refl
none (negsuc from) n side h = refl

some : (from n : ℤ) (side : ℕ) → le_z (pos 0) from ≡ true → le_z (pos 1) n ≡ true → leb (count from + count n) side ≡ is_span from n side
unfolding is_span
some (pos from) (pos n) side h k = rw k refl
some (pos from) (negsuc n) side h k = absurd (true≢false (sym k))
some (negsuc from) n side h k = absurd (true≢false (sym h))

pub returns-then-n-ge1 : goal.returns-then-n-ge1
returns-then-n-ge1 c =
    let a = c.args in
    let f = c.ranges in
    let x : c.count.result ≡ count a.from = c.count.ensures.0 ∙ ap count (to_z-of_z f.from) in
    let y : c.count-then-n-ge1.result ≡ count a.n = c.count-then-n-ge1.ensures.0 ∙ ap count (to_z-of_z f.n) in
    elim c.if-from-ge0.branch [
      | then-from-ge0 w ↦ ap₂ (λ (i j : ℕ). leb (i + j) a.side) x y ∙ some a.from a.n a.side (read (pos 0) _ true f.from w.if-from-ge0.true) (read (pos 1) _ true f.n (sym w.value-is ∙ c.if-n-ge1.true))
      | else-from-ge0 w ↦ absurd (true≢false (sym c.if-n-ge1.true ∙ w.value-is ∙ w.if-from-ge0.false))
    ]

pub returns-else-n-ge1 : goal.returns-else-n-ge1
returns-else-n-ge1 c =
    let f = c.ranges in
    elim c.if-from-ge0.branch [
      | then-from-ge0 w ↦ c.if-n-ge1.false ∙ none _ _ _ (read (pos 1) _ false f.n (sym w.value-is ∙ c.if-n-ge1.false))
      | else-from-ge0 w ↦ c.if-n-ge1.false ∙ before _ _ _ (read (pos 0) _ false f.from w.if-from-ge0.false)
    ]
