use Rattle.std.proofs.Common.{◌≡◌, ℕ, ◌+◌, Bool, true, false, eqb, List, get_or, ℤ, pos, sym, refl, ap, ◌∙◌, subst, true≢false, arith, rules, to_z-of_z, w32, eqb-true}
use borrow.Author.Tests.{eqb-false}
use Rattle.num_convert.specs.Casts.{cast_signed}
use Rattle.test_common.specs.Words.{word_at}
use Rattle.test_common.proofs.numbers.are_numbers.Invariants.{First}
use Rattle.test_common.proofs.numbers.are_numbers.Goals as goal

first_more : (s : List ℕ) (zs : List ℤ) (n : ℕ) → First s zs n → get_or zs n (pos 0) ≡ cast_signed (word_at s n) → First s zs (n + 1)
first_more s zs n f q k h = go (eqb k n) refl
  where
    go : (b : Bool) → eqb k n ≡ b → get_or zs k (pos 0) ≡ cast_signed (word_at s k)
    go true e = subst (λ (m : ℕ). get_or zs m (pos 0) ≡ cast_signed (word_at s m)) (sym (eqb-true k n e)) q
    go false e = f k (let d = eqb-false k n e in omega arith)

pub loop-i-init : goal.loop-i-init
loop-i-init c = (omega arith, refl, λ k h. absurd (omega arith))

pub nth-requires : goal.nth-requires
nth-requires c = tt

pub is_int-requires : goal.is_int-requires
is_int-requires c = tt

pub returns-then-not-is_int : goal.returns-then-not-is_int
returns-then-not-is_int c h = absurd (true≢false (sym h))

pub overflow_step-i : goal.overflow_step-i
overflow_step-i c = omega arith

pub loop-i-smaller : goal.loop-i-smaller
loop-i-smaller c = omega arith

pub loop-i-preserved : goal.loop-i-preserved
loop-i-preserved c =
    let l = c in
    let a = l.args in
    let t = c.is_int in
    let q = sym (to_z-of_z {w = w32} (search rules)) ∙ t.ensures (c.if-not-is_int.false) ∙ ap cast_signed c.nth.ensures in
    (omega arith, l.loop-i.invariant.1, first_more a.words.now a.numbers.now l.loop-i.i l.loop-i.invariant.2 q)

pub returns : goal.returns
returns c h =
    let l = c.loop-i in
    λ k b. l.invariant.2 k (omega arith)
