use mathlib.Core.Bool.{Bool, true, false, not, true≢false}
use mathlib.Core.List.{List}
use mathlib.Core.Path.{◌≡◌, refl, sym, ap, ◌∙◌}
use Prim.Native.Nat.{ℕ, ◌+◌, ◌-◌, ◌≤◌}
use native.Mathlib.Omega.{arith}
use lib.Ieee.{Float}
use borrow.Author.Rules.{rules}
use borrow.Author.Tests.{not-true, not-false, ne_eqb}
use Rattle.num_vec2.specs.declared.vec2.{vec2}
use Rattle.character_meeting.specs.Meeting.{is_beyond}
use Rattle.character.specs.Among.{may_meet}
use Rattle.character.specs.Places.{place_at}
use Rattle.character.proofs.Scan.{Scanned, scan_first, scan_on}
use Rattle.character.proofs.rows.none_met.Goals as goal

pub returns-then-j-ne0 : goal.returns-then-j-ne0
returns-then-j-ne0 c = λ e. absurd (true≢false (sym e))

pub returns-then-j-held : goal.returns-then-j-held
returns-then-j-held c = λ e. absurd (true≢false (sym e))

pub overflow_add-k-end : goal.overflow_add-k-end
overflow_add-k-end c = omega arith

pub loop-k-init : goal.loop-k-init
loop-k-init c = (refl, omega arith, scan_first)

pub offset_bounds-xs-k : goal.offset_bounds-xs-k
offset_bounds-xs-k c = omega arith

pub offset_bounds-ys-k : goal.offset_bounds-ys-k
offset_bounds-ys-k c = omega arith

pub overflow_step-k : goal.overflow_step-k
overflow_step-k c = omega arith

pub loop-k-smaller : goal.loop-k-smaller
loop-k-smaller c = omega arith

pub loop-k-preserved : goal.loop-k-preserved
loop-k-preserved c =
    let l = c.loop-k in
    let a = c.args in
    (l.invariant.0, omega arith, scan_on (not c.is_beyond.result) l.invariant.2 (ap not (c.is_beyond.ensures ∙ ap (is_beyond a.pos) c.new-place.ensures)))

-- a far one is not met where the held one is elsewhere
unmet : (p q : vec2) (k held : ℕ) → is_beyond p q ≡ true → (k ≡ held → ⊥) → may_meet p q k held ≡ false
unfolding may_meet
unmet p q k held far o = simp (far, ne_eqb k held o)

pub returns : goal.returns
returns c = λ e.
    let l = c.loop-k in
    let a = c.args in
    record {
      row = omega arith;
      none = λ i m h. unmet a.pos (place_at a.xs.now a.ys.now i) i a.held (not-false _ (l.invariant.2.none (not-true l.any e) i m (omega arith))) (λ z. omega arith);
    }
