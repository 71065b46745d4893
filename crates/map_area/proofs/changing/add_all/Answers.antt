use Rattle.std.proofs.Common.{◌≡◌, ℕ, suc, get_or, set, sym, refl, ap, ◌∙◌, add-one, arith, length-set}
use Rattle.base_turns.proofs.Mapped.{replaced, replaced_on, replaced_end}
use Rattle.map_totals.specs.Area.{added}
use Rattle.map_area.proofs.changing.add_all.Goals as goal

pub loop-entry-init : goal.loop-entry-init
loop-entry-init c = (refl, refl, refl)

pub loop-entry-preserved : goal.loop-entry-preserved
loop-entry-preserved c =
    let a = c.args in
    let l = c.loop-entry in
    let e : set l.entry-items l.entry-index (added a.n (get_or l.entry-items l.entry-index 0)) ≡ replaced (added a.n) (suc l.entry-index) a.entries.now = rw l.invariant.2 (replaced_on (added a.n) 0 l.entry-index a.entries.now (omega (arith, l.invariant.0, c.loop-entry-test.true))) in
    (l.invariant.0, length-set l.entry-items l.entry-index _ ∙ l.invariant.1, ap (set l.entry-items l.entry-index) c.wrapping_add_u32.ensures.value ∙ e ∙ ap (λ (i : ℕ). replaced (added a.n) i a.entries.now) (sym (add-one l.entry-index)))

pub returns : goal.returns
returns c =
    let a = c.args in
    let l = c.loop-entry in
    l.invariant.2 ∙ replaced_end (added a.n) l.entry-index a.entries.now (omega (arith, l.invariant.0, c.loop-entry-test.false))
