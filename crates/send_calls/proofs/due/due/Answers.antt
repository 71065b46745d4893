use Rattle.std.proofs.Common.{◌≡◌, Bool, true, false, not, ◌||◌, refl, ap, ◌∙◌}
use lib.Dec.{eqb}
use Rattle.send_rule.specs.Send.{due, same_core, most_steps}
use Rattle.send_calls.proofs.Equal.{equal_is}
use Rattle.send_calls.proofs.due.due.Goals.{Joined-copy, then-not-copy, else-not-copy, then-copy, else-copy}
use Rattle.send_calls.proofs.due.due.Goals as goal

-- a test b and, where it fails, the test c
either : (b c v : Bool) → b ≡ true → v ≡ b → v ≡ (b || c)
either true c v p q = q
either false c v p q = cc

neither : (b c v : Bool) → b ≡ false → v ≡ c → v ≡ (b || c)
neither false c v p q = q
neither true c v p q = cc

first : (c : Joined-copy) → c.if-not-copy.value ≡ (not c.args.copy.kept || c.args.copy.refused)
first c = elim c.if-not-copy.branch [ then-not-copy w ↦ simp (w.value-is, w.if-not-copy.true) | else-not-copy w ↦ simp (w.value-is, w.if-not-copy.false) ]

second : (c : Joined-copy) → c.if-copy.value ≡ (c.if-not-copy.value || eqb c.args.copy.steps most_steps)
second c = elim c.if-copy.branch [ then-copy w ↦ either _ _ _ w.if-copy.true w.value-is | else-copy w ↦ neither _ _ _ w.if-copy.false w.value-is ]

-- the rest n, where the tests k, r and e were made
taken : (k r e n v w : Bool) → v ≡ (k || r) → w ≡ (v || e) → w ≡ true → w ≡ (k || r || e || n)
taken true r e n v w p q t = t
taken false true e n v w p q t = t
taken false false true n v w p q t = t
taken false false false n v w p q t = cc

left : (k r e n v w : Bool) → v ≡ (k || r) → w ≡ (v || e) → w ≡ false → n ≡ (k || r || e || n)
left true r e n v w p q t = cc
left false true e n v w p q t = cc
left false false true n v w p q t = cc
left false false false n v w p q t = refl

pub returns-then-copy-eq-MOST_STEPS : goal.returns-then-copy-eq-MOST_STEPS
unfolding due
returns-then-copy-eq-MOST_STEPS c =
    let d = c.args.copy in
    taken (not d.kept) d.refused (eqb d.steps most_steps) (not (same_core d.core c.args.core)) c.if-not-copy.value c.if-copy.value (first c.before) (second c.before) c.if-copy-eq-MOST_STEPS.true

pub returns-else-copy-eq-MOST_STEPS : goal.returns-else-copy-eq-MOST_STEPS
unfolding due
returns-else-copy-eq-MOST_STEPS c =
    let d = c.args.copy in
    c.ne.ensures ∙ ap not (equal_is _ _) ∙ left (not d.kept) d.refused (eqb d.steps most_steps) (not (same_core d.core c.args.core)) c.if-not-copy.value c.if-copy.value (first c.before.before.before.before) (second c.before.before.before.before) c.if-copy-eq-MOST_STEPS.false
