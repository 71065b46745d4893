-- What a step makes of a copy, and why a message is due. Assumes nothing.
use Prim.Native.Nat.{ℕ, ◌+◌, ◌<◌}
use native.Mathlib.Omega.{arith}
use mathlib.Core.Bool.{Bool, true, false, cond, not, ◌&&◌, ◌||◌, true≢false, and-false}
use mathlib.Core.List.{List, [], ◌∷◌}
use mathlib.Core.Path.{◌≡◌, refl, sym, ap, ◌∙◌, subst}
use lib.Dec.{eqb}
use lib.IntN.{ℤ}
use borrow.Author.Tests.{eqb-true, eqb-false, eq-eqb, lt-ltb, not-true, not-false}
use Rattle.game_records.specs.declared.CharacterCore.{CharacterCore}
use Rattle.game_records.specs.declared.PlayerInput.{PlayerInput}
use Rattle.game_refusals.specs.Refusals.{too_far}
use Rattle.map_tiles.specs.declared.tiles.Sides.{Sides}
use Rattle.character.specs.Tick.{slot_at}
use Rattle.world.specs.Demand3.{record_at}
use Rattle.world.specs.Removal.{ids_in, is_in}
use Rattle.world.specs.Step.{step}
use Rattle.world.proofs.Seats.{by_test}
use Rattle.send_rule.specs.Send.{copy_at, copy_of, most_steps, counted, alone, with_step, stepped_to, staying, step_copy, same_core, due, taken_at}
use Rattle.send_rule.specs.Link.{Link}
use Rattle.send_rule.specs.Sparing.{or_none, Surprise, differs, refused, first, long}
use Rattle.send_rule.specs.declared.Copy.{Copy}
use Rattle.send_rule.specs.declared.Passed.{Passed}
use Rattle.base_turns.proofs.Tests.{either_way, both, second_false, or_first, or_second, or_cases}
use Rattle.send_rule.proofs.Cores.{core_self, core_same}
use Rattle.send_rule.proofs.Shown.{NotDue, not_due}

-- a field of what a test picks
of_cond : (b : Bool) (x y : Copy) → (cond b x y).refused ≡ cond b x.refused y.refused
of_cond true x y = refl
of_cond false x y = refl

-- ---- a copy's step
module _ (n : ℕ) (s : Sides) (ts : List ℕ) (tunings : List ℤ) (k : ℕ) (c : Copy) where
  pub step_none : c.kept ≡ false → step_copy n s ts tunings k c ≡ c
  unfolding step_copy
  step_none e = ap (λ (b : Bool). cond b (cond c.removed (staying c) (stepped_to k c (alone n s ts tunings k c))) c) e

  pub step_some : c.kept ≡ true → step_copy n s ts tunings k c ≡ cond c.removed (staying c) (stepped_to k c (alone n s ts tunings k c))
  unfolding step_copy
  step_some e = ap (λ (b : Bool). cond b (cond c.removed (staying c) (stepped_to k c (alone n s ts tunings k c))) c) e

  -- the record that its small world took
  pub step-taken : c.kept ≡ true → c.removed ≡ false → (alone n s ts tunings k c).number ≡ 0 → step_copy n s ts tunings k c ≡ with_step c (record_at (alone n s ts tunings k c).records k).core (is_in k (ids_in (alone n s ts tunings k c).removed)) false
  step-taken e f g = step_some e ∙ ap (λ (b : Bool). cond b (staying c) (stepped_to k c (alone n s ts tunings k c))) f ∙ ap (λ (b : Bool). cond b (with_step c (record_at (alone n s ts tunings k c).records k).core (is_in k (ids_in (alone n s ts tunings k c).removed)) false) (with_step c c.core false (eqb (alone n s ts tunings k c).number too_far))) (eq-eqb (alone n s ts tunings k c).number 0 g)

  -- it stays one, and counts
  pub record Counts (d : Copy) : Type 0 where
    pub kept : d.kept ≡ true
    pub steps : d.steps ≡ counted c.steps

  pub step_counts : c.kept ≡ true → Counts (step_copy n s ts tunings k c)
  step_counts e = subst Counts (sym (step_some e)) (by_test Counts c.removed (λ q. record { kept = refl; steps = refl }) (λ q. by_test Counts (eqb (alone n s ts tunings k c).number 0) (λ r. record { kept = refl; steps = refl }) (λ r. record { kept = refl; steps = refl })))

  -- it was refused where its small world was, with 9
  refused_is : c.kept ≡ true → (step_copy n s ts tunings k c).refused ≡ cond c.removed false (cond (eqb (alone n s ts tunings k c).number 0) false (eqb (alone n s ts tunings k c).number 9))
  refused_is e = ap (λ (d : Copy). d.refused) (step_some e) ∙ of_cond c.removed (staying c) (stepped_to k c (alone n s ts tunings k c)) ∙ ap (λ (b : Bool). cond c.removed false b) (of_cond (eqb (alone n s ts tunings k c).number 0) _ _)

  pub step-refused : c.kept ≡ true → c.removed ≡ false → (alone n s ts tunings k c).number ≡ 9 → (step_copy n s ts tunings k c).refused ≡ true
  step-refused e f g = refused_is e ∙ ap (λ (b : Bool). cond b false (cond (eqb (alone n s ts tunings k c).number 0) false (eqb (alone n s ts tunings k c).number 9))) f ∙ ap (λ (m : ℕ). cond (eqb m 0) false (eqb m 9)) g

  pub refused-step : c.kept ≡ true → (step_copy n s ts tunings k c).refused ≡ true → (c.removed ≡ false) × ((alone n s ts tunings k c).number ≡ 9)
  refused-step e q = go c.removed refl (eqb (alone n s ts tunings k c).number 0) refl (sym (refused_is e) ∙ q)
    where
      go : (b : Bool) → c.removed ≡ b → (d : Bool) → eqb (alone n s ts tunings k c).number 0 ≡ d → cond b false (cond d false (eqb (alone n s ts tunings k c).number 9)) ≡ true → (c.removed ≡ false) × ((alone n s ts tunings k c).number ≡ 9)
      go true f d g r = absurd (true≢false (sym r))
      go false f true g r = absurd (true≢false (sym r))
      go false f false g r = (f, eqb-true (alone n s ts tunings k c).number 9 r)

-- ---- a copy beside what was before
-- of a seat: whether somebody is there, its copy, whether it is new, and the accepted steps since its last message
pub record Fits (there : Bool) (c : Copy) (new : Bool) (since : ℕ) : Type 0 where
  pub kept : c.kept ≡ there && not new
  pub steps : c.kept ≡ true → (c.steps ≡ since) × (c.steps < most_steps)

pub fits_by : {there there' : Bool} {c c' : Copy} {new new' : Bool} {since since' : ℕ} → there' ≡ there → c' ≡ c → new' ≡ new → since' ≡ since → Fits there c new since → Fits there' c' new' since'
fits_by p q r e h = rw (p, q, r, e) h

counted_one : (q : ℕ) → q < most_steps → counted q ≡ q + 1
counted_one q l = ap (λ (b : Bool). cond b (q + 1) q) (lt-ltb q most_steps l)

-- ---- a step's copy
module _ (n : ℕ) (s : Sides) (ts : List ℕ) (tunings : List ℤ) (k : ℕ) (c : Copy) (core : CharacterCore) (i : PlayerInput) (there new : Bool) (since : ℕ) (h : Fits there c new since) where
  abbrev c' : Copy
  c' = step_copy n s ts tunings k c

  counts : c.kept ≡ true → (c'.steps ≡ since + 1) × (c'.steps < most_steps + 1)
  counts e = let x = h.steps e in let y : c'.steps ≡ c.steps + 1 = (step_counts n s ts tunings k c e).steps ∙ counted_one c.steps x.1 in let z = x.0 in let u = x.1 in (omega arith, omega arith)

  kept_before : c'.kept ≡ true → c.kept ≡ true
  kept_before e = either_way c.kept (λ q. q) (λ q. absurd (true≢false (sym e ∙ ap (λ (d : Copy). d.kept) (step_none n s ts tunings k c q) ∙ q)))

  -- no message
  since_fits : there && due c' core ≡ false → Fits there c' false (since + 1)
  since_fits e = either_way there (λ p. somebody p (not_due c' core (second_false there (due c' core) p e))) nobody
    where
      somebody : there ≡ true → NotDue c' core → Fits there c' false (since + 1)
      somebody p f = let x = counts (kept_before f.kept) in let y = x.1 in let d = eqb-false c'.steps most_steps f.short in record { kept = f.kept ∙ ap (λ (b : Bool). b && true) (sym p); steps = λ q. (x.0, omega arith) }

      nobody : there ≡ false → Fits there c' false (since + 1)
      nobody p = let q : c.kept ≡ false = h.kept ∙ ap (λ (b : Bool). b && not new) p in let r : c'.kept ≡ false = ap (λ (d : Copy). d.kept) (step_none n s ts tunings k c q) ∙ q in record { kept = r ∙ ap (λ (b : Bool). b && true) (sym p); steps = λ u. absurd (true≢false (sym u ∙ r)) }

  -- after the messages
  pub step_fits : (m : Passed) → Fits there (cond (there && due c' core) (copy_of core i) c') false (or_none since (cond (there && due c' core) (m ∷ []) []))
  step_fits m = go (there && due c' core) refl
    where
      go : (b : Bool) → there && due c' core ≡ b → Fits there (cond b (copy_of core i) c') false (or_none since (cond b (m ∷ []) []))
      go true e = record { kept = ap (λ (b : Bool). b && true) (sym (both there (due c' core) e).0); steps = λ q. (refl, omega arith) }
      go false e = since_fits e

-- ---- why it is due
module _ (c : Copy) (core : CharacterCore) where
  abbrev a1 : Bool
  a1 = not c.kept

  abbrev a2 : Bool
  a2 = a1 || c.refused

  abbrev a3 : Bool
  a3 = a2 || eqb c.steps most_steps

  due_none : c.kept ≡ false → due c core ≡ true
  unfolding due
  due_none e = or_first a3 (not (same_core c.core core)) (or_first a2 (eqb c.steps most_steps) (or_first a1 c.refused (ap not e)))

  due-refused : c.refused ≡ true → due c core ≡ true
  unfolding due
  due-refused e = or_first a3 (not (same_core c.core core)) (or_first a2 (eqb c.steps most_steps) (or_second a1 c.refused e))

  due_long : c.steps ≡ most_steps → due c core ≡ true
  unfolding due
  due_long e = or_first a3 (not (same_core c.core core)) (or_second a2 (eqb c.steps most_steps) (eq-eqb c.steps most_steps e))

  due_differs : (c.core ≡ core → ⊥) → due c core ≡ true
  unfolding due
  due_differs f = or_second a3 (not (same_core c.core core)) (either_way (same_core c.core core) (λ e. absurd (f (core_same c.core core e))) (λ e. ap not e))

  due_cases : {P : Type 0} → due c core ≡ true → (c.kept ≡ false → P) → (c.refused ≡ true → P) → (c.steps ≡ most_steps → P) → ((c.core ≡ core → ⊥) → P) → P
  unfolding due
  due_cases e f g h i = or_cases a3 (not (same_core c.core core)) e (λ p. or_cases a2 (eqb c.steps most_steps) p (λ q. or_cases a1 c.refused q (λ r. f (not-true c.kept r)) g) (λ q. h (eqb-true c.steps most_steps q))) (λ p. i (λ q. true≢false (sym (core_self c.core core q) ∙ not-true (same_core c.core core) p)))

module _ (n : ℕ) (s : Sides) (ts : List ℕ) (l : Link) (k : ℕ) (new : Bool) (since : ℕ) (h : Fits (slot_at l.world.slots k).present (copy_at l.copies k) new since) where
  abbrev old : Copy
  old = copy_at l.copies k

  abbrev stepped : Copy
  stepped = step_copy n s ts l.world.tunings k old

  abbrev core : CharacterCore
  core = taken_at (step n l.world s ts) k

  unkept : old.kept ≡ false → stepped.kept ≡ false
  unkept e = ap (λ (d : Copy). d.kept) (step_none n s ts l.world.tunings k old e) ∙ e

  steps_are : old.kept ≡ true → stepped.steps ≡ since + 1
  steps_are e = (counts n s ts l.world.tunings k old core old.input (slot_at l.world.slots k).present new since h e).0

  -- a newcomer has no copy, and who has none is one
  new_none : new ≡ true → old.kept ≡ false
  new_none e = h.kept ∙ ap (λ (b : Bool). (slot_at l.world.slots k).present && not b) e ∙ and-false (slot_at l.world.slots k).present

  none_new : (slot_at l.world.slots k).present ≡ true → old.kept ≡ false → new ≡ true
  none_new p e = not-false new (second_false (slot_at l.world.slots k).present (not new) p (sym h.kept ∙ e))

  pub why_due : Surprise n s ts l k new since → due stepped core ≡ true
  why_due (differs e f) = due_differs stepped core f
  why_due (refused e f g) = due-refused stepped core (step-refused n s ts l.world.tunings k old e f g)
  why_due (first e) = due_none stepped core (unkept (new_none e))
  why_due (long e) = either_way old.kept (λ q. due_long stepped core (steps_are q ∙ e)) (λ q. due_none stepped core (unkept q))

  pub due_why : (slot_at l.world.slots k).present ≡ true → due stepped core ≡ true → Surprise n s ts l k new since
  due_why p e = either_way old.kept some (λ q. first (none_new p q))
    where
      some : old.kept ≡ true → Surprise n s ts l k new since
      some q = due_cases stepped core e (λ r. absurd (true≢false (sym (step_counts n s ts l.world.tunings k old q).kept ∙ r))) (λ r. let x = refused-step n s ts l.world.tunings k old q r in refused q x.0 x.1) (λ r. long (sym (steps_are q) ∙ r)) (differs q)
