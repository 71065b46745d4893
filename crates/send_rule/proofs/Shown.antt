-- After every accepted step and its messages the screen shows what the step took, for every number of slots. Assumes nothing.
use Prim.Native.Nat.{ℕ, ◌<◌}
use mathlib.Core.Bool.{Bool, true, false, not, ◌||◌}
use mathlib.Core.List.{List, ◌∷◌}
use mathlib.Core.Path.{◌≡◌, refl, sym, ap, ◌∙◌, subst}
use lib.Dec.{eqb}
use borrow.Author.Tests.{not-false}
use Rattle.game_records.specs.declared.CharacterCore.{CharacterCore}
use Rattle.map_tiles.specs.declared.tiles.Sides.{Sides}
use Rattle.character.specs.Tick.{slot_at}
use Rattle.world.specs.Demand3.{record_at}
use Rattle.world.specs.Removal.{ids_in, is_in}
use Rattle.world.specs.Run.{ran}
use Rattle.world.specs.Step.{step}
use Rattle.world.specs.declared.call.Call.{Call}
use Rattle.world.specs.declared.call.Call.TheVariants.{Step}
use Rattle.world.specs.declared.Published.{Published}
use Rattle.world.specs.Answered.{Stepped}
use Rattle.world.proofs.Present.{present-next}
use Rattle.world.proofs.Seats.{by_test}
use Rattle.send_rule.specs.Send.{Sent, copy_at, copy_of, most_steps, dropped, same_core, due, taken_at, used_at, send_messages, receive_all}
use Rattle.send_rule.specs.Link.{Link, fresh_link, sent_on, called, in_order}
use Rattle.send_rule.specs.Shown.{shown, after_messages, StepShown, CallShown, Shown}
use Rattle.send_rule.specs.declared.Copy.{Copy}
use Rattle.send_rule.specs.declared.Passed.{Passed}
use Rattle.send_rule.specs.declared.Passed.TheVariants as passed
use Rattle.send_rule.specs.declared.Screen.{Screen}
use Rattle.base_turns.proofs.Tests.{neither, second_false}
use Rattle.send_rule.proofs.Cores.{core_same}
use Rattle.send_rule.proofs.Places.{drop_other}
use Rattle.send_rule.proofs.Steps.{not_gone, step-leaves}
use Rattle.send_rule.proofs.Messages.{its_copy, has_message, order_removals, sent_copy, sent_order}
use Rattle.send_rule.proofs.Linked.{messages-received, Linked, linked_first, linked_next, every_call, sent-accepted}

-- ---- a copy without a message
pub record NotDue (c : Copy) (core : CharacterCore) : Type 0 where
  pub kept : c.kept ≡ true
  pub short : eqb c.steps most_steps ≡ false
  pub same : c.core ≡ core

pub not_due : (c : Copy) (core : CharacterCore) → due c core ≡ false → NotDue c core
unfolding due
not_due c core e =
    let x = same_core c.core core in
    let y = eqb c.steps most_steps in
    let f = neither (not c.kept || c.refused || y) (not x) e in
    let g = neither (not c.kept || c.refused) y f.0 in
    record { kept = not-false c.kept (neither (not c.kept) c.refused g.0).0; short = g.1; same = core_same c.core core (not-false x f.1) }

abbrev shown_of : Copy → Published
shown_of c = record { present = c.kept; core = c.core }

module _ (n : ℕ) (s : Sides) (ts : List ℕ) where
  -- ---- an accepted step
  module _ (l : Link) (h : Linked n s ts l) (accepted : (step n l.world s ts).number ≡ 0) where
    abbrev a : Stepped
    a = step n l.world s ts

    abbrev m : Sent
    m = send_messages n s ts l.world a l.copies

    abbrev after : List Copy
    after = m.copies

    -- a record was taken
    taken : (k : ℕ) → k < n → (slot_at l.world.slots k).present ≡ true → (c : Copy) → c.kept ≡ true → c.core ≡ taken_at a k → shown_of c ≡ record_at a.records k
    taken k q p c e f = ap (λ (b : Bool). record { present = b; core = c.core }) (e ∙ sym ((step-leaves n s ts l.world).published accepted k q p)) ∙ ap (λ (x : CharacterCore). record { present = (record_at a.records k).present; core = x }) f

    copy-right : (k : ℕ) → k < n → (slot_at l.world.slots k).present ≡ true → shown_of (copy_at after k) ≡ record_at a.records k
    copy-right k q p =
        let c = its_copy n s ts l.world a l.copies k in
        ap shown_of (sent_copy n s ts l.world a l.copies h.size k q)
        ∙ by_test (λ (c : Copy). shown_of c ≡ record_at a.records k) (has_message n s ts l.world a l.copies k) (λ e. taken k q p (copy_of (taken_at a k) (used_at l.world k)) refl refl) (λ e. let f = not_due c (taken_at a k) (second_false (slot_at l.world.slots k).present (due c (taken_at a k)) p e) in taken k q p c f.kept f.same)

    -- the mark and the messages among what is passed along
    front : m.passed ≡ passed.Mark ∷ in_order n (sent_on n s ts l Step).passed
    front = sent_order n s ts l.world a l.copies h.size ∙ ap (λ (ps : List Passed). passed.Mark ∷ ps) (sym (ap (λ (m : Sent). in_order n m.passed) (sent-accepted n s ts l Step accepted) ∙ order_removals n m.passed (ids_in a.removed)))

    told : (k : ℕ) → k < n → (slot_at l.world.slots k).present ≡ true → shown (after_messages n s ts l) k ≡ record_at a.records k
    told k q p = ap (λ (ps : List Passed). shown (receive_all n s ts l.screen ps) k) (sym front) ∙ ap (λ (z : Screen). shown (receive_all n s ts z m.passed) k) h.screen ∙ ap (λ (z : Screen). shown z k) (messages-received n s ts l.world l.copies a) ∙ copy-right k q p

    -- the sender's copies after the step
    left : (called n s ts l Step).copies ≡ dropped (ids_in a.removed) after
    left = ap (λ (m : Sent). m.copies) (sent-accepted n s ts l Step accepted)

    still : (k : ℕ) → k < n → (slot_at (called n s ts l Step).world.slots k).present ≡ true → shown (called n s ts l Step).screen k ≡ record_at a.records k
    still k q p =
        let r = not_gone (is_in k (ids_in a.removed)) (slot_at l.world.slots k).present (sym (present-next n s ts l.world Step h.settled k) ∙ p) in
        ap (λ (z : Screen). shown z k) (linked_next n s ts l Step h).screen ∙ ap (λ (us : List Copy). shown_of (copy_at us k)) left ∙ ap shown_of (drop_other (ids_in a.removed) after k r.0) ∙ copy-right k q r.1

    step-shown : StepShown n s ts l
    step-shown = record { taken = (step-leaves n s ts l.world).published accepted; told = told; still = still }

  -- ---- every call
  call_shown : (l : Link) (c : Call) → Linked n s ts l → CallShown n s ts l c
  call_shown l c h e q = step-shown l h (subst (λ (d : Call). (ran n s ts l.world d).number ≡ 0) e q)

pub screen_shows : (n : ℕ) → Shown n
screen_shows n s ts cs = every_call n s ts (CallShown n s ts) (call_shown n s ts) cs (fresh_link n) (linked_first n s ts)
