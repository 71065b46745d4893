-- What is passed along stands in its place, and each seat's copy follows from its own messages, leave and removal, for every number of slots. Assumes nothing.
use Prim.Native.Nat.{ℕ, ◌<◌}
use mathlib.Core.Bool.{Bool, true, false, cond, or-false}
use mathlib.Core.List.{List, [], ◌∷◌, ◌++◌, map, append-nil}
use mathlib.Core.Path.{◌≡◌, refl, sym, ap, ◌∙◌, subst}
use lib.Dec.{eqb}
use Rattle.game_records.specs.declared.CharacterCore.{CharacterCore}
use Rattle.game_records.specs.declared.PlayerInput.{PlayerInput}
use Rattle.map_tiles.specs.declared.tiles.Sides.{Sides}
use Rattle.world.specs.Calls.{place_of}
use Rattle.world.specs.Removal.{ids_in, is_in}
use Rattle.world.specs.Run.{ran}
use Rattle.world.specs.Step.{step}
use Rattle.world.specs.declared.call.Call.{Call}
use Rattle.world.specs.declared.call.Call.TheVariants.{Join, Leave, Input, Step, Tune}
use Rattle.world.specs.Answered.{Stepped}
use Rattle.send_rule.specs.Send.{Sent, no_copy, copy_at, copy_of, dropped, taken_at, used_at, send_messages, send_accepted}
use Rattle.send_rule.specs.Link.{Link, fresh_link, sent_on, called, messages, in_order}
use Rattle.send_rule.specs.Along.{Passes, renewed, copy_after, CallAlong, Along}
use Rattle.send_rule.specs.declared.Copy.{Copy}
use Rattle.send_rule.specs.declared.Passed.{Passed}
use Rattle.send_rule.specs.declared.Passed.TheVariants as passed
use Rattle.send_rule.specs.declared.Screen.{Screen}
use Rattle.send_rule.proofs.Places.{drop_other, drop_same}
use Rattle.send_rule.proofs.Messages.{messages-append, no_removal, message_of, its_copy, has_message, order_removals, sent_copy, sent_messages, sent_order}
use Rattle.send_rule.proofs.Linked.{Linked, linked_first, linked_next, every_call, sent-accepted, sent-refused}

-- some are dropped, by a test
pub drop_test : (ks : List ℕ) (cs : List Copy) (k : ℕ) → copy_at (dropped ks cs) k ≡ cond (is_in k ks) no_copy (copy_at cs k)
drop_test ks cs k = go (is_in k ks) refl
  where
    go : (b : Bool) → is_in k ks ≡ b → copy_at (dropped ks cs) k ≡ cond b no_copy (copy_at cs k)
    go true e = drop_same ks cs k e
    go false e = drop_other ks cs k e

renewed_test : (b : Bool) (k : ℕ) (core : CharacterCore) (i : PlayerInput) (d : Copy) → cond b (copy_of core i) d ≡ renewed (cond b (passed.Message k core i ∷ []) []) d
renewed_test true k core i d = refl
renewed_test false k core i d = refl

module _ (n : ℕ) (s : Sides) (ts : List ℕ) (l : Link) (h : Linked n s ts l) where
  -- ---- an accepted step
  module _ (accepted : (step n l.world s ts).number ≡ 0) where
    abbrev a : Stepped
    a = step n l.world s ts

    abbrev m : Sent
    m = send_messages n s ts l.world a l.copies

    abbrev removals : List Passed
    removals = map passed.Removal (ids_in a.removed)

    passed_is : (sent_on n s ts l Step).passed ≡ m.passed ++ removals
    passed_is = ap (λ (m : Sent). m.passed) (sent-accepted n s ts l Step accepted)

    order : Passes n a (sent_on n s ts l Step).passed Step
    order = subst (λ (qs : List Passed). qs ≡ passed.Mark ∷ (in_order n qs ++ removals)) (sym passed_is) (ap (λ (qs : List Passed). qs ++ removals) (sent_order n s ts l.world a l.copies h.size) ∙ ap (λ (qs : List Passed). passed.Mark ∷ (qs ++ removals)) (sym (order_removals n m.passed (ids_in a.removed))))

    -- the messages of one seat
    pub step-messages : (k : ℕ) → k < n → messages k (sent_on n s ts l Step).passed ≡ cond (has_message n s ts l.world a l.copies k) (message_of l.world a k ∷ []) []
    step-messages k q =
        ap (messages k) passed_is ∙ messages-append k m.passed removals ∙ ap (λ (qs : List Passed). messages k m.passed ++ qs) (no_removal k (ids_in a.removed)) ∙ append-nil (messages k m.passed) ∙ sent_messages n s ts l.world a l.copies h.size k q

    step-copy : (k : ℕ) → k < n → copy_at (called n s ts l Step).copies k ≡ copy_after n s ts l k a (copy_at l.copies k) Step
    step-copy k q =
        let c = its_copy n s ts l.world a l.copies k in
        let b = has_message n s ts l.world a l.copies k in
        ap (λ (m : Sent). copy_at m.copies k) (sent-accepted n s ts l Step accepted)
        ∙ drop_test (ids_in a.removed) m.copies k
        ∙ ap (λ (d : Copy). cond (is_in k (ids_in a.removed)) no_copy d) (sent_copy n s ts l.world a l.copies h.size k q ∙ renewed_test b k (taken_at a k) (used_at l.world k) c ∙ ap (λ (ps : List Passed). renewed ps c) (sym (step-messages k q)))

  -- ---- every call
  passes : (c : Call) → (ran n s ts l.world c).number ≡ 0 → Passes n (ran n s ts l.world c) (sent_on n s ts l c).passed c
  passes (Join id x y) e = ap (λ (m : Sent). m.passed) (sent-accepted n s ts l (Join id x y) e)
  passes (Leave id) e = ap (λ (m : Sent). m.passed) (sent-accepted n s ts l (Leave id) e)
  passes (Input id d x y j g) e = ap (λ (m : Sent). m.passed) (sent-accepted n s ts l (Input id d x y j g) e)
  passes (Tune index z) e = ap (λ (m : Sent). m.passed) (sent-accepted n s ts l (Tune index z) e)
  passes Step e = order e

  abbrev copy_now : Call → ℕ → Copy
  copy_now c k = copy_at (send_accepted n s ts l.world l.copies c).copies k

  copy_is : (c : Call) → (ran n s ts l.world c).number ≡ 0 → (k : ℕ) → copy_at (called n s ts l c).copies k ≡ copy_now c k
  copy_is c e k = ap (λ (m : Sent). copy_at m.copies k) (sent-accepted n s ts l c e)

  pub copies : (c : Call) → (ran n s ts l.world c).number ≡ 0 → (k : ℕ) → k < n → copy_at (called n s ts l c).copies k ≡ copy_after n s ts l k (ran n s ts l.world c) (copy_at l.copies k) c
  copies (Join id x y) e k q = copy_is (Join id x y) e k
  copies (Leave id) e k q = copy_is (Leave id) e k ∙ drop_test (place_of n id ∷ []) l.copies k ∙ ap (λ (b : Bool). cond b no_copy (copy_at l.copies k)) (or-false (eqb (place_of n id) k))
  copies (Input id d x y j g) e k q = copy_is (Input id d x y j g) e k
  copies (Tune index z) e k q = copy_is (Tune index z) e k
  copies Step e k q = step-copy e k q

  pub call_along : (c : Call) → CallAlong n s ts l c
  call_along c = record {
    accepted = passes c;
    refused = λ e. ap (λ (m : Sent). m.passed) (sent-refused n s ts l c e);
    copy = copies c;
    kept = λ e. ap (λ (m : Sent). m.copies) (sent-refused n s ts l c e);
    both = ap (λ (z : Screen). z.copies) (linked_next n s ts l c h).screen;
    tunings = ap (λ (z : Screen). z.tunings) (linked_next n s ts l c h).screen;
  }

pub sender_passes : (n : ℕ) → Along n
sender_passes n s ts cs = every_call n s ts (CallAlong n s ts) (λ l c h. call_along n s ts l h c) cs (fresh_link n) (linked_first n s ts)
