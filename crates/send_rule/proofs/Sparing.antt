-- Messages are sent in the four cases and at no other time, for every number of slots. Assumes nothing.
use Prim.Native.Nat.{ℕ, ◌<◌}
use native.Mathlib.Omega.{arith}
use mathlib.Core.Bool.{Bool, true, false, cond, not, ◌&&◌, true≢false, and-true, and-false}
use mathlib.Core.List.{List, [], ◌∷◌}
use mathlib.Core.Path.{◌≡◌, refl, sym, ap, ◌∙◌, subst}
use lib.Dec.{eqb, ltb}
use lib.IntN.{ℤ}
use lib.ListN.{get_or-replicate}
use borrow.Author.Tests.{eqb-true, eqb-false, eq-eqb}
use Rattle.game_refusals.specs.Refusals.{bad_map, bad_id, out_of_reach, not_clear, already_present}
use Rattle.map_tiles.specs.Box.{check_box, character_box}
use Rattle.map_tiles.specs.Map.{is_map}
use Rattle.map_tiles.specs.declared.tiles.Sides.{Sides}
use Rattle.character.specs.Slot.{joined_slot}
use Rattle.character.specs.Tick.{slot_at}
use Rattle.world.specs.World.{with_slot}
use Rattle.world.specs.Calls.{refused, accepted, place_of, is_in_reach, point_of, join_at, join}
use Rattle.world.specs.Demand3.{present_after}
use Rattle.world.specs.Removal.{ids_in, is_in}
use Rattle.world.specs.Run.{ran}
use Rattle.world.specs.Step.{step}
use Rattle.world.specs.declared.call.Call.{Call}
use Rattle.world.specs.declared.call.Call.TheVariants.{Join, Leave, Input, Step, Tune}
use Rattle.world.specs.Answered.{Stepped}
use Rattle.world.specs.declared.World.{World}
use Rattle.world.proofs.Demand1.{demand1}
use Rattle.world.proofs.Present.{present-next, fresh_absent}
use Rattle.world.proofs.Seats.{by_test}
use Rattle.send_rule.specs.Send.{Sent, no_copy, copy_at, due, taken_at, used_at, send_messages, send_accepted}
use Rattle.send_rule.specs.Link.{Link, fresh_link, sent_on, called, EveryCall, messages}
use Rattle.send_rule.specs.Sparing.{new_after, or_none, since_after, StepSparing, CallSparing, CallsSparing, Sparing}
use Rattle.send_rule.specs.declared.Copy.{Copy}
use Rattle.send_rule.specs.declared.Passed.{Passed}
use Rattle.base_turns.proofs.Tests.{either_way, both}
use Rattle.send_rule.proofs.Messages.{message_of, its_copy, has_message, sent_copy}
use Rattle.send_rule.proofs.Linked.{Linked, linked_first, linked_next, sent-accepted, sent-refused}
use Rattle.send_rule.proofs.Along.{drop_test, step-messages, copies}
use Rattle.send_rule.proofs.Copies.{Fits, fits_by, step_fits, why_due, due_why}

-- nobody was where an accepted join puts somebody
pub join_absent : (n : ℕ) (w : World) (s : Sides) (ts : List ℕ) (id x y : ℤ) → (join n w s ts id x y).number ≡ 0 → (slot_at w.slots (place_of n id)).present ≡ false
unfolding join join_at
join_absent n w s ts id x y = go (is_map s ts) (ltb (place_of n id) n) (is_in_reach x && is_in_reach y) (check_box s ts (point_of x y) character_box) (slot_at w.slots (place_of n id)).present refl
  where
    go : (a b c d e : Bool) → (slot_at w.slots (place_of n id)).present ≡ e → (cond a (cond b (cond c (cond d (refused w not_clear) (cond e (refused w already_present) (accepted (with_slot w (place_of n id) (joined_slot (point_of x y)))))) (refused w out_of_reach)) (refused w bad_id)) (refused w bad_map)).number ≡ 0 → (slot_at w.slots (place_of n id)).present ≡ false
    go false b c d e p q = absurd (omega arith)
    go true false c d e p q = absurd (omega arith)
    go true true false d e p q = absurd (omega arith)
    go true true true true e p q = absurd (omega arith)
    go true true true false true p q = absurd (omega arith)
    go true true true false false p q = p

-- a refused call leaves what was before
new_stays : (n k : ℕ) (b : Bool) (number : ℕ) (c : Call) → eqb number 0 ≡ false → new_after n k b number c ≡ b
new_stays n k b number (Join id x y) e = rw (e, and-false)
new_stays n k b number (Leave id) e = rw (e, and-false)
new_stays n k b number (Input id d x y j h) e = refl
new_stays n k b number (Tune index z) e = refl
new_stays n k b number Step e = rw e

since_stays : (k q number : ℕ) (ps : List Passed) (c : Call) → eqb number 0 ≡ false → since_after k q number ps c ≡ q
since_stays k q number ps (Join id x y) e = refl
since_stays k q number ps (Leave id) e = refl
since_stays k q number ps (Input id d x y j h) e = refl
since_stays k q number ps (Tune index z) e = refl
since_stays k q number ps Step e = rw e

module _ (n : ℕ) (s : Sides) (ts : List ℕ) (k : ℕ) (seat : k < n) where
  abbrev there_in : World → Bool
  there_in w = (slot_at w.slots k).present

  -- both sides, and what was before of the seat k
  pub record Before (l : Link) (new : Bool) (since : ℕ) : Type 0 where
    pub linked : Linked n s ts l
    pub fits : Fits (there_in l.world) (copy_at l.copies k) new since

  module _ (l : Link) (new : Bool) (since : ℕ) (h : Before l new since) where
    abbrev there : Bool
    there = there_in l.world

    abbrev copy : Copy
    copy = copy_at l.copies k

    abbrev answer_of : Call → Stepped
    answer_of c = ran n s ts l.world c

    abbrev number_of : Call → ℕ
    number_of c = (answer_of c).number

    abbrev Next : Call → Type 0
    Next c = Fits (there_in (called n s ts l c).world) (copy_at (called n s ts l c).copies k) (new_after n k new (number_of c) c) (since_after k since (number_of c) (sent_on n s ts l c).passed c)

    -- who is there after a call
    there-next : (c : Call) → there_in (called n s ts l c).world ≡ present_after n k there (answer_of c) c
    there-next c = present-next n s ts l.world c h.linked.settled k

    -- ---- a refused call
    stays : (c : Call) → eqb (number_of c) 0 ≡ false → Next c
    stays c e = fits_by (ap there_in (demand1 n s ts l.world c (eqb-false (number_of c) 0 e))) (ap (λ (m : Sent). copy_at m.copies k) (sent-refused n s ts l c (eqb-false (number_of c) 0 e))) (new_stays n k new (number_of c) c e) (since_stays k since (number_of c) (sent_on n s ts l c).passed c e) h.fits

    -- ---- an accepted one, but for a step
    test-one : (id : ℤ) (b d : Bool) (c : Call) → number_of c ≡ 0 → cond (eqb (place_of n id) k && eqb (number_of c) 0) b d ≡ cond (eqb (place_of n id) k) b d
    test-one id b d c e = ap (λ (x : Bool). cond (eqb (place_of n id) k && x) b d) (eq-eqb (number_of c) 0 e) ∙ ap (λ (x : Bool). cond x b d) (and-true (eqb (place_of n id) k))

    joins : (id x y : ℤ) → number_of (Join id x y) ≡ 0 → Next (Join id x y)
    joins id x y e =
        let c = Join id x y in
        fits_by (there-next c ∙ test-one id true there c e) (copies n s ts l h.linked c e k seat) (test-one id true new c e) refl (go (eqb (place_of n id) k) refl)
      where
        go : (b : Bool) → eqb (place_of n id) k ≡ b → Fits (cond b true there) copy (cond b true new) since
        go true q =
            let p : there ≡ false = ap (λ (i : ℕ). (slot_at l.world.slots i).present) (sym (eqb-true (place_of n id) k q)) ∙ join_absent n l.world s ts id x y e in
            let r : copy.kept ≡ false = h.fits.kept ∙ ap (λ (b : Bool). b && not new) p in
            record { kept = r; steps = λ u. absurd (true≢false (sym u ∙ r)) }
        go false q = h.fits

    leaves : (id : ℤ) → number_of (Leave id) ≡ 0 → Next (Leave id)
    leaves id e =
        let c = Leave id in
        fits_by (there-next c ∙ test-one id false there c e) (copies n s ts l h.linked c e k seat) (test-one id false new c e) refl (go (eqb (place_of n id) k))
      where
        go : (b : Bool) → Fits (cond b false there) (cond b no_copy copy) (cond b false new) since
        go true = record { kept = refl; steps = λ u. absurd (true≢false (sym u)) }
        go false = h.fits

    inputs : (id a b c d e : ℤ) → number_of (Input id a b c d e) ≡ 0 → Next (Input id a b c d e)
    inputs id a b c d e q = let i = Input id a b c d e in fits_by (there-next i) (copies n s ts l h.linked i q k seat) refl refl h.fits

    tunes : (index z : ℤ) → number_of (Tune index z) ≡ 0 → Next (Tune index z)
    tunes index z e = let c = Tune index z in fits_by (there-next c) (copies n s ts l h.linked c e k seat) refl refl h.fits

    -- ---- an accepted step
    module _ (e : (step n l.world s ts).number ≡ 0) where
      abbrev a : Stepped
      a = step n l.world s ts

      abbrev has : Bool
      has = has_message n s ts l.world a l.copies k

      its-messages : messages k (sent_on n s ts l Step).passed ≡ cond has (message_of l.world a k ∷ []) []
      its-messages = step-messages n s ts l h.linked e k seat

      steps : Next Step
      steps =
          fits_by
          (there-next Step)
          (ap (λ (m : Sent). copy_at m.copies k) (sent-accepted n s ts l Step e) ∙ drop_test (ids_in a.removed) after k)
          (ap (λ (b : Bool). cond b false new) (eq-eqb a.number 0 e))
          (ap (λ (b : Bool). cond b (or_none since (messages k (sent_on n s ts l Step).passed)) since) (eq-eqb a.number 0 e) ∙ ap (or_none since) its-messages)
          (go (is_in k (ids_in a.removed)))
        where
          after : List Copy
          after = (send_messages n s ts l.world a l.copies).copies

          told : Fits there (copy_at after k) false (or_none since (cond has (message_of l.world a k ∷ []) []))
          told = fits_by refl (sent_copy n s ts l.world a l.copies h.linked.size k seat) refl refl (step_fits n s ts l.world.tunings k copy (taken_at a k) (used_at l.world k) there new since h.fits (message_of l.world a k))

          go : (b : Bool) → Fits (cond b false there) (cond b no_copy (copy_at after k)) false (or_none since (cond has (message_of l.world a k ∷ []) []))
          go true = record { kept = refl; steps = λ u. absurd (true≢false (sym u)) }
          go false = told

      step-sparing : StepSparing n s ts l k new since
      step-sparing = record {
        one = λ p y. its-messages ∙ ap (λ (b : Bool). cond b (message_of l.world a k ∷ []) []) (ap (λ (b : Bool). b && due c (taken_at a k)) p ∙ why_due n s ts l k new since h.fits y);
        none = λ f. its-messages ∙ ap (λ (b : Bool). cond b (message_of l.world a k ∷ []) []) (either_way has (λ q. let r = both there (due c (taken_at a k)) q in absurd (f r.0 (due_why n s ts l k new since h.fits r.0 r.1))) (λ q. q));
      }
        where
          c : Copy
          c = its_copy n s ts l.world a l.copies k

    -- ---- every call
    next : (c : Call) → number_of c ≡ 0 → Next c
    next (Join id x y) e = joins id x y e
    next (Leave id) e = leaves id e
    next (Input id a b c d j) e = inputs id a b c d j e
    next (Tune index z) e = tunes index z e
    next Step e = steps e

    other : (c : Call) → number_of c ≡ 0 → (c ≡ Step → number_of c ≡ 0 → ⊥) → messages k (send_accepted n s ts l.world l.copies c).passed ≡ []
    other (Join id x y) e f = refl
    other (Leave id) e f = refl
    other (Input id a b c d j) e f = refl
    other (Tune index z) e f = refl
    other Step e f = absurd (f refl e)

    pub call-sparing : (c : Call) → CallSparing n s ts l k new since c
    call-sparing c = record {
      step = λ q e. step-sparing (subst (λ (d : Call). number_of d ≡ 0) q e);
      other = λ f. by_test (λ (m : Sent). messages k m.passed ≡ []) (eqb (number_of c) 0) (λ q. other c (eqb-true (number_of c) 0 q) f) (λ q. refl);
    }

    pub before-next : (c : Call) → Before (called n s ts l c) (new_after n k new (number_of c) c) (since_after k since (number_of c) (sent_on n s ts l c).passed c)
    before-next c = record { linked = linked_next n s ts l c h.linked; fits = either_way (eqb (number_of c) 0) (λ q. next c (eqb-true (number_of c) 0 q)) (stays c) }

  calls_sparing : (cs : List Call) (l : Link) (new : Bool) (since : ℕ) → Before l new since → CallsSparing n s ts k new since l cs
  calls_sparing [] l new since h = tt
  calls_sparing (c ∷ cs) l new since h = (call-sparing l new since h c, calls_sparing cs (called n s ts l c) _ _ (before-next l new since h c))

  -- what holds of a call after any calls, holds of every call
  every_sparing : (P : Link → Call → Type 0) → ((l : Link) (new : Bool) (since : ℕ) → Before l new since → (c : Call) → P l c) → (cs : List Call) (l : Link) (new : Bool) (since : ℕ) → Before l new since → EveryCall n s ts P l cs
  every_sparing P f [] l new since h = tt
  every_sparing P f (c ∷ cs) l new since h = (f l new since h c, every_sparing P f cs (called n s ts l c) _ _ (before-next l new since h c))

  before_first : Before (fresh_link n) false 0
  before_first = record { linked = linked_first n s ts; fits = fits_by (fresh_absent n k) (get_or-replicate n k no_copy no_copy seat) refl refl (record { kept = refl; steps = λ u. absurd (true≢false (sym u)) }) }

  pub each_call : (P : Link → Call → Type 0) → ((l : Link) (new : Bool) (since : ℕ) → Before l new since → (c : Call) → P l c) → (cs : List Call) → EveryCall n s ts P (fresh_link n) cs
  each_call P f cs = every_sparing P f cs (fresh_link n) false 0 before_first

pub sender_spares : (n : ℕ) → Sparing n
sender_spares n s ts cs k seat = calls_sparing n s ts k seat cs (fresh_link n) false 0 (before_first n s ts k seat)
