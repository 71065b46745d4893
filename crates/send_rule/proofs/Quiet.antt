-- What a message leaves of a copy, and that whoever is alone is sent nothing before the 150th step, for every number of slots. Assumes nothing.
use Prim.Native.Nat.{ℕ, ◌+◌, ◌<◌}
use native.Mathlib.Omega.{arith}
use mathlib.Core.Bool.{Bool, true, false, cond, not, ◌&&◌, true≢false}
use mathlib.Core.List.{List, [], ◌∷◌}
use mathlib.Core.Path.{◌≡◌, refl, sym, ap, ◌∙◌, subst}
use lib.Dec.{eqb}
use lib.IntN.{ℤ}
use borrow.Author.Tests.{eqb-true, eqb-false, eq-eqb, not-true}
use Rattle.game_records.specs.declared.CharacterCore.{CharacterCore}
use Rattle.game_records.specs.declared.PlayerInput.{PlayerInput}
use Rattle.map_tiles.specs.declared.tiles.Sides.{Sides}
use Rattle.character.specs.Records.{from_net}
use Rattle.character.specs.Slot.{with_input}
use Rattle.character.specs.Tick.{slot_at}
use Rattle.character.specs.declared.Slot.{Slot}
use Rattle.world.specs.Calls.{place_of}
use Rattle.world.specs.Removal.{ids_in, is_in}
use Rattle.world.specs.Run.{Told, input_of, ran}
use Rattle.world.specs.Step.{step}
use Rattle.world.specs.declared.call.Call.{Call}
use Rattle.world.specs.declared.call.Call.TheVariants.{Join, Leave, Input, Step, Tune}
use Rattle.world.specs.declared.World.{World}
use Rattle.world.proofs.Demand1.{demand1}
use Rattle.world.proofs.NextSlot.{input_slot, tune_slot}
use Rattle.world.proofs.Outcomes.{outcome_facts, join_outcome, leave_outcome}
use Rattle.world.proofs.Present.{present-next}
use Rattle.base_turns.proofs.Tests.{either_way, both}
use Rattle.send_rule.specs.Send.{Sent, no_copy, copy_at, step_copy, taken_at, used_at}
use Rattle.send_rule.specs.Link.{Link, sent_on, called, EveryCall, messages}
use Rattle.send_rule.specs.Along.{renewed}
use Rattle.send_rule.specs.Foreseen.{Alone, Foresees}
use Rattle.send_rule.specs.Sparing.{or_none, since_after, Surprise, differs, refused, first, long}
use Rattle.send_rule.specs.Quiet.{AsSent, CallRenews, Renews, AloneWith, QuietCalls, CallQuiet, Quiet}
use Rattle.send_rule.specs.declared.Copy.{Copy}
use Rattle.send_rule.specs.declared.Passed.{Passed}
use Rattle.send_rule.specs.declared.Passed.TheVariants as passed
use Rattle.send_rule.proofs.Along.{step-messages, copies, call_along}
use Rattle.send_rule.proofs.Copies.{step_counts}
use Rattle.send_rule.proofs.Foreseen.{copy_foresees, copy_stays}
use Rattle.send_rule.proofs.Linked.{Linked, linked_next, sent-refused}
use Rattle.send_rule.proofs.Messages.{message_of, has_message}
use Rattle.send_rule.proofs.Sparing.{Before, call-sparing, before-next, each_call, join_absent}
use Rattle.send_rule.proofs.Steps.{not_gone, step-leaves}

-- a message is none of no messages
pub one_none : (p : Passed) (ps : List Passed) → ps ≡ [] → ps ≡ p ∷ [] → ⊥
one_none p ps e f = let z : ◌≡◌ {A = ℕ} 0 1 = cc in omega arith

-- by the call, and whether it is accepted
pub by_call : (P : Call → Type 0) (number : Call → ℕ) → (number Step ≡ 0 → P Step) → ((c : Call) → (c ≡ Step → number c ≡ 0 → ⊥) → P c) → (c : Call) → P c
by_call P number f g Step = either_way (eqb (number Step) 0) (λ e. f (eqb-true (number Step) 0 e)) (λ e. g Step (λ q. eqb-false (number Step) 0 e))
by_call P number f g (Join id x y) = g (Join id x y) (λ q. absurd (let z : ◌≡◌ {A = ℕ} 0 1 = cc in omega arith))
by_call P number f g (Leave id) = g (Leave id) (λ q. absurd (let z : ◌≡◌ {A = ℕ} 0 1 = cc in omega arith))
by_call P number f g (Input id a b c d e) = g (Input id a b c d e) (λ q. absurd (let z : ◌≡◌ {A = ℕ} 0 1 = cc in omega arith))
by_call P number f g (Tune index v) = g (Tune index v) (λ q. absurd (let z : ◌≡◌ {A = ℕ} 0 1 = cc in omega arith))

-- the character of what a test picks, where an input is all that differs
same_character : (b : Bool) (x : Slot) (i : PlayerInput) → (cond b (with_input x i) x).character ≡ x.character
same_character true x i = refl
same_character false x i = refl

module _ (n : ℕ) (s : Sides) (ts : List ℕ) (k : ℕ) (seat : k < n) where
  abbrev pub copy_in : Link → Copy
  copy_in l = copy_at l.copies k

  abbrev pub number_of : Link → Call → ℕ
  number_of l c = (ran n s ts l.world c).number

  abbrev pub messages_on : Link → Call → List Passed
  messages_on l c = messages k (sent_on n s ts l c).passed

  -- the copy after an accepted step that leaves k there
  module _ (l : Link) (h : Linked n s ts l) (e : number_of l Step ≡ 0) (there : (slot_at (called n s ts l Step).world.slots k).present ≡ true) where
    pub stays : is_in k (ids_in (step n l.world s ts).removed) ≡ false
    stays = (not_gone (is_in k (ids_in (step n l.world s ts).removed)) (slot_at l.world.slots k).present (sym (present-next n s ts l.world Step h.settled k) ∙ there)).0

    pub stepped-copy : copy_in (called n s ts l Step) ≡ renewed (messages_on l Step) (step_copy n s ts l.world.tunings k (copy_in l))
    stepped-copy = copies n s ts l h Step e k seat ∙ ap (λ (b : Bool). cond b no_copy (renewed (messages_on l Step) (step_copy n s ts l.world.tunings k (copy_in l)))) stays

  -- ---- what a message leaves
  module _ (l : Link) (new : Bool) (since : ℕ) (h : Before n s ts k seat l new since) where
    -- a call with a message of k is an accepted step
    abbrev pub Sends : Call → Type 0
    Sends c = (core : CharacterCore) (i : PlayerInput) → messages_on l c ≡ passed.Message k core i ∷ [] → (slot_at (called n s ts l c).world.slots k).present ≡ true → AsSent (copy_in (called n s ts l c)) core i

    pub sent : (c : Call) → Sends c
    sent = by_call Sends (number_of l) (λ e core i m p. subst (λ (d : Copy). AsSent d core i) (sym (stepped-copy l h.linked e p ∙ ap (λ (ps : List Passed). renewed ps (step_copy n s ts l.world.tunings k (copy_in l))) m)) (record { kept = refl; core = refl; input = refl; stays = refl; unrefused = refl; steps = refl })) (λ c f core i m p. absurd (one_none _ (messages_on l c) ((call-sparing n s ts k seat l new since h c).other f) m))

    call-renews : (c : Call) → CallRenews n s ts k l c
    call-renews c core i m p = let a = sent c core i m p in (a, subst (λ (us : List Copy). AsSent (copy_at us k) core i) (sym (call_along n s ts l h.linked c).both) a)

  -- whoever has a copy is not new
  pub not_new : (l : Link) (new : Bool) (q : ℕ) → Before n s ts k seat l new q → (copy_in l).kept ≡ true → Before n s ts k seat l false q
  not_new l new q h e = subst (λ (b : Bool). Before n s ts k seat l b q) (not-true new (both (slot_at l.world.slots k).present (not new) (sym h.fits.kept ∙ e)).1) h

  -- none since a message
  pub since_message : (l : Link) (new : Bool) (q : ℕ) (p : Passed) → Before n s ts k seat l new q → number_of l Step ≡ 0 → messages_on l Step ≡ p ∷ [] → (copy_in (called n s ts l Step)).kept ≡ true → Before n s ts k seat (called n s ts l Step) false 0
  since_message l new q p h e m b = not_new (called n s ts l Step) _ 0 (subst (Before n s ts k seat (called n s ts l Step) _) (ap (λ (b : Bool). cond b (or_none q (messages_on l Step)) q) (eq-eqb (number_of l Step) 0 e) ∙ ap (or_none q) m) (before-next n s ts k seat l new q h Step)) b

  -- ---- k alone with the input i
  module _ (i : PlayerInput) where
    abbrev AloneIn : Link → Type 0
    AloneIn l = AloneWith n l.world k i

    -- a step leaves k as its copy has it, where this has the record that was taken
    after-step : (l : Link) → Linked n s ts l → number_of l Step ≡ 0 → AloneIn l → AloneIn (called n s ts l Step) → (d : Copy) → copy_in (called n s ts l Step) ≡ d → d.kept ≡ true → d.core ≡ taken_at (step n l.world s ts) k → d.input ≡ i → d.removed ≡ false → Alone n (called n s ts l Step).world k (copy_in (called n s ts l Step))
    after-step l h e a b d same kept core used removed = subst (Alone n (called n s ts l Step).world k) (sym same) (record {
      settled = (linked_next n s ts l Step h).settled;
      seat = seat;
      there = b.there;
      character = (step-leaves n s ts l.world).read e k seat a.nobody b.there ∙ ap from_net (sym core);
      input = b.input ∙ sym used;
      nobody = b.nobody;
      kept = kept;
      stays = removed;
    })

    -- with a message
    after-message : (l : Link) (new : Bool) (since : ℕ) → Before n s ts k seat l new since → number_of l Step ≡ 0 → AloneIn l → AloneIn (called n s ts l Step) → messages_on l Step ≡ message_of l.world (step n l.world s ts) k ∷ [] → Alone n (called n s ts l Step).world k (copy_in (called n s ts l Step))
    after-message l new since h e a b m =
        let d = sent l new since h Step (taken_at (step n l.world s ts) k) (used_at l.world k) m b.there in
        after-step l h.linked e a b (copy_in (called n s ts l Step)) refl d.kept d.core (d.input ∙ a.input) d.stays

    -- what was before, q steps having been accepted since the last message, and k as its copy has it
    record Follows (l : Link) (q : ℕ) : Type 0 where
      before : Before n s ts k seat l false q
      alone : Alone n l.world k (copy_in l)

    module _ (l : Link) (q : ℕ) (h : Follows l q) where
      abbrev copy : Copy
      copy = copy_in l

      abbrev foreseen : Foresees n s ts l.world k copy
      foreseen = copy_foresees n s ts l.world k copy h.alone

      -- no surprise but the 150th step
      unsurprised : number_of l Step ≡ 0 → (q + 1 ≡ 150 → ⊥) → Surprise n s ts l k false q → ⊥
      unsurprised e d (differs f g) = g (foreseen.core e)
      unsurprised e d (refused f g u) = let z = sym u ∙ ap (λ (x : Told). x.number) foreseen.told ∙ e in omega (arith, z)
      unsurprised e d (first f) = true≢false (sym f)
      unsurprised e d (long f) = d f

      quiet : (q + 1 ≡ 150 → ⊥) → (c : Call) → messages_on l c ≡ []
      quiet d = by_call (λ c. messages_on l c ≡ []) (number_of l) (λ e. ((call-sparing n s ts k seat l false q h.before Step).step refl e).none (λ p. unsurprised e d)) (λ c. (call-sparing n s ts k seat l false q h.before c).other)

      -- ---- after a call
      module _ (a : AloneIn l) where
        abbrev Next : Call → Type 0
        Next c = AloneIn (called n s ts l c) → Alone n (called n s ts l c).world k (copy_in (called n s ts l c))

        -- a call that changes neither the copy nor the character
        same : (c : Call) → copy_in (called n s ts l c) ≡ copy → (slot_at (called n s ts l c).world.slots k).character ≡ (slot_at l.world.slots k).character → Next c
        same c e f b = subst (Alone n (called n s ts l c).world k) (sym e) (record {
          settled = (linked_next n s ts l c h.before.linked).settled;
          seat = seat;
          there = b.there;
          character = f ∙ h.alone.character;
          input = b.input ∙ sym a.input ∙ h.alone.input;
          nobody = b.nobody;
          kept = h.alone.kept;
          stays = h.alone.stays;
        })

        not-accepted : (c : Call) → (number_of l c ≡ 0 → ⊥) → Next c
        not-accepted c f = same c (ap (λ (m : Sent). copy_at m.copies k) (sent-refused n s ts l c f)) (ap (λ (w : World). (slot_at w.slots k).character) (demand1 n s ts l.world c f))

        accepted-step : number_of l Step ≡ 0 → Next Step
        accepted-step e b = go (has_message n s ts l.world (step n l.world s ts) l.copies k) (step-messages n s ts l h.before.linked e k seat)
          where
            go : (has : Bool) → messages_on l Step ≡ cond has (message_of l.world (step n l.world s ts) k ∷ []) [] → Alone n (called n s ts l Step).world k (copy_in (called n s ts l Step))
            go true m = after-message l false q h.before e a b m
            go false m =
                let c = step_copy n s ts l.world.tunings k copy in
                after-step l h.before.linked e a b c (stepped-copy l h.before.linked e b.there ∙ ap (λ (ps : List Passed). renewed ps c) m) (step_counts n s ts l.world.tunings k copy h.alone.kept).kept (foreseen.core e) ((copy_stays n s ts l.world.tunings k copy).input ∙ sym h.alone.input ∙ a.input) (foreseen.removed e ∙ stays l h.before.linked e b.there)

        -- whoever joins is another, or was there
        accepted-join : (id x y : ℤ) → number_of l (Join id x y) ≡ 0 → Next (Join id x y)
        accepted-join id x y e b =
            let j = place_of n id in
            absurd (either_way (eqb j k) (λ z. true≢false (sym a.there ∙ ap (λ (v : ℕ). (slot_at l.world.slots v).present) (sym (eqb-true j k z)) ∙ join_absent n l.world s ts id x y e)) (λ z. true≢false (sym (joined j refl) ∙ b.nobody j (outcome_facts l.world _ _ (join_outcome n l.world s ts id x y) e).seat (eqb-false j k z))))
          where
            joined : (j : ℕ) → place_of n id ≡ j → (slot_at (called n s ts l (Join id x y)).world.slots j).present ≡ true
            joined j z = present-next n s ts l.world (Join id x y) h.before.linked.settled j ∙ rw (eq-eqb (place_of n id) j z, eq-eqb (number_of l (Join id x y)) 0 e)

        -- whoever leaves is k
        accepted-leave : (id : ℤ) → number_of l (Leave id) ≡ 0 → Next (Leave id)
        accepted-leave id e b =
            let j = place_of n id in
            let f = outcome_facts l.world _ _ (leave_outcome n l.world id) e in
            absurd (either_way (eqb j k) (λ z. true≢false (sym b.there ∙ left (eqb-true j k z))) (λ z. true≢false (sym f.there ∙ a.nobody j f.seat (eqb-false j k z))))
          where
            left : place_of n id ≡ k → (slot_at (called n s ts l (Leave id)).world.slots k).present ≡ false
            left z = present-next n s ts l.world (Leave id) h.before.linked.settled k ∙ rw (eq-eqb (place_of n id) k z, eq-eqb (number_of l (Leave id)) 0 e)

        accepted-call : (c : Call) → number_of l c ≡ 0 → Next c
        accepted-call (Join id x y) e = accepted-join id x y e
        accepted-call (Leave id) e = accepted-leave id e
        accepted-call (Input id d x y j g) e = let c = Input id d x y j g in same c (copies n s ts l h.before.linked c e k seat) (ap (λ (z : Slot). z.character) (input_slot n s ts l.world h.before.linked.settled.seats k id (input_of d x y j g)) ∙ same_character (eqb (place_of n id) k && eqb (number_of l c) 0) (slot_at l.world.slots k) (input_of d x y j g))
        accepted-call (Tune index z) e = let c = Tune index z in same c (copies n s ts l h.before.linked c e k seat) (ap (λ (z : Slot). z.character) (tune_slot n s ts l.world h.before.linked.settled.seats k index z))
        accepted-call Step e = accepted-step e

        next : (c : Call) → AloneIn (called n s ts l c) → Follows (called n s ts l c) (since_after k q (number_of l c) (sent_on n s ts l c).passed c)
        next c b =
            let d = either_way (eqb (number_of l c) 0) (λ e. accepted-call c (eqb-true (number_of l c) 0 e) b) (λ e. not-accepted c (eqb-false (number_of l c) 0 e) b) in
            record { before = not_new (called n s ts l c) _ _ (before-next n s ts k seat l false q h.before c) d.kept; alone = d }

    -- ---- every call
    quiet-calls : (cs : List Call) (l : Link) (q : ℕ) → (AloneIn l → Follows l q) → EveryCall n s ts (λ m d. AloneIn m) l cs → QuietCalls n s ts k q l cs
    quiet-calls [] l q f h = tt
    quiet-calls (c ∷ cs) l q f h = (λ d. quiet l q (f h.0) d c, quiet-calls cs (called n s ts l c) _ (next l q (f h.0) h.0 c) h.1)

    -- from a message on
    from_message : (l : Link) (new : Bool) (since : ℕ) → Before n s ts k seat l new since → AloneIn l → number_of l Step ≡ 0 → (messages_on l Step ≡ [] → ⊥) → AloneIn (called n s ts l Step) → Follows (called n s ts l Step) 0
    from_message l new since h a e some b = go (has_message n s ts l.world (step n l.world s ts) l.copies k) (step-messages n s ts l h.linked e k seat)
      where
        go : (has : Bool) → messages_on l Step ≡ cond has (message_of l.world (step n l.world s ts) k ∷ []) [] → Follows (called n s ts l Step) 0
        go true m = let d = after-message l new since h e a b m in record { before = since_message l new since _ h e m d.kept; alone = d }
        go false m = absurd (some m)

  call_quiet : (l : Link) (new : Bool) (since : ℕ) → Before n s ts k seat l new since → (c : Call) → CallQuiet n s ts k l c
  call_quiet l new since h = by_call (CallQuiet n s ts k l) (number_of l) (λ e i cs a some alone. quiet-calls i cs (called n s ts l Step) 0 (from_message i l new since h a e some) alone) (λ c f i cs a some alone. absurd (some ((call-sparing n s ts k seat l new since h c).other f)))

pub message_renews : (n : ℕ) → Renews n
message_renews n s ts cs k seat = each_call n s ts k seat (CallRenews n s ts k) (call-renews n s ts k seat) cs

pub alone_quiet : (n : ℕ) → Quiet n
alone_quiet n s ts cs k seat = each_call n s ts k seat (CallQuiet n s ts k) (call_quiet n s ts k seat) cs
