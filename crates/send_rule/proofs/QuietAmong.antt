-- Whoever goes as if it were alone is sent nothing before the 150th step, for every number of slots. Assumes nothing.
use Prim.Native.Nat.{ℕ, ◌+◌, ◌<◌}
use native.Mathlib.Omega.{arith}
use mathlib.Core.Bool.{Bool, true, false, cond, true≢false}
use mathlib.Core.List.{List, [], ◌∷◌}
use mathlib.Core.Path.{◌≡◌, refl, sym, ap, ◌∙◌, subst}
use lib.Dec.{eqb}
use lib.IntN.{ℤ}
use lib.ListN.{replicate, length-replicate}
use lib.Seq.{get_or-set_same}
use borrow.Author.Tests.{eqb-true, eqb-false, eq-eqb}
use Rattle.game_records.specs.declared.CharacterCore.{CharacterCore}
use Rattle.game_records.specs.declared.PlayerInput.{PlayerInput}
use Rattle.map_tiles.specs.Box.{on_deadly}
use Rattle.map_tiles.specs.declared.tiles.Sides.{Sides}
use Rattle.character.specs.Records.{from_net}
use Rattle.character.specs.Slot.{empty_slot}
use Rattle.character.specs.Tick.{slot_at, nowhere}
use Rattle.character.specs.declared.Slot.{Slot}
use Rattle.world.specs.Calls.{place_of}
use Rattle.world.specs.Demand3.{record_at}
use Rattle.world.specs.Removal.{ids_in, is_in}
use Rattle.world.specs.Run.{ran}
use Rattle.world.specs.Step.{step}
use Rattle.world.specs.declared.call.Call.{Call}
use Rattle.world.specs.declared.call.Call.TheVariants.{Join, Leave, Input, Step, Tune}
use Rattle.world.specs.Answered.{Stepped}
use Rattle.world.proofs.Present.{present-next}
use Rattle.base_turns.proofs.Tests.{either_way}
use Rattle.send_rule.specs.Send.{Sent, no_copy, copy_at, copy_slot, small_world, alone, with_step, step_copy}
use Rattle.send_rule.specs.Link.{Link, sent_on, called, messages}
use Rattle.send_rule.specs.Along.{renewed}
use Rattle.send_rule.specs.Sparing.{since_after, Surprise, differs, refused, first, long}
use Rattle.send_rule.specs.Quiet.{AsSent, record_after, AsAlone, CallsAsAlone, QuietBefore, CallQuietAmong, QuietAmong}
use Rattle.send_rule.specs.declared.Copy.{Copy}
use Rattle.send_rule.specs.declared.Passed.{Passed}
use Rattle.send_rule.specs.declared.Passed.TheVariants as passed
use Rattle.send_rule.proofs.Along.{copies}
use Rattle.send_rule.proofs.Copies.{step-taken}
use Rattle.send_rule.proofs.Linked.{sent-refused}
use Rattle.send_rule.proofs.Quiet.{one_none, by_call, copy_in, number_of, stays, stepped-copy, sent, not_new, since_message}
use Rattle.send_rule.proofs.Sparing.{Before, call-sparing, before-next, each_call}
use Rattle.send_rule.proofs.Steps.{step-leaves}

-- a small world is made of the copy's record and input alone
as_sent : (n : ℕ) (s : Sides) (ts : List ℕ) (tunings : List ℤ) (k : ℕ) (P : Stepped → Type 0) (c : Copy) → ((d : Copy) → AsSent d c.core c.input → P (alone n s ts tunings k d)) → P (alone n s ts tunings k c)
unfolding alone small_world
as_sent n s ts tunings k P c f = f (record { kept = true; core = c.core; input = c.input; removed = false; refused = false; steps = 0 }) (record { kept = refl; core = refl; input = refl; stays = refl; unrefused = refl; steps = refl })

-- and removes it where its record has a corner on a deadly tile
small_removed : (n : ℕ) (s : Sides) (ts : List ℕ) (tunings : List ℤ) (k : ℕ) (c : Copy) → k < n → let a = alone n s ts tunings k c in a.number ≡ 0 → is_in k (ids_in a.removed) ≡ on_deadly s ts (from_net (record_at a.records k).core).pos
unfolding alone small_world
small_removed n s ts tunings k c l e = (step-leaves n s ts (small_world n tunings k c)).removed e k l (ap (λ (x : Slot). x.present) (get_or-set_same (replicate n empty_slot) k (copy_slot c) nowhere (omega (arith, length-replicate n empty_slot))))

module _ (n : ℕ) (s : Sides) (ts : List ℕ) (k : ℕ) (seat : k < n) (i : PlayerInput) where
  abbrev copy_on : Link → Copy
  copy_on l = copy_in n s ts k seat l

  abbrev number : Link → Call → ℕ
  number l c = number_of n s ts k seat l c

  -- its copy, with the record r
  record Has (r : CharacterCore) (c : Copy) : Type 0 where
    kept : c.kept ≡ true
    stays : c.removed ≡ false
    core : c.core ≡ r
    input : c.input ≡ i

  record Follows (r : CharacterCore) (l : Link) (q : ℕ) : Type 0 where
    before : Before n s ts k seat l false q
    has : Has r (copy_on l)

  module _ (r : CharacterCore) (l : Link) (q : ℕ) (h : Follows r l q) where
    abbrev copy : Copy
    copy = copy_on l

    abbrev its : Stepped
    its = alone n s ts l.world.tunings k copy

    -- ---- an accepted step
    module _ (e : number l Step ≡ 0) (a : AsAlone n s ts k r i l Step) where
      same : (its.number ≡ 0) × ((record_at its.records k).core ≡ (record_at (step n l.world s ts).records k).core)
      same = as_sent n s ts l.world.tunings k (λ b. (b.number ≡ 0) × ((record_at b.records k).core ≡ (record_at (step n l.world s ts).records k).core)) copy (λ d u. a.taken refl e d (record { kept = u.kept; core = u.core ∙ h.has.core; input = u.input ∙ h.has.input; stays = u.stays; unrefused = u.unrefused; steps = u.steps }))

      stepped : step_copy n s ts l.world.tunings k copy ≡ with_step copy (record_at its.records k).core (is_in k (ids_in its.removed)) false
      stepped = step-taken n s ts l.world.tunings k copy h.has.kept h.has.stays same.0

      unsurprised : (q + 1 ≡ 150 → ⊥) → Surprise n s ts l k false q → ⊥
      unsurprised d (differs f g) = g (ap (λ (c : Copy). c.core) stepped ∙ same.1)
      unsurprised d (refused f g u) = let z = sym u ∙ same.0 in omega (arith, z)
      unsurprised d (first f) = true≢false (sym f)
      unsurprised d (long f) = d f

      -- without a message, and where the step leaves k there
      after-step : messages k (sent_on n s ts l Step).passed ≡ [] → (slot_at (called n s ts l Step).world.slots k).present ≡ true → Has (record_at (step n l.world s ts).records k).core (copy_on (called n s ts l Step))
      after-step m p = subst (Has (record_at (step n l.world s ts).records k).core) (sym (stepped-copy n s ts k seat l h.before.linked e p ∙ ap (λ (ps : List Passed). renewed ps (step_copy n s ts l.world.tunings k copy)) m ∙ stepped)) (record {
        kept = refl;
        stays = small_removed n s ts l.world.tunings k copy seat same.0 ∙ ap (λ (x : CharacterCore). on_deadly s ts (from_net x).pos) same.1 ∙ sym ((step-leaves n s ts l.world).removed e k seat a.there) ∙ stays n s ts k seat l h.before.linked e p;
        core = same.1;
        input = h.has.input;
      })

    -- ---- no message
    quiet : (q + 1 ≡ 150 → ⊥) → (c : Call) → AsAlone n s ts k r i l c → messages k (sent_on n s ts l c).passed ≡ []
    quiet d = by_call (λ c. AsAlone n s ts k r i l c → messages k (sent_on n s ts l c).passed ≡ []) (number l) (λ e a. ((call-sparing n s ts k seat l false q h.before Step).step refl e).none (λ p. unsurprised e a d)) (λ c f a. (call-sparing n s ts k seat l false q h.before c).other f)

    -- ---- after a call
    abbrev Next : Call → Type 0
    Next c = AsAlone n s ts k r i l c → messages k (sent_on n s ts l c).passed ≡ [] → (slot_at (called n s ts l c).world.slots k).present ≡ true → Has (record_after k r (ran n s ts l.world c) c) (copy_on (called n s ts l c))

    as_it_was : (c : Call) → copy_on (called n s ts l c) ≡ copy → Has r (copy_on (called n s ts l c))
    as_it_was c e = subst (Has r) (sym e) h.has

    not-accepted : (c : Call) → eqb (number l c) 0 ≡ false → record_after k r (ran n s ts l.world c) c ≡ r
    not-accepted (Join id x y) e = refl
    not-accepted (Leave id) e = refl
    not-accepted (Input id d x y j g) e = refl
    not-accepted (Tune index z) e = refl
    not-accepted Step e = ap (λ (b : Bool). cond b (record_at (step n l.world s ts).records k).core r) e

    accepted-call : (c : Call) → number l c ≡ 0 → Next c
    accepted-call (Join id x y) e a m p = as_it_was (Join id x y) (copies n s ts l h.before.linked (Join id x y) e k seat)
    accepted-call (Leave id) e a m p = as_it_was (Leave id) (copies n s ts l h.before.linked (Leave id) e k seat ∙ ap (λ (b : Bool). cond b no_copy copy) (either_way (eqb (place_of n id) k) (λ z. absurd (true≢false (sym p ∙ gone z))) (λ z. z)))
      where
        gone : eqb (place_of n id) k ≡ true → (slot_at (called n s ts l (Leave id)).world.slots k).present ≡ false
        gone z = present-next n s ts l.world (Leave id) h.before.linked.settled k ∙ rw (z, eq-eqb (number l (Leave id)) 0 e)
    accepted-call (Input id d x y j g) e a m p = as_it_was (Input id d x y j g) (copies n s ts l h.before.linked (Input id d x y j g) e k seat)
    accepted-call (Tune index z) e a m p = as_it_was (Tune index z) (copies n s ts l h.before.linked (Tune index z) e k seat)
    accepted-call Step e a m p = subst (λ (x : CharacterCore). Has x (copy_on (called n s ts l Step))) (sym (ap (λ (b : Bool). cond b (record_at (step n l.world s ts).records k).core r) (eq-eqb (number l Step) 0 e))) (after-step e a m p)

    next : (c : Call) → AsAlone n s ts k r i l c → messages k (sent_on n s ts l c).passed ≡ [] → (slot_at (called n s ts l c).world.slots k).present ≡ true → Follows (record_after k r (ran n s ts l.world c) c) (called n s ts l c) (since_after k q (number l c) (sent_on n s ts l c).passed c)
    next c a m p =
        let d = either_way (eqb (number l c) 0) (λ e. accepted-call c (eqb-true (number l c) 0 e) a m p) (λ e. subst (λ (x : CharacterCore). Has x (copy_on (called n s ts l c))) (sym (not-accepted c e)) (as_it_was c (ap (λ (u : Sent). copy_at u.copies k) (sent-refused n s ts l c (eqb-false (number l c) 0 e))))) in
        record { before = not_new n s ts k seat (called n s ts l c) _ _ (before-next n s ts k seat l false q h.before c) d.kept; has = d }

  -- ---- every call
  abbrev There : Link → Type 0
  There l = (slot_at l.world.slots k).present ≡ true

  quiet_before : (cs : List Call) (r : CharacterCore) (l : Link) (q : ℕ) → (There l → Follows r l q) → CallsAsAlone n s ts k r i l cs → QuietBefore n s ts k q l cs
  quiet_before [] r l q f a = tt
  quiet_before (c ∷ cs) r l q f a =
      λ d. let h = f a.0.there in
      let m = quiet r l q h d c a.0 in
      (m, quiet_before cs _ (called n s ts l c) _ (next r l q h c a.0 m) a.1)

  from_message : (l : Link) (new : Bool) (q : ℕ) → Before n s ts k seat l new q → number l Step ≡ 0 → (core : CharacterCore) → messages k (sent_on n s ts l Step).passed ≡ passed.Message k core i ∷ [] → There (called n s ts l Step) → Follows core (called n s ts l Step) 0
  from_message l new q h e core m p = let d = sent n s ts k seat l new q h Step core i m p in record { before = since_message n s ts k seat l new q (passed.Message k core i) h e m d.kept; has = record { kept = d.kept; stays = d.stays; core = d.core; input = d.input } }

call_quiet : (n : ℕ) (s : Sides) (ts : List ℕ) (k : ℕ) (seat : k < n) (l : Link) (new : Bool) (q : ℕ) → Before n s ts k seat l new q → (c : Call) → CallQuietAmong n s ts k l c
call_quiet n s ts k seat l new q h = by_call (CallQuietAmong n s ts k l) (λ c. (ran n s ts l.world c).number) (λ e core i cs m a. quiet_before n s ts k seat i cs core (called n s ts l Step) 0 (from_message n s ts k seat i l new q h e core m) a) (λ c f core i cs m a. absurd (one_none _ (messages k (sent_on n s ts l c).passed) ((call-sparing n s ts k seat l new q h c).other f) m))

pub as_alone_quiet : (n : ℕ) → QuietAmong n
as_alone_quiet n s ts cs k seat = each_call n s ts k seat (CallQuietAmong n s ts k) (call_quiet n s ts k seat) cs
