-- The loop that sends: a turn of the rule, with what is passed along in an array. Assumes nothing.
use Prim.Native.Nat.{ℕ, ◌+◌, ◌≤◌, ◌<◌}
use native.Mathlib.Omega.{arith}
use mathlib.Core.Bool.{Bool, true, false, cond, ◌&&◌}
use mathlib.Core.List.{List, [], ◌∷◌, ◌++◌}
use mathlib.Core.Path.{◌≡◌, refl, sym, ap, ◌∙◌}
use lib.ListN.{length, set}
use Rattle.base_turns.specs.Turns.{fold, more}
use Rattle.base_turns.proofs.Loop.{Left, always, fold_first, turn_on, fold_end}
use Rattle.character.specs.Tick.{seats, slot_at}
use Rattle.character.specs.declared.Slot.{Slot}
use Rattle.world.specs.Demand3.{record_at}
use Rattle.world.specs.declared.Published.{Published}
use Rattle.send_rule.specs.Send.{Sent, copy_at, copy_of, due, item, filled, most_passed, sending_of}
use Rattle.send_rule.specs.declared.Copy.{Copy}
use Rattle.send_rule.specs.declared.Item.{Item}
use Rattle.send_rule.specs.declared.Passed.{Passed}
use Rattle.send_rule.specs.declared.Passed.TheVariants as passed
use Rattle.send_calls.proofs.Filled.{longer, filled-set}

module _ (slots : List Slot) (records : List Published) (all₀ : List Copy) where
  -- the message of k
  abbrev message_of : ℕ → Passed
  message_of k = passed.Message k (record_at records k).core (slot_at slots k).input

  -- the rule's turn, over the slots and the records alone
  abbrev pub turn : ℕ → Sent → Sent
  turn k m = cond ((slot_at slots k).present && due (copy_at m.copies k) (record_at records k).core) (record { copies = set m.copies k (copy_of (record_at records k).core (slot_at slots k).input); passed = m.passed ++ (message_of k ∷ []) }) m

  abbrev begun : Sent
  begun = record { copies = all₀; passed = passed.Mark ∷ [] }

  -- after k turns
  pub record Sends (k : ℕ) (all : List Copy) (items : List Item) (count : ℕ) : Type 0 where
    pub sent : List Passed
    pub left : Left (always turn) seats k (record { copies = all; passed = sent }) (more (fold turn seats 0 begun))
    pub items-are : items ≡ filled (most_passed seats) sent
    pub count_is : count ≡ length sent
    pub fits : count ≤ 1 + k

  pub sends_first : (items : List Item) → items ≡ filled (most_passed seats) (passed.Mark ∷ []) → Sends 0 all₀ items 1
  sends_first items e = record { sent = passed.Mark ∷ []; left = fold_first; items-are = e; count_is = refl; fits = omega arith }

  module _ (k : ℕ) (all : List Copy) (items : List Item) (count : ℕ) (h : Sends k all items count) (l : k < seats) where
    pub room : count < most_passed seats
    room = omega (arith, h.fits, l)

    pub sends : (all' : List Copy) (items' : List Item) (count' : ℕ) → (slot_at slots k).present ≡ true → due (copy_at all k) (record_at records k).core ≡ true → all' ≡ set all k (copy_of (record_at records k).core (slot_at slots k).input) → items' ≡ set items count (item (message_of k)) → count' ≡ count + 1 → Sends (k + 1) all' items' count'
    sends all' items' count' p d e f g =
        let ps = h.sent ++ (message_of k ∷ []) in
        let size : length h.sent < most_passed seats = omega (arith, h.count_is, room) in
        let t : turn k (record { copies = all; passed = h.sent }) ≡ record { copies = all'; passed = ps } = rw (p, d) (ap (λ (cs : List Copy). record { copies = cs; passed = ps }) (sym e)) in
        record {
          sent = ps;
          left = turn_on h.left l (ap more t);
          items-are = f ∙ rw (h.items-are, h.count_is) (filled-set (most_passed seats) h.sent (message_of k) size);
          count_is = (let z = longer h.sent (message_of k) in omega (arith, g, h.count_is, z));
          fits = omega (arith, g, h.fits);
        }

    stays : (b : Bool) (all' : List Copy) (items' : List Item) (count' : ℕ) → (slot_at slots k).present && due (copy_at all k) (record_at records k).core ≡ b → b ≡ false → all' ≡ all → items' ≡ items → count' ≡ count → Sends (k + 1) all' items' count'
    stays b all' items' count' t f e i c =
        let s : turn k (record { copies = all; passed = h.sent }) ≡ record { copies = all'; passed = h.sent } = rw (t ∙ f) (ap (λ (cs : List Copy). record { copies = cs; passed = h.sent }) (sym e)) in
        record {
          sent = h.sent;
          left = turn_on h.left l (ap more s);
          items-are = i ∙ h.items-are;
          count_is = c ∙ h.count_is;
          fits = omega (arith, c, h.fits);
        }

    pub not_due : (all' : List Copy) (items' : List Item) (count' : ℕ) → (slot_at slots k).present ≡ true → due (copy_at all k) (record_at records k).core ≡ false → all' ≡ all → items' ≡ items → count' ≡ count → Sends (k + 1) all' items' count'
    not_due all' items' count' p d e i c = stays false all' items' count' (rw (p, d) refl) refl e i c

    pub nobody : (all' : List Copy) (items' : List Item) (count' : ℕ) → (slot_at slots k).present ≡ false → all' ≡ all → items' ≡ items → count' ≡ count → Sends (k + 1) all' items' count'
    nobody all' items' count' p e i c = stays false all' items' count' (rw p refl) refl e i c

  -- after all
  pub sends_last : (k : ℕ) (all : List Copy) (items : List Item) (count : ℕ) → Sends k all items count → seats ≤ k → (record { copies = all; count = count; items = items } ≡ sending_of seats (fold turn seats 0 begun)) × (count ≤ 1 + seats)
  sends_last k all items count h l =
      let e = fold_end h.left l in
      (rw (e, h.items-are, h.count_is) refl, (let w = h.left.within in omega (arith, h.fits, w)))
