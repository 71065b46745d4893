-- The loop that sends removals. Assumes nothing.
use Prim.Native.Nat.{ℕ, zero, suc, ◌+◌, ◌≤◌, ◌<◌}
use native.Mathlib.Numerals.{add-one}
use native.Mathlib.Omega.{arith}
use mathlib.Core.Bool.{Bool, true, false, ◌||◌}
use mathlib.Core.List.{List, [], ◌∷◌, ◌++◌, map, append-nil}
use mathlib.Core.Path.{◌≡◌, refl, sym, ap, ◌∙◌}
use lib.Dec.{eqb}
use lib.IntN.{pos}
use lib.ListN.{length, drop, get_or, set, length-map, drop_of_length-le, get_or-map, get_or-append}
use lib.Seq.{drop-cons, append_snoc}
use borrow.Author.Tests.{eq-eqb, lt-ltb}
use Rattle.character.specs.Tick.{seats}
use Rattle.world.specs.Calls.{place_of}
use Rattle.world.specs.Removal.{ids_in, is_in}
use Rattle.world.specs.declared.Removed.{Removed}
use Rattle.send_rule.specs.Send.{no_copy, dropped, item, filled, most_passed, sending_of, send_removals}
use Rattle.send_rule.specs.declared.Copy.{Copy}
use Rattle.send_rule.specs.declared.Item.{Item}
use Rattle.send_rule.specs.declared.Passed.{Passed}
use Rattle.send_rule.specs.declared.Passed.TheVariants as passed
use Rattle.send_rule.specs.declared.Sending.{Sending}
use Rattle.send_calls.specs.Sending.{sent_in, IsListed}
use Rattle.send_calls.proofs.Filled.{longer, filled-set}

or_true : (a b : Bool) → b ≡ true → a || b ≡ true
or_true true b e = refl
or_true false b e = e

in_list : (ks : List ℕ) (i : ℕ) → i < length ks → is_in (get_or ks i 0) ks ≡ true
in_list [] i l = absurd (omega arith)
in_list (k ∷ ks) zero l = rw (eq-eqb k k refl) refl
in_list (k ∷ ks) (suc i) l = or_true (eqb k (get_or ks i 0)) (is_in (get_or ks i 0) ks) (in_list ks i (omega arith))

place_is : (n k : ℕ) → k < n → place_of n (pos k) ≡ k
unfolding place_of
place_is n k l = rw (lt-ltb k n l) refl

module _ (r : Removed) (m : Sending) where
  abbrev ks : List ℕ
  ks = ids_in r

  -- after i turns
  pub record Drops (i : ℕ) (copies : List Copy) (items : List Item) (count : ℕ) : Type 0 where
    pub sent : List Passed
    pub copies-left : dropped (drop i ks) copies ≡ dropped ks m.copies
    pub passed-left : sent ++ map passed.Removal (drop i ks) ≡ (sent_in m).passed ++ map passed.Removal ks
    pub items-are : items ≡ filled (most_passed seats) sent
    pub count_is : count ≡ length sent
    pub fits : count ≤ 1 + seats + i

  counted : IsListed r → r.count ≡ length ks
  counted listing = ap (λ (q : Removed). q.count) listing.ids

  pub drops_first : m ≡ sending_of seats (sent_in m) → m.count ≤ 1 + seats → Drops 0 m.copies m.items m.count
  drops_first e l = record { sent = (sent_in m).passed; copies-left = refl; passed-left = refl; items-are = ap (λ (q : Sending). q.items) e; count_is = ap (λ (q : Sending). q.count) e; fits = omega (arith, l) }

  module _ (listing : IsListed r) (i : ℕ) (l : i < r.count) where
    abbrev k : ℕ
    k = get_or ks i 0

    below : i < length ks
    below = (let e = counted listing in omega (arith, l, e))

    seat : k < seats
    seat = listing.seat k (in_list ks i below)

    id_is : get_or r.ids i (pos 0) ≡ pos k
    id_is =
        ap (λ (q : Removed). get_or q.ids i (pos 0)) listing.ids
        ∙ get_or-append (map pos ks) _ (pos 0) i (omega (arith, below, length-map ks pos))
        ∙ get_or-map pos ks i 0

    placed : place_of seats (get_or r.ids i (pos 0)) ≡ k
    placed = ap (place_of seats) id_is ∙ place_is seats k seat

    pub has-seat : place_of seats (get_or r.ids i (pos 0)) < seats
    has-seat = omega (arith, placed, seat)

    module _ (copies : List Copy) (items : List Item) (count : ℕ) (h : Drops i copies items count) where
      pub room : count < most_passed seats
      room = omega (arith, h.fits, below, listing.fits)

      pub drops : (at : ℕ) (copies' : List Copy) (items' : List Item) (count' : ℕ) → at ≡ place_of seats (get_or r.ids i (pos 0)) → copies' ≡ set copies at no_copy → items' ≡ set items count (item (passed.Removal at)) → count' ≡ count + 1 → Drops (i + 1) copies' items' count'
      drops at copies' items' count' e f g c =
          let p : Passed = passed.Removal k in
          let at-is : at ≡ k = e ∙ placed in
          let size : length h.sent < most_passed seats = omega (arith, h.count_is, room) in
          let split : drop i ks ≡ k ∷ drop (suc i) ks = drop-cons ks i 0 below in
          record {
            sent = h.sent ++ (p ∷ []);
            copies-left =
                ap (λ (j : ℕ). dropped (drop j ks) copies') (add-one i)
                ∙ ap (dropped (drop (suc i) ks)) (f ∙ ap (λ (j : ℕ). set copies j no_copy) at-is)
                ∙ sym (ap (λ (js : List ℕ). dropped js copies) split)
                ∙ h.copies-left;
            passed-left =
                ap (λ (j : ℕ). (h.sent ++ (p ∷ [])) ++ map passed.Removal (drop j ks)) (add-one i)
                ∙ append_snoc h.sent p (map passed.Removal (drop (suc i) ks))
                ∙ sym (ap (λ (js : List ℕ). h.sent ++ map passed.Removal js) split)
                ∙ h.passed-left;
            items-are = g ∙ ap (λ (j : ℕ). set items count (item (passed.Removal j))) at-is ∙ rw (h.items-are, h.count_is) (filled-set (most_passed seats) h.sent p size);
            count_is = (let z = longer h.sent p in omega (arith, c, h.count_is, z));
            fits = omega (arith, c, h.fits);
          }

  -- after all
  pub drops_last : IsListed r → (i : ℕ) (copies : List Copy) (items : List Item) (count : ℕ) → Drops i copies items count → r.count ≤ i → record { copies = copies; count = count; items = items } ≡ sending_of seats (send_removals ks (sent_in m))
  drops_last listing i copies items count h l =
      let short : length ks ≤ i = (let e = counted listing in omega (arith, l, e)) in
      let none : drop i ks ≡ [] = drop_of_length-le ks short in
      let c : copies ≡ dropped ks m.copies = sym (ap (λ (js : List ℕ). dropped js copies) none) ∙ h.copies-left in
      let p : h.sent ≡ (sent_in m).passed ++ map passed.Removal ks = sym (append-nil h.sent) ∙ sym (ap (λ (js : List ℕ). h.sent ++ map passed.Removal js) none) ∙ h.passed-left in
      rw (h.items-are, h.count_is, c, p) refl
