-- What the messages of an accepted step are, seat by seat, and the sender's copies after them. Assumes nothing.
use Prim.Native.Nat.{ℕ, zero, suc, ◌≤◌, ◌<◌}
use native.Mathlib.Omega.{arith}
use mathlib.Core.Logic.{⊎_elim}
use mathlib.Core.Bool.{Bool, true, false, cond, ◌&&◌}
use mathlib.Core.List.{List, [], ◌∷◌, ◌++◌, map, append-nil}
use mathlib.Core.Path.{◌≡◌, refl, sym, ap, ◌∙◌, subst}
use lib.ListN.{length, set, length-set}
use borrow.Author.Tests.{eq-eqb, ne_eqb}
use Rattle.base_turns.specs.Turns.{fold}
use Rattle.map_tiles.specs.declared.tiles.Sides.{Sides}
use Rattle.character.specs.Tick.{slot_at}
use Rattle.character_laws.proofs.Slots.{set_others}
use Rattle.world.specs.Answered.{Stepped}
use Rattle.world.specs.declared.World.{World}
use Rattle.world.proofs.Seats.{by_test, last_or_below}
use Rattle.send_rule.specs.Send.{Sent, no_copy, copy_at, copy_of, step_copy, step_copies, due, taken_at, used_at, send_turn, send_messages}
use Rattle.send_rule.specs.Link.{is_message, messages, in_order}
use Rattle.send_rule.specs.declared.Copy.{Copy}
use Rattle.send_rule.specs.declared.Passed.{Passed}
use Rattle.send_rule.specs.declared.Passed.TheVariants as passed
use Rattle.send_rule.proofs.Places.{fold_on, step_size, step-at}

pub messages-append : (k : ℕ) (ps qs : List Passed) → messages k (ps ++ qs) ≡ messages k ps ++ messages k qs
messages-append k [] qs = refl
messages-append k (p ∷ ps) qs = go (messages-append k ps qs) (is_message k p)
  where
    go : messages k (ps ++ qs) ≡ messages k ps ++ messages k qs → (b : Bool) → cond b (p ∷ messages k (ps ++ qs)) (messages k (ps ++ qs)) ≡ cond b (p ∷ messages k ps) (messages k ps) ++ messages k qs
    go e true = ap (λ (rs : List Passed). p ∷ rs) e
    go e false = e

pub no_removal : (k : ℕ) (ks : List ℕ) → messages k (map passed.Removal ks) ≡ []
no_removal k [] = refl
no_removal k (j ∷ ks) = no_removal k ks

-- the message of k, alone
abbrev pub message_of : World → Stepped → ℕ → Passed
message_of w a k = passed.Message k (taken_at a k) (used_at w k)

module _ (n : ℕ) (w : World) (a : Stepped) (cs : List Copy) where
  -- whether k has a message, where cs are the stepped copies
  abbrev sends : ℕ → Bool
  sends k = (slot_at w.slots k).present && due (copy_at cs k) (taken_at a k)

  -- the messages of the seats below i
  abbrev front : ℕ → List Passed
  front zero = []
  front (suc i) = front i ++ cond (sends i) (message_of w a i ∷ []) []

  record Sending (i : ℕ) (m : Sent) : Type 0 where
    size : length m.copies ≡ n
    done : (k : ℕ) → k < i → copy_at m.copies k ≡ cond (sends k) (copy_of (taken_at a k) (used_at w k)) (copy_at cs k)
    todo : (k : ℕ) → i ≤ k → copy_at m.copies k ≡ copy_at cs k
    told : (k : ℕ) → k < i → messages k m.passed ≡ cond (sends k) (message_of w a k ∷ []) []
    untold : (k : ℕ) → i ≤ k → messages k m.passed ≡ []
    list : m.passed ≡ passed.Mark ∷ front i

  module _ (i : ℕ) (m : Sent) (l : suc i ≤ n) (h : Sending i m) where
    -- the test of the turn is the one on the stepped copies
    test : (slot_at w.slots i).present && due (copy_at m.copies i) (taken_at a i) ≡ sends i
    test = ap (λ (c : Copy). (slot_at w.slots i).present && due c (taken_at a i)) (h.todo i (omega arith))

    abbrev new : Copy
    new = copy_of (taken_at a i) (used_at w i)

    another : (k : ℕ) → (i ≡ k → ⊥) → messages k (m.passed ++ (message_of w a i ∷ [])) ≡ messages k m.passed
    another k d = messages-append k m.passed (message_of w a i ∷ []) ∙ rw (ne_eqb i k d) (append-nil (messages k m.passed))

    own : messages i (m.passed ++ (message_of w a i ∷ [])) ≡ message_of w a i ∷ []
    own = messages-append i m.passed (message_of w a i ∷ []) ∙ rw (eq-eqb i i refl, h.untold i (omega arith))

    sending : sends i ≡ true → Sending (suc i) (record { copies = set m.copies i new; passed = m.passed ++ (message_of w a i ∷ []) })
    sending e = record {
      size = length-set m.copies i new ∙ h.size;
      done = set_others (λ k x. k < suc i → x ≡ cond (sends k) (copy_of (taken_at a k) (used_at w k)) (copy_at cs k)) m.copies i new no_copy (omega (arith, h.size)) (λ k d q. h.done k (omega arith)) (λ q. ap (λ (b : Bool). cond b new (copy_at cs i)) (sym e));
      todo = set_others (λ k x. suc i ≤ k → x ≡ copy_at cs k) m.copies i new no_copy (omega (arith, h.size)) (λ k d q. h.todo k (omega arith)) (λ q. absurd (omega arith));
      told = λ k q. ⊎_elim (λ r. subst (λ (j : ℕ). messages j (m.passed ++ (message_of w a i ∷ [])) ≡ cond (sends j) (message_of w a j ∷ []) []) (sym r) (own ∙ ap (λ (b : Bool). cond b (message_of w a i ∷ []) []) (sym e))) (λ r. another k (λ d. omega (arith, r, d)) ∙ h.told k r) (last_or_below k i q);
      untold = λ k q. another k (λ d. omega (arith, q, d)) ∙ h.untold k (omega arith);
      list = ap (λ (ps : List Passed). ps ++ (message_of w a i ∷ [])) h.list ∙ ap (λ (b : Bool). passed.Mark ∷ (front i ++ cond b (message_of w a i ∷ []) [])) (sym e);
    }

    silent : sends i ≡ false → Sending (suc i) m
    silent e = record {
      size = h.size;
      done = λ k q. ⊎_elim (λ r. subst (λ (j : ℕ). copy_at m.copies j ≡ cond (sends j) (copy_of (taken_at a j) (used_at w j)) (copy_at cs j)) (sym r) (h.todo i (omega arith) ∙ ap (λ (b : Bool). cond b new (copy_at cs i)) (sym e))) (h.done k) (last_or_below k i q);
      todo = λ k q. h.todo k (omega arith);
      told = λ k q. ⊎_elim (λ r. subst (λ (j : ℕ). messages j m.passed ≡ cond (sends j) (message_of w a j ∷ []) []) (sym r) (h.untold i (omega arith) ∙ ap (λ (b : Bool). cond b (message_of w a i ∷ []) []) (sym e))) (h.told k) (last_or_below k i q);
      untold = λ k q. h.untold k (omega arith);
      list = h.list ∙ ap (λ (ps : List Passed). passed.Mark ∷ ps) (sym (append-nil (front i))) ∙ ap (λ (b : Bool). passed.Mark ∷ (front i ++ cond b (message_of w a i ∷ []) [])) (sym e);
    }

  turn : (i : ℕ) (m : Sent) → (i ≤ n → Sending i m) → suc i ≤ n → Sending (suc i) (send_turn w a i m)
  turn i m f l =
      let h = f (omega arith) in
      by_test (Sending (suc i)) ((slot_at w.slots i).present && due (copy_at m.copies i) (taken_at a i)) (λ e. sending i m l h (sym (test i m l h) ∙ e)) (λ e. silent i m l h (sym (test i m l h) ∙ e))

  sent : length cs ≡ n → Sending n (fold (send_turn w a) n 0 (record { copies = cs; passed = passed.Mark ∷ [] }))
  sent e = subst (λ (j : ℕ). Sending j (fold (send_turn w a) n 0 (record { copies = cs; passed = passed.Mark ∷ [] }))) (omega arith) (fold_on (send_turn w a) (λ i m. i ≤ n → Sending i m) turn n 0 (record { copies = cs; passed = passed.Mark ∷ [] }) (λ l. record { size = e; done = λ k q. absurd (omega arith); todo = λ k q. refl; told = λ k q. absurd (omega arith); untold = λ k q. refl; list = refl }) (omega arith))

  -- they are what is told of each seat, by rising id
  front_told : (ps : List Passed) (i : ℕ) → ((k : ℕ) → k < i → messages k ps ≡ cond (sends k) (message_of w a k ∷ []) []) → front i ≡ in_order i ps
  front_told ps zero h = refl
  front_told ps (suc i) h = let e = front_told ps i (λ k l. h k (omega arith)) in let f = h i (omega arith) in rw (e, f)

-- removals are none of them
pub order_removals : (i : ℕ) (ps : List Passed) (ks : List ℕ) → in_order i (ps ++ map passed.Removal ks) ≡ in_order i ps
order_removals zero ps ks = refl
order_removals (suc i) ps ks = rw (order_removals i ps ks, messages-append i ps (map passed.Removal ks), no_removal i ks, append-nil (messages i ps))

-- ---- of an accepted step
module _ (n : ℕ) (s : Sides) (ts : List ℕ) (w : World) (a : Stepped) (cs : List Copy) where
  -- the copy of k after its step, and whether k has a message
  abbrev pub its_copy : ℕ → Copy
  its_copy k = step_copy n s ts w.tunings k (copy_at cs k)

  abbrev pub has_message : ℕ → Bool
  has_message k = (slot_at w.slots k).present && due (its_copy k) (taken_at a k)

  all : length cs ≡ n → Sending n w a (step_copies n s ts w.tunings cs) n (send_messages n s ts w a cs)
  unfolding send_messages
  all e = sent n w a (step_copies n s ts w.tunings cs) (step_size n s ts w.tunings cs e)

  pub sent_size : length cs ≡ n → length (send_messages n s ts w a cs).copies ≡ n
  sent_size e = (all e).size

  pub sent_copy : length cs ≡ n → (k : ℕ) → k < n → copy_at (send_messages n s ts w a cs).copies k ≡ cond (has_message k) (copy_of (taken_at a k) (used_at w k)) (its_copy k)
  sent_copy e k l = (all e).done k l ∙ ap (λ (c : Copy). cond ((slot_at w.slots k).present && due c (taken_at a k)) (copy_of (taken_at a k) (used_at w k)) c) (step-at n s ts w.tunings cs e k l)

  pub sent_messages : length cs ≡ n → (k : ℕ) → k < n → messages k (send_messages n s ts w a cs).passed ≡ cond (has_message k) (message_of w a k ∷ []) []
  sent_messages e k l = (all e).told k l ∙ ap (λ (c : Copy). cond ((slot_at w.slots k).present && due c (taken_at a k)) (message_of w a k ∷ []) []) (step-at n s ts w.tunings cs e k l)

  pub sent_order : length cs ≡ n → (send_messages n s ts w a cs).passed ≡ passed.Mark ∷ in_order n (send_messages n s ts w a cs).passed
  sent_order e = (all e).list ∙ ap (λ (ps : List Passed). passed.Mark ∷ ps) (front_told n w a (step_copies n s ts w.tunings cs) (send_messages n s ts w a cs).passed n (all e).told)
