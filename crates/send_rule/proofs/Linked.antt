-- The screen's copies are the sender's, and its tunings the world's, after every call. Assumes nothing.
use Prim.Native.Nat.{ℕ, suc}
use native.Mathlib.Omega.{arith}
use mathlib.Core.Bool.{Bool, true, false, cond, ◌&&◌}
use mathlib.Core.List.{List, [], ◌∷◌, ◌++◌, map}
use mathlib.Core.Path.{◌≡◌, refl, sym, ap, ◌∙◌}
use lib.Dec.{eqb}
use lib.IntN.{ℤ}
use lib.ListN.{length, set, length-replicate}
use borrow.Author.Tests.{eq-eqb, ne_eqb, eqb-true, eqb-false}
use Rattle.base_turns.proofs.Kept.{fold-kept}
use Rattle.game_tuning.specs.Tuning.{tuning_count}
use Rattle.map_tiles.specs.declared.tiles.Sides.{Sides}
use Rattle.character.specs.Tick.{slot_at}
use Rattle.world.specs.World.{fresh, with_tuning}
use Rattle.world.specs.Calls.{accepted, place_of, tune}
use Rattle.world.specs.Removal.{ids_in}
use Rattle.world.specs.Run.{input_of, ran}
use Rattle.world.specs.Settled.{Settled}
use Rattle.world.specs.Step.{step}
use Rattle.world.specs.declared.call.Call.{Call}
use Rattle.world.specs.declared.call.Call.TheVariants.{Join, Leave, Input, Step, Tune}
use Rattle.world.specs.Answered.{Answer, Stepped}
use Rattle.world.specs.declared.World.{World}
use Rattle.world.proofs.Demand1.{demand1}
use Rattle.world.proofs.Outcomes.{Outcome, no, yes, outcome_kept, Tunes, join_outcome, leave_outcome, input_outcome, tune_outcome}
use Rattle.world.proofs.Seats.{by_test}
use Rattle.world.proofs.Settled.{answer-settled, after_settled}
use Rattle.send_rule.specs.Send.{Sent, no_copy, copy_at, step_copies, due, taken_at, dropped, send_turn, send_messages, send_removals, send_nothing, send_accepted, with_copies, receive, receive_all}
use Rattle.send_rule.specs.Link.{Link, fresh_link, sent_on, called, EveryCall}
use Rattle.send_rule.specs.declared.Copy.{Copy}
use Rattle.send_rule.specs.declared.Passed.{Passed}
use Rattle.send_rule.specs.declared.Passed.TheVariants as passed
use Rattle.send_rule.specs.declared.Screen.{Screen}
use Rattle.send_rule.proofs.Places.{drop_size}
use Rattle.send_rule.proofs.Steps.{step-leaves}
use Rattle.send_rule.proofs.Messages.{message_of, sent_size}

-- the tunings that an accepted tune leaves
tune_tunings : (w : World) (index z : ℤ) → (tune w index z).number ≡ 0 → (tune w index z).world.tunings ≡ set w.tunings (place_of tuning_count index) z
tune_tunings w index z = go (tune w index z) (tune_outcome w index z)
  where
    go : (a : Answer) → Outcome w (with_tuning w (place_of tuning_count index) z) (Tunes w index z) a → a.number ≡ 0 → a.world.tunings ≡ set w.tunings (place_of tuning_count index) z
    go a (no r e) q = absurd (let x : a.number ≡ suc r = ap (λ (b : Answer). b.number) e in omega arith)
    go a (yes f e) q = ap (λ (b : Answer). b.world.tunings) e

module _ (n : ℕ) (s : Sides) (ts : List ℕ) where
  receive-append : (z : Screen) (ps qs : List Passed) → receive_all n s ts z (ps ++ qs) ≡ receive_all n s ts (receive_all n s ts z ps) qs
  receive-append z [] qs = refl
  receive-append z (p ∷ ps) qs = receive-append (receive n s ts z p) ps qs

  receive_removals : (ks : List ℕ) (z : Screen) → receive_all n s ts z (map passed.Removal ks) ≡ with_copies z (dropped ks z.copies)
  receive_removals [] z = refl
  receive_removals (k ∷ ks) z = receive_removals ks (with_copies z (set z.copies k no_copy))

  -- ---- the screen after what is passed along
  module _ (w : World) (cs : List Copy) where
    -- a screen with these copies, under the tunings of w
    abbrev pub screen_of : List Copy → Screen
    screen_of us = record { copies = us; tunings = w.tunings }

    abbrev Received : Sent → Type 0
    Received m = receive_all n s ts (screen_of cs) m.passed ≡ screen_of m.copies

    turn : (a : Stepped) (i : ℕ) (m : Sent) → Received m → Received (send_turn w a i m)
    turn a i m h = by_test Received ((slot_at w.slots i).present && due (copy_at m.copies i) (taken_at a i)) (λ e. receive-append (screen_of cs) m.passed (message_of w a i ∷ []) ∙ ap (λ (z : Screen). receive n s ts z (message_of w a i)) h) (λ e. h)

    -- after the mark and the messages
    pub messages-received : (a : Stepped) → receive_all n s ts (screen_of cs) (send_messages n s ts w a cs).passed ≡ screen_of (send_messages n s ts w a cs).copies
    unfolding send_messages
    messages-received a = fold-kept (send_turn w a) Received (turn a) n 0 (record { copies = step_copies n s ts w.tunings cs; passed = passed.Mark ∷ [] }) refl

    -- after the removals
    pub removals-received : (a : Stepped) (ks : List ℕ) → receive_all n s ts (screen_of cs) (send_removals ks (send_messages n s ts w a cs)).passed ≡ screen_of (dropped ks (send_messages n s ts w a cs).copies)
    removals-received a ks = receive-append (screen_of cs) (send_messages n s ts w a cs).passed (map passed.Removal ks) ∙ ap (λ (z : Screen). receive_all n s ts z (map passed.Removal ks)) (messages-received a) ∙ receive_removals ks (screen_of (send_messages n s ts w a cs).copies)

    abbrev Next : Call → Sent → Type 0
    Next c m = receive_all n s ts (screen_of cs) m.passed ≡ record { copies = m.copies; tunings = (ran n s ts w c).world.tunings }

    abbrev Tuned : World → Type 0
    Tuned v = v.tunings ≡ w.tunings

    onto : (us : List Copy) (t : List ℤ) → t ≡ w.tunings → screen_of us ≡ record { copies = us; tunings = t }
    onto us t e = ap (λ (x : List ℤ). record { copies = us; tunings = x }) (sym e)

    accepted-received : (c : Call) → (ran n s ts w c).number ≡ 0 → Next c (send_accepted n s ts w cs c)
    accepted-received (Join id x y) e = onto cs _ (outcome_kept Tuned w _ _ (join_outcome n w s ts id x y) refl (λ f. refl))
    accepted-received (Leave id) e = onto _ _ (outcome_kept Tuned w _ _ (leave_outcome n w id) refl (λ f. refl))
    accepted-received (Input id d x y j h) e = onto cs _ (outcome_kept Tuned w _ _ (input_outcome n w id (input_of d x y j h)) refl (λ f. refl))
    accepted-received (Tune index z) e = ap (λ (x : List ℤ). record { copies = cs; tunings = x }) (sym (tune_tunings w index z e))
    accepted-received Step e = removals-received (step n w s ts) (ids_in (step n w s ts).removed) ∙ onto _ _ (step-leaves n s ts w).tunings

    pub call-received : (c : Call) → Next c (cond (eqb (ran n s ts w c).number 0) (send_accepted n s ts w cs c) (send_nothing cs))
    call-received c = by_test (Next c) (eqb (ran n s ts w c).number 0) (λ e. accepted-received c (eqb-true (ran n s ts w c).number 0 e)) (λ e. onto cs _ (ap (λ (v : World). v.tunings) (demand1 n s ts w c (eqb-false (ran n s ts w c).number 0 e))))

    accepted-size : length cs ≡ n → (c : Call) → length (send_accepted n s ts w cs c).copies ≡ n
    accepted-size e (Join id x y) = e
    accepted-size e (Leave id) = drop_size (place_of n id ∷ []) cs ∙ e
    accepted-size e (Input id d x y j h) = e
    accepted-size e (Tune index z) = e
    accepted-size e Step = drop_size (ids_in (step n w s ts).removed) (send_messages n s ts w (step n w s ts) cs).copies ∙ sent_size n s ts w (step n w s ts) cs e

    pub call-size : length cs ≡ n → (c : Call) → length (cond (eqb (ran n s ts w c).number 0) (send_accepted n s ts w cs c) (send_nothing cs)).copies ≡ n
    call-size e c = by_test (λ (m : Sent). length m.copies ≡ n) (eqb (ran n s ts w c).number 0) (λ q. accepted-size e c) (λ q. e)

  -- ---- both sides
  pub record Linked (l : Link) : Type 0 where
    pub screen : l.screen ≡ record { copies = l.copies; tunings = l.world.tunings }
    pub size : length l.copies ≡ n
    pub settled : Settled n l.world

  pub linked_first : Linked (fresh_link n)
  unfolding fresh
  linked_first = record { screen = refl; size = length-replicate n no_copy; settled = after_settled n s ts [] }

  pub linked_next : (l : Link) (c : Call) → Linked l → Linked (called n s ts l c)
  linked_next l c h = record {
    screen = ap (λ (z : Screen). receive_all n s ts z (sent_on n s ts l c).passed) h.screen ∙ call-received l.world l.copies c;
    size = call-size l.world l.copies h.size c;
    settled = answer-settled n s ts l.world c h.settled;
  }

  -- what holds of a call on such sides, holds of every call
  pub every_call : (P : Link → Call → Type 0) → ((l : Link) (c : Call) → Linked l → P l c) → (cs : List Call) (l : Link) → Linked l → EveryCall n s ts P l cs
  every_call P f [] l h = tt
  every_call P f (c ∷ cs) l h = (f l c h, every_call P f cs (called n s ts l c) (linked_next l c h))

  -- ---- what is sent on a call, by its number
  module _ (l : Link) (c : Call) where
    sent_is : (b : Bool) → eqb (ran n s ts l.world c).number 0 ≡ b → sent_on n s ts l c ≡ cond b (send_accepted n s ts l.world l.copies c) (send_nothing l.copies)
    sent_is b e = ap (λ (x : Bool). cond x (send_accepted n s ts l.world l.copies c) (send_nothing l.copies)) e

    pub sent-accepted : (ran n s ts l.world c).number ≡ 0 → sent_on n s ts l c ≡ send_accepted n s ts l.world l.copies c
    sent-accepted e = sent_is true (eq-eqb (ran n s ts l.world c).number 0 e)

    pub sent-refused : ((ran n s ts l.world c).number ≡ 0 → ⊥) → sent_on n s ts l c ≡ send_nothing l.copies
    sent-refused e = sent_is false (ne_eqb (ran n s ts l.world c).number 0 e)
