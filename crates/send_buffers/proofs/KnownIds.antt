-- Every id that a sender passes along is that of a seat, and every index that of a tuning. Assumes nothing.
use Prim.Native.Nat.{ℕ, suc, ◌≤◌, ◌<◌}
use mathlib.Core.Bool.{true, ◌&&◌}
use mathlib.Core.List.{List, [], ◌∷◌, ◌++◌, map}
use mathlib.Core.Path.{◌≡◌, refl, ap}
use native.Mathlib.Omega.{arith}
use lib.Dec.{eqb}
use lib.IntN.{ℤ}
use borrow.Author.Tests.{eq-eqb, eqb-true}
use Rattle.game_tuning.specs.Tuning.{tuning_count}
use Rattle.map_tiles.specs.declared.tiles.Sides.{Sides}
use Rattle.character.specs.Tick.{seats, slot_at}
use Rattle.world.specs.World.{with_tuning}
use Rattle.world.specs.Calls.{place_of, vacate, leave, tune}
use Rattle.world.specs.Removal.{ids_in, is_in}
use Rattle.world.specs.Run.{ran}
use Rattle.world.specs.Step.{step}
use Rattle.world.specs.Answered.{Answer, Stepped}
use Rattle.world.specs.declared.call.Call.{Call}
use Rattle.world.specs.declared.call.Call.TheVariants.{Join, Leave, Input, Step, Tune}
use Rattle.world.specs.declared.World.{World}
use Rattle.world.proofs.Outcomes.{Outcome, no, yes, Seated, Tunes, leave_outcome, tune_outcome}
use Rattle.world.proofs.Seats.{by_test}
use Rattle.send_rule.specs.Send.{Sent, copy_at, due, taken_at, step_copies, send_turn, send_messages, send_accepted, send}
use Rattle.send_rule.specs.declared.Copy.{Copy}
use Rattle.send_rule.specs.declared.Passed.{Passed}
use Rattle.send_rule.specs.declared.Passed.TheVariants as passed
use Rattle.send_rule.proofs.Messages.{message_of}
use Rattle.send_rule.proofs.Places.{fold_on}
use Rattle.base_turns.proofs.Tests.{or_first, or_second}
use Rattle.send_calls.proofs.Accepted.{lists-seats}
use Rattle.send_numbers.specs.Reading.{Known}

-- of all things
abbrev pub AllKnown : ℕ → List Passed → Type 0
AllKnown n [] = Unit {0}
AllKnown n (p ∷ ps) = Known n p × AllKnown n ps

all_append : (n : ℕ) (ps qs : List Passed) → AllKnown n ps → AllKnown n qs → AllKnown n (ps ++ qs)
all_append n [] qs g h = h
all_append n (p ∷ ps) qs g h = (g.0, all_append n ps qs g.1 h)

-- ---- a step's messages
module _ (n : ℕ) (w : World) (a : Stepped) where
  turn : (i : ℕ) (m : Sent) → (i ≤ n → AllKnown n m.passed) → suc i ≤ n → AllKnown n (send_turn w a i m).passed
  turn i m f l =
      let h = f (omega arith) in
      by_test (λ (x : Sent). AllKnown n x.passed) ((slot_at w.slots i).present && due (copy_at m.copies i) (taken_at a i)) (λ e. all_append n m.passed (message_of w a i ∷ []) h (l, tt)) (λ e. h)

  messages_known : (s : Sides) (ts : List ℕ) (cs : List Copy) → AllKnown n (send_messages n s ts w a cs).passed
  unfolding send_messages
  messages_known s ts cs = fold_on (send_turn w a) (λ i m. i ≤ n → AllKnown n m.passed) turn n 0 (record { copies = step_copies n s ts w.tunings cs; passed = passed.Mark ∷ [] }) (λ l. (tt, tt)) (omega arith)

-- ---- its removals
removals_known : (n : ℕ) (ks : List ℕ) → ((k : ℕ) → is_in k ks ≡ true → k < n) → AllKnown n (map passed.Removal ks)
removals_known n [] h = tt
removals_known n (k ∷ ks) h = (h k (or_first (eqb k k) (is_in k ks) (eq-eqb k k refl)), removals_known n ks (λ j e. h j (or_second (eqb k j) (is_in j ks) e)))

-- ---- a leave and a tune
leave_known : (n : ℕ) (w : World) (id : ℤ) (a : Answer) → Outcome w (vacate w (place_of n id)) (Seated n w id) a → a.number ≡ 0 → place_of n id < n
leave_known n w id a (no r e) q = absurd (let z : a.number ≡ suc r = ap (λ (x : Answer). x.number) e in omega arith)
leave_known n w id a (yes f e) q = f.seat

tune_known : (w : World) (index z : ℤ) → (tune w index z).number ≡ 0 → place_of tuning_count index < tuning_count
tune_known w index z = go (tune w index z) (tune_outcome w index z)
  where
    go : (a : Answer) → Outcome w (with_tuning w (place_of tuning_count index) z) (Tunes w index z) a → a.number ≡ 0 → place_of tuning_count index < tuning_count
    go a (no r e) q = absurd (let x : a.number ≡ suc r = ap (λ (b : Answer). b.number) e in omega arith)
    go a (yes f e) q = f.index-known

-- ---- every call
module _ (s : Sides) (ts : List ℕ) (w : World) (cs : List Copy) where
  accepted_known : (c : Call) → (ran seats s ts w c).number ≡ 0 → AllKnown seats (send_accepted seats s ts w cs c).passed
  accepted_known (Join id x y) e = tt
  accepted_known (Leave id) e = (leave_known seats w id (leave seats w id) (leave_outcome seats w id) e, tt)
  accepted_known (Input id d x y j h) e = tt
  accepted_known (Tune index z) e = (tune_known w index z e, tt)
  accepted_known Step e =
      let a = step seats w s ts in
      all_append seats (send_messages seats s ts w a cs).passed (map passed.Removal (ids_in a.removed)) (messages_known seats w a s ts cs) (removals_known seats (ids_in a.removed) (lists-seats w s ts Step refl a refl refl).seat)

  pub sent_known : (c : Call) → AllKnown seats (send seats s ts w cs c).passed
  sent_known c = by_test (λ (m : Sent). AllKnown seats m.passed) (eqb (ran seats s ts w c).number 0) (λ e. accepted_known c (eqb-true (ran seats s ts w c).number 0 e)) (λ e. tt)
