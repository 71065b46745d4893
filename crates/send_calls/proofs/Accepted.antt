-- What an accepted step hands to its removals, and where a number names no place. Assumes nothing.
use Prim.Native.Nat.{ℕ, ◌≤◌, ◌<◌}
use native.Mathlib.Omega.{arith}
use mathlib.Core.Bool.{true, true≢false}
use mathlib.Core.List.{List, []}
use mathlib.Core.Path.{◌≡◌, refl, sym, ap, ◌∙◌, subst}
use lib.Dec.{ltb}
use lib.IntN.{ℤ, pos, negsuc}
use lib.ListN.{length}
use borrow.Author.Tests.{ltb-true}
use Rattle.base_turns.specs.Turns.{Turn, more, stop, next}
use Rattle.game_tuning.specs.Tuning.{tuning_of}
use Rattle.map_tiles.specs.Map.{is_map}
use Rattle.map_tiles.specs.declared.tiles.Sides.{Sides}
use Rattle.character.specs.Tick.{seats, slot_at}
use Rattle.world.specs.Calls.{place_of}
use Rattle.world.specs.Removal.{dies, dying, listed, ids_in, is_in}
use Rattle.world.specs.Step.{Moving, move_all, tick_all, step_answer, step_on, step}
use Rattle.world.specs.Run.{ran}
use Rattle.world.specs.declared.call.Call.{Call}
use Rattle.world.specs.declared.call.Call.TheVariants.{Step}
use Rattle.world.specs.Answered.{Stepped}
use Rattle.world.specs.declared.Removed.{Removed}
use Rattle.world.specs.declared.World.{World}
use Rattle.world.proofs.Removal.{dying_within, listed_ids}
use Rattle.world.proofs.Seats.{by_test}
use Rattle.world_step.proofs.Listed.{ids_fit}
use Rattle.send_rule.specs.Send.{Sent, sending_of, send_messages, send_removals, send_accepted}
use Rattle.send_rule.specs.declared.Copy.{Copy}
use Rattle.send_rule.specs.declared.Passed.{Passed}
use Rattle.send_rule.specs.declared.Sending.{Sending}
use Rattle.send_calls.specs.Sending.{sent_in, IsListed}
use Rattle.send_calls.proofs.Filled.{filled_read}

-- ---- a place
place_within : (n : ℕ) (z : ℤ) → place_of n z ≤ n
unfolding place_of
place_within n (pos k) = by_test (λ (p : ℕ). p ≤ n) (ltb k n) (λ e. let h = ltb-true k n e in omega arith) (λ e. omega arith)
place_within n (negsuc k) = omega arith

pub place_fits : (n : ℕ) (z : ℤ) (r : ℕ) → r ≡ place_of n z → r ≤ n
place_fits n z r e = subst (λ (k : ℕ). k ≤ n) (sym e) (place_within n z)

-- ---- what is sent comes back from its array
pub sent_back : (m : Sent) (x : Sending) → x ≡ sending_of seats m → sent_in x ≡ m
sent_back m x e = ap sent_in e ∙ ap (λ (ps : List Passed). record { copies = m.copies; passed = ps }) (filled_read _ m.passed)

pub sent_whole : (m : Sent) (x : Sending) → x ≡ sending_of seats m → x ≡ sending_of seats (sent_in x)
sent_whole m x e = e ∙ ap (sending_of seats) (sym (sent_back m x e))

-- ---- a step lists ids of seats
lists : (ks : List ℕ) → ((k : ℕ) → is_in k ks ≡ true → k < seats) → length ks ≤ seats → IsListed (listed seats ks)
lists ks b f = record { ids = ap (listed seats) (sym (listed_ids seats ks)); seat = λ k e. b k (ap (is_in k) (sym (listed_ids seats ks)) ∙ e); fits = subst (λ (l : List ℕ). length l ≤ seats) (sym (listed_ids seats ks)) f }

none_listed : IsListed (listed seats [])
none_listed = lists [] (λ k e. absurd (true≢false (sym e))) (omega arith)

module _ (w : World) (s : Sides) (ts : List ℕ) where
  moves_list : (a : Turn Moving ℕ) → IsListed (step_answer seats w s ts a).removed
  unfolding dying
  moves_list (stop r) = none_listed
  moves_list (more m) = lists (dying seats s ts m.slots) (dying_within seats s ts m.slots) (ids_fit (λ i. dies s ts (slot_at m.slots i)) seats 0)

  step_lists : IsListed (step seats w s ts).removed
  unfolding step step_on
  step_lists = by_test (λ (a : Stepped). IsListed a.removed) (is_map s ts) (λ e. moves_list (next (λ us. move_all seats us s ts (tuning_of w.tunings)) (tick_all seats w.slots s ts (tuning_of w.tunings)))) (λ e. none_listed)

  -- ---- an accepted step
  module _ (c : Call) (is : c ≡ Step) (a : Stepped) (d : a.records ≡ (ran seats s ts w c).records) (e : a.removed ≡ (ran seats s ts w c).removed) where
    removed_is : a.removed ≡ (step seats w s ts).removed
    removed_is = e ∙ ap (λ (b : Call). (ran seats s ts w b).removed) is

    pub lists-seats : IsListed a.removed
    lists-seats = subst IsListed (sym removed_is) step_lists

    -- its messages are told by its records alone
    messages_are : (cs : List Copy) → send_messages seats s ts w a cs ≡ send_messages seats s ts w (step seats w s ts) cs
    unfolding send_messages
    messages_are cs = rw (d ∙ ap (λ (b : Call). (ran seats s ts w b).records) is) refl

    pub step_sent : (cs : List Copy) (x y : Sending) → x ≡ sending_of seats (send_messages seats s ts w a cs) → y ≡ sending_of seats (send_removals (ids_in a.removed) (sent_in x)) → y ≡ sending_of seats (send_accepted seats s ts w cs c)
    step_sent cs x y f g =
        g
        ∙ ap (λ (m : Sent). sending_of seats (send_removals (ids_in a.removed) m)) (sent_back (send_messages seats s ts w a cs) x f ∙ messages_are cs)
        ∙ ap (λ (r : Removed). sending_of seats (send_removals (ids_in r) (send_messages seats s ts w (step seats w s ts) cs))) removed_is
        ∙ sym (ap (λ (d : Call). sending_of seats (send_accepted seats s ts w cs d)) is)
