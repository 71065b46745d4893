-- What a screen keeps with all that arrives, so that its numbers stand for it. Assumes nothing.
use Prim.Native.Nat.{ℕ, ◌^◌, ◌+◌, ◌*◌, ◌<◌}
use mathlib.Core.List.{List, [], ◌∷◌}
use mathlib.Core.Path.{◌≡◌, refl, sym, ap₂, ◌∙◌, subst}
use native.Mathlib.Omega.{arith}
use lib.Dec.{ltb}
use lib.IntN.{ℤ}
use lib.ListN.{length, set, length-set, length-replicate}
use borrow.Author.Tests.{ltb-true}
use Rattle.base_turns.proofs.Kept.{fold-kept}
use Rattle.game_tuning.specs.Tuning.{fresh_tunings, tuning_count}
use Rattle.map_tiles.specs.declared.tiles.Sides.{Sides}
use Rattle.character.specs.Tick.{seats}
use Rattle.character_laws.proofs.Slots.{set_every, replicate_every}
use Rattle.world.proofs.Seats.{by_test}
use Rattle.send_rule.specs.Send.{no_copy, copy_at, copy_of, most_steps, counted, step_copy, step_turn, step_copies, receive, receive_all, fresh_screen}
use Rattle.send_rule.specs.declared.Copy.{Copy}
use Rattle.send_rule.specs.declared.Passed.{Passed}
use Rattle.send_rule.specs.declared.Passed.TheVariants as passed
use Rattle.send_rule.specs.declared.Screen.{Screen}
use Rattle.send_rule.proofs.Copies.{step_none, step_counts}
use Rattle.base_turns.proofs.Tests.{either_way}
use Rattle.send_numbers.specs.Copies.{copy_count, screen_count, screen_encoding, screen_decoding}
use Rattle.send_numbers.proofs.ScreensBack.{screen_long, screen_comes_back}

-- all copies, each with steps that are a u32
pub record Copied (n : ℕ) (cs : List Copy) : Type 0 where
  pub size : length cs ≡ n
  pub steps : (k : ℕ) → (copy_at cs k).steps < 2 ^ 32

-- and all tunings
pub record Fit (n : ℕ) (z : Screen) : Type 0 where
  pub copied : Copied n z.copies
  pub tunings : length z.tunings ≡ tuning_count

counted_fits : (k : ℕ) → k < 2 ^ 32 → counted k < 2 ^ 32
counted_fits k h = by_test (λ (m : ℕ). m < 2 ^ 32) (ltb k most_steps) (λ e. let q = ltb-true k most_steps e in omega arith) (λ e. h)

set_copied : (n : ℕ) (cs : List Copy) (k : ℕ) (c : Copy) → Copied n cs → c.steps < 2 ^ 32 → Copied n (set cs k c)
set_copied n cs k c h q = record { size = length-set cs k c ∙ h.size; steps = set_every (λ j x. x.steps < 2 ^ 32) cs k c no_copy h.steps q }

module _ (n : ℕ) (s : Sides) (ts : List ℕ) where
  -- ---- a mark
  copy_fits : (tunings : List ℤ) (k : ℕ) (c : Copy) → c.steps < 2 ^ 32 → (step_copy n s ts tunings k c).steps < 2 ^ 32
  copy_fits tunings k c h = either_way c.kept (λ e. subst (λ (m : ℕ). m < 2 ^ 32) (sym (step_counts n s ts tunings k c e).steps) (counted_fits c.steps h)) (λ e. subst (λ (d : Copy). d.steps < 2 ^ 32) (sym (step_none n s ts tunings k c e)) h)

  stepped_fit : (tunings : List ℤ) (cs : List Copy) → Copied n cs → Copied n (step_copies n s ts tunings cs)
  unfolding step_copies
  stepped_fit tunings cs h = fold-kept (step_turn n s ts tunings) (Copied n) (λ k us q. set_copied n us k (step_copy n s ts tunings k (copy_at us k)) q (copy_fits tunings k (copy_at us k) (q.steps k))) n 0 cs h

  -- ---- whatever arrives
  pub receive_fit : (z : Screen) (p : Passed) → Fit n z → Fit n (receive n s ts z p)
  receive_fit z passed.Mark h = record { copied = stepped_fit z.tunings z.copies h.copied; tunings = h.tunings }
  receive_fit z (passed.Message k core i) h = record { copied = set_copied n z.copies k (copy_of core i) h.copied (omega arith); tunings = h.tunings }
  receive_fit z (passed.Removal k) h = record { copied = set_copied n z.copies k no_copy h.copied (omega arith); tunings = h.tunings }
  receive_fit z (passed.Leave k) h = record { copied = set_copied n z.copies k no_copy h.copied (omega arith); tunings = h.tunings }
  receive_fit z (passed.Tune k v) h = record { copied = h.copied; tunings = length-set z.tunings k v ∙ h.tunings }

  pub received_fit : (ps : List Passed) (z : Screen) → Fit n z → Fit n (receive_all n s ts z ps)
  received_fit [] z h = h
  received_fit (p ∷ ps) z h = received_fit ps (receive n s ts z p) (receive_fit z p h)

-- ---- so its numbers stand for it
pub fit_back : (z : Screen) → Fit seats z → screen_decoding seats (screen_encoding z) ≡ z
fit_back z h = screen_comes_back seats z h.copied.size h.tunings (λ k q. h.copied.steps k)

pub fit_long : (z : Screen) → Fit seats z → length (screen_encoding z) ≡ screen_count
fit_long z h = screen_long z ∙ ap₂ (λ (m n : ℕ). m + copy_count * n) h.tunings h.copied.size

-- a fresh screen
pub fresh_fit : Fit seats (fresh_screen seats)
unfolding fresh_tunings
fresh_fit = record { copied = record { size = length-replicate seats no_copy; steps = replicate_every (λ (c : Copy). c.steps < 2 ^ 32) seats no_copy no_copy (omega arith) (omega arith) }; tunings = refl }
