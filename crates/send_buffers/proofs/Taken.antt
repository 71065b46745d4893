-- What arrives at a screen and what is read of it, by the tests that decide it. Assumes nothing.
use Prim.Native.Nat.{ℕ, ◌≤◌, ◌<◌}
use mathlib.Core.Bool.{true, false}
use mathlib.Core.List.{List}
use mathlib.Core.Path.{◌≡◌, sym, ap, ◌∙◌}
use lib.IntN.{ℤ}
use lib.ListN.{length}
use borrow.Author.Tests.{eq-eqb, ne_eqb, lt-ltb, le-ltb}
use Rattle.game_refusals.specs.Refusals.{bad_id, not_present, bad_length, number_of}
use Rattle.game_refusals.specs.declared.Refusal.{Refusal}
use Rattle.std.specs.Prelude.{Ok, Err}
use Rattle.game_records.specs.Numbers.{core_count, core_numbers}
use Rattle.map_tiles.specs.declared.tiles.Sides.{Sides}
use Rattle.character.specs.Tick.{seats}
use Rattle.world.specs.Calls.{place_of}
use Rattle.send_rule.specs.Send.{copy_at, receive}
use Rattle.send_rule.specs.declared.Passed.{Passed}
use Rattle.send_numbers.specs.Copies.{screen_count, screen_encoding, screen_decoding}
use Rattle.send_numbers.specs.Reading.{PassedRead, read_passed}
use Rattle.send_buffers.specs.Screens.{take_in, receive_in, record_shown, shown_in}

-- ---- what arrives
module _ (s : Sides) (ts : List ℕ) (l ps : List ℤ) (used : ℕ) where
  pub screen_wrong : (length l ≡ screen_count → ⊥) → receive_in s ts l ps used ≡ record { number = bad_length; screen = l; used = used }
  unfolding receive_in
  screen_wrong h = rw (ne_eqb (length l) screen_count h)

  module _ (h : length l ≡ screen_count) (x : PassedRead) (q : x ≡ read_passed seats ps) where
    right : receive_in s ts l ps used ≡ take_in s ts l used x
    unfolding receive_in
    right = rw (eq-eqb (length l) screen_count h, ← q)

    pub nothing-taken : (refusal : Refusal) → x ≡ Err refusal → receive_in s ts l ps used ≡ record { number = number_of refusal; screen = l; used = used }
    unfolding take_in
    nothing-taken refusal e = right ∙ ap (take_in s ts l used) e

    pub thing-taken : (p : Passed) (k : ℕ) (m : List ℤ) → x ≡ Ok (p, k) → m ≡ screen_encoding (receive seats s ts (screen_decoding seats l) p) → receive_in s ts l ps used ≡ record { number = 0; screen = m; used = k }
    unfolding take_in
    thing-taken p k m e f = right ∙ ap (take_in s ts l used) e ∙ ap (λ (n : List ℤ). record { number = 0; screen = n; used = k }) (sym f)

-- ---- what is read
module _ (l : List ℤ) (id : ℤ) (out : List ℤ) where
  pub shown_wrong_screen : (length l ≡ screen_count → ⊥) → shown_in l id out ≡ record { number = bad_length; numbers = out }
  unfolding shown_in
  shown_wrong_screen h = rw (ne_eqb (length l) screen_count h)

  module _ (h : length l ≡ screen_count) where
    pub shown-wrong-record : (length out ≡ core_count → ⊥) → shown_in l id out ≡ record { number = bad_length; numbers = out }
    unfolding shown_in
    shown-wrong-record g = rw (eq-eqb (length l) screen_count h, ne_eqb (length out) core_count g)

    module _ (g : length out ≡ core_count) (k : ℕ) (p : k ≡ place_of seats id) where
      pub shown-no-seat : seats ≤ k → shown_in l id out ≡ record { number = bad_id; numbers = out }
      unfolding shown_in record_shown
      shown-no-seat f = rw (eq-eqb (length l) screen_count h, eq-eqb (length out) core_count g, ← p, le-ltb k seats f)

      pub shown-none : k < seats → (copy_at (screen_decoding seats l).copies k).kept ≡ false → shown_in l id out ≡ record { number = not_present; numbers = out }
      unfolding shown_in record_shown
      shown-none f e = rw (eq-eqb (length l) screen_count h, eq-eqb (length out) core_count g, ← p, lt-ltb k seats f, e)

      pub shown-is : (m : List ℤ) → k < seats → (copy_at (screen_decoding seats l).copies k).kept ≡ true → m ≡ core_numbers (copy_at (screen_decoding seats l).copies k).core → shown_in l id out ≡ record { number = 0; numbers = m }
      unfolding shown_in record_shown
      shown-is m f e q = rw (eq-eqb (length l) screen_count h, eq-eqb (length out) core_count g, ← p, lt-ltb k seats f, e, q)
