-- Every world that calls can reach comes back from its numbers. Assumes nothing.
use Prim.Native.Nat.{ℕ, ◌≤◌, ◌<◌}
use mathlib.Core.Bool.{Bool, true, false}
use mathlib.Core.List.{List, ◌++◌}
use mathlib.Core.Path.{◌≡◌, refl, sym, ap, ap₂, ◌∙◌}
use native.Mathlib.Omega.{arith}
use lib.Dec.{leb}
use lib.IntN.{ℤ}
use lib.ListN.{length}
use lib.Seq.{take_at, drop_at}
use borrow.Author.Tests.{leb-true}
use Rattle.game_records.specs.Numbers.{core_numbers, input_numbers, core_in, input_of_numbers}
use Rattle.character.specs.Slot.{empty_slot, joined_slot, with_character, with_input, with_grounded}
use Rattle.character.specs.Tick.{slot_at, nowhere}
use Rattle.character.specs.declared.Character.{Character}
use Rattle.character.specs.declared.Slot.{Slot}
use Rattle.character_hook.specs.Hook.{tick_of}
use Rattle.character.specs.Records.{core_of, most_tick, to_net, from_net, quantize}
use Rattle.character_laws.specs.Representable.{Representable}
use Rattle.character_laws.proofs.Back.{from_core, to_core, representable_back}
use Rattle.world.specs.World.{fresh}
use Rattle.game_tuning.specs.Tuning.{tuning_count}
use Rattle.world.specs.Run.{after}
use Rattle.world.specs.Settled.{Settled}
use Rattle.world.proofs.Settled.{after_settled}
use Rattle.world.specs.declared.World.{World}
use Rattle.world_numbers.specs.Encoding.{seat_count, each, flag, net_core, record_numbers, present_numbers, seat_numbers, encoding}
use Rattle.world_numbers.specs.Decoding.{from_zero, is_set, readable, seat_of, seats_of, decoding, ComesBack}
use Rattle.world_numbers.proofs.Rows.{seat_long}
use Rattle.world_numbers.proofs.RowsIn.{rows_back}
use Rattle.std.specs.Prelude.{Result, Err}
use Rattle.game_records.specs.declared.CharacterCore.{CharacterCore}
use Rattle.game_refusals.specs.declared.Refusal.{Refusal}
use Rattle.game_refusals.specs.declared.Refusal.TheVariants.{TickTooLarge}

-- what is asked of a seat
pub record Kept (s : Slot) : Type 0 where
  pub somebody : s.present ≡ true → Representable s.character
  pub nobody : s.present ≡ false → s ≡ empty_slot

-- a representable character has a record, which is read as it is
pub ticks_fit : (c : Character) → Representable c → tick_of c.hook ≤ most_tick
unfolding quantize to_net
ticks_fit c r = go (leb (tick_of c.hook) most_tick) refl
  where
    go : (b : Bool) → leb (tick_of c.hook) most_tick ≡ b → tick_of c.hook ≤ most_tick
    go true e = leb-true (tick_of c.hook) most_tick e
    go false e =
        let q : quantize c ≡ (Err TickTooLarge) = rw e refl in
        let p = representable_back c r in
        let z : ◌≡◌ {A = ℕ} 0 1 = cc in
        omega arith

record_back : (c : Character) → Representable c → from_net (readable (net_core (to_net c))) ≡ c
unfolding readable from_zero core_of
record_back c r = ap (λ (n : Result CharacterCore Refusal). from_net (readable (net_core n))) (to_core c (ticks_fit c r)) ∙ from_core c r

pub flag-back : (b : Bool) → is_set (flag b) ≡ b
unfolding is_set
flag-back true = refl
flag-back false = refl

-- a seat, whatever stands after it
pub seat_back : (s : Slot) (l : List ℤ) → Kept s → seat_of (seat_numbers s ++ l) ≡ s
unfolding seat_of seat_numbers present_numbers record_numbers core_numbers input_numbers is_set core_in input_of_numbers
seat_back s l k = go s.present refl
  where
    go : (b : Bool) → s.present ≡ b → seat_of (seat_numbers s ++ l) ≡ s
    go true e = rw e (ap₂ (λ (c : Character) (g : Bool). with_grounded (with_input (with_character (joined_slot c.pos) c) s.input) g) (record_back s.character (k.somebody e)) (flag-back s.grounded))
    go false e = ap (λ (x : Slot). seat_of (seat_numbers x ++ l)) (k.nobody e) ∙ sym (k.nobody e)

pub decoding-encoding : (n : ℕ) (w : World) → Settled n w → decoding n (encoding w) ≡ w
unfolding decoding encoding
decoding-encoding n w h =
    let r : List ℤ = each seat_numbers w.slots in
    let kept : (k : ℕ) → k < length w.slots → Kept (slot_at w.slots k) = λ k l. let q : k < n = omega (arith, h.seats) in record { somebody = h.representable k q; nobody = h.empty k q } in
    ap₂ (λ (ss : List Slot) (ts : List ℤ). record { slots = ss; tunings = ts })
    (ap (seats_of n) (drop_at w.tunings r tuning_count h.tunings) ∙ ap (λ (m : ℕ). seats_of m r) (sym h.seats) ∙ rows_back seat_numbers seat_of seat_count seat_long Kept seat_back nowhere w.slots kept)
    (take_at w.tunings r tuning_count h.tunings)

pub comes_back : (n : ℕ) → ComesBack n
comes_back n s ts cs = decoding-encoding n (after n s ts (fresh n) cs) (after_settled n s ts cs)
