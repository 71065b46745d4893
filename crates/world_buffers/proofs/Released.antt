-- Who is gone from a world's numbers: how they read then, and that they are still a world's own. Assumes nothing.
use Prim.Native.Nat.{ℕ, suc, ◌+◌, ◌-◌, ◌^◌, ◌≤◌, ◌<◌, zero-le}
use mathlib.Core.Bool.{Bool, true, false, cond, ◌&&◌, true≢false}
use mathlib.Core.List.{List, [], ◌∷◌, ◌++◌}
use mathlib.Core.Path.{◌≡◌, refl, sym, ap, ap₂, ◌∙◌, subst}
use native.Mathlib.Nat.{add-zero}
use native.Mathlib.Omega.{arith}
use lib.Dec.{eqb}
use lib.IntN.{ℤ, pos, negsuc}
use lib.Ieee.{of_bits, mul}
use lib.ListN.{length, take, drop, replicate}
use lib.Seq.{get_or-drop}
use borrow.Author.Tests.{ne_eqb, eqb-true}
use Rattle.base_rows.specs.Put.{put}
use Rattle.base_rows.proofs.Puts.{put-append}
use Rattle.num_convert.specs.Casts.{cast_unsigned}
use Rattle.num_convert.specs.Convert.{to256ths}
use Rattle.num_convert.specs.Number.{c0}
use Rattle.num_convert.specs.Whole.{whole_of, round_to_i32}
use Rattle.num_vec2.specs.declared.vec2.{vec2}
use Rattle.game_records.specs.Numbers.{number_at, core_numbers, input_numbers, core_in}
use Rattle.game_records.specs.declared.CharacterCore.{CharacterCore}
use Rattle.game_records.specs.declared.Tick.{Tick}
use Rattle.game_records.proofs.Back.{core_long}
use Rattle.game_tuning.specs.Tuning.{tuning_count}
use Rattle.character_hook.specs.Hook.{nobody, holds, net_state, net_pos, net_dir, tick_of, net_hooked_player, attached_or_grabbed, hook_from_net}
use Rattle.character_hook.specs.declared.hook.Hook.{Hook}
use Rattle.character_hook.specs.declared.hook.Hook.TheVariants.{Retracted}
use Rattle.character.specs.Character.{spawn, with_hook}
use Rattle.character.specs.Slot.{empty_slot, with_character}
use Rattle.character.specs.Tick.{seats}
use Rattle.character.specs.Records.{net_jumped, core_of, most_tick, from_net}
use Rattle.character.specs.declared.Character.{Character}
use Rattle.character.specs.declared.Slot.{Slot}
use Rattle.character_laws.specs.Representable.{Representable}
use Rattle.character_laws.proofs.Back.{to_core}
use Rattle.world.specs.World.{with_slot}
use Rattle.world.specs.Calls.{released_slot, release, vacate}
use Rattle.world.specs.declared.World.{World}
use Rattle.world.proofs.Seats.{by_test}
use Rattle.world.proofs.Vacated.{held-released, other_released, release-at, release_length}
use Rattle.world_numbers.specs.Encoding.{seat_count, world_count, seat_place, hook_place, state_place, retracted_numbers, flag, net_core, record_numbers, present_numbers, seat_numbers}
use Rattle.world_numbers.specs.Decoding.{is_set, readable, seat_of, decoding}
use Rattle.world_numbers.proofs.Encoded.{Kept, ticks_fit}
use Rattle.world_numbers.proofs.Parts.{release-put}
use Rattle.world_numbers.proofs.RowsIn.{rows_long}
use Rattle.world_numbers.proofs.Seats.{seat_is}
use Rattle.world_numbers.proofs.Written.{row_at, row_long, world_is, Written, put_written, written-decoding, Own}
use Rattle.world_buffers.specs.Leaving.{is_attached, holds_in, release_at, release_in, vacate_in}
use Rattle.world_buffers.proofs.SeatTurns.{Turned, turned, turned-own, put_own, seat_written, seat_own}
use Rattle.std.specs.Prelude.{Result}
use Rattle.game_refusals.specs.declared.Refusal.{Refusal}

-- ---- whom a hook holds, by its numbers
-- no seat is the player that reads as nobody
nobody_else : (player : ℤ) (k : ℕ) → k < 2 ^ 32 - 1 → nobody player ≡ true → eqb (cast_unsigned player) k ≡ false
unfolding cast_unsigned
nobody_else (pos n) k h e = absurd (true≢false (sym e))
nobody_else (negsuc n) k h e = let z : n ≡ 0 = eqb-true n 0 e in ne_eqb (2 ^ 32 - suc n) k (λ q. omega arith)

module _ (p d : vec2) (player : ℤ) (t : Tick) (k : ℕ) (h : k < 2 ^ 32 - 1) where
  grabbed_holds : holds (attached_or_grabbed p player t) k ≡ eqb (cast_unsigned player) k
  unfolding attached_or_grabbed holds
  grabbed_holds = by_test (λ (x : Hook). holds x k ≡ eqb (cast_unsigned player) k) (nobody player) (λ e. sym (nobody_else player k h e)) (λ e. refl)

  hook_holds : (s : ℤ) → holds (hook_from_net s p d player t) k ≡ (is_attached s && eqb (cast_unsigned player) k)
  unfolding hook_from_net is_attached holds
  hook_holds (negsuc n) = refl
  hook_holds (pos n) =
      let P : Hook → Type 0 = λ x. holds x k ≡ (eqb n 5 && eqb (cast_unsigned player) k) in
      let other : (i : ℕ) → eqb i 5 ≡ false → eqb n i ≡ true → false ≡ (eqb n 5 && eqb (cast_unsigned player) k) = λ i f e. sym (ap (λ (m : ℕ). eqb m 5 && eqb (cast_unsigned player) k) (eqb-true n i e) ∙ ap (λ (b : Bool). b && eqb (cast_unsigned player) k) f) in
      by_test P (eqb n 0) (other 0 refl) (λ e.
      by_test P (eqb n 1) (other 1 refl) (λ e.
      by_test P (eqb n 2) (other 2 refl) (λ e.
      by_test P (eqb n 3) (other 3 refl) (λ e.
      by_test P (eqb n 4) (other 4 refl) (λ e.
      by_test P (eqb n 5) (λ e. grabbed_holds ∙ sym (ap (λ (b : Bool). b && eqb (cast_unsigned player) k) e)) (λ e. sym (ap (λ (b : Bool). b && eqb (cast_unsigned player) k) e)))))))

row_holds : (r : List ℤ) (k : ℕ) → k < 2 ^ 32 - 1 → (is_set (number_at r 0) && (is_attached (number_at r state_place) && eqb (cast_unsigned (number_at r hook_place)) k)) ≡ holds (seat_of r).character.hook k
unfolding seat_of from_net readable core_in spawn holds
row_holds r k h = go (is_set (number_at r 0)) refl
  where
    go : (b : Bool) → is_set (number_at r 0) ≡ b → (is_set (number_at r 0) && (is_attached (number_at r state_place) && eqb (cast_unsigned (number_at r hook_place)) k)) ≡ holds (seat_of r).character.hook k
    go true e = rw e (ap₂ (λ (a b : ℤ). is_attached a && eqb (cast_unsigned b) k) (sym (get_or-drop 1 r 9 (pos 0))) (sym (get_or-drop 1 r 8 (pos 0))) ∙ sym (hook_holds _ _ (number_at (drop 1 r) 8) _ k h (number_at (drop 1 r) 9)))
    go false e = rw e refl

module _ (l : List ℤ) (j : ℕ) where
  number_in : (i : ℕ) → number_at l (seat_place j + i) ≡ number_at (row_at l j) i
  number_in i = sym (get_or-drop (seat_place j) l i (pos 0))

  pub first_in : number_at l (seat_place j) ≡ number_at (row_at l j) 0
  first_in = ap (λ (i : ℕ). number_at l i) (sym (add-zero (seat_place j))) ∙ number_in 0

  holds_is : (k : ℕ) → k < seats → holds_in l j k ≡ holds (seat_of (row_at l j)).character.hook k
  unfolding holds_in
  holds_is k h = rw (first_in, number_in state_place, number_in hook_place) (row_holds (row_at l j) k (omega arith))

pub present_is : (r : List ℤ) (b : Bool) → is_set (number_at r 0) ≡ b → (seat_of r).present ≡ b
unfolding seat_of
present_is r true e = rw e refl
present_is r false e = rw e refl

empty_kept : Kept empty_slot
empty_kept = record { somebody = λ e. absurd (true≢false (sym e)); nobody = λ e. refl }

-- only who is there has a hook that holds somebody
held_there : (r : List ℤ) (k : ℕ) → holds (seat_of r).character.hook k ≡ true → is_set (number_at r 0) ≡ true
unfolding seat_of spawn holds
held_there r k = go (is_set (number_at r 0)) refl
  where
    go : (b : Bool) → is_set (number_at r 0) ≡ b → holds (seat_of r).character.hook k ≡ true → is_set (number_at r 0) ≡ true
    go true e h = e
    go false e h = absurd (true≢false (sym (rw e at h)))

-- ---- one hook
module _ (x : Slot) (k : ℕ) where
  slot_released : holds x.character.hook k ≡ true → released_slot x k ≡ with_character x (with_hook x.character Retracted)
  slot_released e = ap (λ (h : Hook). with_character x (with_hook x.character h)) (held-released x.character.hook k e)

  slot_stays : holds x.character.hook k ≡ false → released_slot x k ≡ x
  slot_stays e = ap (λ (h : Hook). with_character x (with_hook x.character h)) (other_released x.character.hook k e)

-- its numbers
round_zero : round_to_i32 c0 ≡ pos 0
unfolding whole_of of_bits
round_zero = refl

256ths_zero : to256ths c0 ≡ pos 0
unfolding to256ths whole_of of_bits mul
256ths_zero = refl

retracted_record : (c : Character) → put (core_numbers (core_of c)) 8 retracted_numbers ≡ core_numbers (core_of (with_hook c Retracted))
unfolding core_numbers core_of net_jumped put net_hooked_player net_state tick_of net_pos net_dir
retracted_record c = rw (round_zero, 256ths_zero)

-- a hook's numbers within a seat's
hook_in : (n m : CharacterCore) (rest : List ℤ) → put (core_numbers n) 8 retracted_numbers ≡ core_numbers m → put (record_numbers (record { present = true; core = n }) ++ rest) hook_place retracted_numbers ≡ record_numbers (record { present = true; core = m }) ++ rest
unfolding record_numbers put
hook_in n m rest e = in_tail (pos 1) (core_numbers n ++ rest) ∙ ap (λ (l : List ℤ). pos 1 ∷ l) (put-append (core_numbers n) rest 8 retracted_numbers (omega (arith, core_long n)) ∙ ap (λ (l : List ℤ). l ++ rest) e)
  where
    in_tail : (z : ℤ) (l : List ℤ) → put (z ∷ l) hook_place retracted_numbers ≡ z ∷ put l 8 retracted_numbers
    in_tail z l = refl

retracted_numbers_lem : (x : Slot) → Representable x.character → put (present_numbers x) hook_place retracted_numbers ≡ present_numbers (with_character x (with_hook x.character Retracted))
unfolding present_numbers tick_of
retracted_numbers_lem x r =
    let c = x.character in
    let rest = input_numbers x.input ++ (flag x.grounded ∷ []) in
    ap (λ (n : Result CharacterCore Refusal). put (record_numbers (record { present = true; core = net_core n }) ++ rest) hook_place retracted_numbers) (to_core c (ticks_fit c r))
    ∙ hook_in (core_of c) (core_of (with_hook c Retracted)) rest (retracted_record c)
    ∙ sym (ap (λ (n : Result CharacterCore Refusal). record_numbers (record { present = true; core = net_core n }) ++ rest) (to_core (with_hook c Retracted) (no-ticks c)))
  where
    no-ticks : (c : Character) → tick_of (with_hook c Retracted).hook ≤ most_tick
    no-ticks c = zero-le

retracted_seat : (x : Slot) → x.present ≡ true → Representable x.character → put (seat_numbers x) hook_place retracted_numbers ≡ seat_numbers (with_character x (with_hook x.character Retracted))
unfolding seat_numbers
retracted_seat x p r =
    let zeros : List ℤ = replicate seat_count (pos 0) in
    ap (λ (b : Bool). put (cond b (present_numbers x) zeros) hook_place retracted_numbers) p ∙ retracted_numbers_lem x r ∙ sym (ap (λ (b : Bool). cond b (present_numbers (with_character x (with_hook x.character Retracted))) zeros) p)

released-kept : (x : Slot) → x.present ≡ true → Kept x → Kept (with_character x (with_hook x.character Retracted))
released-kept x p k = record { somebody = λ e. let r = k.somebody e in record { pos = r.pos; vel = r.vel; hook = tt; angle = r.angle }; nobody = λ e. absurd (true≢false (sym p ∙ e)) }

-- the seat j
module _ (k : ℕ) (s : k < seats) where
  module _ (j : ℕ) (l : List ℤ) (h : j < seats) (long : length l ≡ world_count) where
    abbrev old : Slot
    old = seat_of (row_at l j)

    hook-put : holds_in l j k ≡ true → seat_of (put (row_at l j) hook_place retracted_numbers) ≡ with_character old (with_hook old.character Retracted)
    hook-put e = release-put (row_at l j) (row_long seats j l long h) (held_there (row_at l j) k (sym (holds_is l j k s) ∙ e))

    release-written : Written seats j (released_slot old k) l (release_at k j l)
    release-written = go (holds_in l j k) refl
      where
        go : (b : Bool) → holds_in l j k ≡ b → Written seats j (released_slot old k) l (cond b (put l (seat_place j + hook_place) retracted_numbers) l)
        go true e = subst (λ (x : Slot). Written seats j x l (put l (seat_place j + hook_place) retracted_numbers)) (hook-put e ∙ sym (slot_released old k (sym (holds_is l j k s) ∙ e))) (put_written seats l long j hook_place retracted_numbers h (omega arith))
        go false e = record { size = refl; tunings = refl; own = sym (slot_stays old k (sym (holds_is l j k s) ∙ e)); others = λ i q d. refl }

    release-own : Own seats l → Own seats (release_at k j l)
    release-own o = by_test (Own seats) (holds_in l j k) there (λ e. o)
      where
        there : holds_in l j k ≡ true → Own seats (put l (seat_place j + hook_place) retracted_numbers)
        there e =
            let p : old.present ≡ true = present_is (row_at l j) true (held_there (row_at l j) k (sym (holds_is l j k s) ∙ e)) in
            put_own seats l long o j hook_place retracted_numbers _ h (omega arith) (hook-put e) (retracted_seat old p ((o j h).kept.somebody p)) (released-kept old p (o j h).kept)

  -- ---- every seat, and the one that is left
  module _ (l : List ℤ) (long : length l ≡ world_count) where
    released-turned : Turned seats (release_at k) (λ j x. released_slot x k) release-written 0 l (release_in l k)
    unfolding release_in
    released-turned = turned seats (release_at k) (λ j x. released_slot x k) release-written l long

    pub release-long : length (release_in l k) ≡ world_count
    release-long = released-turned.size ∙ long

    release-decoding : decoding seats (release_in l k) ≡ release (decoding seats l) k
    unfolding decoding
    release-decoding =
        let w = decoding seats l in
        let t = released-turned in
        world_is seats (release_in l k) (release w k).slots (take tuning_count l) (release_length w k ∙ rows_long seat_of seat_count seats (drop tuning_count l)) t.tunings (λ j q. t.after j (omega arith) q ∙ ap (λ (x : Slot). released_slot x k) (sym (seat_is seats j l q)) ∙ sym (release-at w k j))

    pub vacate-long : length (vacate_in l k) ≡ world_count
    unfolding vacate_in seat_numbers
    vacate-long = (seat_written seats (release_in l k) release-long k empty_slot s empty_kept).size ∙ release-long

    pub vacate-decoding : decoding seats (vacate_in l k) ≡ vacate (decoding seats l) k
    unfolding vacate_in seat_numbers
    vacate-decoding = written-decoding seats (release_in l k) release-long k empty_slot (vacate_in l k) s (seat_written seats (release_in l k) release-long k empty_slot s empty_kept) ∙ ap (λ (w : World). with_slot w k empty_slot) release-decoding

    pub vacate-own : Own seats l → Own seats (vacate_in l k)
    unfolding vacate_in release_in seat_numbers
    vacate-own o = seat_own seats (release_in l k) release-long k empty_slot s empty_kept (turned-own seats (release_at k) (λ j x. released_slot x k) release-written l (λ j m h q e. release-own j m h q) long o)
