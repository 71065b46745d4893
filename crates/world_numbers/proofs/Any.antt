-- Whatever numbers a buffer holds, they stand for a world as calls reach one, which so comes back from its own. Assumes nothing.
use Prim.Native.Nat.{ℕ, ◌+◌, ◌*◌, ◌<◌}
use mathlib.Core.Bool.{Bool, true, false, cond, true≢false}
use mathlib.Core.List.{List}
use mathlib.Core.Path.{◌≡◌, refl, sym, ◌∙◌, subst}
use native.Mathlib.Omega.{arith}
use lib.Dec.{lit<}
use lib.IntN.{ℤ, pos, negsuc}
use lib.ListN.{length, drop, length-take}
use lib.Seq.{get_or-drop}
use Rattle.num_convert.specs.Casts.{IsI32}
use Rattle.character.specs.Slot.{empty_slot, joined_slot, with_character, with_input, with_grounded}
use Rattle.character.specs.Tick.{slot_at}
use Rattle.character.specs.Records.{from_net}
use Rattle.character_laws.specs.Representable.{Representable}
use Rattle.character_laws.proofs.FromNet.{from_net_representable}
use Rattle.game_records.specs.Numbers.{number_at, core_in, input_of_numbers}
use Rattle.game_tuning.specs.Tuning.{tuning_count}
use Rattle.world.specs.Settled.{Settled}
use Rattle.world_numbers.specs.Encoding.{record_count, mark_place, seat_count}
use Rattle.world_numbers.specs.Decoding.{is_set, from_zero, readable, seat_of, decoding, AnyComesBack}
use Rattle.world_numbers.proofs.Encoded.{Kept, decoding-encoding}
use Rattle.world_numbers.proofs.RowsIn.{rows_long}
use Rattle.world_numbers.proofs.Seats.{seat_is}

abbrev pub AllI32 : List ℤ → Type 0
AllI32 l = (k : ℕ) → IsI32 (number_at l k)

pub drop_i32 : (j : ℕ) (l : List ℤ) → AllI32 l → AllI32 (drop j l)
drop_i32 j l h = λ k. subst IsI32 (sym (get_or-drop j l k (pos 0))) (h (j + k))

from_zero_in : (z : ℤ) → IsI32 z → IsI32 (from_zero z)
unfolding from_zero
from_zero_in (pos k) h = h
from_zero_in (negsuc k) h = lit< tt

not_below_zero : (z : ℤ) (k : ℕ) → from_zero z ≡ negsuc k → ⊥
unfolding from_zero
not_below_zero (pos n) k e = let z : ◌≡◌ {A = ℕ} 0 1 = cc in omega arith
not_below_zero (negsuc n) k e = let z : ◌≡◌ {A = ℕ} 0 1 = cc in omega arith

-- the record of any numbers makes a representable character: nobody is held below zero
seat_representable : (l : List ℤ) → AllI32 l → Representable (from_net (readable (core_in l)))
unfolding readable core_in
seat_representable l h =
    from_net_representable (readable (core_in l))
    (record { x = h 1; y = h 2; vel_x = h 3; vel_y = h 4; angle = h 5; hooked_player = h 8; hook_tick = from_zero_in (number_at l 10) (h 10); hook_x = h 11; hook_y = h 12; hook_dx = h 13; hook_dy = h 14 })
    (λ e. not_below_zero (number_at l 10) e.less e.ticks)

seat_kept : (l : List ℤ) → AllI32 l → Kept (seat_of l)
unfolding seat_of
seat_kept l h = go (is_set (number_at l 0))
  where
    go : (b : Bool) → Kept (cond b (with_grounded (with_input (with_character (joined_slot (from_net (readable (core_in (drop 1 l)))).pos) (from_net (readable (core_in (drop 1 l))))) (input_of_numbers (drop record_count l))) (is_set (number_at l mark_place))) empty_slot)
    go true = record { somebody = λ e. seat_representable (drop 1 l) (drop_i32 1 l h); nobody = λ e. absurd (true≢false e) }
    go false = record { somebody = λ e. absurd (true≢false (sym e)); nobody = λ e. refl }

pub decoding_settled : (n : ℕ) (l : List ℤ) → length l ≡ tuning_count + seat_count * n → AllI32 l → Settled n (decoding n l)
unfolding decoding
decoding_settled n l e h =
    let kept : (k : ℕ) → k < n → Kept (slot_at (decoding n l).slots k) = λ k q. subst Kept (sym (seat_is n k l q)) (seat_kept (drop (tuning_count + seat_count * k) l) (drop_i32 (tuning_count + seat_count * k) l h)) in
    record {
      seats = rows_long seat_of seat_count n (drop tuning_count l);
      tunings = length-take tuning_count l ∙ omega arith;
      representable = λ k q. (kept k q).somebody;
      empty = λ k q. (kept k q).nobody;
    }

pub any_comes_back : (n : ℕ) → AnyComesBack n
any_comes_back n l e h = decoding-encoding n (decoding n l) (decoding_settled n l e h)
