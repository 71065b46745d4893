-- Calls on a world that is kept as the numbers of a buffer: what each answers, and the numbers that it leaves. A call writes what it changes and nothing
-- else; a refused one leaves every number as it was. Definitions only.
use Rattle.std.specs.Prelude.{ℕ, ◌+◌, Bool, cond, ◌&&◌, List, eqb, ltb, ℤ, length, set, Result, Ok, Err}
use Rattle.base_rows.specs.Put.{put}
use Rattle.num_vec2.specs.declared.vec2.{vec2}
use Rattle.game_refusals.specs.Refusals.{bad_map, bad_id, bad_tuning, out_of_reach, not_clear, already_present, not_present, bad_hold, bad_length}
use Rattle.game_refusals.specs.declared.Refusal.{Refusal}
use Rattle.game_refusals.specs.declared.Refusal.TheVariants.{BadId, Absent, BadLength}
use Rattle.map_tiles.specs.Map.{is_map}
use Rattle.map_tiles.specs.declared.tiles.Sides.{Sides}
use Rattle.map_tiles.specs.Box.{check_box, character_box}
use Rattle.game_records.specs.Numbers.{number_at, input_numbers}
use Rattle.game_records.specs.declared.PlayerInput.{PlayerInput}
use Rattle.game_tuning.specs.Tuning.{tuning_count, may_tune}
use Rattle.character.specs.Slot.{joined_slot}
use Rattle.character.specs.Tick.{seats}
use Rattle.world.specs.World.{fresh}
use Rattle.world.specs.Calls.{place_of, is_in_reach, point_of}
use Rattle.world_numbers.specs.Encoding.{record_count, world_count, seat_place, present_numbers, encoding}
use Rattle.world_numbers.specs.Decoding.{is_set}
use Rattle.world_buffers.specs.Leaving.{vacate_in}

-- whether a buffer has n numbers
abbrev pub has : ℕ → List ℤ → Bool
has n l = eqb (length l) n

-- a call's number, and the numbers of the world that it leaves
pub record LeftWorld : Type 0 where
  pub number : ℕ
  pub world : List ℤ

-- a refusal's number, and the numbers as they were
abbrev pub refused_in : List ℤ → ℕ → LeftWorld
refused_in l k = record { number = k; world = l }

abbrev pub accepted_in : List ℤ → LeftWorld
accepted_in l = record { number = 0; world = l }

-- a call on the numbers of a world: 17 where they are not as many
abbrev pub of_world : List ℤ → LeftWorld → LeftWorld
of_world l a = cond (has world_count l) a (refused_in l bad_length)

unfoldable pub fresh_in : List ℤ → LeftWorld
fresh_in l = of_world l (accepted_in (encoding (fresh seats)))

-- one number; 3 where the index has no tuning, 16 where a hold is none
unfoldable pub tune_in : List ℤ → ℤ → ℤ → LeftWorld
tune_in l index z =
    let k = place_of tuning_count index in
    of_world l (cond (ltb k tuning_count) (cond (may_tune k z) (accepted_in (set l k z)) (refused_in l bad_hold)) (refused_in l bad_tuning))

-- somebody is at the seat k
abbrev pub is_there : List ℤ → ℕ → Bool
is_there l k = is_set (number_at l (seat_place k))

-- the seat of somebody who is there: 17 where the numbers are not as many as a world's, then 2 and 8
abbrev pub present_in : List ℤ → ℤ → Result ℕ Refusal
present_in l id = let k = place_of seats id in cond (has world_count l) (cond (ltb k seats) (cond (is_there l k) (Ok k) (Err Absent)) (Err BadId)) (Err BadLength)

-- what leave and input do at a seat: 2 where there is none, 8 where nobody is there
abbrev pub at_seat : List ℤ → ℤ → (ℕ → List ℤ) → LeftWorld
at_seat l id next = let k = place_of seats id in of_world l (cond (ltb k seats) (cond (is_there l k) (accepted_in (next k)) (refused_in l not_present)) (refused_in l bad_id))

-- the five numbers of the input
unfoldable pub input_in : List ℤ → ℤ → PlayerInput → LeftWorld
input_in l id i = at_seat l id (λ k. put l (seat_place k + record_count) (input_numbers i))

-- the seat, and the hooks that it releases
unfoldable pub leave_in : List ℤ → ℤ → LeftWorld
leave_in l id = at_seat l id (vacate_in l)

-- a join at the seat k: 5 where the box isn't clear, 7 where somebody is there
unfoldable pub join_at_in : Sides → List ℕ → List ℤ → ℕ → vec2 → LeftWorld
join_at_in s ts l k p =
    cond (check_box s ts p character_box) (refused_in l not_clear) (cond (is_there l k) (refused_in l already_present) (accepted_in (put l (seat_place k) (present_numbers (joined_slot p)))))

-- 1 where the map is none, 2 where the id has no seat, 4 where x or y is out of reach
unfoldable pub join_in : Sides → List ℕ → List ℤ → ℤ → ℤ → ℤ → LeftWorld
join_in s ts l id x y =
    let k = place_of seats id in
    of_world l (
    cond (is_map s ts)
    (cond (ltb k seats) (cond (is_in_reach x && is_in_reach y) (join_at_in s ts l k (point_of x y)) (refused_in l out_of_reach)) (refused_in l bad_id))
    (refused_in l bad_map))
