-- A list of numbers as a world of n seats: the way back from `encoding` (world_numbers/specs/Encoding.antt). Definitions only.
use Rattle.std.specs.Prelude.{ℕ, zero, suc, ◌+◌, ◌*◌, Bool, true, false, cond, List, [], ◌∷◌, ◌≡◌, ℤ, pos, negsuc, length, take, drop}
use Rattle.num_convert.specs.Casts.{IsI32}
use Rattle.map_tiles.specs.declared.tiles.Sides.{Sides}
use Rattle.world.specs.declared.call.Call.{Call}
use Rattle.game_records.specs.declared.CharacterCore.{CharacterCore}
use Rattle.game_records.specs.Numbers.{number_at, core_in, input_of_numbers}
use Rattle.character.specs.Slot.{empty_slot, joined_slot, with_character, with_input, with_grounded}
use Rattle.character.specs.declared.Slot.{Slot}
use Rattle.character.specs.Records.{from_net}
use Rattle.world.specs.World.{fresh}
use Rattle.game_tuning.specs.Tuning.{tuning_count}
use Rattle.world.specs.Run.{after}
use Rattle.world.specs.declared.World.{World}
use Rattle.world_numbers.specs.Encoding.{record_count, mark_place, seat_count, encoding}

-- 0 is false, every other number true
unfoldable pub is_set : ℤ → Bool
is_set (pos zero) = false
is_set (pos (suc k)) = true
is_set (negsuc k) = true

-- what is below zero reads as 0
unfoldable pub from_zero : ℤ → ℤ
from_zero (pos k) = pos k
from_zero (negsuc k) = pos 0

-- n with another hook tick
abbrev pub with_ticks : CharacterCore → ℤ → CharacterCore
with_ticks n t = record { tick = n.tick; x = n.x; y = n.y; vel_x = n.vel_x; vel_y = n.vel_y; angle = n.angle; direction = n.direction; jumped = n.jumped; hooked_player = n.hooked_player; hook_state = n.hook_state; hook_tick = record { 0 = t }; hook_x = n.hook_x; hook_y = n.hook_y; hook_dx = n.hook_dx; hook_dy = n.hook_dy }

-- a hook tick below zero reads as 0: else somebody could be held for so many ticks that no record holds them
unfoldable pub readable : CharacterCore → CharacterCore
readable n = with_ticks n (from_zero n.hook_tick.0)

-- the seat whose numbers l starts with; where nobody is there the rest of them says nothing
unfoldable pub seat_of : List ℤ → Slot
seat_of l = let c = from_net (readable (core_in (drop 1 l))) in cond (is_set (number_at l 0)) (with_grounded (with_input (with_character (joined_slot c.pos) c) (input_of_numbers (drop record_count l))) (is_set (number_at l mark_place))) empty_slot

-- n rows of k numbers, one after the other, each read by f
unfoldable pub each_in : {A : Type 0} → (List ℤ → A) → ℕ → ℕ → List ℤ → List A
each_in f k zero l = []
each_in f k (suc n) l = f l ∷ each_in f k n (drop k l)

-- n seats
abbrev pub seats_of : ℕ → List ℤ → List Slot
seats_of n l = each_in seat_of seat_count n l

-- the tunings, then n seats
unfoldable pub decoding : ℕ → List ℤ → World
decoding n l = record { slots = seats_of n (drop tuning_count l); tunings = take tuning_count l }

-- ---- both in turn

-- a world that calls can reach, whatever the map, comes back from its numbers
abbrev pub ComesBack : ℕ → Type 0
ComesBack n = (s : Sides) (ts : List ℕ) (cs : List Call) → decoding n (encoding (after n s ts (fresh n) cs)) ≡ after n s ts (fresh n) cs

-- so does the world that any numbers stand for, whoever wrote them
abbrev pub AnyComesBack : ℕ → Type 0
AnyComesBack n = (l : List ℤ) → length l ≡ tuning_count + seat_count * n → ((k : ℕ) → IsI32 (number_at l k)) → decoding n (encoding (decoding n l)) ≡ decoding n l
