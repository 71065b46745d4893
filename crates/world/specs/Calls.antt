-- Join, leave, input and tune on a world of n slots, with the numbers of document 01's refusals. Definitions only.
use Rattle.std.specs.Prelude.{ℕ, Bool, cond, ◌&&◌, List, map, leb, ltb, ℤ, pos, negsuc, nat_abs}
use Rattle.num_convert.specs.Convert.{i32_to_f32}
use Rattle.num_vec2.specs.Vec2.{vnew}
use Rattle.num_vec2.specs.declared.vec2.{vec2}
use Rattle.map_tiles.specs.Map.{is_map}
use Rattle.map_tiles.specs.declared.tiles.Sides.{Sides}
use Rattle.map_tiles.specs.Box.{check_box, character_box}
use Rattle.game_records.specs.declared.PlayerInput.{PlayerInput}
use Rattle.game_refusals.specs.Refusals.{bad_map, bad_id, bad_tuning, out_of_reach, not_clear, already_present, not_present, bad_hold}
use Rattle.character_hook.specs.Hook.{holds}
use Rattle.character_hook.specs.declared.hook.Hook.{Hook}
use Rattle.character_hook.specs.declared.hook.Hook.TheVariants.{Retracted}
use Rattle.character.specs.Character.{with_hook}
use Rattle.character.specs.Slot.{empty_slot, joined_slot, with_character, with_input}
use Rattle.character.specs.Tick.{slot_at}
use Rattle.character.specs.declared.Slot.{Slot}
use Rattle.world.specs.World.{with_slot, with_tuning}
use Rattle.game_tuning.specs.Tuning.{tuning_count, may_tune}
use Rattle.world.specs.Answered.{Answer}
use Rattle.world.specs.declared.World.{World}

-- a refusal's number, and the world as it was
abbrev pub refused : World → ℕ → Answer
refused w k = record { number = k; world = w }

abbrev pub accepted : World → Answer
accepted w = record { number = 0; world = w }

-- which of n places z names; n where it names none
unfoldable pub place_of : ℕ → ℤ → ℕ
place_of n (pos k) = cond (ltb k n) k n
place_of n (negsuc k) = n

-- from -100,000 to 100,000
unfoldable pub is_in_reach : ℤ → Bool
is_in_reach z = leb (nat_abs z) 100000

-- whole coordinates as a pair of floats
unfoldable pub point_of : ℤ → ℤ → vec2
point_of x y = vnew (i32_to_f32 x) (i32_to_f32 y)

-- join of a seat at a point: 5 where the box isn't clear, 7 where somebody is there
unfoldable pub join_at : World → Sides → List ℕ → ℕ → vec2 → Answer
join_at w s ts k p =
    cond (check_box s ts p character_box) (refused w not_clear)
    (cond (slot_at w.slots k).present (refused w already_present) (accepted (with_slot w k (joined_slot p))))

-- 1 where the map is none, 2 where the id has no slot, 4 where x or y is out of reach
unfoldable pub join : ℕ → World → Sides → List ℕ → ℤ → ℤ → ℤ → Answer
join n w s ts id x y =
    cond (is_map s ts)
    (cond (ltb (place_of n id) n) (cond (is_in_reach x && is_in_reach y) (join_at w s ts (place_of n id) (point_of x y)) (refused w out_of_reach)) (refused w bad_id))
    (refused w bad_map)

-- what leave and input do at a seat: 8 where nobody is there
abbrev pub if_present : World → ℕ → World → Answer
if_present w k next = cond (slot_at w.slots k).present (accepted next) (refused w not_present)

-- a hook that holds k is Retracted, any other stays
unfoldable pub released : Hook → ℕ → Hook
released h k = cond (holds h k) Retracted h

-- a slot with its hook released from k
abbrev pub released_slot : Slot → ℕ → Slot
released_slot x k = with_character x (with_hook x.character (released x.character.hook k))

-- every hook that holds k is Retracted, whoever it belongs to
abbrev pub release : World → ℕ → World
release w k = record { slots = map (λ x. released_slot x k) w.slots; tunings = w.tunings }

-- whoever was at k is gone: no hook holds it, and the slot is again as every fresh one
abbrev pub vacate : World → ℕ → World
vacate w k = with_slot (release w k) k empty_slot

unfoldable pub leave : ℕ → World → ℤ → Answer
leave n w id = let k = place_of n id in cond (ltb k n) (if_present w k (vacate w k)) (refused w bad_id)

-- stored
unfoldable pub input : ℕ → World → ℤ → PlayerInput → Answer
input n w id i = let k = place_of n id in cond (ltb k n) (if_present w k (with_slot w k (with_input (slot_at w.slots k) i))) (refused w bad_id)

-- any i32, but for a hold; 3 where the index has no tuning, 16 where a hold is none
unfoldable pub tune : World → ℤ → ℤ → Answer
tune w index z =
    let k = place_of tuning_count index in
    cond (ltb k tuning_count) (cond (may_tune k z) (accepted (with_tuning w k z)) (refused w bad_hold)) (refused w bad_tuning)
