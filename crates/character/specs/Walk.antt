-- `Character::move_` of lib.rs, among n slots. Definitions only.
use Rattle.std.specs.Prelude.{ℕ, Bool, false, cond, List, leb, ltb, eqb, ℤ, pos, Float}
use Rattle.std.specs.Float.{binary32}
use Rattle.std.specs.Float.Ieee.{div, ne}
use Rattle.base_turns.specs.Turns.{Turn, more, stop, next, run}
use Rattle.num_convert.specs.Number.{c0}
use Rattle.num_convert.specs.Convert.{i32_to_f32}
use Rattle.num_vec2.specs.Vec2.{vdistance, vmix}
use Rattle.num_vec2.specs.declared.vec2.{vec2}
use Rattle.character_hook.specs.declared.hook.CharacterId.{CharacterId}
use Rattle.game_refusals.specs.Refusals.{bad_map, bad_id, too_far}
use Rattle.map_tiles.specs.Map.{is_map}
use Rattle.map_lines.specs.Limit.{most_turns}
use Rattle.map_tiles.specs.declared.tiles.Sides.{Sides}
use Rattle.game_tuning.specs.Tuning.{tuning_of}
use Rattle.game_tuning.specs.declared.Tuning.{Tuning}
use Rattle.character_walk.specs.Touching.{touches}
use Rattle.character_walk.specs.Walking.{ramped_move, player_turns, rest_at}
use Rattle.character_near.specs.Near as near
use Rattle.character.specs.declared.Character.{Character}
use Rattle.character.specs.declared.Slot.{Slot}
use Rattle.character.specs.Tick.{slot_at}
use Rattle.std.specs.Prelude.{Result, Ok, Err}
use Rattle.map_walks.specs.declared.moves.Body.{Body}
use Rattle.game_refusals.specs.declared.Refusal.{Refusal}
use Rattle.game_refusals.specs.declared.Refusal.TheVariants.{BadMap, BadId, TooFar}
use Rattle.game_refusals.specs.Refusals.{number_of_answer}

-- c at p with the velocity v
abbrev pub moved_to : Character → vec2 → vec2 → Character
moved_to c p v = record { pos = p; vel = v; hook = c.hook; jumped_already = c.jumped_already; used_airjump = c.used_airjump; angle = c.angle; move_direction = c.move_direction }

-- somebody else is there, and close to p
unfoldable pub is_close : Slot → ℕ → ℕ → vec2 → Bool
is_close s id j p = cond (eqb j id) false (cond s.present (touches p s.character.pos) false)

-- the first close slot ends the walk
abbrev pub slot_turn : List Slot → ℕ → vec2 → vec2 → vec2 → Float → vec2 → ℕ → Unit {0} → Turn (Unit {0}) vec2
slot_turn ss id from to last fraction p j u = cond (is_close (slot_at ss j) id j p) (stop (rest_at fraction last from to p (slot_at ss j).character.pos)) (more tt)

-- a point of the way, against every slot
abbrev pub walk_turn : ℕ → List Slot → ℕ → vec2 → vec2 → Float → ℕ → vec2 → Turn vec2 vec2
walk_turn n ss id from to distance i last =
    let fraction = div binary32 (i32_to_f32 (pos i)) distance in
    let p = vmix from to fraction in
    next (λ u. more p) (run (slot_turn ss id from to last fraction p) n 0 tt)

abbrev pub or_to : vec2 → Turn vec2 vec2 → vec2
or_to to t = near.or_to to t

unfoldable pub walk_among : ℕ → List Slot → ℕ → vec2 → vec2 → Float → ℕ → vec2
walk_among n ss id from to distance turns = or_to to (run (walk_turn n ss id from to distance) turns 0 from)

-- the player walk, where players collide: 9 where it is too far
unfoldable pub player_walk : ℕ → List Slot → ℕ → vec2 → vec2 → Float → Result vec2 Refusal
player_walk n ss id from to collision =
    let distance = vdistance from to in
    cond (ne collision c0)
    (cond (leb (player_turns distance) most_turns) (Ok (walk_among n ss id from to distance (player_turns distance))) (Err TooFar))
    (Ok to)

abbrev pub rested : Character → vec2 → Result vec2 Refusal → Result Character Refusal
rested c v (Err e) = Err e
rested c v (Ok p) = Ok (moved_to c p v)

-- after the box has moved: the others
abbrev pub after_box : ℕ → Character → ℕ → List Slot → Tuning → Result Body Refusal → Result Character Refusal
after_box n c id ss t (Err e) = Err e
after_box n c id ss t (Ok b) = rested c b.vel (player_walk n ss id c.pos b.pos t.player_collision)

unfoldable pub move_at : ℕ → Character → ℕ → List Slot → Sides → List ℕ → Tuning → Result Character Refusal
move_at n c id ss s ts t = after_box n c id ss t (ramped_move s ts c.pos c.vel t)

-- refused with 1 where the map is none, with 2 where the id has no slot
unfoldable pub move : ℕ → Character → CharacterId → List Slot → Sides → List ℕ → List ℤ → Result Character Refusal
move n c id ss s ts tunings = cond (is_map s ts) (cond (ltb id.0 n) (move_at n c id.0 ss s ts (tuning_of tunings)) (Err BadId)) (Err BadMap)
