-- The step of a seat that is alone in its world, without a walk over the other seats. Definitions only; proofs/Alone.antt says that it is the world's own.
use Rattle.std.specs.Prelude.{ℕ, ◌<◌, false, cond, List, ◌≡◌, eqb, leb, ℤ, Float, set}
use Rattle.std.specs.Float.Ieee.{ne}
use Rattle.base_turns.specs.Turns.{fold}
use Rattle.num_convert.specs.Number.{c0}
use Rattle.num_vec2.specs.Vec2.{vdistance}
use Rattle.num_vec2.specs.declared.vec2.{vec2}
use Rattle.game_records.specs.declared.CharacterCore.{CharacterCore}
use Rattle.game_records.specs.declared.PlayerInput.{PlayerInput}
use Rattle.game_refusals.specs.Refusals.{bad_map, too_far}
use Rattle.game_tuning.specs.Tuning.{tuning_of}
use Rattle.game_tuning.specs.declared.Tuning.{Tuning}
use Rattle.map_tiles.specs.Box.{on_deadly}
use Rattle.map_tiles.specs.Map.{is_map}
use Rattle.map_tiles.specs.declared.tiles.Sides.{Sides}
use Rattle.map_lines.specs.Limit.{most_turns}
use Rattle.character_hook.specs.Dragging.{dragged}
use Rattle.character_hook.specs.Flying.{flown}
use Rattle.character_hook.specs.Hooking.{hold}
use Rattle.character_hook.specs.declared.hook.Hook.{Hook}
use Rattle.character_hook.specs.declared.flying.Way.{Way}
use Rattle.character_hook.specs.declared.flying.Way.TheVariants as way
use Rattle.character_motion.specs.Controls.{grounded, clamp_speed}
use Rattle.character_walk.specs.Walking.{ramped_move, player_turns}
use Rattle.character.specs.Character.{with_hook, with_vel}
use Rattle.character.specs.Records.{from_net}
use Rattle.character.specs.Tick.{steer}
use Rattle.character.specs.Walk.{rested}
use Rattle.character.specs.declared.Character.{Character}
use Rattle.world.specs.Demand3.{record_at}
use Rattle.world.specs.Removal.{ids_in, is_in}
use Rattle.world.specs.Step.{record_of}
use Rattle.world.specs.Answered.{Stepped}
use Rattle.send_rule.specs.Send.{copy_at, alone, with_step, staying, step_copies}
use Rattle.send_rule.specs.declared.Copy.{Copy}
use Rattle.std.specs.Prelude.{Result, Ok, Err}
use Rattle.map_walks.specs.declared.moves.Body.{Body}
use Rattle.game_refusals.specs.declared.Refusal.{Refusal}
use Rattle.game_refusals.specs.declared.Refusal.TheVariants.{BadMap, TooFar}
use Rattle.game_refusals.specs.Refusals.{number_of}

-- ---- the tick

-- a hook that flew meets nobody
abbrev pub flown_to : Result Way Refusal → Result Hook Refusal
flown_to (Err e) = Err e
flown_to (Ok (way.Still h)) = Ok h
flown_to (Ok (way.Along from to h)) = Ok h

-- after the flight: the drag of an attached hook, the count of a held one, and the clamp
abbrev pub hooked_alone : Character → Hook → Tuning → Character
hooked_alone c h t = with_vel (with_hook c (hold h t.hook_hold)) (clamp_speed (dragged h c.pos c.vel c.move_direction t))

-- ---- the move

-- the player walk with nobody in the way: 9 where it is too far
unfoldable pub rest_alone : vec2 → vec2 → Float → Result vec2 Refusal
rest_alone from to collision = cond (ne collision c0) (cond (leb (player_turns (vdistance from to)) most_turns) (Ok to) (Err TooFar)) (Ok to)

abbrev pub after_box_alone : Character → Tuning → Result Body Refusal → Result Character Refusal
after_box_alone c t (Err e) = Err e
after_box_alone c t (Ok b) = rested c b.vel (rest_alone c.pos b.pos t.player_collision)

unfoldable pub move_alone : Sides → List ℕ → Tuning → Character → Result Character Refusal
move_alone s ts t c = after_box_alone c t (ramped_move s ts c.pos c.vel t)

-- ---- both

abbrev pub record_alone : Sides → List ℕ → Tuning → Character → Result Hook Refusal → Result CharacterCore Refusal
record_alone s ts t c (Err e) = Err TooFar
record_alone s ts t c (Ok h) = record_of (move_alone s ts t (hooked_alone c h t))

-- the record that a step takes of a seat that is alone, as its last record and its input have it, or the number that refuses the step
unfoldable pub step_alone : Sides → List ℕ → Tuning → CharacterCore → PlayerInput → Result CharacterCore Refusal
step_alone s ts t core i =
    let c = from_net core in
    let d = steer c (grounded s ts c.pos) i t in
    cond (is_map s ts) (record_alone s ts t d (flown_to (flown d.hook c.pos s ts t))) (Err BadMap)

-- ---- a copy's step

-- what the step of its seat alone leaves of a copy: the record that it took, or where it was refused the one before
abbrev pub after_alone : Sides → List ℕ → Copy → Result CharacterCore Refusal → Copy
after_alone s ts c (Err r) = with_step c c.core false (eqb (number_of r) too_far)
after_alone s ts c (Ok core) = with_step c core (on_deadly s ts (from_net core).pos) false

-- a copy after an accepted step, without a world
unfoldable pub copy_alone : Sides → List ℕ → Tuning → Copy → Copy
copy_alone s ts t c = cond c.kept (cond c.removed (staying c) (after_alone s ts c (step_alone s ts t c.core c.input))) c

-- that of the seat k
abbrev pub alone_turn : Sides → List ℕ → Tuning → ℕ → List Copy → List Copy
alone_turn s ts t k cs = set cs k (copy_alone s ts t (copy_at cs k))

-- all of n seats
unfoldable pub copies_alone : ℕ → Sides → List ℕ → Tuning → List Copy → List Copy
copies_alone n s ts t cs = fold (alone_turn s ts t) n 0 cs

-- ---- the laws

-- the step of the world that holds k alone, as the copy c has it: refused with that number, or it takes that record of k, and removes k where the record has a corner on a deadly tile
abbrev pub ToldAlone : Sides → List ℕ → ℕ → Stepped → Result CharacterCore Refusal → Type 0
ToldAlone s ts k a (Err r) = a.number ≡ number_of r
ToldAlone s ts k a (Ok core) = (a.number ≡ 0) × ((record_at a.records k).core ≡ core) × (is_in k (ids_in a.removed) ≡ on_deadly s ts (from_net core).pos)

-- whatever the map, the tunings, the seat and the copy
abbrev pub StepsAlone : ℕ → Type 0
StepsAlone n = (s : Sides) (ts : List ℕ) (tunings : List ℤ) (k : ℕ) (c : Copy) → k < n → ToldAlone s ts k (alone n s ts tunings k c) (step_alone s ts (tuning_of tunings) c.core c.input)

-- so the copies' steps in their small worlds are the steps without one
abbrev pub CopiesAlone : ℕ → Type 0
CopiesAlone n = (s : Sides) (ts : List ℕ) (tunings : List ℤ) (cs : List Copy) → step_copies n s ts tunings cs ≡ copies_alone n s ts (tuning_of tunings) cs
