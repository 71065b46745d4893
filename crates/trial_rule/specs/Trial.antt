-- Trial players for a tuning, on a world of n slots: how they join, what they do before each step, what is kept of them, and the runs of many tunings. Definitions only.
use Rattle.std.specs.Prelude.{ℕ, suc, ◌+◌, ◌-◌, true, false, cond, List, [], ◌∷◌, map, eqb, ltb, ℤ, pos, negsuc, get_or, set, replicate}
use Rattle.base_turns.specs.Turns.{Turn, more, stop, next, run, fold}
use Rattle.num_vec2.specs.declared.vec2.{vec2}
use Rattle.map_corners.specs.Tile.{clamp_to, tile_at}
use Rattle.map_tiles.specs.declared.tiles.Sides.{Sides}
use Rattle.character.specs.Tick.{slot_at}
use Rattle.world.specs.World.{fresh}
use Rattle.world.specs.Calls.{place_of, point_of, join}
use Rattle.world.specs.Demand3.{record_at}
use Rattle.world.specs.Removal.{ids_of}
use Rattle.world.specs.Run.{after}
use Rattle.world.specs.Step.{step}
use Rattle.world.specs.declared.call.Call.{Call}
use Rattle.world.specs.declared.call.Call.TheVariants.{Input}
use Rattle.world.specs.declared.Published.{Published}
use Rattle.world.specs.Answered.{Stepped}
use Rattle.world.specs.declared.World.{World}
use Rattle.game_records.specs.Numbers.{same_number}
use Rattle.world_numbers.specs.Encoding.{flag}
use Rattle.trial_rule.specs.declared.Player.{Player}
use Rattle.trial_rule.specs.declared.Tried.{Tried}

-- ---- who tries

-- a player to be: its join, and the tile that it makes for
pub record Entrant : Type 0 where
  pub id : ℤ
  pub x : ℤ
  pub y : ℤ
  pub column : ℤ
  pub row : ℤ

-- the target tile, clamped to the map
abbrev pub target_column : Sides → Entrant → ℕ
target_column s e = clamp_to (s.width - 1) e.column

abbrev pub target_row : Sides → Entrant → ℕ
target_row s e = clamp_to (s.height - 1) e.row

-- how many columns, or rows, lie between two
abbrev pub tiles_between : ℕ → ℕ → ℕ
tiles_between a b = (a - b) + (b - a)

-- the distance of a place from a tile in whole tiles: columns plus rows, by the point rule
unfoldable pub distance_to : Sides → ℕ → ℕ → vec2 → ℕ
distance_to s column row p = tiles_between (tile_at s.width p.x) column + tiles_between (tile_at s.height p.y) row

-- ---- what is kept of them

-- nobody joined; also what an index past the end reads
abbrev pub no_player : Player
no_player = record { joined = false; column = 0; row = 0; x = pos 0; stayed = false; distance = 0; step = 0 }

-- the player of the seat j
abbrev pub player_at : List Player → ℕ → Player
player_at ps j = get_or ps j no_player

-- whoever has joined, before step 1: the start counts as step 0
unfoldable pub entered : Sides → Entrant → Player
entered s e = record {
  joined = true;
  column = target_column s e;
  row = target_row s e;
  x = e.x;
  stayed = false;
  distance = distance_to s (target_column s e) (target_row s e) (point_of e.x e.y);
  step = 0;
}

-- after the step k, whose record is at x and y: a smaller distance is kept with its step
unfoldable pub noted : Sides → ℕ → ℤ → ℤ → Player → Player
noted s k x y p =
    let d = distance_to s p.column p.row (point_of x y) in
    record {
      joined = p.joined;
      column = p.column;
      row = p.row;
      x = x;
      stayed = same_number p.x x;
      distance = cond (ltb d p.distance) d p.distance;
      step = cond (ltb d p.distance) k p.step;
    }

-- the seat j, where the step took a record
abbrev pub note_turn : Sides → ℕ → List Published → ℕ → List Player → List Player
note_turn s k rs j ps = let r = record_at rs j in cond r.present (set ps j (noted s k r.core.x r.core.y (player_at ps j))) ps

-- every seat, those of the removed included
unfoldable pub noted_all : ℕ → Sides → ℕ → List Published → List Player → List Player
noted_all n s k rs ps = fold (note_turn s k rs) n 0 ps

-- ---- a run

-- the world, and what is kept of each seat
pub record Trying : Type 0 where
  pub world : World
  pub players : List Player

-- -1, 0 or 1 as the target's column is left of, equal to or right of its own
unfoldable pub towards : ℕ → ℕ → ℤ
towards own target = cond (ltb target own) (negsuc 0) (cond (ltb own target) (pos 1) (pos 0))

-- the input of the player j: its direction by the column of its position, jump 1 after a step in which x stayed, hook and aim 0
abbrev pub input_for : Sides → Trying → ℕ → Call
input_for s t j = let p = player_at t.players j in Input (pos j) (towards (tile_at s.width (slot_at t.world.slots j).character.pos.x) p.column) (pos 0) (pos 0) (flag p.stayed) (pos 0)

-- the calls before a step: an input for everybody who is there, by rising id
unfoldable pub inputs_for : ℕ → Sides → Trying → List Call
inputs_for n s t = map (input_for s t) (ids_of (λ j. (slot_at t.world.slots j).present) n 0)

-- the step after them
unfoldable pub step_from : ℕ → Sides → List ℕ → Trying → Stepped
step_from n s ts t = step n (after n s ts t.world (inputs_for n s t)) s ts

-- what it leaves, i steps having been done before
abbrev pub after_step : ℕ → Sides → List ℕ → ℕ → Trying → Trying
after_step n s ts i t = let a = step_from n s ts t in record { world = a.world; players = noted_all n s (suc i) a.records t.players }

-- a refused one ends the run, and is not counted
abbrev pub try_turn : ℕ → Sides → List ℕ → ℕ → Trying → Turn Trying Tried
try_turn n s ts i t = cond (eqb (step_from n s ts t).number 0) (more (after_step n s ts i t)) (stop (record { steps = i; players = t.players }))

-- what is left of a run of m steps
abbrev pub tried_of : ℕ → Turn Trying Tried → Tried
tried_of m (more t) = record { steps = m; players = t.players }
tried_of m (stop r) = r

-- up to m steps
unfoldable pub tried : ℕ → Sides → List ℕ → ℕ → Trying → Tried
tried n s ts m t = tried_of m (run (try_turn n s ts) m 0 t)

-- ---- a trial

-- a join, or the number that refuses it
unfoldable pub enter : ℕ → Sides → List ℕ → Entrant → Trying → Turn Trying ℕ
enter n s ts e t =
    let a = join n t.world s ts e.id e.x e.y in
    cond (eqb a.number 0) (more (record { world = a.world; players = set t.players (place_of n e.id) (entered s e) })) (stop a.number)

-- each in turn, up to the first that is refused
abbrev pub enter_all : ℕ → Sides → List ℕ → List Entrant → Trying → Turn Trying ℕ
enter_all n s ts [] t = more t
enter_all n s ts (e ∷ es) t = next (enter_all n s ts es) (enter n s ts e t)

-- a fresh world, which nobody has joined
abbrev pub nobody_yet : ℕ → Trying
nobody_yet n = record { world = fresh n; players = replicate n no_player }

-- the same joins under other tunings
abbrev pub tuned_to : List ℤ → Trying → Trying
tuned_to zs t = record { world = record { slots = t.world.slots; tunings = zs }; players = t.players }

-- a run for each tuning, each from a fresh world with the same joins; or the number of the first join that is refused
unfoldable pub trial : ℕ → Sides → List ℕ → List Entrant → List (List ℤ) → ℕ → Turn (List Tried) ℕ
trial n s ts es zss m = next (λ t. more (map (λ zs. tried n s ts m (tuned_to zs t)) zss)) (enter_all n s ts es (nobody_yet n))
