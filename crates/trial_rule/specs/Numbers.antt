-- The numbers that a trial is lent and those that it tells, by their places. Definitions only; proofs/Numbers.antt proves it.
use Rattle.std.specs.Prelude.{ℕ, ◌+◌, ◌*◌, ◌-◌, ◌≤◌, ◌<◌, true, false, List, ◌⊎◌, ◌≡◌, ℤ, pos, negsuc, length, get_or}
use Rattle.base_turns.specs.Turns.{more}
use Rattle.num_vec2.specs.declared.vec2.{vec2}
use Rattle.map_corners.specs.Tile.{tile_at}
use Rattle.map_tiles.specs.declared.tiles.Sides.{Sides}
use Rattle.game_records.specs.Numbers.{number_at}
use Rattle.trial_rule.specs.Trial.{Entrant, target_column, target_row, distance_to, Trying, player_at, tried, enter_all, nobody_yet, tuned_to}
use Rattle.trial_rule.specs.Calls.{entrants, trial_in}
use Rattle.trial_rule.specs.Laws.{row_of}
use Rattle.trial_rule.specs.declared.Player.{Player}
use Rattle.trial_rule.specs.declared.Tried.{Tried}

-- ---- what is lent

-- the k-th player to be: three numbers of its join, two of its target
abbrev pub entrant_of : List ℤ → List ℤ → ℕ → Entrant
entrant_of joins targets k = record { id = number_at joins (3 * k); x = number_at joins (3 * k + 1); y = number_at joins (3 * k + 2); column = number_at targets (2 * k); row = number_at targets (2 * k + 1) }

-- es are as many players as are lent, each by its own numbers
pub record Lent (joins targets : List ℤ) (players : ℕ) (es : List Entrant) : Type 0 where
  pub count : length es ≡ players
  pub each : (k : ℕ) → k < players → (past : Entrant) → get_or es k past ≡ entrant_of joins targets k

abbrev pub EntrantsLent : Type 0
EntrantsLent = (joins targets : List ℤ) (players : ℕ) → length joins ≡ 3 * players → length targets ≡ 2 * players → Lent joins targets players (entrants joins targets)

-- ---- targets and distances

-- k is z clamped to 0 to side - 1
pub record Clamped (side : ℕ) (z : ℤ) (k : ℕ) : Type 0 where
  pub below : (i : ℕ) → z ≡ negsuc i → k ≡ 0
  pub inside : (i : ℕ) → z ≡ pos i → i < side → k ≡ i
  pub above : (i : ℕ) → z ≡ pos i → side ≤ i → k ≡ side - 1

-- a target's column by the map's width, its row by the height
abbrev pub TargetsClamped : Type 0
TargetsClamped = (s : Sides) (e : Entrant) → Clamped s.width e.column (target_column s e) × Clamped s.height e.row (target_row s e)

-- two columns, or rows, that are d apart
abbrev pub Apart : ℕ → ℕ → ℕ → Type 0
Apart a b d = (a + d ≡ b) ⊎ (b + d ≡ a)

-- the distance of a point from a tile: columns plus rows, by the point rule
abbrev pub DistanceTiles : Type 0
DistanceTiles = (s : Sides) (column row : ℕ) (p : vec2) (columns rows : ℕ) → Apart (tile_at s.width p.x) column columns → Apart (tile_at s.height p.y) row rows → distance_to s column row p ≡ columns + rows

-- ---- what is told

-- the three numbers of a seat: 1, the smallest distance and its step; zeros where nobody joined
pub record TellsPlayer (row : List ℤ) (j : ℕ) (p : Player) : Type 0 where
  pub joined : p.joined ≡ true → (number_at row (1 + 3 * j) ≡ pos 1) × (number_at row (1 + 3 * j + 1) ≡ pos p.distance) × (number_at row (1 + 3 * j + 2) ≡ pos p.step)
  pub nobody : p.joined ≡ false → (number_at row (1 + 3 * j) ≡ pos 0) × (number_at row (1 + 3 * j + 1) ≡ pos 0) × (number_at row (1 + 3 * j + 2) ≡ pos 0)

-- the row of a run: its steps, then every seat
pub record TellsRun (n : ℕ) (row : List ℤ) (r : Tried) : Type 0 where
  pub steps : number_at row 0 ≡ pos r.steps
  pub players : (j : ℕ) → j < n → TellsPlayer row j (player_at r.players j)

-- an accepted trial of m steps: each row tells the run of its own tuning, from the joins
abbrev pub RowsGiveBack : ℕ → Type 0
RowsGiveBack n = (s : Sides) (ts : List ℕ) (joins targets tunings : List ℤ) (m : ℕ) (result : List ℤ) (t : Trying) (tuned i : ℕ) →
    let a = trial_in n s ts joins targets tunings (pos m) result in
    a.number ≡ 0 → enter_all n s ts (entrants joins targets) (nobody_yet n) ≡ more t → length tunings ≡ 19 * tuned → i < tuned →
    TellsRun n (row_of (1 + 3 * n) i a.result) (tried n s ts m (tuned_to (row_of 19 i tunings) t))
