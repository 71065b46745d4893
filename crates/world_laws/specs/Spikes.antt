-- Deadly tiles stop nothing: request 5. Definitions only; proofs/Spikes.antt proves it.
use Rattle.std.specs.Prelude.{ℕ, true, cond, List, [], map, ◌≡◌, eqb, ℤ}
use Rattle.num_vec2.specs.declared.vec2.{vec2}
use Rattle.map_tiles.specs.declared.tiles.Sides.{Sides}
use Rattle.map_lines.specs.Line.{check_line}
use Rattle.map_walks.specs.Move.{move_box}
use Rattle.character.specs.Tick.{slot_at}
use Rattle.world.specs.Removal.{ids_in}
use Rattle.world.specs.Run.{ran}
use Rattle.world.specs.declared.World.{World}
use Rattle.world.specs.declared.call.Call.TheVariants.{Join, Step}

-- the bytes of a map with 0 in place of 2
unfoldable pub without_spikes : List ℕ → List ℕ
without_spikes ts = map (λ b. cond (eqb b 2) 0 b) ts

-- a walk, a join and a step on any map, against the same on the map without deadly tiles
pub record SpikesStopNothing (n : ℕ) : Type 0 where
  -- a line and a box end where they end
  pub line : (s : Sides) (ts : List ℕ) (from to : vec2) → check_line s ts from to ≡ check_line s (without_spikes ts) from to
  pub box : (s : Sides) (ts : List ℕ) (at vel box : vec2) → move_box s ts at vel box ≡ move_box s (without_spikes ts) at vel box
  -- a join answers the same, with the same world
  pub join : (s : Sides) (ts : List ℕ) (w : World) (id x y : ℤ) → ran n s ts w (Join id x y) ≡ ran n s (without_spikes ts) w (Join id x y)
  -- a step has the same number, the same records, and the same floor mark for each id still present
  pub number : (s : Sides) (ts : List ℕ) (w : World) → (ran n s ts w Step).number ≡ (ran n s (without_spikes ts) w Step).number
  pub records : (s : Sides) (ts : List ℕ) (w : World) → (ran n s ts w Step).records ≡ (ran n s (without_spikes ts) w Step).records
  pub mark : (s : Sides) (ts : List ℕ) (w : World) (k : ℕ) → (slot_at (ran n s ts w Step).world.slots k).present ≡ true → (slot_at (ran n s ts w Step).world.slots k).grounded ≡ (slot_at (ran n s (without_spikes ts) w Step).world.slots k).grounded
  -- on the map without them nobody is removed
  pub nobody : (s : Sides) (ts : List ℕ) (w : World) → ids_in (ran n s (without_spikes ts) w Step).removed ≡ []
