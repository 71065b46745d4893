-- What an accepted step leaves of deadly tiles, in any world and whatever player collision is. Definitions only; proofs/Deadly.antt proves it.
use Rattle.std.specs.Prelude.{ℕ, ◌<◌, Bool, true, false, ◌&&◌, ◌||◌, List, [], ◌∷◌, map, ◌≡◌, pos, length}
use Rattle.std.specs.Float.{binary32}
use Rattle.std.specs.Float.Ieee.{add, sub}
use Rattle.num_vec2.specs.Vec2.{vnew}
use Rattle.num_vec2.specs.declared.vec2.{vec2}
use Rattle.map_corners.specs.Tile.{c14}
use Rattle.map_tiles.specs.Map.{check_point, deadly}
use Rattle.map_tiles.specs.declared.tiles.Sides.{Sides}
use Rattle.character_motion.specs.Controls.{grounded}
use Rattle.character.specs.Records.{from_net}
use Rattle.character.specs.Tick.{slot_at}
use Rattle.world.specs.Demand3.{record_at}
use Rattle.world.specs.Removal.{ids_in, is_in}
use Rattle.world.specs.Run.{after}
use Rattle.world.specs.Step.{step}
use Rattle.world.specs.declared.Published.{Published}
use Rattle.world.specs.Answered.{Stepped}
use Rattle.world.specs.declared.World.{World}
use Rattle.world.specs.declared.call.Call.{Call}
use Rattle.world.specs.declared.call.Call.TheVariants.{Leave}

-- each is below the next
abbrev pub Rising : List ℕ → Type 0
Rising [] = Unit {0}
Rising (j ∷ []) = Unit {0}
Rising (j ∷ k ∷ ks) = (j < k) × Rising (k ∷ ks)

-- the position plus or minus 14 in each coordinate, in f32: whether one of the four is on a deadly tile
abbrev pub corner_deadly : Sides → List ℕ → vec2 → Bool
corner_deadly s ts p =
    deadly (check_point s ts (vnew (add binary32 p.x c14) (add binary32 p.y c14)))
    || deadly (check_point s ts (vnew (sub binary32 p.x c14) (sub binary32 p.y c14)))
    || deadly (check_point s ts (vnew (add binary32 p.x c14) (sub binary32 p.y c14)))
    || deadly (check_point s ts (vnew (sub binary32 p.x c14) (add binary32 p.y c14)))

-- w becomes v when the records of a step are taken, and nobody is removed yet: who is there is what its record reads as, with the floor mark of its tick; all else is as it was
pub record RecordsTaken (s : Sides) (ts : List ℕ) (w : World) (records : List Published) (v : World) : Type 0 where
  pub present : (k : ℕ) → (slot_at v.slots k).present ≡ (slot_at w.slots k).present
  pub character : (k : ℕ) → (slot_at w.slots k).present ≡ true → (slot_at v.slots k).character ≡ from_net (record_at records k).core
  pub mark : (k : ℕ) → (slot_at w.slots k).present ≡ true → (slot_at v.slots k).grounded ≡ grounded s ts (slot_at w.slots k).character.pos
  pub input : (k : ℕ) → (slot_at v.slots k).input ≡ (slot_at w.slots k).input
  pub absent : (k : ℕ) → (slot_at w.slots k).present ≡ false → slot_at v.slots k ≡ slot_at w.slots k
  pub tunings : v.tunings ≡ w.tunings
  pub size : length v.slots ≡ length w.slots

-- the leaves of these ids, one after another
abbrev pub leaves_of : List ℕ → List Call
leaves_of ids = map (λ k. Leave (pos k)) ids

-- of the answer a to a step on w
pub record Spiked (n : ℕ) (s : Sides) (ts : List ℕ) (w : World) (a : Stepped) : Type 0 where
  -- nobody who is still present has a corner on a deadly tile
  pub nobody : (k : ℕ) → (slot_at a.world.slots k).present ≡ true → corner_deadly s ts (slot_at a.world.slots k).character.pos ≡ false
  -- who was removed is told by rising id
  pub rising : Rising (ids_in a.removed)
  -- it is just who was there and has, as its record reads, a corner on a deadly tile
  pub removed : (k : ℕ) → is_in k (ids_in a.removed) ≡ ((slot_at w.slots k).present && corner_deadly s ts (from_net (record_at a.records k).core).pos)
  -- each of them goes as by a leave after the records are taken, and nothing else changes
  pub before : World
  pub taken : RecordsTaken s ts w a.records before
  pub leaves : a.world ≡ after n s ts before (leaves_of (ids_in a.removed))

-- in every world of n slots, on every map
abbrev pub StepSpikes : ℕ → Type 0
StepSpikes n = (w : World) (s : Sides) (ts : List ℕ) → length w.slots ≡ n → (step n w s ts).number ≡ 0 → Spiked n s ts w (step n w s ts)
