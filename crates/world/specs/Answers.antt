-- The refusals of document 01 as exact conditions, in any world. Definitions only; proofs/Answers.antt proves it.
use Rattle.std.specs.Prelude.{ℕ, ◌*◌, ◌≤◌, ◌<◌, true, false, List, [], ◌⊎◌, ◌↔◌, ◌≡◌, ℤ, pos, nat_abs, length}
use Rattle.num_convert.specs.Convert.{i32_to_f32}
use Rattle.num_vec2.specs.Vec2.{vnew}
use Rattle.map_tiles.specs.declared.tiles.Sides.{Sides}
use Rattle.game_constants.specs.Constants.{max_hook_grab_time}
use Rattle.game_refusals.specs.Refusals.{bad_map, bad_id, bad_tuning, out_of_reach, not_clear, already_present, not_present, bad_hold}
use Rattle.game_tuning.specs.Tuning.{tuning_count, hook_hold}
use Rattle.character.specs.Tick.{slot_at}
use Rattle.world.specs.declared.call.Call.{Call}
use Rattle.world.specs.declared.call.Call.TheVariants.{Join, Leave, Input, Step, Tune}
use Rattle.world.specs.Demand3.{CornersClear, record_at}
use Rattle.world.specs.Removal.{ids_in}
use Rattle.world.specs.Run.{ran}
use Rattle.world.specs.Answered.{Stepped}
use Rattle.world.specs.declared.World.{World}

-- lowest fitting number first: a call answers 0 just where no refusal fits, and k just where k fits and none below it
pub record LowestFirst (Fits : ℕ → Type 0) (number : ℕ) : Type 0 where
  pub accepted : (number ≡ 0) ↔ ((k : ℕ) → Fits k → ⊥)
  pub refused : (k : ℕ) → 0 < k → (number ≡ k) ↔ (Fits k × ((j : ℕ) → j < k → Fits j → ⊥))

-- ---- the conditions

-- z is none of 0 to n - 1
abbrev pub Outside : ℕ → ℤ → Type 0
Outside n z = (k : ℕ) → k < n → z ≡ pos k → ⊥

-- sides of 1 to 1,024, and a byte for each tile
pub record IsMap (s : Sides) (ts : List ℕ) : Type 0 where
  pub width : (1 ≤ s.width) × (s.width ≤ 1024)
  pub height : (1 ≤ s.height) × (s.height ≤ 1024)
  pub bytes : length ts ≡ s.width * s.height

-- somebody is at this id
pub record Present (w : World) (id : ℤ) : Type 0 where
  pub seat : ℕ
  pub is : id ≡ pos seat
  pub there : (slot_at w.slots seat).present ≡ true

-- from 1 to 60 steps
pub record IsHold (z : ℤ) : Type 0 where
  pub steps : ℕ
  pub is : z ≡ pos steps
  pub least : 1 ≤ steps
  pub most : steps ≤ max_hook_grab_time

-- ---- which numbers fit

-- a join
pub data JoinFits (n : ℕ) (s : Sides) (ts : List ℕ) (w : World) (id x y : ℤ) (k : ℕ) : Type 0 where
  no_map : k ≡ bad_map → (IsMap s ts → ⊥) → JoinFits n s ts w id x y k
  no_seat : k ≡ bad_id → Outside n id → JoinFits n s ts w id x y k
  far : k ≡ out_of_reach → (100000 < nat_abs x) ⊎ (100000 < nat_abs y) → JoinFits n s ts w id x y k
  box_not_clear : k ≡ not_clear → (CornersClear s ts (vnew (i32_to_f32 x) (i32_to_f32 y)) → ⊥) → JoinFits n s ts w id x y k
  present : k ≡ already_present → Present w id → JoinFits n s ts w id x y k

-- a leave, an input, and a read of an id
pub data SeatFits (n : ℕ) (w : World) (id : ℤ) (k : ℕ) : Type 0 where
  no_seat : k ≡ bad_id → Outside n id → SeatFits n w id k
  absent : k ≡ not_present → (Present w id → ⊥) → SeatFits n w id k

-- a tune
pub data TuneFits (index z : ℤ) (k : ℕ) : Type 0 where
  no_tuning : k ≡ bad_tuning → Outside tuning_count index → TuneFits index z k
  no_hold : k ≡ bad_hold → index ≡ pos hook_hold → (IsHold z → ⊥) → TuneFits index z k

-- ---- the claim

-- no record, and nobody removed
pub record Untold (a : Stepped) : Type 0 where
  pub records : (k : ℕ) → (record_at a.records k).present ≡ false
  pub removed : ids_in a.removed ≡ []

-- on every map, in every world and whatever the arguments
pub record Answers (n : ℕ) : Type 0 where
  pub join : (s : Sides) (ts : List ℕ) (w : World) (id x y : ℤ) → LowestFirst (JoinFits n s ts w id x y) (ran n s ts w (Join id x y)).number
  pub leave : (s : Sides) (ts : List ℕ) (w : World) (id : ℤ) → LowestFirst (SeatFits n w id) (ran n s ts w (Leave id)).number
  pub input : (s : Sides) (ts : List ℕ) (w : World) (id d x y j h : ℤ) → LowestFirst (SeatFits n w id) (ran n s ts w (Input id d x y j h)).number
  pub tune : (s : Sides) (ts : List ℕ) (w : World) (index z : ℤ) → LowestFirst (TuneFits index z) (ran n s ts w (Tune index z)).number
  -- a step is refused with 1 just where the map is none
  pub step : (s : Sides) (ts : List ℕ) (w : World) → ((ran n s ts w Step).number ≡ bad_map) ↔ (IsMap s ts → ⊥)
  -- a refused call tells its number alone
  pub alone : (s : Sides) (ts : List ℕ) (w : World) (c : Call) → ((ran n s ts w c).number ≡ 0 → ⊥) → Untold (ran n s ts w c)
