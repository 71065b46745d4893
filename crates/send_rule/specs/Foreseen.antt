-- What a copy's step in its small world is: of a seat that is alone in the world, the world's own step. Definitions only; proofs/Foreseen.antt proves it.
use Rattle.std.specs.Prelude.{ℕ, ◌<◌, true, false, List, ◌≡◌, ℤ}
use Rattle.map_tiles.specs.declared.tiles.Sides.{Sides}
use Rattle.character.specs.Records.{from_net}
use Rattle.character.specs.Tick.{slot_at}
use Rattle.world.specs.Demand3.{record_at}
use Rattle.world.specs.Removal.{ids_in, is_in}
use Rattle.world.specs.Run.{told_by}
use Rattle.world.specs.Settled.{Settled}
use Rattle.world.specs.Step.{step}
use Rattle.world.specs.declared.World.{World}
use Rattle.send_rule.specs.Send.{alone, step_copy}
use Rattle.send_rule.specs.declared.Copy.{Copy}

-- ---- whoever is alone is no surprise

-- nobody but k is in w, and k is there as the copy c has it
pub record Alone (n : ℕ) (w : World) (k : ℕ) (c : Copy) : Type 0 where
  pub settled : Settled n w
  pub seat : k < n
  pub there : (slot_at w.slots k).present ≡ true
  pub character : (slot_at w.slots k).character ≡ from_net c.core
  pub input : (slot_at w.slots k).input ≡ c.input
  pub nobody : (j : ℕ) → j < n → (j ≡ k → ⊥) → (slot_at w.slots j).present ≡ false
  pub kept : c.kept ≡ true
  pub stays : c.removed ≡ false

-- the step of its small world tells what the step of w tells, so that the copy's record is the true one, and both worlds remove k or neither
pub record Foresees (n : ℕ) (s : Sides) (ts : List ℕ) (w : World) (k : ℕ) (c : Copy) : Type 0 where
  pub told : told_by (alone n s ts w.tunings k c) ≡ told_by (step n w s ts)
  pub core : (step n w s ts).number ≡ 0 → (step_copy n s ts w.tunings k c).core ≡ (record_at (step n w s ts).records k).core
  pub removed : (step n w s ts).number ≡ 0 → (step_copy n s ts w.tunings k c).removed ≡ is_in k (ids_in (step n w s ts).removed)

-- in every settled world, as every world is that calls can reach
abbrev pub Foreseen : ℕ → Type 0
Foreseen n = (s : Sides) (ts : List ℕ) (w : World) (k : ℕ) (c : Copy) → Alone n w k c → Foresees n s ts w k c

-- ---- which copies stay with their last record

-- a copy's step keeps its input, and its record too where its small world has removed it or refuses the step
pub record CopyStays (n : ℕ) (s : Sides) (ts : List ℕ) (tunings : List ℤ) (k : ℕ) (c : Copy) : Type 0 where
  pub input : (step_copy n s ts tunings k c).input ≡ c.input
  pub removed : c.removed ≡ true → ((step_copy n s ts tunings k c).core ≡ c.core) × ((step_copy n s ts tunings k c).removed ≡ true)
  pub refused : ((alone n s ts tunings k c).number ≡ 0 → ⊥) → (step_copy n s ts tunings k c).core ≡ c.core

-- every copy
abbrev pub Stays : ℕ → Type 0
Stays n = (s : Sides) (ts : List ℕ) (tunings : List ℤ) (k : ℕ) (c : Copy) → CopyStays n s ts tunings k c
