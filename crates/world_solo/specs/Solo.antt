-- Solo heats, as one claim about two lists of calls. Definitions only; proofs/Solo.antt proves it.
use Rattle.std.specs.Prelude.{ℕ, Bool, false, cond, not, List, [], ◌∷◌, ◌++◌, ◌≡◌, eqb, pos, get_or}
use Rattle.map_tiles.specs.declared.tiles.Sides.{Sides}
use Rattle.game_tuning.specs.Tuning.{player_collision, player_hooking}
use Rattle.character.specs.Tick.{slot_at}
use Rattle.character.specs.declared.Slot.{Slot}
use Rattle.world.specs.declared.call.Call.{Call}
use Rattle.world.specs.declared.call.Call.TheVariants.{Join, Leave, Input, Step, Tune}
use Rattle.world.specs.World.{fresh}
use Rattle.world.specs.Calls.{place_of}
use Rattle.world.specs.Step.{step}
use Rattle.world.specs.Run.{ran}
use Rattle.world.specs.Demand3.{record_at}
use Rattle.world.specs.declared.Published.{Published}
use Rattle.world.specs.Answered.{Stepped}
use Rattle.world.specs.declared.World.{World}

-- ---- the calls for other ids struck out

-- whether a call is for another id than k: joins, leaves and inputs are for the id that they name, tunes and steps for none
abbrev pub for_other : ℕ → ℕ → Call → Bool
for_other n k (Join id x y) = not (eqb (place_of n id) k)
for_other n k (Leave id) = not (eqb (place_of n id) k)
for_other n k (Input id d x y j h) = not (eqb (place_of n id) k)
for_other n k (Tune index z) = false
for_other n k Step = false

-- what is left of a list without them, in the same order
abbrev pub without_other : ℕ → ℕ → List Call → List Call
without_other n k [] = []
without_other n k (c ∷ cs) = cond (for_other n k c) (without_other n k cs) (c ∷ without_other n k cs)

-- ---- a solo heat

-- when step is called on w: player collision and player hooking are zero, and the step is not refused
pub record SoloStep (n : ℕ) (s : Sides) (ts : List ℕ) (w : World) : Type 0 where
  pub collision : get_or w.tunings player_collision (pos 0) ≡ pos 0
  pub hooking : get_or w.tunings player_hooking (pos 0) ≡ pos 0
  pub accepted : (step n w s ts).number ≡ 0

-- whenever step is called in a list
abbrev pub SoloHeat : ℕ → Sides → List ℕ → World → List Call → Type 0
SoloHeat n s ts w [] = Unit {0}
SoloHeat n s ts w (c ∷ cs) = (c ≡ Step → SoloStep n s ts w) × SoloHeat n s ts (ran n s ts w c).world cs

-- ---- what is seen of an id

-- the record that a step took, and the slot after it: whether somebody is there, the floor mark, the input, and the character that a record is made of
pub record Seen : Type 0 where
  pub taken : Published
  pub slot : Slot

-- of the id k, in a step that answered a
abbrev pub seen_in : ℕ → Stepped → Seen
seen_in k a = record { taken = record_at a.records k; slot = slot_at a.world.slots k }

-- in a call: only a step shows anything
abbrev pub seen_by : ℕ → Stepped → Call → List Seen
seen_by k a (Join id x y) = []
seen_by k a (Leave id) = []
seen_by k a (Input id d x y j h) = []
seen_by k a (Tune index z) = []
seen_by k a Step = seen_in k a ∷ []

-- in the steps of a list, one after another
abbrev pub seen : ℕ → Sides → List ℕ → ℕ → World → List Call → List Seen
seen n s ts k w [] = []
seen n s ts k w (c ∷ cs) = seen_by k (ran n s ts w c) c ++ seen n s ts k (ran n s ts w c).world cs

-- ---- the claim

-- every map, every id, and every two lists of calls from a fresh world of n slots that are solo heats and the same once the calls for other ids are struck out
abbrev pub Solo : ℕ → Type 0
Solo n = (s : Sides) (ts : List ℕ) (k : ℕ) (cs ds : List Call) → without_other n k cs ≡ without_other n k ds
    → SoloHeat n s ts (fresh n) cs → SoloHeat n s ts (fresh n) ds → seen n s ts k (fresh n) cs ≡ seen n s ts k (fresh n) ds
