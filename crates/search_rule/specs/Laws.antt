-- What is claimed of the search, with no search in it. Definitions only; proofs/Laws.antt proves it.
use Rattle.std.specs.Prelude.{ℕ, ◌<◌, true, cond, not, ◌&&◌, List, [], ◌∷◌, ◌≡◌, eqb, ℤ, pos, length}
use Rattle.game_refusals.specs.Refusals.{bad_map}
use Rattle.game_records.specs.declared.PlayerInput.{PlayerInput}
use Rattle.map_tiles.specs.Map.{is_map}
use Rattle.map_tiles.specs.declared.tiles.Sides.{Sides}
use Rattle.character.specs.Tick.{slot_at}
use Rattle.world.specs.Calls.{place_of, input}
use Rattle.world.specs.Demand3.{record_at}
use Rattle.world.specs.Removal.{ids_in, is_in}
use Rattle.world.specs.Run.{after, Told, told}
use Rattle.world.specs.Step.{unpublished}
use Rattle.world.specs.declared.Published.{Published}
use Rattle.world.specs.declared.World.{World}
use Rattle.world.specs.declared.call.Call.{Call}
use Rattle.world.specs.declared.call.Call.TheVariants.{Input, Step}
use Rattle.search_rule.specs.Ways.{Way, IsWay, Before}
use Rattle.search_rule.specs.Search.{step_with, goes_on, counts, goal_of, SearchAnswer, Refused, NoWay, WayTo, search}
use Rattle.search_rule.specs.declared.Buttons.{Buttons}
use Rattle.search_rule.specs.declared.Goal.{Goal}

-- ---- a way as calls of the world itself

-- before each step an input for the one id, with hook 0 and this target
abbrev pub calls_of : ℤ → ℤ → ℤ → Way → List Call
calls_of id x y [] = []
calls_of id x y (b ∷ u) = Input id b.direction x y b.jump (pos 0) ∷ Step ∷ calls_of id x y u

-- what these calls tell, given to the world w with the target that it stores
abbrev pub told_along : ℕ → Sides → List ℕ → World → ℤ → Way → List Told
told_along n s ts w id u = let i = (slot_at w.slots (place_of n id)).input in told n s ts w (calls_of id i.target_x i.target_y u)

-- every call is accepted
abbrev pub AllAccepted : List Told → Type 0
AllAccepted [] = Unit {0}
AllAccepted (t ∷ ts) = (t.number ≡ 0) × AllAccepted ts

-- the record of the seat k that the last one told
abbrev pub last_record : ℕ → List Told → Published
last_record k [] = unpublished
last_record k (t ∷ []) = record_at t.records k
last_record k (t ∷ v ∷ ts) = last_record k (v ∷ ts)

-- a record of somebody, with that x and y
abbrev pub HasPlace : ℤ → ℤ → Published → Type 0
HasPlace x y p = (p.present ≡ true) × (p.core.x ≡ x) × (p.core.y ≡ y)

-- the way leads there
pub record Leads (n : ℕ) (s : Sides) (ts : List ℕ) (w : World) (id x y : ℤ) (u : Way) : Type 0 where
  pub accepted : AllAccepted (told_along n s ts w id u)
  pub arrived : HasPlace x y (last_record (place_of n id) (told_along n s ts w id u))

-- ---- the first, and none

-- u leads there, and no way before it does: none that is shorter, and none of its length that is earlier
pub record First (n : ℕ) (s : Sides) (ts : List ℕ) (w : World) (id x y : ℤ) (u : Way) : Type 0 where
  pub way : IsWay u
  pub leads : Leads n s ts w id x y u
  pub first : (v : Way) → IsWay v → Before v u → Leads n s ts w id x y v → ⊥

-- no way leads there
abbrev pub None : ℕ → Sides → List ℕ → World → ℤ → ℤ → ℤ → Type 0
None n s ts w id x y = (v : Way) → IsWay v → Leads n s ts w id x y v → ⊥

-- 0 where a search isn't refused
abbrev pub number_of : SearchAnswer → ℕ
number_of (Refused k) = k
number_of NoWay = 0
number_of (WayTo u) = 0

-- ---- the claims

-- request 12, in every world, whatever the map, the id and the place
pub record Reaches (n : ℕ) : Type 0 where
  -- a way that is shown is the first, and the first is shown
  pub shown : (s : Sides) (ts : List ℕ) (w : World) (id x y : ℤ) (u : Way) → search n s ts w id x y ≡ WayTo u → First n s ts w id x y u
  pub first : (s : Sides) (ts : List ℕ) (w : World) (id x y : ℤ) (u : Way) → First n s ts w id x y u → search n s ts w id x y ≡ WayTo u
  -- where none is shown no way leads there, and where none does none is shown
  pub none : (s : Sides) (ts : List ℕ) (w : World) (id x y : ℤ) → search n s ts w id x y ≡ NoWay → None n s ts w id x y
  pub nowhere : (s : Sides) (ts : List ℕ) (w : World) (id x y : ℤ) → number_of (search n s ts w id x y) ≡ 0 → None n s ts w id x y → search n s ts w id x y ≡ NoWay
  -- a way counts just where its calls lead there
  pub counting : (s : Sides) (ts : List ℕ) (w : World) (id x y : ℤ) → number_of (search n s ts w id x y) ≡ 0 → (u : Way) → IsWay u → let c = counts n s ts (goal_of id x y (slot_at w.slots (place_of n id)).input) w u in (c ≡ true → Leads n s ts w id x y u) × (Leads n s ts w id x y u → c ≡ true)
  -- what a step of a way leaves is what its two calls leave
  pub steps : (s : Sides) (ts : List ℕ) (w : World) (id x y : ℤ) (b : Buttons) → let i = (slot_at w.slots (place_of n id)).input in (step_with n s ts (goal_of id x y i) w b).world ≡ after n s ts w (calls_of id i.target_x i.target_y (b ∷ []))
  -- it is refused with 1 where the map is none, and else with 2 and 8 where an input for the id is
  pub refusals : (s : Sides) (ts : List ℕ) (w : World) (id x y : ℤ) (i : PlayerInput) → number_of (search n s ts w id x y) ≡ cond (is_map s ts) (input n w id i).number bad_map
  -- an id that is there is lost in a step just where deadly tiles remove it, in a world of n slots
  pub lost : (s : Sides) (ts : List ℕ) (w : World) (g : Goal) (b : Buttons) → length w.slots ≡ n → place_of n g.id < n → (slot_at w.slots (place_of n g.id)).present ≡ true → let a = step_with n s ts g w b in goes_on n g a ≡ eqb a.number 0 && not (is_in (place_of n g.id) (ids_in a.removed))
