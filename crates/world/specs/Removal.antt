-- Who is removed by deadly tiles after a step's records are taken, and what that leaves of the world. Definitions only.
use Rattle.std.specs.Prelude.{ℕ, zero, suc, ◌-◌, Bool, false, cond, ◌&&◌, ◌||◌, List, [], ◌∷◌, ◌++◌, map, eqb, pos, nat_abs, length, take, replicate}
use Rattle.map_tiles.specs.Box.{on_deadly}
use Rattle.map_tiles.specs.declared.tiles.Sides.{Sides}
use Rattle.character.specs.Tick.{slot_at}
use Rattle.character.specs.declared.Slot.{Slot}
use Rattle.world.specs.Calls.{vacate}
use Rattle.world.specs.declared.Removed.{Removed}
use Rattle.world.specs.declared.World.{World}

-- of n ids, the first being i, those of which f is true, rising
abbrev pub ids_of : (ℕ → Bool) → ℕ → ℕ → List ℕ
ids_of f zero i = []
ids_of f (suc n) i = cond (f i) (i ∷ ids_of f n (suc i)) (ids_of f n (suc i))

-- somebody is there, with a corner on a deadly tile
abbrev pub dies : Sides → List ℕ → Slot → Bool
dies s ts x = x.present && on_deadly s ts x.character.pos

-- who of n slots dies
unfoldable pub dying : ℕ → Sides → List ℕ → List Slot → List ℕ
dying n s ts ss = ids_of (λ j. dies s ts (slot_at ss j)) n 0

-- each goes as by a leave, one after another
abbrev pub remove_all : World → List ℕ → World
remove_all w [] = w
remove_all w (k ∷ ks) = remove_all (vacate w k) ks

-- at most n ids, as n numbers and how many of them count
abbrev pub listed : ℕ → List ℕ → Removed
listed n ids = record { count = length ids; ids = map pos ids ++ replicate (n - length ids) (pos 0) }

-- the list again
abbrev pub ids_in : Removed → List ℕ
ids_in r = map nat_abs (take r.count r.ids)

-- whether k is one of them
abbrev pub is_in : ℕ → List ℕ → Bool
is_in k [] = false
is_in k (j ∷ js) = eqb j k || is_in k js
