-- What a whole text stands for. Definitions only.
use Rattle.std.specs.Prelude.{ℕ, suc, ◌≤◌, List, [], ◌∷◌, ◌++◌, ◌≡◌, length}
use Rattle.text_decimal.specs.Lines.{All}
use Rattle.text_decimal.specs.Places.{Stands}
use Rattle.text_reading.specs.Calls.{IsCall, call_bytes}
use Rattle.world.specs.declared.call.Call.{Call}
use Rattle.text_map.specs.Map.{most_bytes, IsMap, map_bytes}

-- what stands after the calls: nothing, or text at fault
pub data End : Type 0 where
  ended : End
  fault : End

-- a text: its map is at fault, as it is where the text is too long; or its width, its height, its tiles, its calls, and what stands after these
pub data Text : Type 0 where
  no_map : Text
  session : ℕ → ℕ → List ℕ → List Call → End → Text

-- call lines, one after another
unfoldable pub calls_bytes : List Call → List ℕ
calls_bytes [] = []
calls_bytes (c ∷ cs) = call_bytes c ++ calls_bytes cs

-- text at fault is some bytes, of which the first are no call line
abbrev pub Ends : End → List ℕ → Type 0
Ends ended s = s ≡ []
Ends fault s = (s ≡ [] → ⊥) × ((c : Call) → IsCall c → (rest : List ℕ) → s ≡ call_bytes c ++ rest → ⊥)

-- the bytes s stand for a text
unfoldable pub StandsFor : List ℕ → Text → Type 0
StandsFor s no_map = length s ≤ most_bytes → (w h : ℕ) (ts : List ℕ) → IsMap w h ts → (rest : List ℕ) → s ≡ map_bytes w h ts ++ rest → ⊥
StandsFor s (session w h ts cs e) = (length s ≤ most_bytes) × IsMap w h ts × All IsCall cs × ((rest : List ℕ) × (s ≡ map_bytes w h ts ++ (calls_bytes cs ++ rest)) × Ends e rest)

-- the number that is due after the calls of a text: a fault is found there
abbrev pub due_call : Text → ℕ
due_call no_map = 1
due_call (session w h ts cs e) = suc (length cs)

-- a map and calls that were read from the start of the text s up to the place `at`
pub record Passed (s : List ℕ) (w h : ℕ) (ts : List ℕ) (cs : List Call) (at : ℕ) : Type 0 where
  pub fits : length s ≤ most_bytes
  pub map : IsMap w h ts
  pub calls : All IsCall cs
  pub stood : Stands (map_bytes w h ts ++ calls_bytes cs) s 0 at
