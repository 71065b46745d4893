-- Late calls on the numbers of a world, whoever wrote them and however many there are. Definitions only; proofs/LateNumbers.antt proves it.
use Rattle.std.specs.Prelude.{ℕ, List, [], ◌∷◌, ◌≡◌, ℤ}
use Rattle.map_tiles.specs.declared.tiles.Sides.{Sides}
use Rattle.world.specs.declared.call.Call.{Call}
use Rattle.world_late.specs.Late.{MayExchange, MayReplace, Reordered}
use Rattle.world_buffers.specs.Stepping.{StepBuffers}
use Rattle.world_buffers.specs.Following.{left_by, left_by_all}

-- in either order each answers the same, and the numbers after both are the same
pub record ExchangedIn (s : Sides) (ts : List ℕ) (b : StepBuffers) (l : List ℤ) (c d : Call) : Type 0 where
  pub first : (left_by s ts b (left_by s ts b l d).world c).number ≡ (left_by s ts b l c).number
  pub second : (left_by s ts b (left_by s ts b l c).world d).number ≡ (left_by s ts b l d).number
  pub world : left_by_all s ts b l (c ∷ d ∷ []) ≡ left_by_all s ts b l (d ∷ c ∷ [])

abbrev pub NumbersCommute : Type 0
NumbersCommute = (s : Sides) (ts : List ℕ) (b : StepBuffers) (l : List ℤ) (c d : Call) → MayExchange c d → ExchangedIn s ts b l c d

-- the later, where it is accepted, leaves the numbers that it would have if the earlier had never come
abbrev pub NumbersReplaced : Type 0
NumbersReplaced = (s : Sides) (ts : List ℕ) (b : StepBuffers) (l : List ℤ) (c d : Call) → MayReplace c d
    → let m = (left_by s ts b l c).world in (left_by s ts b m d).number ≡ 0 → left_by s ts b m d ≡ left_by s ts b l d

-- after a whole list, in every order that exchanges of neighbours lead to
abbrev pub LateNumbers : Type 0
LateNumbers = (s : Sides) (ts : List ℕ) (b : StepBuffers) (l : List ℤ) (cs ds : List Call) → Reordered (λ c. c) cs ds → left_by_all s ts b l cs ≡ left_by_all s ts b l ds
