-- Call lines. Definitions only.
use Rattle.std.specs.Prelude.{ℕ, List, [], ◌∷◌, ℤ, pos, Option, Some, None}
use Rattle.num_convert.specs.Casts.{IsI32}
use Rattle.game_refusals.specs.Refusals.{bad_text}
use Rattle.text_decimal.specs.Lines.{line, All}
use Rattle.text_decimal.specs.Places.{Stands, Absent}
use Rattle.world.specs.declared.call.Call.{Call}
use Rattle.world.specs.declared.call.Call.TheVariants.{Join, Leave, Input, Step, Tune}

-- the seven values of a call: its code, its arguments in their order, and 0 for each spare one
abbrev pub values : Call → List ℤ
values (Join id x y) = pos 1 ∷ id ∷ x ∷ y ∷ pos 0 ∷ pos 0 ∷ pos 0 ∷ []
values (Leave id) = pos 2 ∷ id ∷ pos 0 ∷ pos 0 ∷ pos 0 ∷ pos 0 ∷ pos 0 ∷ []
values (Input id direction x y jump hook) = pos 3 ∷ id ∷ direction ∷ x ∷ y ∷ jump ∷ hook ∷ []
values Step = pos 4 ∷ pos 0 ∷ pos 0 ∷ pos 0 ∷ pos 0 ∷ pos 0 ∷ pos 0 ∷ []
values (Tune index value) = pos 5 ∷ index ∷ value ∷ pos 0 ∷ pos 0 ∷ pos 0 ∷ pos 0 ∷ []

-- its arguments are i32
abbrev pub IsCall : Call → Type 0
IsCall c = All IsI32 (values c)

-- the bytes of its line
unfoldable pub call_bytes : Call → List ℕ
call_bytes c = line (values c)

-- what reading a call line at `at` answers: the call whose bytes stand there with the place past them, or that none's do
unfoldable pub CallAt : List ℕ → ℕ → Option (Call × ℕ) → Type 0
CallAt s at (Some (c, next)) = IsCall c × Stands (call_bytes c) s at next
CallAt s at None = (c : Call) → IsCall c → Absent (call_bytes c) s at

-- document 01's number of an answer
abbrev pub answer_of_line : Option (Call × ℕ) → ℕ
answer_of_line (Some (c, next)) = 0
answer_of_line None = bad_text
