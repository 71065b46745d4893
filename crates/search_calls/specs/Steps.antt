-- A step of a way on the numbers of a world. Definitions only.
use Rattle.std.specs.Prelude.{ℕ, ◌+◌, ◌*◌, Bool, ◌&&◌, List, ◌≡◌, ℤ, length}
use Rattle.num_convert.specs.Casts.{IsI32}
use Rattle.game_records.specs.Numbers.{number_at, same_number}
use Rattle.map_tiles.specs.declared.tiles.Sides.{Sides}
use Rattle.character.specs.Tick.{seats}
use Rattle.world_numbers.specs.Encoding.{record_count, world_count}
use Rattle.world_numbers.specs.Decoding.{is_set, decoding}
use Rattle.search_rule.specs.Search.{step_with, arrives, goes_on}
use Rattle.search_rule.specs.declared.Buttons.{Buttons}
use Rattle.search_rule.specs.declared.Goal.{Goal}
use Rattle.search_calls.specs.declared.stepping.StepOutcome.{StepOutcome}

-- the numbers again, and that each is an i32
pub record Copied (l m : List ℤ) : Type 0 where
  pub same : m ≡ l
  pub known : (k : ℕ) → IsI32 (number_at l k)

-- the record of the seat k among those of a step: somebody is there, with that x and y
unfoldable pub record_is_at : List ℤ → ℕ → Goal → Bool
record_is_at rs k g = is_set (number_at rs (record_count * k)) && (same_number (number_at rs (record_count * k + 2)) g.x && same_number (number_at rs (record_count * k + 3)) g.y)

-- the numbers l become m, and stand for what the step leaves
pub record Took (s : Sides) (ts : List ℕ) (g : Goal) (b : Buttons) (l : List ℤ) (r : StepOutcome) (m : List ℤ) : Type 0 where
  pub arrived : r.arrives ≡ arrives seats g (step_with seats s ts g (decoding seats l) b)
  pub going : r.goes_on ≡ goes_on seats g (step_with seats s ts g (decoding seats l) b)
  pub world : decoding seats m ≡ (step_with seats s ts g (decoding seats l) b).world
  pub size : length m ≡ world_count
