-- What a search tells in its buffer, read again. Definitions only; proofs/Ways.antt proves it.
use Rattle.std.specs.Prelude.{ℕ, zero, suc, ◌+◌, ◌*◌, ◌-◌, List, [], ◌∷◌, ◌≡◌, ℤ, pos, nat_abs, length, drop, replicate}
use Rattle.game_records.specs.Numbers.{number_at}
use Rattle.map_tiles.specs.declared.tiles.Sides.{Sides}
use Rattle.character.specs.Tick.{seats}
use Rattle.world_numbers.specs.Encoding.{world_count}
use Rattle.world_numbers.specs.Decoding.{each_in, decoding}
use Rattle.search_rule.specs.Ways.{Way}
use Rattle.search_rule.specs.Search.{SearchAnswer, Refused, NoWay, WayTo, search}
use Rattle.search_rule.specs.declared.Buttons.{Buttons}
use Rattle.search_calls.specs.Numbers.{way_count, way_numbers, search_in}

-- ---- a way

-- what is pressed in the step whose numbers l starts with
unfoldable pub buttons_in : List ℤ → Buttons
buttons_in l = record { direction = number_at l 0; jump = number_at l 1 }

-- how many steps, then direction and jump of each
unfoldable pub way_of : List ℤ → Way
way_of l = each_in buttons_in 2 (nat_abs (number_at l 0)) (drop 1 l)

-- every way comes back from its numbers
abbrev pub WaysComeBack : Type 0
WaysComeBack = (u : Way) → way_of (way_numbers u) ≡ u

-- zeros stand behind them
abbrev pub ZerosBehind : Type 0
ZerosBehind = (u : Way) → let n = 1 + 2 * length u in drop n (way_numbers u) ≡ replicate (way_count - n) (pos 0)

-- ---- a search

-- no steps are no way
abbrev pub way_answer : Way → SearchAnswer
way_answer [] = NoWay
way_answer (b ∷ u) = WayTo (b ∷ u)

-- what a search that told k and these numbers says: a number other than 0 refuses it
abbrev pub answer_in : ℕ → List ℤ → SearchAnswer
answer_in zero l = way_answer (way_of l)
answer_in (suc k) l = Refused (suc k)

-- on any numbers, what the search says in the world that they stand for
abbrev pub SearchTold : Type 0
SearchTold = (s : Sides) (ts : List ℕ) (l : List ℤ) (id x y : ℤ) (out : List ℤ) → length l ≡ world_count → length out ≡ way_count → let t = search_in s ts l id x y out in answer_in t.number t.numbers ≡ search seats s ts (decoding seats l) id x y
