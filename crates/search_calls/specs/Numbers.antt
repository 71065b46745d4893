-- A way as numbers, and the search on the numbers of a world. Definitions only.
use Rattle.std.specs.Prelude.{ℕ, ◌+◌, ◌*◌, Bool, true, false, cond, ◌&&◌, List, [], ◌∷◌, ℤ, pos, length, replicate}
use Rattle.base_rows.specs.Put.{put}
use Rattle.base_turns.specs.Turns.{more, stop}
use Rattle.game_refusals.specs.Refusals.{bad_length}
use Rattle.map_tiles.specs.declared.tiles.Sides.{Sides}
use Rattle.character.specs.Tick.{seats}
use Rattle.world_numbers.specs.Encoding.{world_count, each}
use Rattle.world_numbers.specs.Decoding.{decoding}
use Rattle.world_buffers.specs.Buffers.{has}
use Rattle.world_buffers.specs.Readers.{ReadTold, untold, told_as}
use Rattle.search_rule.specs.Ways.{Way, longest}
use Rattle.search_rule.specs.Search.{Found, SearchAnswer, Refused, NoWay, WayTo, search}
use Rattle.search_rule.specs.declared.Buttons.{Buttons}

-- how many steps, then direction and jump of each
abbrev pub way_count : ℕ
way_count = 1 + 2 * longest

abbrev pub buttons_numbers : Buttons → List ℤ
buttons_numbers b = b.direction ∷ b.jump ∷ []

-- zeros stand behind them
unfoldable pub way_numbers : Way → List ℤ
way_numbers u = put (replicate way_count (pos 0)) 0 (pos (length u) ∷ each buttons_numbers u)

-- none is told as no steps
abbrev pub found_numbers : Found → List ℤ
found_numbers (more z) = way_numbers []
found_numbers (stop u) = way_numbers u

-- whether there is a way, and the numbers with its steps from a place on
pub record Wrote : Type 0 where
  pub found : Bool
  pub way : List ℤ

abbrev pub found_in : List ℤ → ℕ → Found → Wrote
found_in l at (more z) = record { found = false; way = l }
found_in l at (stop u) = record { found = true; way = put l at (each buttons_numbers u) }

-- a refusal leaves the numbers as they were
abbrev pub search_told : List ℤ → SearchAnswer → ReadTold
search_told out (Refused k) = untold out k
search_told out NoWay = told_as (way_numbers [])
search_told out (WayTo u) = told_as (way_numbers u)

-- a search in the world that the numbers l stand for
unfoldable pub search_in : Sides → List ℕ → List ℤ → ℤ → ℤ → ℤ → List ℤ → ReadTold
search_in s ts l id x y out = cond (has world_count l && has way_count out) (search_told out (search seats s ts (decoding seats l) id x y)) (untold out bad_length)
