-- The flight of a hook in `tick` of lib.rs, as far as nobody else is in it. Definitions only.
use Rattle.std.specs.Prelude.{ℕ, List, Option, Result, Ok, Err}
use Rattle.num_vec2.specs.declared.vec2.{vec2}
use Rattle.character_hook.specs.Hook.{on_flying}
use Rattle.character_hook.specs.declared.hook.Hook.{Hook}
use Rattle.game_tuning.specs.declared.Tuning.{Tuning}
use Rattle.map_tiles.specs.declared.tiles.Sides.{Sides}
use Rattle.map_lines.specs.Line.{walk_line}
use Rattle.map_tiles.specs.declared.point.Tile.{Tile}
use Rattle.game_refusals.specs.declared.Refusal.{Refusal}
use Rattle.character_hook.specs.Hooking.{fly, strike, retract}
use Rattle.character_hook.specs.declared.hooking.Flight.{Flight}
use Rattle.character_hook.specs.declared.flying.Way.{Way}
use Rattle.character_hook.specs.declared.flying.Way.TheVariants.{Still, Along}

-- after the line: refused, or what it strikes
abbrev pub struck_on : vec2 → Flight → Result (Option (vec2 × Tile)) Refusal → Result Way Refusal
struck_on from f (Err e) = Err e
struck_on from f (Ok hit) = Ok (Along from f.to (strike f.hook hit))

-- a flying hook goes its way; any other leaves early, and one that comes back does so
unfoldable pub flown : Hook → vec2 → Sides → List ℕ → Tuning → Result Way Refusal
flown h p s ts t = on_flying (λ from d. struck_on from (fly from d p t) (walk_line s ts from (fly from d p t).to)) (Ok (Still (retract h))) h
