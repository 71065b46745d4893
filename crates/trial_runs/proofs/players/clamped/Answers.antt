use Prim.Native.Nat.{ℕ, ◌-◌, ◌≤◌, ◌<◌, min}
use mathlib.Core.Path.{◌≡◌, refl, ap, ◌∙◌}
use native.Mathlib.Omega.{arith}
use lib.IntN.{ℤ, pos, negsuc}
use mir.Facts.{to_z-of_z}
use Rattle.map_corners.specs.Tile.{clamp_to}
use Rattle.map_tiles.specs.Map.{count}
use Rattle.map_tiles.proofs.Maps.{is_side_lem}
use Rattle.trial_runs.proofs.players.clamped.Goals as goal

clamp-count : (hi : ℕ) (z : ℤ) → clamp_to hi z ≡ min (count z) hi
clamp-count hi (pos n) = refl
clamp-count hi (negsuc n) = omega arith

inside : (side n : ℕ) (z : ℤ) → n ≡ count z → n < side → n ≡ clamp_to (side - 1) z
inside side n z e h = let q = clamp-count (side - 1) z in omega arith

outside : (side n : ℕ) (z : ℤ) → n ≡ count z → side ≤ n → side - 1 ≡ clamp_to (side - 1) z
outside side n z e h = let q = clamp-count (side - 1) z in omega arith

pub overflow_cast-result : goal.overflow_cast-result
overflow_cast-result c = let b = is_side_lem _ c.requires in omega (arith, b.1, c.if-tile-side.true)

pub returns-then-tile-side : goal.returns-then-tile-side
returns-then-tile-side c = (inside _ _ c.args.z (c.count-tile.ensures.0 ∙ ap count (to_z-of_z c.ranges.z)) c.if-tile-side.true, c.if-tile-side.true)

pub overflow_sub-result : goal.overflow_sub-result
overflow_sub-result c = let b = is_side_lem _ c.requires in omega (arith, b.0)

pub overflow_cast-result-2 : goal.overflow_cast-result-2
overflow_cast-result-2 c = let b = is_side_lem _ c.requires in omega (arith, b.0, b.1)

pub returns : goal.returns
returns c = let b = is_side_lem _ c.requires in (outside _ _ c.args.z (c.count-tile.ensures.0 ∙ ap count (to_z-of_z c.ranges.z)) c.if-tile-side.false, omega (arith, b.0))
