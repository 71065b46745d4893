-- Both sides of a map are sides. Assumes nothing.
use Prim.Native.Nat.{ℕ, ◌*◌}
use mathlib.Core.Bool.{Bool, ◌&&◌}
use mathlib.Core.List.{List}
use lib.Dec.{T, eqb}
use lib.Ieee.Fits.{and_l, and_r}
use lib.ListN.{length}
use Rattle.map_tiles.specs.Map.{is_side, is_map}
use Rattle.map_tiles.specs.declared.tiles.Sides.{Sides}

pub both_sides : (s : Sides) (ts : List ℕ) → T (is_map s ts) → T (is_side s.width) × T (is_side s.height)
unfolding is_map
both_sides s ts t =
    let a : Bool = is_side s.width in
    let b : Bool = is_side s.height in
    let ab : T (a && b) = and_l (a && b) (eqb (length ts) (s.width * s.height)) t in
    (and_l a b ab, and_r a b ab)
