-- What `isMap` says of a map. Assumes nothing.
use mathlib.Core.Path.{◌≡◌}
use mathlib.Core.Bool.{Bool, ◌&&◌}
use mathlib.Core.List.{List}
use Prim.Native.Nat.{ℕ, ◌*◌, ◌≤◌}
use lib.Dec.{T, leb, eqb, leb→le, eqb→eq}
use lib.ListN.{length}
use lib.Ieee.Fits.{and_l, and_r}
use Rattle.map_tiles.specs.declared.tiles.Sides.{Sides}
use Rattle.map_tiles.specs.Map.{is_side, is_map}

pub is_side_lem : (n : ℕ) → T (is_side n) → (1 ≤ n) × (n ≤ 1024)
unfolding is_side
is_side_lem n t = (leb→le 1 n (and_l (leb 1 n) (leb n 1024) t), leb→le n 1024 (and_r (leb 1 n) (leb n 1024) t))

pub record IsMap (s : Sides) (ts : List ℕ) : Type 0 where
  pub wide : 1 ≤ s.width
  pub narrow : s.width ≤ 1024
  pub high : 1 ≤ s.height
  pub low : s.height ≤ 1024
  pub bytes : length ts ≡ s.width * s.height

pub is_map_lem : (s : Sides) (ts : List ℕ) → T (is_map s ts) → IsMap s ts
unfolding is_map
is_map_lem s ts t =
    let a : Bool = is_side s.width in
    let b : Bool = is_side s.height in
    let c : Bool = eqb (length ts) (s.width * s.height) in
    let ab : T (a && b) = and_l (a && b) c t in
    let w = is_side_lem s.width (and_l a b ab) in
    let h = is_side_lem s.height (and_r a b ab) in
    record { wide = w.0; narrow = w.1; high = h.0; low = h.1; bytes = eqb→eq (length ts) (s.width * s.height) (and_r (a && b) c t) }
