-- An interval of a line's turns: its points are on one tile if the first and the last are. Assumes nothing.
use mathlib.Core.Path.{◌≡◌, refl, sym, ap, ap₂, ◌∙◌, subst}
use mathlib.Core.Logic.{inl, inr, ◌⊎◌, ⊎_elim}
use mathlib.Core.Bool.{Bool, true, false, not, cond, ◌&&◌, true≢false}
use mathlib.Core.List.{List}
use Prim.Native.Nat.{ℕ, zero, suc, ◌+◌, ◌-◌, ◌*◌, ◌≤◌, ◌<◌}
use native.Mathlib.Numerals.{add-one}
use native.Mathlib.Nat.{le_antisymm}
use native.Mathlib.Omega.{arith}
use lib.Dec.{T, eqb, eqb→eq}
use lib.IntN.{pos}
use lib.Signed.{mag}
use lib.Ieee.{Float, nan, inf, fin, binary32, Format, unlike, up, down, round, neg, add, sub, mul, div, le, of_int, of_bits, is_nan}
use lib.Ieee.Fits.{and_l, and_r, down_pos}
use lib.Ieee.Scale.{finite}
use Rattle.num_convert.specs.Convert.{i32_to_f32}
use Rattle.num_convert.specs.Whole.{trunc_to_i32}
use Rattle.num_convert.specs.Number.{c1}
use Rattle.num_vec2.specs.Vec2.{vadd, vsub, vmul, vmix, vdistance}
use Rattle.num_vec2.specs.declared.vec2.{vec2}
use Rattle.num_order.proofs.Signed.{le→at-most}
use Rattle.num_order.proofs.Chain.{Between, Number, finite_number, le_trans, nought}
use Rattle.num_order.proofs.Fractions.{whole_to, whole_up}
use Rattle.num_order.proofs.Parts.{part, part_factor, part_mono}
use Rattle.num_order.proofs.Monotone.{NonNegative, factor_nonnegative, point, points_between}
use Rattle.num_order.proofs.Nans.{placed_number}
use Rattle.num_order.proofs.Places.{round_number}
use Rattle.num_order.proofs.Products.{mul_placed}
use Rattle.num_order.proofs.Sums.{add_placed}
use Rattle.num_order.proofs.Vectors.{distance_fits}
use Rattle.map_corners.specs.Tile.{tile_at}
use Rattle.map_tiles.specs.Map.{check_point, count, solid, tile_in}
use Rattle.map_tiles.specs.declared.tiles.Sides.{Sides}
use Rattle.map_tiles.proofs.Counts.{count_size}
use Rattle.map_tiles.proofs.Edges.{tile_mono}
use Rattle.base_turns.specs.Turns.{more, run}
use Rattle.base_turns.proofs.Loop.{Left, turn_first, turn_on}
use Rattle.base_turns.proofs.Each.{Each, each_over}
use Rattle.base_turns.proofs.Tests.{both}
use Rattle.map_tiles.specs.declared.point.Tile.{Tile}
use Rattle.map_tiles.specs.declared.point.Tile.TheVariants.{Open, Normal, Deadly, Unhookable}
use Rattle.map_lines.specs.Points.{point_at}
use Rattle.map_lines.specs.Line.{line_turn, or_hit}
use Rattle.map_lines.specs.OpenTurns.{c17, c31, is_bounded, is_bounded_line, same_column, same_row, same_tile, OpenTurn, OpenTurns}

-- ---- a bounded line
bounded_finite : (x : Float) → T (is_bounded x) → T (finite x)
unfolding is_bounded le of_bits neg
bounded_finite nan h = and_r (le (neg c31) nan) (le nan c31) h
bounded_finite (inf true) h = and_l (le (neg c31) (inf true)) (le (inf true) c31) h
bounded_finite (inf false) h = and_r (le (neg c31) (inf false)) (le (inf false) c31) h
bounded_finite (fin s m e) h = tt

record BoundedLine (from to : vec2) (dist : Float) : Type 0 where
  pub x : T (finite from.x)
  pub y : T (finite from.y)
  pub way_x : T (finite (sub binary32 to.x from.x))
  pub way_y : T (finite (sub binary32 to.y from.y))
  pub long : T (le c1 dist)
  pub short : T (le dist c17)

bounded_line : (from to : vec2) (dist : Float) → T (is_bounded_line from to dist) → BoundedLine from to dist
unfolding is_bounded_line vsub
bounded_line from to dist h =
    let px : Bool = is_bounded from.x in
    let py : Bool = is_bounded from.y in
    let wx : Bool = is_bounded (sub binary32 to.x from.x) in
    let wy : Bool = is_bounded (sub binary32 to.y from.y) in
    let l : Bool = le c1 dist in
    let s : Bool = le dist c17 in
    let p = and_l ((px && py) && (wx && wy)) (l && s) h in
    let q = and_r ((px && py) && (wx && wy)) (l && s) h in
    let a = and_l (px && py) (wx && wy) p in
    let b = and_r (px && py) (wx && wy) p in
    record { x = bounded_finite _ (and_l px py a); y = bounded_finite _ (and_r px py a); way_x = bounded_finite _ (and_l wx wy b); way_y = bounded_finite _ (and_r wx wy b); long = and_l l s q; short = and_r l s q }

-- ---- the fractions
quotient : (x y : Float) → T (le nought x) → T (le x y) → T (le c1 y) → T (le y c17) → Number (div binary32 x y)
unfolding le div is_nan of_bits
quotient nan y z h l s = absurd z
quotient (inf true) y z h l s = absurd z
quotient (inf false) nan z h l s = absurd h
quotient (inf false) (inf true) z h l s = absurd h
quotient (inf false) (inf false) z h l s = absurd s
quotient (inf false) (fin t n d) z h l s = absurd h
quotient (fin r m e) nan z h l s = absurd h
quotient (fin r m e) (inf true) z h l s = absurd h
quotient (fin r m e) (inf false) z h l s = absurd s
quotient (fin r m e) (fin t n d) z h l s = go (eqb n 0) (eqb→eq n 0)
  where
    none : (q : Bool) → n ≡ 0 → T (le c1 (fin q n d)) → ⊥
    none true e k = omega (arith, le→at-most c1 (fin true n d) tt tt k, down_pos d)
    none false e k = omega (arith, le→at-most c1 (fin false n d) tt tt k, down_pos d, ap (λ (i : ℕ). i * up d) e)

    go : (b : Bool) → (T b → n ≡ 0) → Number (cond b (cond (eqb m 0) nan (inf (unlike r t))) (round binary32 (unlike r t) (m * up e * down d) (n * up d * down e)))
    go true k = absurd (none t (k tt) l)
    go false k = round_number binary32 (unlike r t) (m * up e * down d) (n * up d * down e)

sum_number : (x y : Float) → T (finite x) → Number y → Number (add binary32 x y)
unfolding add is_nan
sum_number nan y p a = absurd p
sum_number (inf s) y p a = absurd p
sum_number (fin s m e) nan p a = absurd a
sum_number (fin s m e) (inf t) p a = tt
sum_number (fin s m e) (fin t n d) p a = placed_number (add_placed binary32 (fin s m e) (fin t n d) tt tt)

up_from_one : (y : Float) → T (le c1 y) → T (le nought y)
unfolding le of_bits
up_from_one y h = le_trans nought c1 y tt h

module _ (from to : vec2) (k : BoundedLine from to (vdistance from to)) where
  fraction_at : (i : ℕ) → i ≤ count (trunc_to_i32 (vdistance from to)) → NonNegative (part from to i)
  unfolding i32_to_f32 is_nan
  fraction_at i l =
      let d = vdistance from to in
      let u = up_from_one d k.long in
      let h : i ≤ mag (trunc_to_i32 d) = omega (arith, count_size (trunc_to_i32 d)) in
      ⊎_elim (λ e. absurd (subst Number e (quotient (of_int binary32 (pos i)) d (whole_up binary32 i) (whole_to binary32 d i (distance_fits from to) u h) k.long k.short)))
      (λ f. factor_nonnegative (part from to i) f) (part_factor from to i h)

  module _ (a i b : ℕ) (h : a ≤ i) (g : i ≤ b) (l : b ≤ count (trunc_to_i32 (vdistance from to))) where
    coordinate : (x d : Float) → T (finite x) → T (finite d) → Between (point binary32 x d (part from to a)) (point binary32 x d (part from to i)) (point binary32 x d (part from to b))
    coordinate x d X D =
        let u = fraction_at a (omega arith) in
        let v = fraction_at i (omega arith) in
        let w = fraction_at b l in
        let n : (j : ℕ) → NonNegative (part from to j) → Number (point binary32 x d (part from to j)) = λ j s. sum_number x (mul binary32 d (part from to j)) X (placed_number (mul_placed binary32 d (part from to j) D s.bounded)) in
        points_between binary32 x d (part from to a) (part from to i) (part from to b) u v w (part_mono from to a i h u v) (part_mono from to i b g v w) (finite_number d D) (n a u) (n i v) (n b w)

    between-tiles : (w : ℕ) (p q r : Float) → Between p q r → tile_at w p ≡ tile_at w r → tile_at w q ≡ tile_at w p
    between-tiles w p q r (inl z) e = le_antisymm (omega (arith, tile_mono w q r z.1)) (tile_mono w p q z.0)
    between-tiles w p q r (inr z) e = le_antisymm (tile_mono w q p z.1) (omega (arith, tile_mono w r q z.0))

    one_tile : (s : Sides) (ts : List ℕ) → same_tile s (point_at from to (vdistance from to) a) (point_at from to (vdistance from to) b) ≡ true
        → check_point s ts (point_at from to (vdistance from to) i) ≡ check_point s ts (point_at from to (vdistance from to) a)
    unfolding same_tile check_point vmix vadd vmul vsub
    one_tile s ts e =
        let p = point_at from to (vdistance from to) a in
        let q = point_at from to (vdistance from to) b in
        let t = both (same_column s p q) (same_row s p q) e in
        ap₂ (tile_in s ts) (between-tiles s.width _ _ _ (coordinate from.x (sub binary32 to.x from.x) k.x k.way_x) (eqb→eq _ _ (subst T (sym t.0) tt)))
        (between-tiles s.height _ _ _ (coordinate from.y (sub binary32 to.y from.y) k.y k.way_y) (eqb→eq _ _ (subst T (sym t.1) tt)))

-- ---- open turns
module _ (s : Sides) (ts : List ℕ) (from to : vec2) (dist : Float) where
  pub open_here : (i : ℕ) {p : vec2} {t : Tile} {b : Bool} → p ≡ point_at from to dist i → t ≡ check_point s ts p → b ≡ solid t → b ≡ false → OpenTurn s ts from to dist i
  open_here i {p} {t} {b} e f g h = sym (ap (λ (q : vec2). solid (check_point s ts q)) e) ∙ sym (ap solid f) ∙ sym g ∙ h

  pub open_interval : {i : ℕ} (n : ℕ) → Each (OpenTurn s ts from to dist) 0 i → dist ≡ vdistance from to → T (is_bounded_line from to dist) → i < n → n - 1 ≤ count (trunc_to_i32 dist) → OpenTurn s ts from to dist i → same_tile s (point_at from to dist i) (point_at from to dist (n - 1)) ≡ true → Each (OpenTurn s ts from to dist) 0 n
  open_interval {i} n f e t h l o w =
      let d = vdistance from to in
      let K : BoundedLine from to d = bounded_line from to d (subst (λ (x : Float). T (is_bounded_line from to x)) e t) in
      let L : n - 1 ≤ count (trunc_to_i32 d) = subst (λ (x : Float). n - 1 ≤ count (trunc_to_i32 x)) e l in
      let W : same_tile s (point_at from to d i) (point_at from to d (n - 1)) ≡ true = subst (λ (x : Float). same_tile s (point_at from to x i) (point_at from to x (n - 1)) ≡ true) e w in
      each_over n f (omega arith)
      (λ j g k.
      ap (λ (x : Float). solid (check_point s ts (point_at from to x j))) e
      ∙ ap solid (one_tile from to K i j (n - 1) g (omega arith) L s ts W)
      ∙ sym (ap (λ (x : Float). solid (check_point s ts (point_at from to x i))) e) ∙ o)

  pub open_turns : {i : ℕ} (turns : ℕ) → Each (OpenTurn s ts from to dist) 0 i → i ≤ turns → OpenTurns s ts from to dist turns i
  open_turns turns f h = record { within = h; each_open = λ j l. f.each j (omega arith) l }

-- ---- the walk after them
goes_on_lem : (p : vec2) (t : Tile) → solid t ≡ false → or_hit p t ≡ more tt
goes_on_lem p Open h = refl
goes_on_lem p Normal h = absurd (true≢false h)
goes_on_lem p Deadly h = refl
goes_on_lem p Unhookable h = absurd (true≢false h)

pub passed : (s : Sides) (ts : List ℕ) (from to : vec2) (dist : Float) (turns i : ℕ) → i ≤ turns → ((j : ℕ) → j < i → OpenTurn s ts from to dist j) → Left (line_turn s ts from to dist) turns i tt (run (line_turn s ts from to dist) turns 0 tt)
unfolding line_turn
passed s ts from to dist turns zero l h = turn_first
passed s ts from to dist turns (suc i) l h =
    subst (λ (n : ℕ). Left (line_turn s ts from to dist) turns n tt (run (line_turn s ts from to dist) turns 0 tt)) (add-one i)
    (turn_on (passed s ts from to dist turns i (omega arith) (λ j k. h j (omega arith))) (omega arith) (goes_on_lem (point_at from to dist i) (check_point s ts (point_at from to dist i)) (h i (omega arith))))
