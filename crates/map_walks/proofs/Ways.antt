-- What the test of a way rests on: a scan of numbers, the tiles between two coordinates, and that a box meets nothing on a way that is seen to be clear. Assumes nothing.
use mathlib.Core.Path.{◌≡◌, refl, sym, ap, ◌∙◌, subst}
use mathlib.Core.Logic.{inl, inr}
use mathlib.Core.Bool.{Bool, true, false, not, cond, ◌&&◌, ◌||◌, true≢false}
use mathlib.Core.List.{List}
use Prim.Native.Nat.{ℕ, zero, suc, ◌+◌, ◌-◌, ◌≤◌, ◌<◌}
use native.Mathlib.Nat.{eq-or-lt_of_le}
use native.Mathlib.Omega.{arith}
use lib.Dec.{T}
use lib.Ieee.{Float, nan, inf, fin, binary32, add, sub, le, of_bits}
use lib.Ieee.Bits.{is_false}
use lib.Ieee.Fits.{and_l, and_r}
use lib.Ieee.Scale.{finite}
use Rattle.num_convert.specs.Number.{c0}
use Rattle.num_vec2.specs.declared.vec2.{vec2}
use Rattle.num_vec2.specs.Vec2.{vmul}
use Rattle.num_order.proofs.Chain.{Between, Number, le_left, le_right, le_trans, nought}
use Rattle.map_corners.specs.Tile.{tile_at}
use Rattle.map_tiles.specs.declared.tiles.Sides.{Sides}
use Rattle.map_tiles.specs.Map.{tile_in, solid}
use Rattle.map_tiles.specs.Box.{half, check_box}
use Rattle.map_tiles.proofs.Edges.{Over, edges, no_corner, tile_minus, tile_plus}
use Rattle.map_walks.specs.declared.way.Span.{Span}
use Rattle.map_walks.specs.Way.{any, any_in, c1024, has_span, is_clear_way, solid_among, solid_in_row, span_from, span_of}

-- ---- the scan from i to l: it goes on, ends with a yes, or ends at l
more : (l i : ℕ) → i ≤ l → l + 1 - i ≡ suc (l + 1 - (i + 1))
more l i h = omega arith

no_more : (l i : ℕ) → l < i → l + 1 - i ≡ 0
no_more l i h = omega arith

module _ (f : ℕ → Bool) (l i : ℕ) where
  one : i ≤ l → any f (l + 1 - i) i ≡ (f i || any f (l + 1 - (i + 1)) (i + 1))
  unfolding any
  one h = ap (λ (n : ℕ). any f n i) (more l i h) ∙ ap (λ (j : ℕ). f i || any f (l + 1 - (i + 1)) j) (omega arith)

  pub scan_on : i ≤ l → f i ≡ false → any f (l + 1 - i) i ≡ any f (l + 1 - (i + 1)) (i + 1)
  scan_on h e = one h ∙ ap (λ (b : Bool). b || any f (l + 1 - (i + 1)) (i + 1)) e

  pub scan_yes : i ≤ l → f i ≡ true → any f (l + 1 - i) i ≡ true
  scan_yes h e = one h ∙ ap (λ (b : Bool). b || any f (l + 1 - (i + 1)) (i + 1)) e

  pub scan_end : l < i → any f (l + 1 - i) i ≡ false
  unfolding any
  scan_end h = ap (λ (n : ℕ). any f n i) (no_more l i h)

none_of : (f : ℕ → Bool) (n i : ℕ) → any f n i ≡ false → (k : ℕ) → i ≤ k → k < n + i → f k ≡ false
unfolding any
none_of f zero i e k l h = absurd (omega arith)
none_of f (suc n) i e k l h = go (f i) refl e (λ q j. none_of f n (suc i) q k j (omega arith))
  where
    go : (b : Bool) → f i ≡ b → (b || any f n (suc i)) ≡ false → (any f n (suc i) ≡ false → i < k → f k ≡ false) → f k ≡ false
    go true p q r = absurd (true≢false q)
    go false p q r = elim (eq-or-lt_of_le l) [ inl j ↦ subst (λ (m : ℕ). f m ≡ false) j p | inr j ↦ r q j ]

none_in : (f : ℕ → Bool) (s : Span) → any_in f s ≡ false → (k : ℕ) → s.first ≤ k → k ≤ s.last → f k ≡ false
none_in f s e k l h = none_of f _ s.first e k l (omega arith)

none_among : (s : Sides) (ts : List ℕ) (columns rows : Span) → solid_among s ts columns rows ≡ false → (c r : ℕ) → columns.first ≤ c → c ≤ columns.last → rows.first ≤ r → r ≤ rows.last → solid (tile_in s ts c r) ≡ false
unfolding solid_among solid_in_row
none_among s ts columns rows e c r l m t b = none_in (λ i. solid (tile_in s ts i r)) columns (none_in (λ j. any_in (λ i. solid (tile_in s ts i j)) columns) rows e r t b) c l m

-- ---- what a span is known for
record Known (h b : Float) : Type 0 where
  above : T (le nought h)
  small : T (finite h)
  end : Number b

known : (h b : Float) → T (has_span h b) → Known h b
unfolding has_span le of_bits
known h b t =
    let u : T (le c0 h && le h c1024) = and_l (le c0 h && le h c1024) (le b b) t in
    let p = and_l (le c0 h) (le h c1024) u in
    record { above = p; small = ends h p (and_r (le c0 h) (le h c1024) u); end = le_left b b (and_r (le c0 h && le h c1024) (le b b) t) }
  where
    ends : (x : Float) → T (le c0 x) → T (le x c1024) → T (finite x)
    ends nan p q = p
    ends (inf true) p q = p
    ends (inf false) p q = q
    ends (fin s m e) p q = tt

-- ---- the tiles between two coordinates
between_number : (a z b : Float) → Between a z b → Number z
between_number a z b (inl w) = le_right a z w.0
between_number a z b (inr w) = le_left z a w.1

-- of two in a known order
ordered : (c : Bool) (a z b : Float) → le a b ≡ c → Between a z b → T (le (cond c a b) z) × T (le z (cond c b a))
ordered true a z b e (inl w) = w
ordered true a z b e (inr w) = let l = subst T (sym e) tt in (le_trans a b z l w.0, le_trans z a b w.1 l)
ordered false a z b e (inl w) = absurd (subst T e (le_trans a z b w.0 w.1))
ordered false a z b e (inr w) = w

span_over : (side : ℕ) (h a z b : Float) → Known h b → Between a z b → Over side h z (span_of side h a b).first (span_of side h a b).last
unfolding span_of
span_over side h a z b k w = go (le a b) refl
  where
    from : (lo hi : Float) → T (le lo z) × T (le z hi) → Over side h z (tile_at side (sub binary32 lo h)) (tile_at side (add binary32 hi h))
    from lo hi v = record {
      low = tile_minus side lo z h v.0 k.small;
      between = edges side z h (between_number a z b w) k.above k.small;
      high = tile_plus side z hi h v.1 k.small;
    }

    go : (c : Bool) → le a b ≡ c → Over side h z (cond c (span_from side h a b) (span_from side h b a)).first (cond c (span_from side h a b) (span_from side h b a)).last
    go true e = from a b (ordered true a z b e w)
    go false e = from b a (ordered false a z b e w)

-- ---- a way that is seen to be clear
-- where no tile that it can be over is solid a box is clear
clear_over : (s : Sides) (ts : List ℕ) (p box : vec2) (columns rows : Span) → Over s.width (vmul box half).x p.x columns.first columns.last → Over s.height (vmul box half).y p.y rows.first rows.last → solid_among s ts columns rows ≡ false → check_box s ts p box ≡ false
unfolding check_box
clear_over s ts p box columns rows x y e = no_corner solid s ts p box columns.first columns.last rows.first rows.last x y (none_among s ts columns rows e)

pub record Seen (s : Sides) (ts : List ℕ) (a b box : vec2) : Type 0 where
  pub end_x : Number b.x
  pub end_y : Number b.y
  pub clear : (p : vec2) → Between a.x p.x b.x → Between a.y p.y b.y → check_box s ts p box ≡ false

pub seen : (s : Sides) (ts : List ℕ) (a b box : vec2) → is_clear_way s ts a b box ≡ true → Seen s ts a b box
unfolding is_clear_way
seen s ts a b box e =
    let h = vmul box half in
    let columns = span_of s.width h.x a.x b.x in
    let rows = span_of s.height h.y a.y b.y in
    let x : Bool = has_span h.x b.x in
    let y : Bool = has_span h.y b.y in
    let n : Bool = not (solid_among s ts columns rows) in
    let t : T (x && y && n) = subst T (sym e) tt in
    let kx = known h.x b.x (and_l x y (and_l (x && y) n t)) in
    let ky = known h.y b.y (and_r x y (and_l (x && y) n t)) in
    record {
      end_x = kx.end;
      end_y = ky.end;
      clear = λ p i j. clear_over s ts p box columns rows (span_over s.width h.x a.x p.x b.x kx i) (span_over s.height h.y a.y p.y b.y ky j) (is_false (solid_among s ts columns rows) (and_r (x && y) n t));
    }
