-- Laws of tiles: rows of values are values one after another. Assumes nothing.
use Prim.Native.Nat.{ℕ, zero, suc, ◌+◌, ◌*◌, ◌%◌, ◌≤◌, ◌<◌}
use mathlib.Core.Path.{◌≡◌, refl, sym, ap, ◌∙◌}
use mathlib.Core.List.{List, [], ◌∷◌, ◌++◌, map, map-append}
use native.Mathlib.Nat.{mul-suc, mod-eq_of_lt, add-mul-mod_self_left}
use native.Mathlib.Omega.{arith}
use lib.IntN.{ℤ, pos, negsuc, nat_abs}
use lib.ListN.{length, take, drop, length-map, length-drop, take-append-drop}
use lib.Seq.{length-take-le}
use Rattle.num_convert.specs.Casts.{IsI32}
use Rattle.text_decimal.specs.Decimal.{digits, written}
use Rattle.text_decimal.specs.Lines.{end_byte, ended, line, All}
use Rattle.text_decimal.specs.Places.{Absent}
use Rattle.text_decimal.proofs.Lines.{front, front_append, front-unique, front_long, end_low, all_map}
use Rattle.text_map.specs.Map.{IsTile, tile_bytes}

-- the byte that ends a tile with r tiles still to come, in rows of w
abbrev pub row_end : ℕ → ℕ → ℕ
row_end w r = end_byte (r % w)

pub row_low : (w r : ℕ) → row_end w r < 48
row_low w r = end_low (r % w)

-- a row before h others is a line
row_line : (w h : ℕ) (zs : List ℤ) → length zs ≤ w → front (row_end w) (w * h) zs ≡ line zs
row_line w h [] l = refl
row_line w h (z ∷ zs) l =
    let m : (length zs + w * h) % w ≡ length zs = add-mul-mod_self_left (length zs) w h ∙ mod-eq_of_lt l in
    simp (m, row_line w h zs (omega arith))

pub tiles_front : (w h : ℕ) (ts : List ℕ) → length ts ≡ w * h → tile_bytes w h ts ≡ front (row_end w) 0 (map pos ts)
unfolding tile_bytes
tiles_front w zero [] l = refl
tiles_front w zero (t ∷ ts) l = absurd (omega arith)
tiles_front w (suc h) ts l =
    let n : length ts ≡ w * h + w = l ∙ mul-suc w h in
    let m : length (drop w ts) ≡ w * h = omega (arith, length-drop w ts) in
    let k : length (map pos (drop w ts)) + 0 ≡ w * h = omega (arith, length-map (drop w ts) pos) in
    let row : length (map pos (take w ts)) ≤ w = omega (arith, length-map (take w ts) pos, length-take-le w ts (omega arith)) in
    ap (λ (l : List ℕ). line (map pos (take w ts)) ++ l) (tiles_front w h (drop w ts) m)
    ∙ sym (
    ap (λ (us : List ℕ). front (row_end w) 0 (map pos us)) (sym (take-append-drop w ts))
    ∙ ap (front (row_end w) 0) (map-append pos (take w ts) (drop w ts))
    ∙ front_append (row_end w) 0 (map pos (take w ts)) (map pos (drop w ts))
    ∙ ap (λ (r : ℕ). front (row_end w) r (map pos (take w ts)) ++ front (row_end w) 0 (map pos (drop w ts))) k
    ∙ ap (λ (l : List ℕ). l ++ front (row_end w) 0 (map pos (drop w ts))) (row_line w h (map pos (take w ts)) row)
    )

-- a tile as a value
abbrev pub TileValue : ℤ → Type 0
TileValue (pos t) = IsTile t
TileValue (negsuc n) = ⊥

pub tile_i32 : (z : ℤ) → TileValue z → IsI32 z
tile_i32 (pos t) h = omega arith
tile_i32 (negsuc n) h = absurd h

pub tile_absent : (s : List ℕ) (stop place : ℕ) → ((t : ℕ) → IsTile t → Absent (ended (digits 10 t) stop) s place) → (z : ℤ) → TileValue z → Absent (ended (written z) stop) s place
tile_absent s stop place f (pos t) h = f t h
tile_absent s stop place f (negsuc n) h = absurd h

pub tile_values : (ts : List ℕ) → All IsTile ts → All TileValue (map pos ts)
tile_values [] a = tt
tile_values (t ∷ ts) a = (a.0, tile_values ts a.1)

back : (ts : List ℕ) → map nat_abs (map pos ts) ≡ ts
back [] = refl
back (t ∷ ts) = ap (λ (us : List ℕ). t ∷ us) (back ts)

-- the same tiles
pub tiles_unique : (w h : ℕ) (ts us p q : List ℕ) → length ts ≡ w * h → length us ≡ w * h → All IsTile ts → All IsTile us → tile_bytes w h ts ++ p ≡ tile_bytes w h us ++ q → ts ≡ us
tiles_unique w h ts us p q m n a b e =
    let d = ap (λ (l : List ℕ). l ++ p) (sym (tiles_front w h ts m)) ∙ e ∙ ap (λ (l : List ℕ). l ++ q) (tiles_front w h us n) in
    let l : length (map pos ts) ≡ length (map pos us) = omega (arith, length-map ts pos, length-map us pos) in
    let f = front-unique (row_end w) (row_low w) 0 (map pos ts) (map pos us) p q l (all_map tile_i32 (map pos ts) (tile_values ts a)) (all_map tile_i32 (map pos us) (tile_values us b)) d in
    sym (back ts) ∙ ap (map nat_abs) f ∙ back us

-- two bytes a tile at least
pub tiles_long : (w h : ℕ) (ts : List ℕ) → length ts ≡ w * h → 2 * length ts ≤ length (tile_bytes w h ts)
tiles_long w h ts l = let f = front_long (row_end w) 0 (map pos ts) in omega (arith, length-map ts pos, ap length (tiles_front w h ts l))
