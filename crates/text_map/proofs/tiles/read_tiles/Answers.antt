use Prim.Native.Nat.{ℕ, ◌+◌, ◌*◌, ◌-◌, ◌≤◌, ◌<◌}
use mathlib.Core.Path.{◌≡◌, refl, sym, ap, ◌∙◌, subst}
use mathlib.Core.List.{List, [], ◌∷◌, ◌++◌, map, map-append}
use native.Mathlib.Nat.{lt_of_le_of_lt}
use native.Mathlib.Numerals.{add-one}
use native.Mathlib.Omega.{arith}
use lib.IntN.{ℤ, pos}
use lib.ListN.{length, take, set, length-set, length-map}
use lib.Seq.{length-take-le, take-suc-set}
use borrow.Author.Rules.{rules}
use Rattle.text_decimal.specs.Decimal.{digits}
use Rattle.text_decimal.specs.Lines.{ended, All}
use Rattle.text_decimal.specs.Places.{Stands, Absent}
use Rattle.text_decimal.proofs.Lines.{all_append, Begun, begun_none, begun_more, begun-not, begun_whole}
use Rattle.text_decimal.proofs.Told.{number_read, number_fault, number_only}
use Rattle.text_map.specs.Map.{IsTile, tile_bytes}
use Rattle.text_map.specs.Reading.{TilesAt}
use Rattle.std.specs.declared.option.Option.TheVariants.{None}
use Rattle.text_map.proofs.Rows.{row_end, row_low, tiles_front, TileValue, tile_i32, tile_absent, tile_values}
use Rattle.text_map.proofs.tiles.read_tiles.Goals as goal

-- as many values were read as there were turns
passed : (d : List ℕ) {i n : ℕ} → i < n → n ≤ length d → length (map pos (take i d)) ≡ i
passed d {i} h k = length-map (take i d) pos ∙ length-take-le i d (omega arith)

same_end : (w : ℕ) {n i k : ℕ} → i < n → k ≡ i → row_end w (n - 1 - i) ≡ row_end w (n - (k + 1))
same_end w {n} {i} {k} h e = ap (row_end w) (less n i k h e)
  where
    less : (n i k : ℕ) → i < n → k ≡ i → n - 1 - i ≡ n - (k + 1)
    less n i k h e = omega arith

-- the byte that ends the tile
low : (w r : ℕ) {b : ℕ} → b ≡ row_end w r → b < 48
low w r e = subst (λ (x : ℕ). x < 48) (sym e) (row_low w r)

module _ (w h : ℕ) (d s : List ℕ) (at place i stop : ℕ) (here : i < w * h) (room : w * h ≤ length d) (is : stop ≡ row_end w (w * h - 1 - i)) where
  stop_is : stop ≡ row_end w (w * h - (length (map pos (take i d)) + 1))
  stop_is = is ∙ same_end w here (passed d here room)

  -- where no tile comes next, the tiles are not there
  none_next : Begun (row_end w) (w * h) (map pos (take i d)) s at place → ((t : ℕ) → IsTile t → Absent (ended (digits 10 t) stop) s place) → TilesAt w h s at d None
  unfolding TilesAt
  none_next begun f = λ ts n g rest e.
      let p = passed d here room in
      begun-not begun (omega arith) (row_low w) TileValue tile_i32 (
      tile_absent s _ place (λ t k. subst (λ (b : ℕ). Absent (ended (digits 10 t) b) s place) stop_is (f t k))
      ) (map pos ts) (length-map ts pos ∙ n) (tile_values ts g) rest (e ∙ ap (λ (l : List ℕ). l ++ rest) (tiles_front w h ts n))

above : {n t : ℕ} → 255 < n → t < 256 → n ≡ t → ⊥
above a b e = omega arith

pub overflow_mul-count : goal.overflow_mul-count
overflow_mul-count c = record { fits = lt_of_le_of_lt c.requires.1 (search rules) }

pub loop-i-init : goal.loop-i-init
loop-i-init c = (omega arith, refl, refl, tt, begun_none _ _ _ _)

pub read_number-requires : goal.read_number-requires
read_number-requires c = low _ _ c.end_byte.ensures

pub returns-in_err-n : goal.returns-in_err-n
returns-in_err-n c =
    let a = c.args in
    let l = c.loop-i in
    rw c.from_residual.ensures (none_next a.width a.height l.tiles a.text.now a.at l.place l.i c.end_byte.result c.loop-i-test.true (omega arith) c.end_byte.ensures l.invariant.4 (λ t h. number_fault _ _ _ refl c.in_err-n.ensures t (omega arith)))

pub returns-then-n-gt255 : goal.returns-then-n-gt255
returns-then-n-gt255 c =
    let a = c.args in
    let l = c.loop-i in
    let n = number_read _ _ _ _ _ refl c.in_ok-n.ensures in
    none_next a.width a.height l.tiles a.text.now a.at l.place l.i c.end_byte.result c.loop-i-test.true (omega arith) c.end_byte.ensures l.invariant.4 (λ t h rest e. above c.if-n-gt255.true h (number_only _ _ t rest (low _ _ c.end_byte.ensures) n.0 (omega arith) n.1 e).0)

pub loop-i-preserved : goal.loop-i-preserved
loop-i-preserved c =
    let a = c.args in
    let l = c.loop-i in
    let d = l.tiles in
    let i = l.i in
    let n = c.in_ok-n.n in
    let next = c.in_ok-n.next in
    let t = number_read _ _ _ _ _ refl c.in_ok-n.ensures in
    let room : a.width * a.height ≤ length d = omega arith in
    let m = passed d c.loop-i-test.true room in
    let f : take (i + 1) (set d i n) ≡ take i d ++ (n ∷ []) = rw add-one (take-suc-set d i n (omega arith)) in
    let g : map pos (take (i + 1) (set d i n)) ≡ map pos (take i d) ++ (pos n ∷ []) = ap (map pos) f ∙ map-append pos (take i d) (n ∷ []) in
    let e = stop_is a.width a.height d a.text.now a.at l.place i c.end_byte.result c.loop-i-test.true room c.end_byte.ensures in
    let b = begun_more l.invariant.4 (omega arith) (pos n) next (omega arith) (subst (λ (x : ℕ). Stands (ended (digits 10 n) x) a.text.now l.place next) e t.1) in (
      omega arith,
      l.invariant.1,
      length-set d i n ∙ l.invariant.2,
      subst (All IsTile) (sym f) (all_append IsTile (take i d) (n ∷ []) l.invariant.3 (omega arith, tt)),
      subst (λ (zs : List ℤ). Begun (row_end a.width) (a.width * a.height) zs a.text.now a.at next) (sym g) b,
    )

pub returns : goal.returns
unfolding TilesAt
returns c =
    let a = c.args in
    let l = c.loop-i in
    let d = l.tiles in
    let i : l.i ≡ a.width * a.height = omega arith in
    let n : length (take l.i d) ≡ a.width * a.height = length-take-le l.i d (omega arith) ∙ i in
    let w = begun_whole l.invariant.4 (length-map (take l.i d) pos ∙ n) in
    subst (λ (k : ℕ). All IsTile (take k d) × Stands (tile_bytes a.width a.height (take k d)) a.text.now a.at l.place) i
    (l.invariant.3, subst (λ (x : List ℕ). Stands x a.text.now a.at l.place) (sym (tiles_front a.width a.height (take l.i d) n)) w)
