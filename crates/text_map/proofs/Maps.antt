-- Laws of the map part: what reading answers, and that no two maps are written alike. Assumes nothing.
use Prim.Native.Nat.{ℕ, ◌+◌, ◌*◌, ◌≤◌, ◌<◌}
use mathlib.Core.Path.{◌≡◌, refl, sym, ap, ◌∙◌, subst}
use mathlib.Core.List.{List, [], ◌∷◌, ◌++◌, append_assoc, append_cancel_left}
use native.Mathlib.Omega.{arith}
use lib.IntN.{pos}
use lib.ListN.{length, take, drop, length-append, length-drop}
use Rattle.text_decimal.specs.Lines.{line, All}
use Rattle.text_decimal.specs.Places.{Stands, Absent}
use Rattle.text_decimal.proofs.Lines.{line_unique}
use Rattle.text_decimal.proofs.Places.{stands, chain, follows}
use Rattle.text_map.specs.Map.{most_bytes, most_tiles, IsSide, IsTile, IsMap, size_names, tile_names, call_names, head_bytes, tile_bytes, map_bytes}
use Rattle.text_map.specs.Reading.{MapAt, HeadAt, TilesAt}
use Rattle.text_map.specs.declared.map_text.MapPart.{MapPart}
use Rattle.text_map.proofs.Rows.{tiles_unique, tiles_long}
use Rattle.std.specs.declared.option.Option.{Option}
use Rattle.std.specs.declared.option.Option.TheVariants.{None, Some}

-- ---- no two maps are written alike
head_unique : (w h v g : ℕ) (p q : List ℕ) → IsSide w → IsSide h → IsSide v → IsSide g → head_bytes w h ++ p ≡ head_bytes v g ++ q → (w ≡ v) × (h ≡ g)
head_unique w h v g p q i j k l e =
    let split : (w h : ℕ) (p : List ℕ) → head_bytes w h ++ p ≡ size_names ++ (line (pos w ∷ pos h ∷ []) ++ (tile_names ++ p)) = λ w h p. ap (λ (x : List ℕ). size_names ++ x) (append_assoc (line (pos w ∷ pos h ∷ [])) tile_names p) in
    let d = append_cancel_left size_names (line (pos w ∷ pos h ∷ []) ++ (tile_names ++ p)) (line (pos v ∷ pos g ∷ []) ++ (tile_names ++ q)) (sym (split w h p) ∙ e ∙ split v g q) in
    let f : pos w ∷ pos h ∷ [] ≡ pos v ∷ pos g ∷ [] = line_unique (pos w ∷ pos h ∷ []) (pos v ∷ pos g ∷ []) _ _ refl (omega arith, (omega arith, tt)) (omega arith, (omega arith, tt)) d in
    (cc, cc)

map_split : (w h : ℕ) (ts rest : List ℕ) → map_bytes w h ts ++ rest ≡ head_bytes w h ++ (tile_bytes w h ts ++ (call_names ++ rest))
unfolding map_bytes
map_split w h ts rest = append_assoc (head_bytes w h) (tile_bytes w h ts ++ call_names) rest ∙ ap (λ (x : List ℕ). head_bytes w h ++ x) (append_assoc (tile_bytes w h ts) call_names rest)

-- a map that is there begins with the head that is there
module _ (s : List ℕ) (w h p : ℕ) (i : IsSide w) (j : IsSide h) (head : Stands (head_bytes w h) s 0 p) where
  past_head : (v g : ℕ) (ts rest : List ℕ) → IsMap v g ts → drop 0 s ≡ map_bytes v g ts ++ rest → (w ≡ v) × (h ≡ g) × (drop p s ≡ tile_bytes w h ts ++ (call_names ++ rest))
  past_head v g ts rest m e =
      let d = e ∙ map_split v g ts rest in
      let k = head_unique w h v g (drop p s) (tile_bytes v g ts ++ (call_names ++ rest)) i j m.width m.height (sym head.bytes ∙ d) in
      let a = k.0 in
      let b = k.1 in
      let f : map_bytes v g ts ++ rest ≡ head_bytes w h ++ (tile_bytes w h ts ++ (call_names ++ rest)) = ap (λ (x : ℕ). map_bytes x g ts ++ rest) (sym a) ∙ ap (λ (x : ℕ). map_bytes w x ts ++ rest) (sym b) ∙ map_split w h ts rest in
      (a, b, follows head (tile_bytes w h ts ++ (call_names ++ rest)) (e ∙ f))

  counted : (v g : ℕ) (ts : List ℕ) → w ≡ v → h ≡ g → IsMap v g ts → length ts ≡ w * h
  counted v g ts a b m = m.count ∙ ap (λ (x : ℕ). x * g) (sym a) ∙ ap (λ (x : ℕ). w * x) (sym b)

  -- ---- what reading answers past the head
  pub too_many : (d : List ℕ) → most_tiles < w * h → MapAt s d None
  unfolding MapAt
  too_many d big = λ short v g ts m rest e.
      let k = past_head v g ts rest m e in
      let n = counted v g ts k.0 k.1 m in
      let l = ap length k.2 in
      let long = tiles_long w h ts n in
      let parts = length-append (tile_bytes w h ts) (call_names ++ rest) in
      let left = length-drop p s in
      over n long (omega arith) short big
    where
      over : {c t : ℕ} → t ≡ w * h → 2 * t ≤ c → c ≤ length s → length s ≤ most_bytes → most_tiles < w * h → ⊥
      over e f g i j = let x : ℕ = w * h in omega arith

  pub tiles_absent : (d : List ℕ) → ((ts : List ℕ) → length ts ≡ w * h → All IsTile ts → Absent (tile_bytes w h ts) s p) → MapAt s d None
  unfolding MapAt
  tiles_absent d f = λ short v g ts m rest e. let k = past_head v g ts rest m e in f ts (counted v g ts k.0 k.1 m) m.tiles (call_names ++ rest) k.2

  module _ (us : List ℕ) (q : ℕ) (n : length us ≡ w * h) (a : All IsTile us) (tiles : Stands (tile_bytes w h us) s p q) where
    past-tiles : (v g : ℕ) (ts rest : List ℕ) → IsMap v g ts → drop 0 s ≡ map_bytes v g ts ++ rest → drop q s ≡ call_names ++ rest
    past-tiles v g ts rest m e =
        let k = past_head v g ts rest m e in
        let same = tiles_unique w h us ts (drop q s) (call_names ++ rest) n (counted v g ts k.0 k.1 m) a m.tiles (sym tiles.bytes ∙ k.2) in
        follows tiles (call_names ++ rest) (k.2 ∙ ap (λ (x : List ℕ). tile_bytes w h x ++ (call_names ++ rest)) (sym same))

    pub names-absent : (d : List ℕ) → Absent call_names s q → MapAt s d None
    unfolding MapAt
    names-absent d f = λ short v g ts m rest e. f rest (past-tiles v g ts rest m e)

    pub a-map : (next : ℕ) → Stands call_names s q next → IsMap w h us × Stands (map_bytes w h us) s 0 next
    unfolding map_bytes
    a-map next names = (record { width = i; height = j; count = n; tiles = a }, chain head (chain tiles names))

pub map_unique : (w h v g : ℕ) (us ts p q : List ℕ) → IsMap w h us → IsMap v g ts → map_bytes w h us ++ p ≡ map_bytes v g ts ++ q → (w ≡ v) × (h ≡ g) × (us ≡ ts)
map_unique w h v g us ts p q m n e =
    let s : List ℕ = map_bytes w h us ++ p in
    let t : List ℕ = tile_bytes w h us ++ (call_names ++ p) in
    let there = stands (head_bytes w h) s t 0 (map_split w h us p) in
    let k = past_head s w h (0 + length (head_bytes w h)) m.width m.height there v g ts q n e in
    let c = counted s w h (0 + length (head_bytes w h)) m.width m.height there v g ts k.0 k.1 n in
    (k.0, k.1, tiles_unique w h us ts (call_names ++ p) (call_names ++ q) m.count c m.tiles n.tiles (sym (follows there t (map_split w h us p)) ∙ k.2))

-- ---- what reading answers
pub too_long : (s d : List ℕ) → most_bytes < length s → MapAt s d None
unfolding MapAt
too_long s d h = λ short. absurd (omega arith)

pub head_absent : (s d : List ℕ) {r : Option (ℕ × ℕ × ℕ)} → r ≡ None → HeadAt s r → MapAt s d None
unfolding HeadAt MapAt
head_absent s d e f = λ short w h ts m rest q. subst (HeadAt s) e f w h m.width m.height (tile_bytes w h ts ++ (call_names ++ rest)) (q ∙ map_split w h ts rest)

pub head_read : (s : List ℕ) (w h next : ℕ) {r : Option (ℕ × ℕ × ℕ)} → r ≡ Some (w, h, next) → HeadAt s r → IsSide w × IsSide h × Stands (head_bytes w h) s 0 next
unfolding HeadAt
head_read s w h next e f = subst (HeadAt s) e f

pub tiles_read : (w h : ℕ) (s : List ℕ) (at : ℕ) (d : List ℕ) (next : ℕ) {r : Option ℕ} → r ≡ Some next → TilesAt w h s at d r → All IsTile (take (w * h) d) × Stands (tile_bytes w h (take (w * h) d)) s at next
unfolding TilesAt
tiles_read w h s at d next e f = subst (TilesAt w h s at d) e f

pub tiles_fault : (w h : ℕ) (s : List ℕ) (at : ℕ) (d : List ℕ) {r : Option ℕ} → r ≡ None → TilesAt w h s at d r → (ts : List ℕ) → length ts ≡ w * h → All IsTile ts → Absent (tile_bytes w h ts) s at
unfolding TilesAt
tiles_fault w h s at d e f = subst (TilesAt w h s at d) e f

pub map_read : (s d : List ℕ) (p : MapPart) {r : Option MapPart} → r ≡ Some p → MapAt s d r → (length s ≤ most_bytes) × IsMap p.width p.height (take (p.width * p.height) d) × Stands (map_bytes p.width p.height (take (p.width * p.height) d)) s 0 p.next
unfolding MapAt
map_read s d p e f = subst (MapAt s d) e f

pub map_fault : (s d : List ℕ) {r : Option MapPart} → r ≡ None → MapAt s d r → length s ≤ most_bytes → (w h : ℕ) (ts : List ℕ) → IsMap w h ts → Absent (map_bytes w h ts) s 0
unfolding MapAt
map_fault s d e f = subst (MapAt s d) e f
