-- A map part stands in a text or does not: there is an answer for every text. Assumes nothing.
use Prim.Native.Nat.{ℕ, ◌+◌, ◌*◌, ◌≤◌, ◌<◌}
use mathlib.Core.Path.{◌≡◌, refl, sym, ap, ◌∙◌, subst}
use mathlib.Core.Bool.{Bool, true, false}
use mathlib.Core.List.{List, [], ◌∷◌, ◌++◌, map}
use native.Mathlib.Omega.{arith}
use lib.Dec.{leb, eqb}
use lib.IntN.{ℤ, pos, negsuc}
use lib.ListN.{length, take, drop, length-map}
use lib.Seq.{take_all}
use borrow.Author.Tests.{leb-true, leb-false, eqb-true, eqb-false}
use Rattle.text_decimal.specs.Lines.{All}
use Rattle.text_decimal.specs.Places.{Stands}
use Rattle.text_decimal.specs.Reading.{NumberAt}
use Rattle.text_decimal.proofs.Every.{NextValue, here, absent, NextValues, all_here, not_all, values_some}
use Rattle.text_decimal.proofs.Lines.{front}
use Rattle.text_decimal.proofs.Places.{stands, none, chain, follows}
use Rattle.text_decimal.proofs.Told.{number_some, number_read, number_fault, number_only}
use Rattle.text_map.specs.Map.{most_bytes, IsSide, IsTile, IsMap, size_names, tile_names, call_names, head_bytes, tile_bytes, map_bytes}
use Rattle.text_map.specs.Reading.{MapAt, NameAt, SideAt, HeadAt}
use Rattle.text_map.specs.declared.map_text.MapPart.{MapPart}
use Rattle.text_map.proofs.Heads.{no_number, a-side, no-side, no_names, no-width, no-height, no-tiles, a-head}
use Rattle.text_map.proofs.Maps.{too_long, head_absent, head_read, tiles_absent, names-absent, a-map}
use Rattle.text_map.proofs.Rows.{row_end, row_low, tiles_front, TileValue, tile_i32, tile_absent, tile_values}
use Rattle.std.specs.declared.option.Option.{Option}
use Rattle.std.specs.declared.option.Option.TheVariants.{None, Some}

-- ---- a name
name_some : (name s : List ℕ) (at : ℕ) → (r : Option ℕ) × NameAt name s at r
unfolding NameAt
name_some [] s at = (Some at, none s at)
name_some (b ∷ name) s at = by (drop at s) refl (name_some name s (at + 1))
  where
    more : (r : Option ℕ) → NameAt name s (at + 1) r → Stands (b ∷ []) s at (at + 1) → (r : Option ℕ) × NameAt (b ∷ name) s at r
    more (Some next) h f = (Some next, chain f h)
    more None h f = (None, λ rest e. h rest (follows f (name ++ rest) e))

    first : (x : ℕ) (t : List ℕ) → drop at s ≡ x ∷ t → (q : Bool) → eqb x b ≡ q → (r : Option ℕ) × NameAt name s (at + 1) r → (r : Option ℕ) × NameAt (b ∷ name) s at r
    first x t e true q r = let f = eqb-true x b q in more r.0 r.1 (stands (b ∷ []) s t at (e ∙ ap (λ (y : ℕ). y ∷ t) f))
    first x t e false q r = (None, λ rest g. eqb-false x b q (let k : x ∷ t ≡ b ∷ (name ++ rest) = sym e ∙ g in cc))

    by : (u : List ℕ) → drop at s ≡ u → (r : Option ℕ) × NameAt name s (at + 1) r → (r : Option ℕ) × NameAt (b ∷ name) s at r
    by [] e r = (None, λ rest g. let k : [] ≡ b ∷ (name ++ rest) = sym e ∙ g in let z : ◌≡◌ {A = ℕ} 0 1 = cc in omega arith)
    by (x ∷ t) e r = first x t e (eqb x b) refl r

-- ---- a side
side_some : (stop : ℕ) (s : List ℕ) (at : ℕ) → stop < 48 → (r : Option (ℕ × ℕ)) × SideAt stop s at r
side_some stop s at low = let n = number_some stop s at low in by n.0 n.1
  where
    bounds : (n next : ℕ) (h : NumberAt stop s at (Some (n, next))) (p q : Bool) → leb 1 n ≡ p → leb n 1024 ≡ q → (r : Option (ℕ × ℕ)) × SideAt stop s at r
    bounds n next h true true e f = (Some (n, next), a-side stop s at h n next refl (leb-true 1 n e) (leb-true n 1024 f))
    bounds n next h false q e f = (None, no-side stop s at h n next refl low (λ i. omega (arith, leb-false 1 n e)))
    bounds n next h true false e f = (None, no-side stop s at h n next refl low (λ i. omega (arith, leb-false n 1024 f)))

    by : (n : Option (ℕ × ℕ)) → NumberAt stop s at n → (r : Option (ℕ × ℕ)) × SideAt stop s at r
    by (Some (n, next)) h = bounds n next h (leb 1 n) (leb n 1024) refl refl
    by None h = (None, no_number stop s at h refl)

-- ---- what stands before the tiles
module _ (s : List ℕ) where
  head_tiles : (p : ℕ) → Stands size_names s 0 p → (w q : ℕ) → SideAt 32 s p (Some (w, q)) → (h r : ℕ) → SideAt 10 s q (Some (h, r)) → (x : Option ℕ) → NameAt tile_names s r x → (x : Option (ℕ × ℕ × ℕ)) × HeadAt s x
  unfolding NameAt SideAt
  head_tiles p n w q i h r j (Some at) t = (Some (w, h, at), a-head s p n w q i.0 i.1 h r j.0 j.1 at t)
  head_tiles p n w q i h r j None t = (None, no-tiles s p n w q i.0 i.1 h r j.0 j.1 t)

  head_height : (p : ℕ) → Stands size_names s 0 p → (w q : ℕ) → SideAt 32 s p (Some (w, q)) → (x : Option (ℕ × ℕ)) → SideAt 10 s q x → (x : Option (ℕ × ℕ × ℕ)) × HeadAt s x
  unfolding SideAt
  head_height p n w q i (Some (h, r)) j = let t = name_some tile_names s r in head_tiles p n w q i h r j t.0 t.1
  head_height p n w q i None j = (None, no-height s p n w q i.0 i.1 j)

  head_width : (p : ℕ) → Stands size_names s 0 p → (x : Option (ℕ × ℕ)) → SideAt 32 s p x → (x : Option (ℕ × ℕ × ℕ)) × HeadAt s x
  unfolding SideAt
  head_width p n (Some (w, q)) i = let h = side_some 10 s q (omega arith) in head_height p n w q i h.0 h.1
  head_width p n None i = (None, no-width s p n i)

  head_some : (x : Option (ℕ × ℕ × ℕ)) × HeadAt s x
  unfolding NameAt
  head_some = let n = name_some size_names s 0 in by n.0 n.1
    where
      by : (x : Option ℕ) → NameAt size_names s 0 x → (x : Option (ℕ × ℕ × ℕ)) × HeadAt s x
      by (Some p) n = let w = side_some 32 s p (omega arith) in head_width p n w.0 w.1
      by None n = (None, no_names s n)

-- ---- tiles
over : {n t : ℕ} → 255 < n → t < 256 → n ≡ t → ⊥
over a b e = omega arith

one_tile : (s : List ℕ) (stop place : ℕ) → stop < 48 → NextValue TileValue s stop place
one_tile s stop place low = let r = number_some stop s place low in by r.0 r.1
  where
    bound : (n next : ℕ) → NumberAt stop s place (Some (n, next)) → (q : Bool) → leb n 255 ≡ q → NextValue TileValue s stop place
    bound n next h true e = let k = leb-true n 255 e in here (pos n) next (omega arith) (number_read stop s place n next refl h).1
    bound n next h false e =
        let k = leb-false n 255 e in
        let m = number_read stop s place n next refl h in
        absent (tile_absent s stop place (λ t i rest g. over k i (number_only stop n t rest low m.0 (omega arith) m.1 g).0))

    by : (r : Option (ℕ × ℕ)) → NumberAt stop s place r → NextValue TileValue s stop place
    by (Some (n, next)) h = bound n next h (leb n 255) refl
    by None h = absent (tile_absent s stop place (λ t i. number_fault stop s place refl h t (omega arith)))

-- tiles from their values
of_values : (zs : List ℤ) → All TileValue zs → (ts : List ℕ) × (zs ≡ map pos ts) × All IsTile ts
of_values [] a = ([], refl, tt)
of_values (pos t ∷ zs) a = let r = of_values zs a.1 in (t ∷ r.0, ap (λ (l : List ℤ). pos t ∷ l) r.1, (a.0, r.2))
of_values (negsuc n ∷ zs) a = absurd a.0

-- ---- the map part, with a buffer that holds its tiles
abbrev pub Answered : List ℕ → Type 0
Answered s = (d : List ℕ) × ((r : Option MapPart) × MapAt s d r)

module _ (s : List ℕ) (short : length s ≤ most_bytes) (w h p : ℕ) (i : IsSide w) (j : IsSide h) (there : Stands (head_bytes w h) s 0 p) where
  names_answer : (ts : List ℕ) (q : ℕ) → length ts ≡ w * h → All IsTile ts → Stands (tile_bytes w h ts) s p q → (x : Option ℕ) → NameAt call_names s q x → Answered s
  unfolding NameAt MapAt
  names_answer ts q n a t (Some next) c =
      let m = a-map s w h p i j there ts q n a t next c in
      let all : ts ≡ take (w * h) ts = sym (take_all (w * h) ts (omega arith)) in
      (ts, (Some (record { width = w; height = h; next = next }), subst (λ (us : List ℕ). (length s ≤ most_bytes) × IsMap w h us × Stands (map_bytes w h us) s 0 next) all (short, m.0, m.1)))
  names_answer ts q n a t None c = (ts, (None, names-absent s w h p i j there ts q n a t ts c))

  tiles_answer : NextValues TileValue s (row_end w) (w * h) p → Answered s
  tiles_answer (not_all f) = ([], (None, tiles_absent s w h p i j there [] (λ ts n a rest e. f (map pos ts) (length-map ts pos ∙ n) (tile_values ts a) rest (e ∙ ap (λ (l : List ℕ). l ++ rest) (tiles_front w h ts n)))))
  tiles_answer (all_here zs q l a t) =
      let r = of_values zs a in
      let ts = r.0 in
      let n : length ts ≡ w * h = sym (length-map ts pos) ∙ ap length (sym r.1) ∙ l in
      let c = name_some call_names s q in
      names_answer ts q n r.2 (subst (λ (x : List ℕ). Stands x s p q) (ap (front (row_end w) 0) r.1 ∙ sym (tiles_front w h ts n)) t) c.0 c.1

pub map_some : (s : List ℕ) → Answered s
map_some s = by (leb (length s) most_bytes) refl
  where
    after : length s ≤ most_bytes → (x : Option (ℕ × ℕ × ℕ)) → HeadAt s x → Answered s
    after short (Some (w, h, p)) e = let k = head_read s w h p refl e in tiles_answer s short w h p k.0 k.1 k.2 (values_some TileValue tile_i32 s (row_end w) (row_low w) (one_tile s) (w * h) p)
    after short None e = ([], (None, head_absent s [] refl e))

    by : (q : Bool) → leb (length s) most_bytes ≡ q → Answered s
    by true e = let x = head_some s in after (leb-true (length s) most_bytes e) x.0 x.1
    by false e = ([], (None, too_long s [] (leb-false (length s) most_bytes e)))
