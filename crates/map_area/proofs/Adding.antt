-- A change added to the totals row by row. Assumes nothing.
use Rattle.std.proofs.Common.{◌≡◌, ℕ, zero, suc, ◌+◌, ◌-◌, ◌*◌, ◌<◌, ◌≤◌, Bool, true, false, cond, ◌&&◌, ltb, leb, ◌⊎◌, List, [], ◌∷◌, ◌++◌, map, length, get_or, take, drop, sym, refl, ap, ◌∙◌, inl, inr, ⊎_elim, mul-le-mul_right, suc-mul, mul_comm, eq-or-lt_of_le, lt_of_not-le, arith, length-drop, length-take-le, get_or-drop, get_or-take, drop-drop, ltb-true, le-ltb, lt-ltb, le-leb}
use native.Mathlib.Decide.{dec_le}
use lib.Arith.{digits_lt}
use lib.ListN.{get_or-append}
use borrow.Author.Tests.{lt-leb}
use borrow.Rule.Slice.PartMut.{mid_of, put_mid, same_len_mid}
use Rattle.base_rows.specs.Put.{put}
use Rattle.base_rows.proofs.Puts.{drop-put, put_else}
use Rattle.map_tiles.specs.declared.tiles.Sides.{Sides}
use Rattle.map_totals.specs.Area.{by_tile, added, reached, changed_totals}
use Rattle.map_totals.proofs.Tables.{length-by_tile, at-by_tile, all-by_tile}

-- ---- a part of a list, each element of it replaced

length-map : (f : ℕ → ℕ) (l : List ℕ) → length (map f l) ≡ length l
length-map f [] = refl
length-map f (x ∷ l) = ap suc (length-map f l)

at_map : (f : ℕ → ℕ) (l : List ℕ) (i : ℕ) → i < length l → get_or (map f l) i 0 ≡ f (get_or l i 0)
at_map f [] i h = absurd (omega arith)
at_map f (x ∷ l) zero h = refl
at_map f (x ∷ l) (suc i) h = at_map f l i (omega arith)

module _ (f : ℕ → ℕ) (l : List ℕ) (a k : ℕ) (h : a + k ≤ length l) where
  part : List ℕ
  part = map f (mid_of a k l)

  long : length part ≡ k
  unfolding part
  long = length-map f (mid_of a k l) ∙ length-take-le k (drop a l) (omega (arith, length-drop a l))

  as_put : put_mid a k l part ≡ put l a part
  unfolding put
  as_put = ap (λ (r : List ℕ). take a l ++ (part ++ r)) (drop-drop k a l ∙ ap (λ (n : ℕ). drop (a + n) l) (sym long))

  pub part_else : (i : ℕ) → (i < a) ⊎ (a + k ≤ i) → get_or (put_mid a k l (map f (mid_of a k l))) i 0 ≡ get_or l i 0
  unfolding part
  part_else i q = let n = long in ap (λ (r : List ℕ). get_or r i 0) as_put ∙ put_else l a part i 0 (omega arith) (⊎_elim inl (λ p. inr (omega arith)) q)

  pub part_in : (i : ℕ) → i < k → get_or (put_mid a k l (map f (mid_of a k l))) (a + i) 0 ≡ f (get_or l (a + i) 0)
  unfolding part
  part_in i q =
      let n = long in
      ap (λ (r : List ℕ). get_or r (a + i) 0) as_put
      ∙ sym (get_or-drop a (put l a part) i 0)
      ∙ ap (λ (r : List ℕ). get_or r i 0) (drop-put l a part (omega arith))
      ∙ get_or-append part (drop (a + length part) l) 0 i (omega arith)
      ∙ at_map f (mid_of a k l) i (omega (arith, length-map f (mid_of a k l)))
      ∙ ap f (get_or-take k (drop a l) i 0 q ∙ get_or-drop a l i 0)

-- ---- rows of totals

module _ (s : Sides) (t : List ℕ) (column row n : ℕ) where
  abbrev was : ℕ → ℕ → ℕ
  was c r = get_or t (r * s.width + c) 0

  -- an entry, where the rows before k are changed
  abbrev is : ℕ → ℕ → ℕ → ℕ
  is k c r = cond (ltb r k) (reached column row n c r (was c r)) (was c r)

  unfoldable pub partly : ℕ → List ℕ
  partly k = by_tile s (is k)

  pub length_partly : (k : ℕ) → length (partly k) ≡ s.width * s.height
  unfolding partly
  length_partly k = length-by_tile s (is k)

  at_partly : (k c r : ℕ) → c < s.width → r < s.height → get_or (partly k) (r * s.width + c) 0 ≡ is k c r
  unfolding partly
  at_partly k = at-by_tile s (is k)

  -- none yet
  pub partly_first : length t ≡ s.width * s.height → t ≡ partly row
  unfolding partly
  partly_first l = all-by_tile s (is row) t l (λ c r w h. none (ltb r row) (leb column c) (leb row r) (was c r) (λ q. lt-leb row r (ltb-true r row q)))
    where
      none : (a b d : Bool) (e : ℕ) → (a ≡ true → d ≡ false) → e ≡ cond a (cond (b && d) (added n e) e) e
      none false b d e q = refl
      none true true d e q = rw (q refl) refl
      none true false d e q = refl

  -- all of them
  pub partly_last : partly s.height ≡ changed_totals s t column row n
  unfolding partly changed_totals
  partly_last = all-by_tile s (λ c r. reached column row n c r (was c r)) (partly s.height) (length_partly s.height) (λ c r w h. at_partly s.height c r w h ∙ ap (λ (b : Bool). cond b (reached column row n c r (was c r)) (was c r)) (lt-ltb r s.height h))

  -- one row more
  module _ (k : ℕ) (narrow : column < s.width) (low : k < s.height) (from : row ≤ k) where
    abbrev start : ℕ
    start = k * s.width + column

    abbrev wide : ℕ
    wide = k * s.width + s.width - (k * s.width + column)

    abbrev then : List ℕ
    then = put_mid start wide (partly k) (map (added n) (mid_of start wide (partly k)))

    -- the row's end is within the totals
    pub row_ends : k * s.width + s.width ≤ s.width * s.height
    row_ends = omega (arith, suc-mul k s.width, mul-le-mul_right s.width low, mul_comm s.width s.height)

    within : start + wide ≤ length (partly k)
    within = omega (arith, row_ends, length_partly k)

    same : (c r : ℕ) → c < s.width → r < s.height → is k c r ≡ is (k + 1) c r → (r * s.width + c < start) ⊎ (start + wide ≤ r * s.width + c) → get_or then (r * s.width + c) 0 ≡ is (k + 1) c r
    same c r w h e q = part_else (added n) (partly k) start wide within (r * s.width + c) q ∙ at_partly k c r w h ∙ e

    -- the row itself
    this-row : (c : ℕ) → c < s.width → get_or then (k * s.width + c) 0 ≡ is (k + 1) c k
    this-row c w = elim (dec_le column c) [ yes p ↦ more p | no p ↦ same c k w low (stays (lt_of_not-le p)) (inl (left (lt_of_not-le p))) ]
      where
        here : ltb k (k + 1) ≡ true
        here = lt-ltb k (k + 1) (omega arith)

        behind : is k c k ≡ was c k
        behind = ap (λ (b : Bool). cond b (reached column row n c k (was c k)) (was c k)) (le-ltb k k (omega arith))

        stays : c < column → is k c k ≡ is (k + 1) c k
        stays p = behind ∙ sym (simp (here, lt-leb column c p))

        left : c < column → k * s.width + c < start
        left p = omega arith

        more : column ≤ c → get_or then (k * s.width + c) 0 ≡ is (k + 1) c k
        more p =
            let place : k * s.width + c ≡ start + (c - column) = omega arith in
            ap (λ (i : ℕ). get_or then i 0) place
            ∙ part_in (added n) (partly k) start wide within (c - column) (omega arith)
            ∙ ap (added n) (ap (λ (i : ℕ). get_or (partly k) i 0) (sym place) ∙ at_partly k c k w low ∙ behind)
            ∙ sym (simp (here, le-leb column c p, le-leb row k from))

    pub partly-next : then ≡ partly (k + 1)
    unfolding partly
    partly-next =
        all-by_tile s (is (k + 1)) then (same_len_mid start wide (partly k) (map (added n) (mid_of start wide (partly k))) (length-map (added n) (mid_of start wide (partly k))) ∙ length_partly k)
        (λ c r w h. elim (dec_le r k) [ yes p ↦ ⊎_elim (λ (e : r ≡ k). ap (λ (i : ℕ). get_or then (i * s.width + c) 0) e ∙ this-row c w ∙ ap (is (k + 1) c) (sym e)) (λ (q : r < k). before c r w h q) (eq-or-lt_of_le p) | no p ↦ after c r w h (lt_of_not-le p) ])
      where
        before : (c r : ℕ) → c < s.width → r < s.height → r < k → get_or then (r * s.width + c) 0 ≡ is (k + 1) c r
        before c r w h q = same c r w h (ap (λ (b : Bool). cond b (reached column row n c r (was c r)) (was c r)) (lt-ltb r k q ∙ sym (lt-ltb r (k + 1) (omega arith)))) (inl (let d = digits_lt {q = r} {m = k} {r = c} {c = s.width} q w in omega arith))

        after : (c r : ℕ) → c < s.width → r < s.height → k < r → get_or then (r * s.width + c) 0 ≡ is (k + 1) c r
        after c r w h q = same c r w h (ap (λ (b : Bool). cond b (reached column row n c r (was c r)) (was c r)) (le-ltb r k (omega arith) ∙ sym (le-ltb r (k + 1) (omega arith)))) (inr (omega (arith, suc-mul k s.width, mul-le-mul_right s.width q)))
