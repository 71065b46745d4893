-- The count of a rectangle and the change of an entry are sums and differences of integers, modulo 2^32. Assumes nothing.
use Prim.Native.Nat.{ℕ, zero, suc, ◌+◌, ◌-◌, ◌*◌, ◌/◌, ◌%◌, ◌≤◌, ◌<◌}
use mathlib.Core.Bool.{◌&&◌}
use mathlib.Core.List.{List}
use mathlib.Core.Path.{◌≡◌, refl, sym, ap, ap₂, ◌∙◌, subst}
use native.Mathlib.Omega.{arith}
use denote.Floats.{is_true}
use lib.Dec.{T, leb, le→leb}
use lib.Ieee.Fits.{and_i}
use lib.IntN.{ℤ, pos, negsuc, neg_ℤ, ◌+ℤ◌, ◌-ℤ◌, +ℤ_assoc, +ℤ_comm, +ℤ-neg_ℤ_cancel, neg_ℤ-+ℤ, -ℤ_one}
use lib.ListN.{get_or}
use Rattle.map_tiles.specs.Map.{is_map, count}
use Rattle.map_tiles.specs.declared.tiles.Sides.{Sides}
use Rattle.map_totals.specs.Area.{solid_at, entry_at, count_in, written, change_at}
use Rattle.map_totals.specs.Calls.{is_span, is_area, is_totals, area_in, LeftChange, changed}
use Rattle.map_totals.specs.Laws.{WithinSide}
use Rattle.map_totals.specs.Integers.{Modulo32, Entries, entry_in, CountsEntries, ChangeAdds}
use Rattle.map_totals.proofs.Sums.{solid_one}
use Rattle.map_totals.proofs.Changes.{entry_in_lem, taken}
use Rattle.map_totals.proofs.Numbers.{totals_are, so-fits}

-- ---- integers as differences

swapped : (a b c : ℤ) → a +ℤ b +ℤ c ≡ a +ℤ c +ℤ b
swapped a b c = +ℤ_assoc a b c ∙ ap (λ (x : ℤ). a +ℤ x) (+ℤ_comm b c) ∙ sym (+ℤ_assoc a c b)

-- two differences, one from the other
moved : (a b n m p : ℕ) → n + b + m ≡ a + p → pos n ≡ (pos a -ℤ pos b) +ℤ (pos p -ℤ pos m)
moved a b n m p e =
    sym (+ℤ-neg_ℤ_cancel (pos n) (pos (b + m)))
    ∙ ap (λ (k : ℕ). pos k -ℤ pos (b + m)) {x = n + (b + m)} {y = a + p} (omega arith)
    ∙ ap (λ (x : ℤ). pos (a + p) +ℤ x) (neg_ℤ-+ℤ (pos b) (pos m))
    ∙ sym (+ℤ_assoc (pos (a + p)) (neg_ℤ (pos b)) (neg_ℤ (pos m)))
    ∙ ap (λ (x : ℤ). x +ℤ neg_ℤ (pos m)) (swapped (pos a) (pos p) (neg_ℤ (pos b)))
    ∙ +ℤ_assoc (pos a -ℤ pos b) (pos p) (neg_ℤ (pos m))

-- a remainder by how often 2^32 was taken off: at most three times, of two that were added
remains : (a b n k : ℕ) → n < 4294967296 → k < 4 → n + b + k * 4294967296 ≡ a + 2 * 4294967296 → Modulo32 n (pos a -ℤ pos b)
remains a b n zero s l e = record { small = s; turns = pos 2; same = moved a b n 0 8589934592 (omega arith) }
remains a b n (suc zero) s l e = record { small = s; turns = pos 1; same = moved a b n 0 4294967296 (omega arith) }
remains a b n (suc (suc zero)) s l e = record { small = s; turns = pos 0; same = moved a b n 0 0 (omega arith) }
remains a b n (suc (suc (suc zero))) s l e = record { small = s; turns = negsuc 0; same = moved a b n 4294967296 0 (omega arith) }
remains a b n (suc (suc (suc (suc k)))) s l e = absurd (omega arith)

-- ---- the count

-- the last of so many columns or rows
last : (n : ℕ) → pos (suc n) -ℤ pos 1 ≡ pos n
last n = -ℤ_one (pos (suc n))

entry_is : (s : Sides) (t : List ℕ) (columns rows : ℕ) → entry_in s t (pos columns -ℤ pos 1) (pos rows -ℤ pos 1) ≡ pos (entry_at s t columns rows)
unfolding entry_at
entry_is s t zero rows = refl
entry_is s t (suc column) zero = ap (λ (x : ℤ). entry_in s t x (negsuc 0)) (last column)
entry_is s t (suc column) (suc row) = ap₂ (entry_in s t) (last column) (last row)

entry_small : (s : Sides) (t : List ℕ) → Entries s t → (columns rows : ℕ) → entry_at s t columns rows < 4294967296
unfolding entry_at
entry_small s t h zero rows = omega arith
entry_small s t h (suc column) zero = omega arith
entry_small s t h (suc column) (suc row) = h.small (row * s.width + column)

-- four numbers, the second and the third taken off
four : (a b c d : ℕ) → a < 4294967296 → b < 4294967296 → c < 4294967296 → d < 4294967296 → Modulo32 ((a + (4294967296 - b) + (4294967296 - c) + d) % 4294967296) (pos a -ℤ pos b -ℤ pos c +ℤ pos d)
four a b c d ha hb hc hd =
    let x = a + (4294967296 - b) + (4294967296 - c) + d in
    let order : pos (a + d) -ℤ pos (b + c) ≡ pos a -ℤ pos b -ℤ pos c +ℤ pos d =
    ap (λ (y : ℤ). pos (a + d) +ℤ y) (neg_ℤ-+ℤ (pos b) (pos c))
    ∙ sym (+ℤ_assoc (pos (a + d)) (neg_ℤ (pos b)) (neg_ℤ (pos c)))
    ∙ ap (λ (y : ℤ). y -ℤ pos c) (swapped (pos a) (pos d) (neg_ℤ (pos b)))
    ∙ swapped (pos a -ℤ pos b) (pos d) (neg_ℤ (pos c)) in
    subst (Modulo32 (x % 4294967296)) order (remains (a + d) (b + c) (x % 4294967296) (x / 4294967296) (omega arith) (omega arith) (omega arith))

module _ (s : Sides) (t : List ℕ) (h : Entries s t) where
  count_is : (left top columns rows : ℕ) → Modulo32 (count_in s t left top columns rows) (entry_in s t (pos (left + columns) -ℤ pos 1) (pos (top + rows) -ℤ pos 1) -ℤ entry_in s t (pos left -ℤ pos 1) (pos (top + rows) -ℤ pos 1) -ℤ entry_in s t (pos (left + columns) -ℤ pos 1) (pos top -ℤ pos 1) +ℤ entry_in s t (pos left -ℤ pos 1) (pos top -ℤ pos 1))
  unfolding count_in
  count_is left top columns rows =
      rw (entry_is s t (left + columns) (top + rows), entry_is s t left (top + rows), entry_is s t (left + columns) top, entry_is s t left top)
      (four (entry_at s t (left + columns) (top + rows)) (entry_at s t left (top + rows)) (entry_at s t (left + columns) top) (entry_at s t left top)
      (entry_small s t h (left + columns) (top + rows)) (entry_small s t h left (top + rows)) (entry_small s t h (left + columns) top) (entry_small s t h left top))

-- a call that is accepted counts
counted : (s : Sides) (ts t : List ℕ) (left top columns rows : ℤ) (k : ℕ) → T (is_map s ts) → Entries s t → WithinSide left columns s.width → WithinSide top rows s.height → (area_in s ts t left top columns rows k).count ≡ count_in s t (count left) (count top) (count columns) (count rows)
unfolding area_in
counted s ts t left top columns rows k m h a b =
    let f = so-fits s t left top columns rows (h.long, a, b) in
    simp (is_true (is_map s ts) m, is_true (is_totals s t && is_area s left top columns rows) f)

pub counts_entries : CountsEntries
counts_entries s ts t (pos left) (pos top) (pos columns) (pos rows) k m h a b = rw (counted s ts t (pos left) (pos top) (pos columns) (pos rows) k m h a b) (count_is s t h left top columns rows)
counts_entries s ts t (negsuc left) top columns rows k m h a b = absurd a.starts.le
counts_entries s ts t (pos left) (negsuc top) columns rows k m h a b = absurd b.starts.le
counts_entries s ts t (pos left) (pos top) (negsuc columns) rows k m h a b = absurd a.some.le
counts_entries s ts t (pos left) (pos top) (pos columns) (negsuc rows) k m h a b = absurd b.some.le

-- ---- the change

one_tile : (s : Sides) (column row : ℕ) → column < s.width → row < s.height → T (is_area s (pos column) (pos row) (pos 1) (pos 1))
unfolding is_area is_span
one_tile s column row w h = and_i (leb 1 1 && leb (column + 1) s.width) (leb 1 1 && leb (row + 1) s.height) (within column s.width w) (within row s.height h)
  where
    within : (k side : ℕ) → k < side → T (leb 1 1 && leb (k + 1) side)
    within k side l = le→leb (k + 1) side (omega arith)

-- a tile's count after and before, added and taken off
three : (e a b : ℕ) → e < 4294967296 → a ≤ 1 → b ≤ 1 → Modulo32 ((e + (a + (4294967296 - b)) % 4294967296) % 4294967296) (pos e +ℤ pos a -ℤ pos b)
three e a b he ha hb =
    let x = a + (4294967296 - b) in
    let y = e + x % 4294967296 in
    remains (e + a) b (y % 4294967296) (y / 4294967296 + x / 4294967296 + 1) (omega arith) (omega arith) (omega arith)

pub change_adds : ChangeAdds
unfolding changed change_at
change_adds s ts t column row byte c r m h p w q l =
    let after = written s ts column row byte in
    let e = taken s ts t (pos column) (pos row) byte m (is_true (is_totals s t) (totals_are s t h.long)) (one_tile s column row (omega arith) (omega arith)) in
    let old = get_or t (r * s.width + c) 0 in
    let new : Modulo32 ((old + change_at s ts after column row) % 4294967296) (pos old +ℤ pos (solid_at s after column row) -ℤ pos (solid_at s ts column row)) = three old (solid_at s after column row) (solid_at s ts column row) (h.small (r * s.width + c)) (solid_one s after column row) (solid_one s ts column row) in
    let there = entry_in_lem s t column row (change_at s ts after column row) c r w l p q in
    subst (λ (x : LeftChange). Modulo32 (get_or x.totals (r * s.width + c) 0) (pos old +ℤ pos (solid_at s x.tiles column row) -ℤ pos (solid_at s ts column row))) (sym e)
    (subst (λ (n : ℕ). Modulo32 n (pos old +ℤ pos (solid_at s after column row) -ℤ pos (solid_at s ts column row))) (sym there) new)
