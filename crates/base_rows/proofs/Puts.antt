-- Laws of `put`, of numbers and of bytes alike: one element, one more, one row after another, what stands before, in and behind it, and two of them. Assumes nothing.
use Prim.Native.Nat.{ℕ, ◌+◌, ◌-◌, ◌≤◌, ◌<◌}
use mathlib.Core.Path.{◌≡◌, refl, sym, ap, ap₂, ◌∙◌}
use mathlib.Core.List.{List, [], ◌∷◌, ◌++◌, append_assoc, append-nil}
use mathlib.Core.Logic.{◌⊎◌, inl, inr, ⊎_elim}
use native.Mathlib.Omega.{arith}
use native.Mathlib.Nat.{add-zero}
use native.Mathlib.Numerals.{add-one}
use lib.Dec.{lit<}
use lib.ListN.{length, take, drop, set, get_or, length-append, length-drop, take-append-drop}
use lib.Seq.{length-take-le, take_at, drop_at, drop-drop, drop-length, set_split, take-suc, take-add, take-take, take-append-le, get_or-take, get_or-drop, drop-append-le, drop-append-add}
use Rattle.base_rows.specs.Put.{put}

module _ {A : Type 0} where
  front : (d : List A) (at : ℕ) (w : List A) → at ≤ length d → length (take at d ++ w) ≡ at + length w
  front d at w h = length-append (take at d) w ∙ ap (λ (n : ℕ). n + length w) (length-take-le at d h)

  split : (d : List A) (at : ℕ) (w : List A) → put d at w ≡ (take at d ++ w) ++ drop (at + length w) d
  unfolding put
  split d at w = sym (append_assoc (take at d) w (drop (at + length w) d))

  pub length-put : (d : List A) (at : ℕ) (w : List A) → at + length w ≤ length d → length (put d at w) ≡ length d
  length-put d at w h =
      let f = front d at w (omega arith) in
      rw split (omega (arith, length-append (take at d ++ w) (drop (at + length w) d), length-drop (at + length w) d))

  -- up to its end
  pub take_put : (d : List A) (at : ℕ) (w : List A) (n : ℕ) → n ≡ at + length w → at ≤ length d → take n (put d at w) ≡ take at d ++ w
  take_put d at w n e h = rw split (take_at (take at d ++ w) (drop (at + length w) d) n (front d at w h ∙ sym e))

  -- a row that ends with the other
  pub put_end : (d : List A) (at : ℕ) (w : List A) → at + length w ≡ length d → put d at w ≡ take at d ++ w
  unfolding put
  put_end d at w e = rw (e, drop-length d, append-nil w)

  -- one row after another
  pub put-put : (d : List A) (at : ℕ) (w v : List A) (n : ℕ) → n ≡ at + length w → at ≤ length d → put (put d at w) n v ≡ put d at (w ++ v)
  put-put d at w v n e h =
      let p : List A = take at d ++ w in
      let f : length p ≡ n = front d at w h ∙ sym e in
      let l : n + length v ≡ at + length (w ++ v) = omega (arith, length-append w v) in
      ap (λ (q : List A). put q n v) (split d at w)
      ∙ split (p ++ drop (at + length w) d) n v
      ∙ ap (λ (q : List A). (q ++ v) ++ drop (n + length v) (p ++ drop (at + length w) d)) (take_at p (drop (at + length w) d) n f)
      ∙ ap (λ (q : List A). (p ++ v) ++ q) (
      sym (drop-drop (length v) n (p ++ drop (at + length w) d))
      ∙ ap (drop (length v)) (drop_at p (drop (at + length w) d) n f ∙ ap (λ (k : ℕ). drop k d) (sym e))
      ∙ drop-drop (length v) n d
      ∙ ap (λ (k : ℕ). drop k d) l
      )
      ∙ ap (λ (q : List A). q ++ drop (at + length (w ++ v)) d) (append_assoc (take at d) w v)
      ∙ sym (split d at (w ++ v))

  pub put_none : (d : List A) (at : ℕ) → d ≡ put d at []
  unfolding put
  put_none d at = sym (ap (λ (n : ℕ). take at d ++ drop n d) (add-zero at) ∙ take-append-drop at d)

  -- one element
  pub put_one : (d : List A) (at : ℕ) (x : A) → at < length d → set d at x ≡ put d at (x ∷ [])
  unfolding put
  put_one d at x h = set_split d at x h ∙ ap (λ (n : ℕ). take at d ++ x ∷ drop n d) (sym (add-one at))

  -- one after a row
  pub put_snoc : (d : List A) (at : ℕ) (w : List A) (n : ℕ) (x : A) → n ≡ at + length w → at + length w < length d → set (put d at w) n x ≡ put d at (w ++ (x ∷ []))
  put_snoc d at w n x e h =
      put_one (put d at w) n x (omega (arith, length-put d at w (omega arith))) ∙ put-put d at w (x ∷ []) n e (omega arith)

  -- one before a row
  pub put_cons : (d : List A) (at : ℕ) (x : A) (w : List A) → at < length d → put (set d at x) (at + 1) w ≡ put d at (x ∷ w)
  put_cons d at x w h = ap (λ (q : List A). put q (at + 1) w) (put_one d at x h) ∙ put-put d at (x ∷ []) w (at + 1) refl (omega arith)

  -- the next of a row that is written one by one
  pub put_next : (d : List A) (at : ℕ) (w : List A) (i : ℕ) (z : A) → at + i < length d → i < length w → set (put d at (take i w)) (at + i) (get_or w i z) ≡ put d at (take (i + 1) w)
  put_next d at w i z h g =
      let n : length (take i w) ≡ i = length-take-le i w (omega arith) in
      let f : take (i + 1) w ≡ take i w ++ (get_or w i z ∷ []) = rw (add-one, take-suc w i z g) in
      put_snoc d at (take i w) (at + i) (get_or w i z) (omega arith) (omega arith) ∙ ap (put d at) (sym f)

  -- a row after another, and one after both
  pub put_then : (d : List A) (at : ℕ) (s w : List A) (next end : ℕ) (x : A) → next ≡ at + length s → end ≡ next + length w → end < length d → set (put (put d at s) next w) end x ≡ put d at (s ++ (w ++ (x ∷ [])))
  put_then d at s w next end x e f h =
      let l = length-append s w in
      ap (λ (q : List A). set q end x) (put-put d at s w next e (omega arith))
      ∙ put_snoc d at (s ++ w) end x (omega arith) (omega arith)
      ∙ ap (put d at) (append_assoc s w (x ∷ []))

  -- ---- what is read of it
  -- from its place on
  pub drop-put : (d : List A) (at : ℕ) (w : List A) → at ≤ length d → drop at (put d at w) ≡ w ++ drop (at + length w) d
  unfolding put
  drop-put d at w h = drop_at (take at d) (w ++ drop (at + length w) d) at (length-take-le at d h)

  -- from a place before it on
  pub drop-put-add : (d : List A) (p q : ℕ) (w : List A) → p + q ≤ length d → drop p (put d (p + q) w) ≡ put (drop p d) q w
  unfolding put
  drop-put-add d p q w h =
      let r : List A = w ++ drop (p + q + length w) d in
      let m : p + q + length w ≡ p + (q + length w) = omega arith in
      ap (λ (l : List A). drop p (l ++ r)) (take-add p q d)
      ∙ ap (drop p) (append_assoc (take p d) (take q (drop p d)) r)
      ∙ drop_at (take p d) (take q (drop p d) ++ r) p (length-take-le p d (omega arith))
      ∙ ap (λ (l : List A). take q (drop p d) ++ (w ++ l)) (ap (λ (n : ℕ). drop n d) m ∙ sym (drop-drop (q + length w) p d))

  pub take_before : (d : List A) (at : ℕ) (w : List A) (n : ℕ) → n ≤ at → at ≤ length d → take n (put d at w) ≡ take n d
  unfolding put
  take_before d at w n h g = take-append-le n (take at d) (w ++ drop (at + length w) d) (omega (arith, length-take-le at d g)) ∙ take-take n at d h

  pub drop_behind : (d : List A) (at : ℕ) (w : List A) (n : ℕ) → at + length w ≤ n → at ≤ length d → drop n (put d at w) ≡ drop n d
  drop_behind d at w n h g =
      let e : ℕ = at + length w in
      let m : e + (n - e) ≡ n = omega arith in
      ap (λ (k : ℕ). drop k (put d at w)) (sym m)
      ∙ sym (drop-drop (n - e) e (put d at w))
      ∙ ap (drop (n - e)) (ap (drop e) (split d at w) ∙ drop_at (take at d ++ w) (drop e d) e (front d at w g))
      ∙ drop-drop (n - e) e d
      ∙ ap (λ (k : ℕ). drop k d) m

  -- a part of n elsewhere is as it was, and so is one element
  pub part_else : (d : List A) (at : ℕ) (w : List A) (a n : ℕ) → at ≤ length d → (a + n ≤ at) ⊎ (at + length w ≤ a) → take n (drop a (put d at w)) ≡ take n (drop a d)
  part_else d at w a n g =
      ⊎_elim
      (λ h. let q : a + (at - a) ≡ at = omega arith in
      ap (λ (k : ℕ). take n (drop a (put d k w))) (sym q) ∙ ap (take n) (drop-put-add d a (at - a) w (omega arith)) ∙ take_before (drop a d) (at - a) w n (omega arith) (omega (arith, length-drop a d)))
      (λ h. ap (take n) (drop_behind d at w a h g))

  pub put_else : (d : List A) (at : ℕ) (w : List A) (i : ℕ) (x : A) → at ≤ length d → (i < at) ⊎ (at + length w ≤ i) → get_or (put d at w) i x ≡ get_or d i x
  put_else d at w i x g h = alone (put d at w) ∙ ap (λ (l : List A). get_or l 0 x) (part_else d at w i 1 g (⊎_elim (λ q. inl (omega arith)) inr h)) ∙ sym (alone d)
    where
      alone : (l : List A) → get_or l i x ≡ get_or (take 1 (drop i l)) 0 x
      alone l = ap (λ (k : ℕ). get_or l k x) (sym (add-zero i)) ∙ sym (get_or-take 1 (drop i l) 0 x (lit< tt) ∙ get_or-drop i l 0 x)

  -- in the first of two rows
  pub put-append : (d e : List A) (at : ℕ) (w : List A) → at + length w ≤ length d → put (d ++ e) at w ≡ put d at w ++ e
  unfolding put
  put-append d e at w h =
      ap₂ (λ (a b : List A). a ++ (w ++ b)) (take-append-le at d e (omega arith)) (drop-append-le (at + length w) d e h)
      ∙ ap (λ (l : List A). take at d ++ l) (sym (append_assoc w (drop (at + length w) d) e))
      ∙ sym (append_assoc (take at d) (w ++ drop (at + length w) d) e)

  -- in the second of them
  put_second : (d e : List A) (at : ℕ) (w : List A) → length d ≡ at → put (d ++ e) at w ≡ d ++ put e 0 w
  unfolding put
  put_second d e at w h =
      let z : length w ≡ 0 + length w = omega arith in
      ap₂ (λ (a b : List A). a ++ (w ++ b)) (take_at d e at h) (ap (λ (n : ℕ). drop (n + length w) (d ++ e)) (sym h) ∙ drop-append-add d e (length w) ∙ ap (λ (n : ℕ). drop n e) z)

  -- ---- two rows that are written
  -- into different places, in either order
  pub put-apart : (d : List A) (a : ℕ) (u : List A) (b : ℕ) (v : List A) → a + length u ≤ b → b + length v ≤ length d → put (put d a u) b v ≡ put (put d b v) a u
  put-apart d a u b v h g =
      let f : List A = take b d in
      let r : List A = drop b d in
      let e : length f ≡ b = length-take-le b d (omega arith) in
      ap (λ (q : List A). put (put q a u) b v) (sym (take-append-drop b d))
      ∙ ap (λ (q : List A). put q b v) (put-append f r a u (omega arith))
      ∙ put_second (put f a u) r b v (length-put f a u (omega arith) ∙ e)
      ∙ sym (put-append f (put r 0 v) a u (omega arith))
      ∙ ap (λ (q : List A). put q a u) (sym (put_second f r b v e))
      ∙ ap (λ (q : List A). put (put q b v) a u) (take-append-drop b d)

  -- into the same place: the second stays
  pub put_over : (d : List A) (at : ℕ) (u v : List A) → length u ≡ length v → at + length u ≤ length d → put (put d at u) at v ≡ put d at v
  unfolding put
  put_over d at u v e h = ap₂ (λ (a b : List A). a ++ (v ++ b)) (take_before d at u at (omega arith) (omega arith)) (drop_behind d at u (at + length v) (omega arith) (omega arith))
