-- What a search has written of a way: nothing, or its steps from a place on. Assumes nothing.
use Prim.Native.Nat.{ℕ, ◌+◌, ◌≤◌}
use mathlib.Core.Bool.{true, false, true≢false}
use mathlib.Core.List.{List, ◌++◌, append_assoc}
use mathlib.Core.Path.{◌≡◌, refl, sym, ap, ◌∙◌}
use native.Mathlib.Omega.{arith}
use lib.IntN.{ℤ}
use lib.ListN.{length, take, drop, length-append}
use Rattle.base_rows.specs.Put.{put}
use Rattle.base_rows.proofs.Puts.{take_before, drop-put}
use Rattle.base_turns.specs.Turns.{more, stop}
use Rattle.world_numbers.specs.Encoding.{each}
use Rattle.search_rule.specs.Ways.{Way}
use Rattle.search_rule.specs.Search.{Found, nothing}
use Rattle.search_calls.specs.Numbers.{buttons_numbers, Wrote, found_in}

module _ {A : Type 0} where
  put_is : (d : List A) (at : ℕ) (w : List A) → put d at w ≡ take at d ++ (w ++ drop (at + length w) d)
  unfolding put
  put_is d at w = refl

  -- a row in front of one that is there
  pub put_front : (d : List A) (at : ℕ) (w v : List A) (n : ℕ) → n ≡ at + length w → n ≤ length d → put (put d n v) at w ≡ put d at (w ++ v)
  put_front d at w v n e h =
      let q : n + length v ≡ at + length (w ++ v) = omega (arith, length-append w v) in
      put_is (put d n v) at w
      ∙ ap (λ (x : List A). x ++ (w ++ drop (at + length w) (put d n v))) (take_before d n v at (omega arith) h)
      ∙ ap (λ (k : ℕ). take at d ++ (w ++ drop k (put d n v))) (sym e)
      ∙ ap (λ (x : List A). take at d ++ (w ++ x)) (drop-put d n v h ∙ ap (λ (k : ℕ). v ++ drop k d) q)
      ∙ ap (λ (x : List A). take at d ++ x) (sym (append_assoc w v (drop (at + length (w ++ v)) d)))
      ∙ sym (put_is d at (w ++ v))

module _ (l : List ℤ) (at : ℕ) where
  -- nothing is found: the numbers are as they were
  pub found_no : (t : Found) (m : List ℤ) → found_in l at t ≡ record { found = false; way = m } → (t ≡ nothing) × (m ≡ l)
  found_no (more z) m e = (refl, ap (λ (r : Wrote). r.way) (sym e))
  found_no (stop u) m e = absurd (true≢false (ap (λ (r : Wrote). r.found) e))

  pub record Is (t : Found) (m : List ℤ) : Type 0 where
    pub way : Way
    pub found : t ≡ stop way
    pub written : m ≡ put l at (each buttons_numbers way)

  pub found_yes : (t : Found) (m : List ℤ) → found_in l at t ≡ record { found = true; way = m } → Is t m
  found_yes (more z) m e = absurd (true≢false (sym (ap (λ (r : Wrote). r.found) e)))
  found_yes (stop u) m e = record { way = u; found = refl; written = ap (λ (r : Wrote). r.way) (sym e) }
