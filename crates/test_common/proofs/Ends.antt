-- A loop over the first of a row, against a `fold` over more turns, where those that are left change nothing. Assumes nothing.
use Rattle.std.proofs.Common.{◌≡◌, ℕ, zero, suc, ◌+◌, ◌-◌, ◌<◌, ◌≤◌, List, length, take, get_or, sym, refl, ap, ◌∙◌, le_refl, arith}
use lib.Seq.{get_or-take}
use Rattle.std.proofs.lemmas.List.{length-take}
use Rattle.base_turns.specs.Turns.{more, fold}
use Rattle.base_turns.proofs.Loop.{Left, always, run_always}

module _ {S : Type 0} (f : ℕ → S → S) where
  idle : (n i : ℕ) (s : S) → ((k : ℕ) → i ≤ k → k < i + n → f k s ≡ s) → fold f n i s ≡ s
  unfolding fold
  idle zero i s h = refl
  idle (suc n) i s h = ap (fold f n (suc i)) (h i (le_refl i) (omega arith)) ∙ idle n (suc i) s (λ k l b. h k (omega arith) (omega arith))

  pub fold_over : (n i : ℕ) (s e : S) → Left (always f) n i s (more e) → ((k : ℕ) → i ≤ k → k < n → f k s ≡ s) → e ≡ s
  fold_over n i s e l h =
      let q : more e ≡ more (fold f (n - i) i s) = sym l.left ∙ run_always f (n - i) i s in
      let p : e ≡ fold f (n - i) i s = cc in
      let w = l.within in
      p ∙ idle (n - i) i s (λ k a b. h k a (omega arith))

-- ys is the first n of xs
module _ {A : Type 0} (n : ℕ) (xs ys : List A) (e : ys ≡ take n xs) where
  pub among : (i : ℕ) → i < length ys → (i < n) × (i < length xs)
  among i h = let l = ap length e ∙ length-take n xs in (omega arith, omega arith)

  pub same_at : (i : ℕ) (d : A) → i < length ys → get_or ys i d ≡ get_or xs i d
  same_at i d h = ap (λ l. get_or l i d) e ∙ get_or-take n xs i d (among i h).0

  pub behind : (i k : ℕ) → length ys ≤ i → i ≤ k → k < length xs → n ≤ k
  behind i k h a b = let l = ap length e ∙ length-take n xs in omega arith

  pub behind_end : (i k : ℕ) → length ys ≤ i → i ≤ k → k < n → length xs ≤ k
  behind_end i k h a b = let l = ap length e ∙ length-take n xs in omega arith
