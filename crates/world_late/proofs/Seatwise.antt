-- Actions at two seats of a state that is known seat by seat: in either order every seat is left the same. Assumes nothing.
use Prim.Native.Nat.{ℕ}
use mathlib.Core.Path.{◌≡◌, sym, ap, ◌∙◌, subst}
use native.Mathlib.Decide.{ℕ_discrete}

-- what an action makes of the state, of what is at its own seat and at every other; which seats a state has, which an action may be at, and what may be there
module _ {S X D : Type 0} (at : S → ℕ → X) (Has : S → ℕ → Type 0) (Seat : ℕ → Type 0) (Row : X → Type 0)
    (act : ℕ → D → S → S) (mine : D → X → X) (others : ℕ → D → X → X)
    (row : (s : S) (m : ℕ) → Has s m → Row (at s m))
    (has : (k : ℕ) (e : D) (s : S) → Seat k → (m : ℕ) → Has s m → Has (act k e s) m)
    (own : (k : ℕ) (e : D) (s : S) → Seat k → Has s k → at (act k e s) k ≡ mine e (at s k))
    (else : (k : ℕ) (e : D) (s : S) → Seat k → (m : ℕ) → Has s m → (m ≡ k → ⊥) → at (act k e s) m ≡ others k e (at s m))
    (passes : (k : ℕ) (e f : D) (x : X) → Row x → others k e (mine f x) ≡ mine f (others k e x))
    (agree : (i j : ℕ) (e f : D) (x : X) → Row x → others i e (others j f x) ≡ others j f (others i e x))
  where
    -- the seat m is that of the action e at k, and not that of f at q
    one : (k q m : ℕ) (e f : D) (s : S) → Seat k → Seat q → Has s m → m ≡ k → (m ≡ q → ⊥) → at (act q f (act k e s)) m ≡ at (act k e (act q f s)) m
    one k q m e f s a b h p r =
        else q f (act k e s) b m (has k e s a m h) r ∙ ap (others q f) (here s h) ∙ passes q f e (at s m) (row s m h) ∙ ap (mine e) (sym (else q f s b m h r)) ∙ sym (here (act q f s) (has q f s b m h))
      where
        here : (t : S) → Has t m → at (act k e t) m ≡ mine e (at t m)
        here t g = subst (λ (i : ℕ). Has t i → at (act k e t) i ≡ mine e (at t i)) (sym p) (own k e t a) g

    pub acts-agree : (i j : ℕ) (e f : D) (s : S) → Seat i → Seat j → (i ≡ j → ⊥) → (m : ℕ) → Has s m → at (act j f (act i e s)) m ≡ at (act i e (act j f s)) m
    acts-agree i j e f s a b d m h = go (ℕ_discrete m i) (ℕ_discrete m j)
      where
        go : Dec (m ≡ i) → Dec (m ≡ j) → at (act j f (act i e s)) m ≡ at (act i e (act j f s)) m
        go (yes p) (yes q) = absurd (d (sym p ∙ q))
        go (yes p) (no q) = one i j m e f s a b h p q
        go (no p) (yes q) = sym (one j i m f e s b a h q p)
        go (no p) (no q) = else j f (act i e s) b m (has i e s a m h) q ∙ ap (others j f) (else i e s a m h p) ∙ agree j i f e (at s m) (row s m h) ∙ ap (others i e) (sym (else j f s b m h q)) ∙ sym (else i e (act j f s) a m (has j f s b m h) p)
