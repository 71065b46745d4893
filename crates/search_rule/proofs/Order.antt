-- Of two ways that are not the same one comes before the other, so only one can be the first. Assumes nothing.
use Prim.Native.Nat.{◌<◌}
use mathlib.Core.List.{[], ◌∷◌}
use mathlib.Core.Logic.{◌⊎◌, inl, inr}
use mathlib.Core.Path.{◌≡◌, refl, sym, ap, ◌∙◌, subst}
use native.Mathlib.Decide.{dec_lt}
use native.Mathlib.Omega.{arith}
use lib.ListN.{length}
use Rattle.search_rule.specs.Ways.{Way, Pressed, IsWay, Lower, Earlier, Before}
use Rattle.search_rule.specs.Search.{buttons_at}
use Rattle.search_rule.specs.declared.Buttons.{Buttons}
use Rattle.search_rule.proofs.Choices.{below_lower, Index, index_of}

-- the same, or one of them first
abbrev Ordered : {A : Type 0} → (A → A → Type 0) → A → A → Type 0
Ordered R a b = (a ≡ b) ⊎ (R a b ⊎ R b a)

lower_at : (a b : Buttons) (i : Index a) (j : Index b) → i.index < j.index → Lower a b
lower_at a b i j l = subst (λ (c : Buttons). Lower c b) i.is (subst (Lower (buttons_at i.index)) j.is (below_lower i.index j.index l))

lower_ordered : (a b : Buttons) → Index a → Index b → Ordered Lower a b
lower_ordered a b i j = go (dec_lt i.index j.index) (dec_lt j.index i.index)
  where
    go : Dec (i.index < j.index) → Dec (j.index < i.index) → Ordered Lower a b
    go (yes l) d = inr (inl (lower_at a b i j l))
    go (no h) (yes l) = inr (inr (lower_at b a j i l))
    go (no h) (no k) = let e : i.index ≡ j.index = omega arith in inl (sym i.is ∙ ap buttons_at e ∙ j.is)

earlier_ordered : (u v : Way) → Pressed u → Pressed v → length u ≡ length v → Ordered Earlier u v
earlier_ordered [] [] p q l = inl refl
earlier_ordered [] (b ∷ v) p q l = absurd (omega arith)
earlier_ordered (a ∷ u) [] p q l = absurd (omega arith)
earlier_ordered (a ∷ u) (b ∷ v) p q l = go (lower_ordered a b (index_of a p.0.0 p.0.1) (index_of b q.0.0 q.0.1)) (earlier_ordered u v p.1 q.1 (omega arith))
  where
    go : Ordered Lower a b → Ordered Earlier u v → Ordered Earlier (a ∷ u) (b ∷ v)
    go (inr (inl o)) r = inr (inl (inl o))
    go (inr (inr o)) r = inr (inr (inl o))
    go (inl e) (inl f) = inl (cc)
    go (inl e) (inr (inl o)) = inr (inl (inr (e, o)))
    go (inl e) (inr (inr o)) = inr (inr (inr (sym e, o)))

before_ordered : (u v : Way) → IsWay u → IsWay v → Ordered Before u v
before_ordered u v i j = go (dec_lt (length u) (length v)) (dec_lt (length v) (length u))
  where
    same : length u ≡ length v → Ordered Earlier u v → Ordered Before u v
    same l (inl e) = inl e
    same l (inr (inl o)) = inr (inl (inr (l, o)))
    same l (inr (inr o)) = inr (inr (inr (sym l, o)))

    go : Dec (length u < length v) → Dec (length v < length u) → Ordered Before u v
    go (yes l) d = inr (inl (inl l))
    go (no h) (yes l) = inr (inr (inl l))
    go (no h) (no k) = let l : length u ≡ length v = omega arith in same l (earlier_ordered u v i.pressed j.pressed l)

-- two ways that have P are the same where none before either has it
pub only_first : (P : Way → Type 0) (u v : Way) → IsWay u → IsWay v → P u → P v → ((x : Way) → IsWay x → Before x u → P x → ⊥) → ((x : Way) → IsWay x → Before x v → P x → ⊥) → u ≡ v
only_first P u v i j p q f h = go (before_ordered u v i j)
  where
    go : Ordered Before u v → u ≡ v
    go (inl e) = e
    go (inr (inl o)) = absurd (h u i o p)
    go (inr (inr o)) = absurd (f v j o q)
