-- A state that is changed only where the answer is 0: when two such changes may be exchanged. Assumes nothing.
use Prim.Native.Nat.{ℕ}
use mathlib.Core.Bool.{Bool, true, false, cond}
use mathlib.Core.Path.{◌≡◌, refl, sym, ◌∙◌}
use lib.Dec.{eqb}
use borrow.Author.Tests.{eqb-true}

-- its answer, and the next state where that is 0
pub record Change (S : Type 0) : Type 0 where
  pub number : S → ℕ
  pub next : S → S

-- the state that it leaves
abbrev pub left : {S : Type 0} → Change S → S → S
left a s = cond (eqb (a.number s) 0) (a.next s) s

-- in either order the answers and the state are the same
pub record Commuting {S : Type 0} (a b : Change S) (s : S) : Type 0 where
  pub first : a.number (left b s) ≡ a.number s
  pub second : b.number (left a s) ≡ b.number s
  pub state : left b (left a s) ≡ left a (left b s)

-- neither decides the other's answer, and where both are accepted they may be exchanged
pub commuting : {S : Type 0} (a b : Change S) (s : S) → (b.number s ≡ 0 → a.number (b.next s) ≡ a.number s) → (a.number s ≡ 0 → b.number (a.next s) ≡ b.number s)
    → (a.number s ≡ 0 → b.number s ≡ 0 → b.next (a.next s) ≡ a.next (b.next s)) → Commuting a b s
commuting {S} a b s p q e = go (eqb (a.number s) 0) (eqb (b.number s) 0) refl refl
  where
    go : (x y : Bool) → eqb (a.number s) 0 ≡ x → eqb (b.number s) 0 ≡ y → Commuting a b s
    go true true h k =
        let i = eqb-true (a.number s) 0 h in
        let j = eqb-true (b.number s) 0 k in
        record { first = rw k (p j); second = rw h (q i); state = rw (h, k, q i, k, p j, h) (e i j) }
    go true false h k = record { first = rw k refl; second = rw h (q (eqb-true (a.number s) 0 h)); state = rw (h, k, h, q (eqb-true (a.number s) 0 h), k) refl }
    go false true h k = record { first = rw k (p (eqb-true (b.number s) 0 k)); second = rw h refl; state = rw (h, k, p (eqb-true (b.number s) 0 k), h) refl }
    go false false h k = record { first = rw k refl; second = rw h refl; state = rw (h, k, h) refl }

-- where the first does not decide the second's answer and leaves nothing that it would not set, the second is as if the first had never come
pub replacing : {S : Type 0} (a b : Change S) (s : S) → (a.number s ≡ 0 → b.number (a.next s) ≡ b.number s) → (a.number s ≡ 0 → b.number s ≡ 0 → b.next (a.next s) ≡ b.next s)
    → b.number (left a s) ≡ 0 → (b.number (left a s) ≡ b.number s) × (left b (left a s) ≡ left b s)
replacing {S} a b s p e = go (eqb (a.number s) 0) refl
  where
    go : (x : Bool) → eqb (a.number s) 0 ≡ x → let t = cond x (a.next s) s in b.number t ≡ 0 → (b.number t ≡ b.number s) × (left b t ≡ left b s)
    go true h z =
        let i = eqb-true (a.number s) 0 h in
        let j = sym (p i) ∙ z in
        (p i, rw (z, j) (e i j))
    go false h z = (refl, refl)
