-- Laws of what stands before the tiles. Assumes nothing.
use Prim.Native.Nat.{ℕ, ◌≤◌, ◌<◌}
use mathlib.Core.Path.{◌≡◌, sym, ◌∙◌, subst}
use mathlib.Core.List.{List, ◌++◌, append_assoc, append-nil}
use native.Mathlib.Omega.{arith}
use lib.ListN.{drop}
use Rattle.text_decimal.specs.Decimal.{digits}
use Rattle.text_decimal.specs.Lines.{ended}
use Rattle.text_decimal.specs.Places.{Stands, Absent}
use Rattle.text_decimal.proofs.Places.{follows, chain}
use Rattle.text_decimal.proofs.Told.{number_only, number_read, number_fault}
use Rattle.text_decimal.specs.Reading.{NumberAt}
use Rattle.text_map.specs.Map.{IsSide, size_names, tile_names, head_bytes}
use Rattle.text_map.specs.Reading.{NameAt, SideAt, HeadAt}
use Rattle.std.specs.declared.option.Option.{Option}
use Rattle.std.specs.declared.option.Option.TheVariants.{None, Some}

-- ---- names
pub name_read : (name s : List ℕ) (at next : ℕ) {r : Option ℕ} → r ≡ Some next → NameAt name s at r → Stands name s at next
unfolding NameAt
name_read name s at next e h = subst (NameAt name s at) e h

pub name_fault : (name s : List ℕ) (at : ℕ) {r : Option ℕ} → r ≡ None → NameAt name s at r → Absent name s at
unfolding NameAt
name_fault name s at e h = subst (NameAt name s at) e h

-- ---- a side
module _ (stop : ℕ) (s : List ℕ) (at : ℕ) {r : Option (ℕ × ℕ)} (h : NumberAt stop s at r) where
  pub no_number : r ≡ None → SideAt stop s at None
  unfolding SideAt
  no_number e = λ n i. number_fault stop s at e h n (omega arith)

  module _ (n next : ℕ) (e : r ≡ Some (n, next)) where
    pub a-side : 1 ≤ n → n ≤ 1024 → SideAt stop s at (Some (n, next))
    unfolding SideAt
    a-side a b = ((a, b), (number_read stop s at n next e h).1)

    pub no-side : stop < 48 → (IsSide n → ⊥) → SideAt stop s at None
    unfolding SideAt
    no-side low out = λ m i rest d. let t = number_read stop s at n next e h in out (subst IsSide (sym (number_only stop n m rest low t.0 (omega arith) t.1 d).0) i)

pub side_read : (stop : ℕ) (s : List ℕ) (at n next : ℕ) {r : Option (ℕ × ℕ)} → r ≡ Some (n, next) → SideAt stop s at r → IsSide n × Stands (ended (digits 10 n) stop) s at next
unfolding SideAt
side_read stop s at n next e h = subst (SideAt stop s at) e h

pub side_fault : (stop : ℕ) (s : List ℕ) (at : ℕ) {r : Option (ℕ × ℕ)} → r ≡ None → SideAt stop s at r → (n : ℕ) → IsSide n → Absent (ended (digits 10 n) stop) s at
unfolding SideAt
side_fault stop s at e h = subst (SideAt stop s at) e h

-- where a side stands, any that is there is that one
side_only : (stop : ℕ) {s : List ℕ} {at next : ℕ} (m n : ℕ) (rest : List ℕ) → stop < 48 → IsSide m → IsSide n → Stands (ended (digits 10 m) stop) s at next → drop at s ≡ ended (digits 10 n) stop ++ rest → (m ≡ n) × (drop next s ≡ rest)
side_only stop m n rest low i j h e = number_only stop m n rest low (omega arith) (omega arith) h e

-- ---- the head, in its four parts
head_split : (w h : ℕ) (rest : List ℕ) → head_bytes w h ++ rest ≡ size_names ++ (ended (digits 10 w) 32 ++ (ended (digits 10 h) 10 ++ (tile_names ++ rest)))
head_split w h rest = simp (append_assoc, append-nil)

module _ (s : List ℕ) where
  pub no_names : Absent size_names s 0 → HeadAt s None
  unfolding HeadAt
  no_names f = λ w h i j rest e. f _ (e ∙ head_split w h rest)

  module _ (p : ℕ) (names : Stands size_names s 0 p) where
    pub no-width : ((w : ℕ) → IsSide w → Absent (ended (digits 10 w) 32) s p) → HeadAt s None
    unfolding HeadAt
    no-width f = λ w h i j rest e. f w i _ (follows names _ (e ∙ head_split w h rest))

    module _ (w q : ℕ) (i : IsSide w) (width : Stands (ended (digits 10 w) 32) s p q) where
      past-width : (v h : ℕ) (rest : List ℕ) → IsSide v → drop 0 s ≡ head_bytes v h ++ rest → (w ≡ v) × (drop q s ≡ ended (digits 10 h) 10 ++ (tile_names ++ rest))
      past-width v h rest j e = side_only 32 w v _ (omega arith) i j width (follows names _ (e ∙ head_split v h rest))

      pub no-height : ((h : ℕ) → IsSide h → Absent (ended (digits 10 h) 10) s q) → HeadAt s None
      unfolding HeadAt
      no-height f = λ v h j k rest e. f h k _ (past-width v h rest j e).1

      module _ (h r : ℕ) (j : IsSide h) (height : Stands (ended (digits 10 h) 10) s q r) where
        pub past-height : (v g : ℕ) (rest : List ℕ) → IsSide v → IsSide g → drop 0 s ≡ head_bytes v g ++ rest → (w ≡ v) × (h ≡ g) × (drop r s ≡ tile_names ++ rest)
        past-height v g rest k l e =
            let a = past-width v g rest k e in
            let b = side_only 10 h g _ (omega arith) j l height a.1 in
            (a.0, b.0, b.1)

        pub no-tiles : Absent tile_names s r → HeadAt s None
        unfolding HeadAt
        no-tiles f = λ v g k l rest e. f rest (past-height v g rest k l e).2

        pub a-head : (at : ℕ) → Stands tile_names s r at → HeadAt s (Some (w, h, at))
        unfolding HeadAt
        a-head at tiles = (i, j, subst (λ (x : List ℕ). Stands x s 0 at) (simp (append_assoc, append-nil)) (chain names (chain width (chain height tiles))))
