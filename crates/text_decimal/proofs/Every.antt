-- Some values stand at a place or do not: there is an answer for every text. Assumes nothing.
use Prim.Native.Nat.{ℕ, zero, suc, ◌+◌, ◌-◌, ◌<◌}
use mathlib.Core.Path.{◌≡◌}
use mathlib.Core.List.{List, [], ◌∷◌, ◌++◌}
use native.Mathlib.Omega.{arith}
use lib.IntN.{ℤ}
use lib.ListN.{length, length-append}
use Rattle.num_convert.specs.Casts.{IsI32}
use Rattle.text_decimal.specs.Decimal.{written}
use Rattle.text_decimal.specs.Lines.{ended, All}
use Rattle.text_decimal.specs.Places.{Stands, Absent}
use Rattle.text_decimal.proofs.Lines.{front, all_append, Begun, begun_none, begun_more, begun-not, begun_whole}

-- a value that P holds of, with the byte that ends it
pub data NextValue (P : ℤ → Type 0) (s : List ℕ) (stop place : ℕ) : Type 0 where
  here : (z : ℤ) (next : ℕ) → P z → Stands (ended (written z) stop) s place next → NextValue P s stop place
  absent : ((z : ℤ) → P z → Absent (ended (written z) stop) s place) → NextValue P s stop place

-- n such values
pub data NextValues (P : ℤ → Type 0) (s : List ℕ) (stop : ℕ → ℕ) (n at : ℕ) : Type 0 where
  all_here : (zs : List ℤ) (next : ℕ) → length zs ≡ n → All P zs → Stands (front stop 0 zs) s at next → NextValues P s stop n at
  not_all : ((zs : List ℤ) → length zs ≡ n → All P zs → Absent (front stop 0 zs) s at) → NextValues P s stop n at

module _ (P : ℤ → Type 0) (i32 : (z : ℤ) → P z → IsI32 z) (s : List ℕ) (stop : ℕ → ℕ) (low : (m : ℕ) → stop m < 48) (each : (b place : ℕ) → b < 48 → NextValue P s b place) where
  from_here : (n at k : ℕ) (vs : List ℤ) (place : ℕ) → Begun stop n vs s at place → All P vs → length vs + k ≡ n → NextValues P s stop n at
  from_here n at zero vs place b a e = let l : length vs ≡ n = omega arith in all_here vs place l a (begun_whole b l)
  from_here n at (suc k) vs place b a e = by (each (stop (n - (length vs + 1))) place (low (n - (length vs + 1)))) (λ z next c h m. from_here n at k (vs ++ (z ∷ [])) next c h m)
    where
      by : NextValue P s (stop (n - (length vs + 1))) place
          → ((z : ℤ) (next : ℕ) → Begun stop n (vs ++ (z ∷ [])) s at next → All P (vs ++ (z ∷ [])) → length (vs ++ (z ∷ [])) + k ≡ n → NextValues P s stop n at)
          → NextValues P s stop n at
      by (here z next h t) ih = ih z next (begun_more b (omega arith) z next (i32 z h) t) (all_append P vs (z ∷ []) a (h, tt)) (omega (arith, length-append vs (z ∷ [])))
      by (absent f) ih = not_all (begun-not b (omega arith) low P i32 f)

  pub values_some : (n at : ℕ) → NextValues P s stop n at
  values_some n at = from_here n at n [] at (begun_none stop n s at) tt (omega arith)
