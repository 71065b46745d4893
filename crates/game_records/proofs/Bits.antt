-- Numbers that were kept as their bits. Assumes nothing.
use Prim.Native.Nat.{◌^◌, ◌<◌}
use mathlib.Core.Path.{◌≡◌, refl}
use mathlib.Core.List.{List, [], ◌∷◌, map}
use lib.IntN.{ℤ}
use lib.Signed.{mag}
use mir.Facts.{to_z-of_z}
use mir.Syntax.{w32}
use mir.Val.{to_z, of_z}

pub again : {z : ℤ} → mag z < 2 ^ 31 → to_z w32 (of_z w32 z) ≡ z
again h = to_z-of_z {w = w32} (record { sfits = h })

abbrev pub AllI32 : List ℤ → Type 0
AllI32 [] = Unit {0}
AllI32 (z ∷ zs) = (mag z < 2 ^ 31) × AllI32 zs

pub all_again : (zs : List ℤ) → AllI32 zs → map (λ (z : ℤ). to_z w32 (of_z w32 z)) zs ≡ zs
all_again [] a = refl
all_again (z ∷ zs) a = let e = again {z = z} a.0 in let f = all_again zs a.1 in cc
