-- A signed number that was written as its bits and read again. Assumes nothing.
use Rattle.std.proofs.Common.{◌≡◌, ◌^◌, ◌<◌, ℤ, ◌∙◌, to_z-of_z, w32, to_z, of_z}
use lib.Signed.{mag}

pub read : (z : ℤ) → mag z < 2 ^ 31 → to_z w32 (of_z w32 z) ≡ z
read z h = to_z-of_z {w = w32} (record { sfits = h })

pub held : {y : ℤ} (z : ℤ) → mag z < 2 ^ 31 → z ≡ y → to_z w32 (of_z w32 z) ≡ y
held z h e = read z h ∙ e
