-- Rows of numbers that are written up to the end of a longer one. Assumes nothing.
use Prim.Native.Nat.{ℕ, ◌+◌, ◌-◌, ◌≤◌}
use mathlib.Core.List.{List, ◌++◌, append_assoc, append-nil}
use mathlib.Core.Path.{◌≡◌, sym, ap, ◌∙◌}
use native.Mathlib.Omega.{arith}
use lib.IntN.{ℤ}
use lib.ListN.{length, take, drop, length-append, length-drop}
use lib.Seq.{drop-length}
use Rattle.base_rows.specs.Put.{put}
use Rattle.base_rows.proofs.Puts.{put-put, put_end}

-- three of them, one after the other
pub three_rows : (d u v w : List ℤ) (at last : ℕ) → at ≡ length u → last ≡ at + length v → last + length w ≡ length d → put (put (put d 0 u) at v) last w ≡ u ++ (v ++ w)
three_rows d u v w at last e f g =
    let h : length (u ++ v) ≡ last = length-append u v ∙ omega arith in
    let k = length-append (u ++ v) w in
    ap (λ (q : List ℤ). put q last w) (put-put d 0 u v at (omega arith) (omega arith))
    ∙ put-put d 0 (u ++ v) w last (omega arith) (omega arith)
    ∙ put_end d 0 ((u ++ v) ++ w) (omega arith)
    ∙ append_assoc u v w

-- the last part of a row, lent and put back
pub last_part : (at : ℕ) (d w : List ℤ) → at ≤ length d → take at d ++ (w ++ drop (length d - at) (drop at d)) ≡ take at d ++ w
last_part at d w h =
    let e : length d - at ≡ length (drop at d) = sym (length-drop at d) in
    rw (e, drop-length (drop at d), append-nil w)
