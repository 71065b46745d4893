use Prim.Native.Nat.{ℕ}
use mathlib.Core.Path.{◌≡◌, refl, ap}
use mathlib.Core.List.{List, ◌++◌}
use native.Mathlib.Omega.{arith}
use lib.ListN.{length, take}
use lib.Seq.{drop-drop}
use borrow.Rule.Slice.PartMut.{put_mid}
use Rattle.base_rows.specs.Put.{put}
use Rattle.text_writing.proofs.line.put_bytes.Goals as goal

-- a part that was written over
part : (d w v : List ℕ) (at k : ℕ) → v ≡ w → k ≡ length w → put_mid at k d v ≡ put d at w
unfolding put
part d w v at k e f = rw (e, f) (ap (λ (l : List ℕ). take at d ++ (w ++ l)) (drop-drop (length w) at d))

pub returns : goal.returns
returns c = record { bytes = part c.args.buf.now c.args.bytes.now _ c.args.at _ c.copy_from_slice.ensures.after (omega arith); place = refl }
