use Prim.Native.Nat.{ℕ, ◌+◌}
use mathlib.Core.Path.{◌≡◌, sym, ap, ◌∙◌}
use mathlib.Core.List.{List, ◌∷◌}
use native.Mathlib.Omega.{arith}
use lib.IntN.{ℤ, pos, negsuc, nat_abs}
use mathlib.Core.Bool.{true, false}
use lib.Signed.{lt_z}
use mir.Syntax.{w32}
use mir.Val.{SFits, to_z, of_z}
use mir.ValLaws.{to_z-of_z}
use lib.ListN.{length, length-set}
use Rattle.text_decimal.specs.Decimal.{digits, written}
use Rattle.base_rows.specs.Put.{put}
use Rattle.text_decimal.proofs.Digits.{few}
use Rattle.base_rows.proofs.Puts.{put_cons}
use Rattle.text_writing.proofs.Signs.{under, over}
use Rattle.text_writing.proofs.value.put_value.Goals as goal

signed : (z : ℤ) (n m : ℕ) → z ≡ negsuc n → m ≡ nat_abs z → written z ≡ 45 ∷ digits 10 m
signed z n m e f = rw (f, e)

plain : (z : ℤ) (n m : ℕ) → z ≡ pos n → m ≡ nat_abs z → written z ≡ digits 10 m
plain z n m e f = rw (f, e)

minus_there : (z : ℤ) (m : ℕ) → SFits w32 z → lt_z (to_z w32 (of_z w32 z)) (pos 0) ≡ true → m ≡ nat_abs (to_z w32 (of_z w32 z)) → written z ≡ 45 ∷ digits 10 m
minus_there z m f t e =
    let u = under z f t in
    signed z u.0 _ u.1.1 (e ∙ ap nat_abs (to_z-of_z w32 _ f))

plus_there : (z : ℤ) (m : ℕ) → SFits w32 z → lt_z (to_z w32 (of_z w32 z)) (pos 0) ≡ false → m ≡ nat_abs (to_z w32 (of_z w32 z)) → written z ≡ digits 10 m
plus_there z m f t e =
    let u = over z f t in
    plain z u.0 _ u.1.1 (e ∙ ap nat_abs (to_z-of_z w32 _ f))

pub put_number-requires : goal.put_number-requires
put_number-requires c = simp length-set (omega (arith, few 10 c.unsigned_abs-n.result))

pub put_number-requires-else-z-lt0 : goal.put_number-requires-else-z-lt0
put_number-requires-else-z-lt0 c = omega (arith, few 10 c.unsigned_abs-n.result)

pub shape_of-buf-then-z-lt0 : goal.shape_of-buf-then-z-lt0
shape_of-buf-then-z-lt0 c = c.put_number.auto.buf ∙ simp length-set

pub returns-then-z-lt0 : goal.returns-then-z-lt0
returns-then-z-lt0 c =
    let a = c.args in
    let k = c.put_number in
    let p = k.ensures.place in
    let w = minus_there a.z c.unsigned_abs-n.result c.ranges.z c.if-z-lt0.true c.unsigned_abs-n.ensures.value in
    let l = ap length w in
    record {
      bytes = k.ensures.bytes ∙ put_cons a.buf.now a.at 45 (digits 10 c.unsigned_abs-n.result) (omega arith) ∙ ap (put a.buf.now a.at) (sym w);
      place = omega arith;
    }

pub returns-else-z-lt0 : goal.returns-else-z-lt0
returns-else-z-lt0 c =
    let a = c.args in
    let k = c.put_number-else-z-lt0 in
    let w = plus_there a.z c.unsigned_abs-n.result c.ranges.z c.if-z-lt0.false c.unsigned_abs-n.ensures.value in
    record {
      bytes = k.ensures.bytes ∙ ap (put a.buf.now a.at) (sym w);
      place = k.ensures.place ∙ ap (λ (l : List ℕ). a.at + length l) (sym w);
    }
