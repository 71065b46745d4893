use Prim.Native.Nat.{ℕ}
use mathlib.Core.List.{List}
use mathlib.Core.Path.{◌≡◌, refl, ap, ap₂, ◌∙◌}
use native.Mathlib.Omega.{arith}
use lib.IntN.{ℤ, pos}
use lib.ListN.{length, take, get_or}
use lib.Seq.{take_all}
use borrow.Author.Rules.{rules}
use Rattle.base_rows.specs.Put.{put}
use Rattle.base_rows.proofs.Puts.{put_none}
use Rattle.num_convert.proofs.Signed.{read}
use Rattle.game_records.specs.Numbers.{core_numbers}
use Rattle.game_records.proofs.Back.{core_long}
use Rattle.game_packed.specs.Packed.{ints_bytes, most_packed, packed}
use Rattle.game_packed.proofs.Sizes.{zeros, put_zeros, room_left, one_more}
use Rattle.game_packed.proofs.pack.Goals as goal

pub loop-z-init : goal.loop-z-init
unfolding ints_bytes
loop-z-init c = record { made = put_none (zeros most_packed) 0; counted = refl; long = refl }

pub put_int-count-requires : goal.put_int-count-requires
put_int-count-requires c =
    let n = c.core_numbers-z-items in
    let r = room_left n.result (ap length n.ensures ∙ core_long _) c.loop-z.z-index c.loop-z-test.true c.loop-z.invariant.counted in
    omega (arith, c.loop-z.invariant.long)

pub loop-z-preserved : goal.loop-z-preserved
loop-z-preserved c =
    let l = c.loop-z in
    let n = c.core_numbers-z-items in
    let z = read (get_or n.result l.z-index (pos 0)) (search rules) in
    let put = c.put_int-count in
    let m = one_more n.result (ap length n.ensures ∙ core_long _) l.z-index c.loop-z-test.true l.invariant.made l.invariant.counted z put.ensures.0 put.ensures.1 in
    record { made = m.0; counted = m.1; long = put.auto.buf ∙ l.invariant.long }

pub returns : goal.returns
unfolding packed
returns c =
    let l = c.loop-z in
    let n = c.core_numbers-z-items in
    let all : take l.z-index n.result ≡ core_numbers c.args.core = take_all l.z-index n.result (omega (arith, ap length n.ensures ∙ core_long c.args.core, c.loop-z-test.false)) ∙ n.ensures in
    ap₂ (λ (b : List ℕ) (k : ℕ). record { bytes = b; count = k }) (l.invariant.made ∙ ap (λ (zs : List ℤ). put (zeros most_packed) 0 (ints_bytes zs)) all ∙ put_zeros most_packed _) (l.invariant.counted ∙ ap (λ (zs : List ℤ). length (ints_bytes zs)) all)
