use Prim.Native.Nat.{◌+◌}
use mathlib.Core.Path.{◌≡◌, ap, ◌∙◌}
use native.Mathlib.Omega.{arith}
use lib.ListN.{drop}
use Rattle.num_convert.specs.Casts.{cast_unsigned}
use Rattle.game_records.specs.Numbers.{number_at, core_in, input_of_numbers}
use Rattle.game_records.proofs.Bits.{again}
use Rattle.world_numbers.specs.Decoding.{is_set}
use Rattle.world_numbers.specs.Encoding.{record_count}
use Rattle.world_numbers.proofs.RowsIn.{to_end}
use Rattle.send_numbers.specs.Copies.{marks_place, copy_in}
use Rattle.send_numbers.proofs.copies.copy_of.Goals as goal

pub returns : goal.returns
unfolding copy_in
returns c =
    let b = c.before.before.before.before.before.before in
    let d = b in
    let s = d.args.row.now in
    let room = d.requires in
    let k : d.is_set.result ≡ is_set (number_at s 0) = d.is_set.ensures ∙ ap is_set (again d.is_set-arg-1.given) in
    let n : b.core_of.result ≡ core_in (drop 1 s) = b.core_of.ensures ∙ ap core_in (to_end 1 s (omega arith)) in
    let i : b.input_of.result ≡ input_of_numbers (drop record_count s) = b.input_of.ensures ∙ ap input_of_numbers (to_end record_count s (omega arith)) in
    let r : c.is_set-2.result ≡ is_set (number_at s marks_place) = c.is_set-2.ensures ∙ ap is_set (again c.is_set-arg-2-1.given) in
    let f : c.is_set-3.result ≡ is_set (number_at s (marks_place + 1)) = c.is_set-3.ensures ∙ ap is_set (again c.is_set-arg-3-1.given) in
    let t : c.cast_unsigned.result ≡ cast_unsigned (number_at s (marks_place + 2)) = c.cast_unsigned.ensures ∙ ap cast_unsigned (again c.cast_unsigned-arg-1.given) in
    rw (k, n, i, r, f, t)
