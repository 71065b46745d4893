use Prim.Native.Nat.{◌+◌}
use mathlib.Core.List.{List, [], ◌∷◌, ◌++◌}
use mathlib.Core.Path.{◌≡◌, ap, ap₂, ◌∙◌}
use native.Mathlib.Omega.{arith}
use lib.IntN.{ℤ, pos}
use lib.ListN.{length, replicate}
use mir.Syntax.{w32}
use mir.Val.{to_z, of_z}
use Rattle.base_rows.specs.Put.{put}
use Rattle.game_records.specs.Numbers.{core_count, input_count}
use Rattle.game_records.proofs.Bits.{again}
use Rattle.game_records.proofs.Back.{core_long, input_long}
use Rattle.send_numbers.specs.Passing.{message_count, message_numbers}
use Rattle.send_numbers.proofs.Rows.{three_rows}
use Rattle.send_numbers.proofs.passing.message_numbers.Goals as goal

pub returns : goal.returns
unfolding message_numbers
returns c =
    let b = c.before.before.before.before.before in
    let d = b in
    let i = d.input_numbers-used in
    let r = d.core_numbers-record in
    let t = d.cast_signed in
    let n : length i.result ≡ input_count = ap length i.ensures ∙ input_long _ in
    let m : length r.result ≡ core_count = ap length r.ensures ∙ core_long _ in
    let z = to_z w32 (of_z w32 t.result) in
    c.copy-3.ensures
    ∙ ap (λ (l : List ℤ). put l (2 + core_count) i.result) (b.copy-2.ensures ∙ ap (λ (l : List ℤ). put l 2 r.result) d.copy.ensures)
    ∙ three_rows (replicate message_count (pos 0)) (pos 1 ∷ z ∷ []) r.result i.result 2 (2 + core_count) (omega arith) (omega arith) (omega arith)
    ∙ ap₂ (λ (u : ℤ) (v : List ℤ). pos 1 ∷ u ∷ v) (again t.type_inv ∙ t.ensures) (ap₂ (λ (u v : List ℤ). u ++ v) r.ensures i.ensures)
