use mathlib.Core.List.{List, [], ◌∷◌, ◌++◌}
use mathlib.Core.Path.{◌≡◌, ap, ap₂, ◌∙◌}
use native.Mathlib.Omega.{arith}
use lib.IntN.{ℤ, pos}
use lib.ListN.{length, replicate}
use mir.Syntax.{w32}
use mir.Val.{to_z, of_z}
use Rattle.base_rows.specs.Put.{put}
use Rattle.game_records.specs.Numbers.{input_count}
use Rattle.game_records.proofs.Bits.{again}
use Rattle.game_records.proofs.Back.{input_long}
use Rattle.world_numbers.specs.Encoding.{record_count}
use Rattle.world_numbers.proofs.Rows.{record_long}
use Rattle.send_numbers.specs.Copies.{marks_place, copy_count, copy_numbers}
use Rattle.send_numbers.proofs.Rows.{three_rows}
use Rattle.send_numbers.proofs.copies.copy_numbers.Goals as goal

pub returns : goal.returns
unfolding copy_numbers
returns c =
    let b = c.before.before.before.before.before in
    let d = b.before.before.before.before in
    let g = d in
    let i = g.input_numbers-input in
    let r = g.record_numbers-record in
    let t = g.cast_signed in
    let n : length i.result ≡ input_count = ap length i.ensures ∙ input_long _ in
    let m : length r.result ≡ record_count = ap length r.ensures ∙ record_long _ in
    let x = to_z w32 (of_z w32 g.flag.result) in
    let y = to_z w32 (of_z w32 g.flag-2.result) in
    let z = to_z w32 (of_z w32 t.result) in
    c.copy-3.ensures
    ∙ ap (λ (l : List ℤ). put l marks_place (x ∷ y ∷ z ∷ [])) (b.copy-2.ensures ∙ ap (λ (l : List ℤ). put l record_count i.result) d.copy.ensures)
    ∙ three_rows (replicate copy_count (pos 0)) r.result i.result (x ∷ y ∷ z ∷ []) record_count marks_place (omega arith) (omega arith) (omega arith)
    ∙ ap₂ (λ (u v : List ℤ). u ++ v) r.ensures (ap₂ (λ (u v : List ℤ). u ++ v) i.ensures (ap₂ (λ (u : ℤ) (v : List ℤ). u ∷ v) (again g.flag.type_inv ∙ g.flag.ensures) (ap₂ (λ (u v : ℤ). u ∷ v ∷ []) (again g.flag-2.type_inv ∙ g.flag-2.ensures) (again t.type_inv ∙ t.ensures))))
