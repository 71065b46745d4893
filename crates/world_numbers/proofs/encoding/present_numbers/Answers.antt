use mathlib.Core.Bool.{true}
use mathlib.Core.Path.{◌≡◌, ap, ap₂, ◌∙◌}
use mathlib.Core.List.{List, [], ◌∷◌, ◌++◌}
use native.Mathlib.Omega.{arith}
use lib.IntN.{ℤ, pos}
use lib.ListN.{length, set, replicate, length-append}
use mir.Syntax.{w32}
use mir.Val.{to_z, of_z}
use Rattle.base_rows.specs.Put.{put}
use Rattle.base_rows.proofs.Puts.{put_end, put_then}
use Rattle.game_records.specs.Numbers.{input_count}
use Rattle.game_records.specs.declared.CharacterCore.{CharacterCore}
use Rattle.game_records.proofs.Back.{input_long}
use Rattle.game_records.proofs.Bits.{again}
use Rattle.world_numbers.specs.Encoding.{record_count, mark_place, seat_count, net_core, record_numbers, present_numbers}
use Rattle.world_numbers.proofs.Rows.{record_long}
use borrow.Author.Rules.{rules}
use Rattle.world_numbers.proofs.encoding.present_numbers.Goals as goal

pub returns : goal.returns
unfolding present_numbers
returns c =
    let r = c.record_numbers-record in
    let i = c.input_numbers-input in
    let m : length r.result ≡ record_count = ap length r.ensures ∙ record_long _ in
    let n : length i.result ≡ input_count = ap length i.ensures ∙ input_long _ in
    let g = to_z w32 (of_z w32 c.flag.result) in
    let k = length-append r.result (i.result ++ (g ∷ [])) in
    let q = length-append i.result (g ∷ []) in
    ap (λ (l : List ℤ). set l mark_place g) (c.copy-2.ensures ∙ ap (λ (l : List ℤ). put l record_count i.result) c.copy.ensures)
    ∙ put_then (replicate seat_count (pos 0)) 0 r.result i.result record_count mark_place g (omega arith) (omega arith) (omega arith)
    ∙ put_end (replicate seat_count (pos 0)) 0 (r.result ++ (i.result ++ (g ∷ []))) (omega arith)
    ∙ ap₂ (λ (x y : List ℤ). x ++ y) (r.ensures ∙ ap (λ (z : CharacterCore). record_numbers (record { present = true; core = z })) (c.net_core.ensures ∙ ap net_core c.to_net.ensures)) (ap₂ (λ (x : List ℤ) (z : ℤ). x ++ (z ∷ [])) i.ensures (again c.flag.type_inv ∙ c.flag.ensures))
