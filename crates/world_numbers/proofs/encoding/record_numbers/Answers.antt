use mathlib.Core.Path.{◌≡◌, ap, ap₂, ◌∙◌}
use mathlib.Core.List.{List, ◌∷◌}
use native.Mathlib.Omega.{arith}
use lib.IntN.{ℤ, pos}
use lib.ListN.{length, replicate}
use Rattle.base_rows.proofs.Puts.{put_end, put_cons}
use Rattle.game_records.specs.Numbers.{core_count}
use Rattle.game_records.proofs.Back.{core_long}
use Rattle.game_records.proofs.Bits.{again}
use Rattle.world_numbers.specs.Encoding.{record_count, record_numbers}
use borrow.Author.Rules.{rules}
use Rattle.world_numbers.proofs.encoding.record_numbers.Goals as goal

pub returns : goal.returns
unfolding record_numbers
returns c =
    let r = c.core_numbers-core in
    let p = c.flag in
    let n : length r.result ≡ core_count = ap length r.ensures ∙ core_long _ in
    c.copy.ensures
    ∙ put_cons (replicate record_count (pos 0)) 0 _ r.result (omega arith)
    ∙ put_end _ 0 _ (omega arith)
    ∙ ap₂ (λ (z : ℤ) (l : List ℤ). z ∷ l) (again p.type_inv ∙ p.ensures) r.ensures
