use mathlib.Core.List.{List, ◌++◌}
use mathlib.Core.Path.{◌≡◌, ap, ap₂, ◌∙◌}
use native.Mathlib.Omega.{arith}
use lib.IntN.{ℤ}
use lib.ListN.{length, take}
use borrow.Author.Rules.{rules}
use Rattle.base_rows.proofs.Puts.{take_put}
use Rattle.game_tuning.specs.Tuning.{tuning_count}
use Rattle.send_numbers.specs.Copies.{screen_count, screen_encoding}
use Rattle.send_numbers.proofs.Rows.{last_part}
use Rattle.send_numbers.proofs.screens.encode_screen.Goals as goal

pub returns : goal.returns
unfolding screen_encoding
returns c =
    let k = c.copy in
    let s = c in
    let z = s.args.screen in
    let t : length z.tunings ≡ tuning_count = search rules in
    let m : length k.new.numbers ≡ screen_count = k.auto.numbers ∙ s.requires in
    last_part tuning_count k.new.numbers c.encode_copies.new.numbers (omega arith)
    ∙ ap₂ (λ (x y : List ℤ). x ++ y) (ap (take tuning_count) k.ensures ∙ take_put _ 0 z.tunings tuning_count (omega arith) (omega arith)) c.encode_copies.ensures
