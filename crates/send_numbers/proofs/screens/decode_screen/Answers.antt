use mathlib.Core.List.{List}
use mathlib.Core.Path.{ap, ap₂, ◌∙◌}
use native.Mathlib.Omega.{arith}
use lib.IntN.{ℤ}
use Rattle.game_tuning.specs.Tuning.{tuning_count}
use Rattle.character.specs.Tick.{seats}
use Rattle.send_rule.specs.declared.Copy.{Copy}
use Rattle.world_numbers.proofs.RowsIn.{to_end}
use Rattle.send_numbers.specs.Copies.{copies_decoding, screen_decoding}
use Rattle.send_numbers.proofs.screens.decode_screen.Goals as goal

pub returns : goal.returns
unfolding screen_decoding
returns c =
    let ns = c.args.numbers.now in
    ap₂ (λ (cs : List Copy) (ts : List ℤ). record { copies = cs; tunings = ts }) (c.decode_copies.ensures ∙ ap (copies_decoding seats) (to_end tuning_count ns (omega arith))) c.tunings_of.ensures
