use mathlib.Core.Path.{◌≡◌, ap, ◌∙◌}
use Rattle.aim_rule.specs.Angle.{net_angle}
use Rattle.num_convert.proofs.Signed.{read, held}
use Rattle.game_input.specs.Direction.{angle_from_net}
use Rattle.game_input.specs.Inputs.{aim}
use Rattle.game_input.proofs.inputs.aim.Goals as goal

pub returns : goal.returns
unfolding aim
returns c =
    let t = c.before.before.before.struct_told-1.given in
    let i = c.before.before.before.before.args.input in
    let n : c.before.net_angle.result ≡ net_angle i.target_x i.target_y = rw (← read i.target_x t.1.0.1, ← read i.target_y t.1.1.0.1) c.before.net_angle.ensures in
    c.from_net.ensures ∙ ap angle_from_net (held c.before.net_angle.result c.before.net_angle.type_inv n)
