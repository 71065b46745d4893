use mathlib.Core.Path.{◌∙◌, ap}
use Prim.Native.Nat.{suc-le-suc}
use native.Mathlib.Nat.{le_of_eq, lt_of_le_of_lt}
use lib.IntN.{pos}
use mir.Facts.{to_z_pos}
use mir.Syntax.{w32}
use borrow.Author.Rules.{rules}
use Rattle.num_convert.proofs.Signed.{held}
use Rattle.character.specs.Records.{core_of}
use Rattle.num_convert.specs.Convert.{to256ths}
use Rattle.num_vec2.specs.declared.vec2.{vec2}
use Rattle.num_convert.specs.Whole.{round_to_i32}
use Rattle.character.proofs.to_record.core_of.Goals as goal

pub returns : goal.returns
unfolding core_of
returns c =
    let c1 = c.before in
    let c2 = c1.before in
    let c3 = c2.before in
    let c4 = c3.before in
    let c5 = c4.before in
    let c6 = c5.before in
    let c7 = c6.before in
    let c8 = c7.before in
    let c9 = c8.before in
    let c10 = c9.before in
    let c11 = c10.before in
    let c12 = c11.before in
    let c13 = c12.before in
    let c14 = c13.before in
    let c15 = c14.before in
    let c16 = c15.before in
    let c17 = c16 in
    rw (
      held c13.round_to_i32.result c13.round_to_i32.type_inv c13.round_to_i32.ensures,
      held c12.round_to_i32-2.result c12.round_to_i32-2.type_inv c12.round_to_i32-2.ensures,
      held c11.to_256ths.result c11.to_256ths.type_inv c11.to_256ths.ensures,
      held c10.to_256ths-2.result c10.to_256ths-2.type_inv c10.to_256ths-2.ensures,
      held c9.to_net.result c9.to_net.type_inv c9.to_net.ensures,
      held c8.as_int.result c8.as_int.type_inv c8.as_int.ensures,
      held c7.net_jumped.result c7.net_jumped.type_inv c7.net_jumped.ensures,
      held c6.net_hooked_player.result c6.net_hooked_player.type_inv c6.net_hooked_player.ensures,
      held c5.net_state.result c5.net_state.type_inv c5.net_state.ensures,
      to_z_pos w32 (lt_of_le_of_lt (le_of_eq c4.tick.ensures) (suc-le-suc c17.requires)) ∙ ap pos c4.tick.ensures,
      held c3.round_to_i32-3.result c3.round_to_i32-3.type_inv (c3.round_to_i32-3.ensures ∙ ap (λ (p : vec2). round_to_i32 p.x) c15.net_pos-hook_pos.ensures),
      held c2.round_to_i32-4.result c2.round_to_i32-4.type_inv (c2.round_to_i32-4.ensures ∙ ap (λ (p : vec2). round_to_i32 p.y) c15.net_pos-hook_pos.ensures),
      held c1.to_256ths-3.result c1.to_256ths-3.type_inv (c1.to_256ths-3.ensures ∙ ap (λ (p : vec2). to256ths p.x) c14.net_dir-hook_dir.ensures),
      held c.to_256ths-4.result c.to_256ths-4.type_inv (c.to_256ths-4.ensures ∙ ap (λ (p : vec2). to256ths p.y) c14.net_dir-hook_dir.ensures),
    )
