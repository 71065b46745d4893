use borrow.Author.Rules.{rules}
use Rattle.num_convert.proofs.Signed.{read}
use Rattle.character.specs.Records.{from_net}
use Rattle.character.proofs.Character.from_net.Goals as goal

pub returns : goal.returns
unfolding from_net
returns c =
    let c2 = c.before.before in
    let c4 = c2.before.before in
    let c6 = c4.before.before in
    let c8 = c6.before.before in
    let c11 = c8.before.before.before in
    let c14 = c11.before.before.before in
    let c17 = c14.before.before.before in
    let c20 = c17 in
    let n = c20.args.core in
    let t1 = c20.struct_told-1.given.1 in
    let t2 = t1.1 in
    let t3 = t2.1 in
    let t4 = t3.1 in
    let t5 = t4.1 in
    let t6 = t5.1 in
    let t7 = t6.1 in
    let t8 = t7.1 in
    let t9 = t8.1 in
    let t11 = t9.1.1 in
    let t12 = t11.1 in
    let t13 = t12.1 in
    let t14 = t13.1 in
    let x = read n.x t1.0.1 in
    let y = read n.y t2.0.1 in
    let vx = read n.vel_x t3.0.1 in
    let vy = read n.vel_y t4.0.1 in
    let a = read n.angle t5.0.1 in
    let d = read n.direction t6.0.1 in
    let j = read n.jumped t7.0.1 in
    let hp = read n.hooked_player t8.0.1 in
    let hs = read n.hook_state t9.0.1 in
    let hx = read n.hook_x t11.0.1 in
    let hy = read n.hook_y t12.0.1 in
    let dx = read n.hook_dx t13.0.1 in
    let dy = read n.hook_dy t14.0.1 in
    rw (c20.whole_pair.ensures, c17.pair_of_256ths.ensures, c8.from_net.ensures, c14.whole_pair-2.ensures, c11.pair_of_256ths-2.ensures, c6.jumped_already_from_net.ensures, c4.used_airjump_from_net.ensures, c2.from_net-2.ensures, c.from_int.ensures, x, y, vx, vy, a, d, j, hp, hs, hx, hy, dx, dy)
