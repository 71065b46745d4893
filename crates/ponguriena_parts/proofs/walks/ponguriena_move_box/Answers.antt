use Rattle.std.proofs.Common.{refl, sym, ◌∙◌}
use Rattle.ponguriena_parts.proofs.walks.ponguriena_move_box.Goals as goal

pub returns-in-Ok : goal.returns-in-Ok
returns-in-Ok c =
    let moved = simp (c.new.ensures, c.new-2.ensures, c.new-3.ensures) at c.move_box-moved.ensures in
    let e = sym moved ∙ c.in-Ok.is in
    record { number = rw e refl; body = rw e refl }

pub returns-in-Err : goal.returns-in-Err
returns-in-Err c =
    let moved = simp (c.new.ensures, c.new-2.ensures, c.new-3.ensures) at c.move_box-moved.ensures in
    let e = sym moved ∙ c.in-Err.is in
    record { number = rw e c.into.ensures; body = rw e refl }
