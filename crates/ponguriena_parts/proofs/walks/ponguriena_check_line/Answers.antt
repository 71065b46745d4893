use Rattle.std.proofs.Common.{refl, sym, ap, ◌∙◌}
use Rattle.std.specs.Prelude.{Ok}
use Rattle.ponguriena_parts.proofs.walks.ponguriena_check_line.Goals as goal

pub returns-in-None : goal.returns-in-None
returns-in-None c =
    let checked = simp (c.new.ensures, c.new-2.ensures) at c.check_line-check.ensures in
    let e = sym checked ∙ c.in-Ok.is ∙ ap Ok c.in-None.is in
    record { number = rw e refl; point = rw e refl; hit_tile = rw e refl }

pub returns-in-Some : goal.returns-in-Some
returns-in-Some c =
    let checked = simp (c.new.ensures, c.new-2.ensures) at c.check_line-check.ensures in
    let e = sym checked ∙ c.in-Ok.is ∙ ap Ok c.in-Some.is in
    record { number = rw e refl; point = rw e refl; hit_tile = rw e c.byte_of.ensures }

pub returns-in-Err : goal.returns-in-Err
returns-in-Err c =
    let checked = simp (c.new.ensures, c.new-2.ensures) at c.check_line-check.ensures in
    let e = sym checked ∙ c.in-Err.is in
    record { number = rw e c.into.ensures; point = rw e refl; hit_tile = rw e refl }
