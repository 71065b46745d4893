use mathlib.Core.Path.{refl, sym, ◌∙◌, subst}
use lib.Dec.{T}
use Rattle.ponguriena_parts.proofs.walks.ponguriena_check_point.Goals as goal

pub check_point-requires : goal.check_point-requires
check_point-requires c = subst T (sym c.if-is_map.true ∙ c.is_map.ensures) tt

pub returns-then-is_map : goal.returns-then-is_map
returns-then-is_map c = let e = sym c.is_map.ensures ∙ c.if-is_map.true in record { number = rw e refl; point_tile = rw (e, c.byte_of.ensures, c.check_point.ensures, c.new.ensures) refl }

pub returns : goal.returns
returns c = let e = sym c.is_map.ensures ∙ c.if-is_map.false in record { number = rw e refl; point_tile = rw e refl }
