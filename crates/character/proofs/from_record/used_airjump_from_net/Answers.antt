use mathlib.Core.Path.{◌∙◌, ap}
use Prim.Native.Nat.{ℕ, ◌/◌, ◌%◌}
use lib.Dec.{eqb}
use mir.Facts.{to_z-of_z}
use mir.Syntax.{w32}
use borrow.Author.Rules.{rules}
use Rattle.num_convert.specs.Casts.{cast_unsigned}
use Rattle.character.specs.Records.{used_airjump_from_net}
use Rattle.character.proofs.from_record.used_airjump_from_net.Goals as goal

pub returns : goal.returns
unfolding used_airjump_from_net
returns c = ap (λ (n : ℕ). eqb (n / 2 % 2) 1) (c.cast_unsigned.ensures ∙ ap cast_unsigned (to_z-of_z {w = w32} (search rules)))
