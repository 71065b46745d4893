use mathlib.Core.Logic.{⊎_elim}
use mathlib.Core.Path.{sym, ◌∙◌}
use Prim.Native.Nat.{◌-◌}
use lib.ListN.{drop}
use Rattle.base_turns.proofs.Loop.{turn_first}
use Rattle.game_tuning.specs.Tuning.{tuning_count}
use Rattle.character.specs.Tick.{seats}
use Rattle.world.specs.Step.{tick_all}
use Rattle.world_numbers.specs.Decoding.{seats_of}
use Rattle.world_inplace.specs.Bodies.{Bodies}
use Rattle.world_inplace.proofs.Rows.{blank_long}
use Rattle.world_inplace.proofs.Ticked.{none_ticked, Ticking, tick_on, tick_past, tick_off, tick_end}
use borrow.Author.Rules.{rules}
use Rattle.world_inplace.proofs.ticking.tick_seats.Given as goal

abbrev pub invariant-loop-id : goal.invariant-loop-id
invariant-loop-id l = Ticking l.numbers l.sides l.tiles l.tuning l.id (tick_all seats (seats_of seats (drop tuning_count l.numbers)) l.sides l.tiles l.tuning) (record { present = l.present; xs = l.xs; ys = l.ys; vxs = l.vxs; vys = l.vys }) l.rows l.marks

abbrev pub decreases-loop-id : goal.decreases-loop-id
decreases-loop-id l = seats - l.id
