use mathlib.Core.Bool.{Bool, true, false}
use mathlib.Core.List.{List}
use mathlib.Core.Logic.{⊎_elim}
use mathlib.Core.Path.{◌≡◌, sym, ap, ◌∙◌}
use Prim.Native.Nat.{ℕ, ◌-◌, ◌<◌}
use native.Mathlib.Omega.{arith}
use lib.Ieee.{Float}
use lib.ListN.{set}
use borrow.Author.Rules.{rules}
use Rattle.base_turns.proofs.Loop.{Left, turn_first, turn_on, turn_off, turn_end}
use Rattle.base_turns.specs.Turns.{more, stop}
use Rattle.map_tiles.specs.declared.tiles.Sides.{Sides}
use Rattle.game_tuning.specs.declared.Tuning.{Tuning}
use Rattle.game_refusals.specs.Refusals.{too_far}
use Rattle.character_meeting.specs.declared.meeting.HookPull.{HookPull}
use Rattle.character.proofs.Held.{held_below, pull-held}
use Rattle.character.specs.Among.{held_seat, pull_at, with_pull}
use Rattle.character.specs.Places.{PlacesOf}
use Rattle.character.specs.Tick.{seats, slot_at, pull_of, after_pull, pulled_slot, tick_at, ticked_slot}
use Rattle.character.specs.declared.Character.{Character}
use Rattle.character.specs.declared.Slot.{Slot}
use Rattle.character.specs.declared.tick.AfterTick.{AfterTick}
use Rattle.character.specs.declared.tick.OwnTick.{OwnTick}
use Rattle.character_laws.proofs.Places.{ticked-places}
use Rattle.world.specs.Step.{tick_turn, tick_all}
use Rattle.world_ticks.proofs.Pulled.{pulled_there}
use Rattle.world_ticks.proofs.ticking.tick_all.Given as goal

abbrev pub invariant-loop-id : goal.invariant-loop-id
invariant-loop-id l = Left (tick_turn seats l.sides l.tiles l.tuning) seats l.id l.all (tick_all seats l.initial.all l.sides l.tiles l.tuning) × PlacesOf seats l.all l.present l.xs l.ys

abbrev pub decreases-loop-id : goal.decreases-loop-id
decreases-loop-id l = seats - l.id
