use mathlib.Core.Bool.{Bool, true, false}
use mathlib.Core.List.{List}
use mathlib.Core.Logic.{⊎_elim}
use mathlib.Core.Path.{◌≡◌, sym, ap, ◌∙◌}
use Prim.Native.Nat.{ℕ, ◌-◌, ◌<◌}
use native.Mathlib.Omega.{arith}
use lib.Ieee.{Float}
use lib.ListN.{length, set, length-set}
use borrow.Author.Rules.{rules}
use Rattle.base_turns.proofs.Loop.{Left, turn_first, turn_on, turn_off, turn_end}
use Rattle.base_turns.specs.Turns.{more, stop}
use Rattle.map_tiles.specs.declared.tiles.Sides.{Sides}
use Rattle.game_tuning.specs.declared.Tuning.{Tuning}
use Rattle.game_records.specs.declared.CharacterCore.{CharacterCore}
use Rattle.character.proofs.Placed.{places_moved}
use Rattle.character.specs.Places.{PlacesOf}
use Rattle.character.specs.Tick.{seats, slot_at}
use Rattle.character.specs.declared.Character.{Character}
use Rattle.character.specs.declared.Slot.{Slot}
use Rattle.character.specs.Records.{from_net}
use Rattle.world.specs.Step.{put_back, Moving, record_of, move_in, move_turn, moving_from, move_all}
use Rattle.world.specs.declared.Published.{Published}
use Rattle.world_step.proofs.moving.move_all.Given as goal

abbrev pub moving : List Slot → List Published → Moving
moving ss rs = record { slots = ss; records = rs }

-- where everybody is, as it is noted
abbrev pub Noted : List Slot → List Bool → List Float → List Float → Type 0
Noted ss ps xs ys = (length ss ≡ seats) × (length ps ≡ seats) × (length xs ≡ seats) × (length ys ≡ seats) × PlacesOf seats ss ps xs ys

pub noted : (ss : List Slot) (ps : List Bool) (xs ys : List Float) (j : ℕ) (c : Character) (us : List Slot) (vs ws : List Float) → j < seats → us ≡ put_back ss j c → vs ≡ set xs j c.pos.x → ws ≡ set ys j c.pos.y → Noted ss ps xs ys → Noted us ps vs ws
noted ss ps xs ys j c us vs ws l e f g h = rw (e, f, g) (simp length-set h.0, h.1, simp length-set h.2, simp length-set h.3, places_moved seats ss ps xs ys j c l (omega arith) (omega arith) (omega arith) (omega arith) h.4)

abbrev pub invariant-loop-j : goal.invariant-loop-j
invariant-loop-j l = Left (move_turn seats l.sides l.tiles l.tuning) seats l.j (moving l.all l.records) (move_all seats l.initial.all l.sides l.tiles l.tuning) × Noted l.all l.present l.xs l.ys

abbrev pub decreases-loop-j : goal.decreases-loop-j
decreases-loop-j l = seats - l.j
