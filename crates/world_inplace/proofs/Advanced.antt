-- The ticks and then the moves on plain arrays. Assumes nothing.
use Prim.Native.Nat.{ℕ, ◌<◌}
use mathlib.Core.Bool.{Bool, true, false, true≢false}
use mathlib.Core.List.{List}
use mathlib.Core.Path.{◌≡◌, refl, sym, subst}
use lib.Ieee.{Float}
use lib.IntN.{ℤ}
use lib.ListN.{length}
use Rattle.base_turns.specs.Turns.{Turn, stop, next}
use Rattle.game_refusals.specs.Refusals.{number_of}
use Rattle.game_refusals.specs.declared.Refusal.{Refusal}
use Rattle.std.specs.Prelude.{Result, Ok, Err}
use Rattle.game_tuning.specs.declared.Tuning.{Tuning}
use Rattle.map_tiles.specs.declared.tiles.Sides.{Sides}
use Rattle.character.specs.Tick.{seats, slot_at}
use Rattle.character.specs.declared.Slot.{Slot}
use Rattle.world.specs.Demand3.{record_at}
use Rattle.world.specs.Step.{Moving, move_all}
use Rattle.world_numbers.specs.Encoding.{record_numbers}
use Rattle.world_inplace.specs.Bodies.{Bodies, row_of}
use Rattle.world_inplace.specs.Ticks.{TicksOf, TicksWent, TicksDone}
use Rattle.world_inplace.specs.Moves.{Ready, MovesOf, MovesDone, AllMoved}
use Rattle.world_inplace.specs.Advance.{Advanced, AdvanceDone}

-- who have all ticked are ready to move
ready : (l : List ℤ) (ss : List Slot) (b : Bodies) (rows : List ℤ) (marks : List Bool) → TicksOf l seats ss b rows marks → Ready ss b rows marks
ready l ss b rows marks h = record { count = h.count; size = h.size; sized = h.sized; bodies = h.bodies; ticked = λ j q. h.ticked j q q; marked = λ j q. h.marked j q (λ z. q); absent = h.absent }

-- every row is a record, somebody's or nobody's
rows_told : (m : Moving) (b : Bodies) (rows : List ℤ) (marks : List Bool) → MovesOf seats m b rows marks → (j : ℕ) → j < seats → row_of rows j ≡ record_numbers (record_at m.records j)
rows_told m b rows marks h j l = go (slot_at m.slots j).present refl
  where
    go : (q : Bool) → (slot_at m.slots j).present ≡ q → row_of rows j ≡ record_numbers (record_at m.records j)
    go true e = h.told j l l e
    go false e = h.absent j l e

module _ (b : Bodies) (rows : List ℤ) (marks : List Bool) (full : length marks ≡ seats) where
  moves_done : (r : Result (Unit {0}) Refusal) (e : Turn Moving ℕ) → MovesDone r seats e b rows marks → AdvanceDone r e b.present b.xs b.ys rows marks
  moves_done (Err w) e h = h
  moves_done (Ok u) e h = record {
    moving = h.moving;
    went = h.went;
    count = h.stand.count;
    counted = h.stand.counted;
    size = h.stand.size;
    markers = full;
    places = h.stand.places;
    told = rows_told h.moving b rows marks h.stand;
    marked = h.stand.marked;
  }

-- by what the ticks answered
pub ticks_done : {l : List ℤ} {i : ℕ} {e : Turn (List Slot) ℕ} {b : Bodies} {rows : List ℤ} {marks : List Bool} (r : Result (Unit {0}) Refusal) (u : Unit {0}) → r ≡ Ok u → TicksDone r l i e b rows marks → TicksWent l i e b rows marks
ticks_done {l} {i} {e} {b} {rows} {marks} r u q h = subst (λ (o : Result (Unit {0}) Refusal). TicksDone o l i e b rows marks) q h

pub ticks_off : (l : List ℤ) (i : ℕ) (b : Bodies) (rows : List ℤ) (marks : List Bool) {e : Turn (List Slot) ℕ} (r : Result (Unit {0}) Refusal) (w : Refusal) → r ≡ Err w → TicksDone r l i e b rows marks → e ≡ stop (number_of w)
ticks_off l i b rows marks {e} r w q h = subst (λ (o : Result (Unit {0}) Refusal). TicksDone o l i e b rows marks) q h

module _ (l : List ℤ) (s : Sides) (ts : List ℕ) (t : Tuning) (e : Turn (List Slot) ℕ) where
  -- the ticks are done, then the moves answer r
  pub both_done : (b : Bodies) (rows : List ℤ) (marks : List Bool) (c : Bodies) (us : List ℤ) (r : Result (Unit {0}) Refusal) → TicksWent l seats e b rows marks → AllMoved r s ts t b rows c us → AdvanceDone r (next (λ ss. move_all seats ss s ts t) e) c.present c.xs c.ys us marks
  both_done b rows marks c us r h f = rw h.went (moves_done c us marks h.stand.markers r (move_all seats h.slots s ts t) (f h.slots marks (ready l h.slots b rows marks h.stand)))

  -- a tick is refused
  pub ticks_refused : (k : ℕ) → e ≡ stop k → next (λ ss. move_all seats ss s ts t) e ≡ stop k
  ticks_refused k z = rw z

-- by what both answered
pub advance_done : {e : Turn Moving ℕ} {ps : List Bool} {xs ys : List Float} {rows : List ℤ} {marks : List Bool} (r : Result (Unit {0}) Refusal) (u : Unit {0}) → r ≡ Ok u → AdvanceDone r e ps xs ys rows marks → Advanced e ps xs ys rows marks
advance_done {e} {ps} {xs} {ys} {rows} {marks} r u q h = subst (λ (o : Result (Unit {0}) Refusal). AdvanceDone o e ps xs ys rows marks) q h

pub advance_off : (ps : List Bool) (xs ys : List Float) (rows : List ℤ) (marks : List Bool) {e : Turn Moving ℕ} (r : Result (Unit {0}) Refusal) (w : Refusal) → r ≡ Err w → AdvanceDone r e ps xs ys rows marks → e ≡ stop (number_of w)
advance_off ps xs ys rows marks {e} r w q h = subst (λ (o : Result (Unit {0}) Refusal). AdvanceDone o e ps xs ys rows marks) q h
