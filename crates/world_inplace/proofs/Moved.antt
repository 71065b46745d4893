-- The move of a seat on plain arrays: what it leaves in them stands for the slots and records after the move. Assumes nothing.
use Prim.Native.Nat.{ℕ, ◌+◌, ◌*◌, ◌≤◌, ◌<◌}
use mathlib.Core.Bool.{Bool, true, false, true≢false}
use mathlib.Core.List.{List}
use mathlib.Core.Path.{◌≡◌, refl, sym, ap, ap₂, ◌∙◌, subst}
use native.Mathlib.Decide.{ℕ_discrete}
use native.Mathlib.Omega.{arith}
use lib.Ieee.{Float}
use lib.IntN.{ℤ, pos}
use lib.ListN.{length, get_or, set, length-set, length-replicate, get_or-replicate}
use lib.Seq.{get_or-set_same, get_or-set_other}
use Rattle.base_rows.specs.Put.{put}
use Rattle.base_rows.proofs.Puts.{length-put}
use Rattle.base_turns.specs.Turns.{Turn, more, stop}
use Rattle.base_turns.proofs.Loop.{Left, turn_on, turn_off, turn_end}
use Rattle.game_records.specs.declared.CharacterCore.{CharacterCore}
use Rattle.game_refusals.specs.Refusals.{number_of}
use Rattle.character.proofs.Refused.{move_refused}
use Rattle.game_tuning.specs.declared.Tuning.{Tuning}
use Rattle.map_tiles.specs.declared.tiles.Sides.{Sides}
use Rattle.num_convert.specs.Convert.{i32_to_f32}
use Rattle.num_convert.specs.Whole.{round_to_i32}
use Rattle.num_vec2.specs.declared.vec2.{vec2}
use Rattle.character_walk.specs.Walking.{ramped_move}
use Rattle.character.proofs.Placed.{places_moved}
use Rattle.character.specs.Places.{place_at, PlacesOf}
use Rattle.character.specs.Records.{core_of, from_net}
use Rattle.character.specs.Slot.{with_character}
use Rattle.character.specs.Tick.{seats, nowhere, slot_at}
use Rattle.character.specs.Walk.{moved_to, player_walk, rested, after_box, move_at}
use Rattle.character.specs.declared.Character.{Character}
use Rattle.character.specs.declared.Slot.{Slot}
use Rattle.character_laws.proofs.Back.{to_core}
use Rattle.world.specs.Demand3.{record_at}
use Rattle.world.specs.Step.{unpublished, put_back, Moving, record_of, move_in, move_turn, moving_from}
use Rattle.world_numbers.specs.Encoding.{record_count, record_numbers}
use Rattle.world_inplace.specs.Bodies.{Bodies, row_of, body_place, body_numbers, RowFor}
use Rattle.world_inplace.specs.Moves.{Ready, MovesOf, MovesWent, MovesDone, MoveOf}
use Rattle.world_inplace.proofs.Rows.{no_row, row_part, row_else}
use Rattle.std.specs.Prelude.{Result, Ok, Err}
use Rattle.map_walks.specs.declared.moves.Body.{Body}
use Rattle.game_refusals.specs.declared.Refusal.{Refusal}
use Rattle.game_refusals.specs.declared.Refusal.TheVariants.{TooFar}

-- ---- a move asks nothing of a character but its place and velocity

-- c where another has moved to
abbrev carried : Character → Result Character Refusal → Result Character Refusal
carried c (Err e) = Err e
carried c (Ok d) = Ok (moved_to c d.pos d.vel)

module _ (n : ℕ) (c d : Character) (id : ℕ) (ss : List Slot) (s : Sides) (ts : List ℕ) (t : Tuning) (p : c.pos ≡ d.pos) (v : c.vel ≡ d.vel) where
  rested_carried : (u : vec2) (w : Result vec2 Refusal) → rested c u w ≡ carried c (rested d u w)
  rested_carried u (Err e) = refl
  rested_carried u (Ok q) = refl

  box_carried : (w : Result Body Refusal) → after_box n c id ss t w ≡ carried c (after_box n d id ss t w)
  box_carried (Err e) = refl
  box_carried (Ok b) = rested_carried b.vel (player_walk n ss id c.pos b.pos t.player_collision) ∙ ap (λ (q : vec2). carried c (rested d b.vel (player_walk n ss id q b.pos t.player_collision))) p

  move_carried : move_at n c id ss s ts t ≡ carried c (move_at n d id ss s ts t)
  unfolding move_at
  move_carried = box_carried (ramped_move s ts c.pos c.vel t) ∙ ap₂ (λ (q u : vec2). carried c (after_box n d id ss t (ramped_move s ts q u t))) p v

-- ---- nobody has moved yet
pub none_moved : (ss : List Slot) (b : Bodies) (rows : List ℤ) (marks : List Bool) → Ready ss b rows marks → MovesOf 0 (moving_from seats ss) b rows marks
none_moved ss b rows marks h = record {
  count = h.count;
  counted = length-replicate seats unpublished;
  size = h.size;
  sized = h.sized;
  places = λ j l. (h.bodies j l).placed;
  marked = h.marked;
  waits = λ j z l q. (h.ticked j l q, (h.bodies j l).moves q);
  absent = λ j l q. h.absent j l q ∙ no_row ∙ ap record_numbers (sym (get_or-replicate seats j unpublished unpublished l));
  told = λ j z. absurd (omega arith);
}

-- ---- one moves
module _ (s : Sides) (ts : List ℕ) (t : Tuning) (j : ℕ) (l : j < seats) (m : Moving) (b : Bodies) (rows : List ℤ) (marks : List Bool) (here : (slot_at m.slots j).present ≡ true) (h : MovesOf j m b rows marks) where
  abbrev ss : List Slot
  ss = m.slots

  abbrev old : Character
  old = (slot_at ss j).character

  module _ (k : Result Character Refusal) (c : Character) (e : k ≡ move_at seats c j ss s ts t) (p : c.pos ≡ place_at b.xs b.ys j) (v : c.vel ≡ place_at b.vxs b.vys j) where
    -- what the own character's move answers
    answer : move_in seats s ts t ss j ≡ carried old k
    answer = rw e (move_carried seats old c j ss s ts t (sym (p ∙ (h.places j l).stands here)) (sym (v ∙ (h.waits j (omega arith) l here).1)))

    pub refuses : (r : Refusal) → k ≡ Err r → move_turn seats s ts t j m ≡ stop (number_of r)
    unfolding record_of
    refuses r z =
        let f : move_in seats s ts t ss j ≡ Err r = answer ∙ ap (carried old) z in
        rw (move_refused seats old j ss s ts t r f) (simp (here, f))

    module _ (d : Character) (z : k ≡ Ok d) where
      abbrev core : CharacterCore
      core = core_of (moved_to old d.pos d.vel)

      recorded : record_of (move_in seats s ts t ss j) ≡ Ok core
      unfolding record_of
      recorded =
          let f : move_in seats s ts t ss j ≡ Ok (moved_to old d.pos d.vel) = answer ∙ ap (carried old) z in
          rw (f, to_core (moved_to old d.pos d.vel) (h.waits j (omega arith) l here).0.fits) refl

      abbrev left : Moving
      left = record { slots = put_back ss j (from_net core); records = set m.records j (record { present = true; core = core }) }

      turn : move_turn seats s ts t j m ≡ more left
      turn = simp (here, recorded)

      abbrev xs-left : List Float
      xs-left = set b.xs j (i32_to_f32 (round_to_i32 d.pos.x))

      abbrev ys-left : List Float
      ys-left = set b.ys j (i32_to_f32 (round_to_i32 d.pos.y))

      abbrev rows_left : List ℤ
      rows_left = put rows (record_count * j + body_place) (body_numbers d.pos d.vel)

      full : j < length ss
      full = omega (arith, h.count)

      own-slot : slot_at left.slots j ≡ with_character (slot_at ss j) (from_net core)
      own-slot = get_or-set_same ss j _ nowhere full

      other-slot : (i : ℕ) → (i ≡ j → ⊥) → slot_at left.slots i ≡ slot_at ss i
      other-slot i f = get_or-set_other ss j i _ nowhere f

      other-record : (i : ℕ) → (i ≡ j → ⊥) → record_at left.records i ≡ record_at m.records i
      other-record i f = get_or-set_other m.records j i _ unpublished f

      other_row : (i : ℕ) → (i ≡ j → ⊥) → row_of rows_left i ≡ row_of rows i
      unfolding body_numbers
      other_row i f = row_else seats j rows h.size l body_place (body_numbers d.pos d.vel) i (omega arith) f

      own_row : row_of rows_left j ≡ record_numbers (record_at left.records j)
      unfolding body_numbers
      own_row =
          row_part seats j rows h.size l body_place (body_numbers d.pos d.vel) (omega arith)
          ∙ (h.waits j (omega arith) l here).0.moved d.pos d.vel
          ∙ ap record_numbers (sym (get_or-set_same m.records j _ unpublished (omega (arith, h.counted))))

      places : PlacesOf seats left.slots b.present xs-left ys-left
      unfolding from_net core_of
      places = places_moved seats ss b.present b.xs b.ys j (from_net core) l full (omega (arith, h.sized.present)) (omega (arith, h.sized.xs)) (omega (arith, h.sized.ys)) h.places

      long : length rows_left ≡ length rows
      unfolding body_numbers
      long = length-put rows (record_count * j + body_place) (body_numbers d.pos d.vel) (omega (arith, h.size))

      pub moves : MovesWent (j + 1) (move_turn seats s ts t j m) (record { present = b.present; xs = xs-left; ys = ys-left; vxs = b.vxs; vys = b.vys }) rows_left marks
      moves = record {
        moving = left;
        went = turn;
        stand = record {
          count = length-set ss j _ ∙ h.count;
          counted = length-set m.records j _ ∙ h.counted;
          size = long ∙ h.size;
          sized = record { present = h.sized.present; xs = simp length-set h.sized.xs; ys = simp length-set h.sized.ys; vxs = h.sized.vxs; vys = h.sized.vys };
          places = places;
          marked = marked;
          waits = waits;
          absent = absent;
          told = told;
        };
      }
        where
          marked : (i : ℕ) → i < seats → get_or marks i false ≡ (slot_at left.slots i).grounded
          marked i r = go (ℕ_discrete i j)
            where
              go : Dec (i ≡ j) → get_or marks i false ≡ (slot_at left.slots i).grounded
              go (yes f) = rw (f, own-slot) (h.marked j l)
              go (no f) = h.marked i r ∙ sym (ap (λ (u : Slot). u.grounded) (other-slot i f))

          waits : (i : ℕ) → j + 1 ≤ i → i < seats → (slot_at left.slots i).present ≡ true → RowFor (row_of rows_left i) (slot_at left.slots i).character × (place_at b.vxs b.vys i ≡ (slot_at left.slots i).character.vel)
          waits i w r q = let f : (i ≡ j → ⊥) = λ g. omega arith in rw (other-slot i f, other_row i f) (h.waits i (omega arith) r (sym (ap (λ (u : Slot). u.present) (other-slot i f)) ∙ q))

          absent : (i : ℕ) → i < seats → (slot_at left.slots i).present ≡ false → row_of rows_left i ≡ record_numbers (record_at left.records i)
          absent i r q = go (ℕ_discrete i j)
            where
              go : Dec (i ≡ j) → row_of rows_left i ≡ record_numbers (record_at left.records i)
              go (yes f) = rw f own_row
              go (no f) = other_row i f ∙ h.absent i r (sym (ap (λ (u : Slot). u.present) (other-slot i f)) ∙ q) ∙ ap record_numbers (sym (other-record i f))

          told : (i : ℕ) → i < j + 1 → i < seats → (slot_at left.slots i).present ≡ true → row_of rows_left i ≡ record_numbers (record_at left.records i)
          told i w r q = go (ℕ_discrete i j)
            where
              go : Dec (i ≡ j) → row_of rows_left i ≡ record_numbers (record_at left.records i)
              go (yes f) = rw f own_row
              go (no f) = other_row i f ∙ h.told i (omega arith) r (sym (ap (λ (u : Slot). u.present) (other-slot i f)) ∙ q) ∙ ap record_numbers (sym (other-record i f))

-- ---- one move after another
-- the ids below i have moved, and what is left ends as the whole does
pub record Going (s : Sides) (ts : List ℕ) (t : Tuning) (i : ℕ) (e : Turn Moving ℕ) (b : Bodies) (rows : List ℤ) (marks : List Bool) : Type 0 where
  pub moving : Moving
  pub goes : Left (move_turn seats s ts t) seats i moving e
  pub stand : MovesOf i moving b rows marks

module _ (s : Sides) (ts : List ℕ) (t : Tuning) (i : ℕ) (e : Turn Moving ℕ) (b : Bodies) (rows : List ℤ) (marks : List Bool) (h : Going s ts t i e b rows marks) where
  present_there : i < seats → (q : Bool) → get_or b.present i false ≡ q → (slot_at h.moving.slots i).present ≡ q
  present_there m q z = sym (h.stand.places i m).there ∙ z

  pub move_on : i < seats → get_or b.present i false ≡ true → (r : Result (Unit {0}) Refusal) (u : Unit {0}) → r ≡ Ok u → (c : Bodies) (us : List ℤ) → MoveOf r i s ts t b rows c us → Going s ts t (i + 1) e c us marks
  move_on m z r u q c us f =
      let w : MovesWent (i + 1) (move_turn seats s ts t i h.moving) c us marks = subst (λ (r : Result (Unit {0}) Refusal). MovesDone r (i + 1) (move_turn seats s ts t i h.moving) c us marks) q (f h.moving marks (present_there m true z) h.stand) in
      record { moving = w.moving; goes = turn_on h.goes m w.went; stand = w.stand }

  pub move_past : i < seats → get_or b.present i false ≡ false → Going s ts t (i + 1) e b rows marks
  move_past m z =
      let gone = present_there m false z in
      let o = h.stand in
      record { moving = h.moving; goes = turn_on h.goes m (simp gone); stand = record { count = o.count; counted = o.counted; size = o.size; sized = o.sized; places = o.places; marked = o.marked; waits = λ j q. o.waits j (omega arith); absent = o.absent; told = λ j q r w. o.told j (below j q (λ f. true≢false (sym w ∙ ap (λ (n : ℕ). (slot_at h.moving.slots n).present) f ∙ gone))) r w } }
    where
      below : (j : ℕ) → j < i + 1 → (j ≡ i → ⊥) → j < i
      below j q d = omega arith

  pub move_off : i < seats → get_or b.present i false ≡ true → (r : Result (Unit {0}) Refusal) (w : Refusal) → r ≡ Err w → (c : Bodies) (us : List ℤ) → MoveOf r i s ts t b rows c us → e ≡ stop (number_of w)
  move_off m z r w q c us f = turn_off h.goes m (subst (λ (r : Result (Unit {0}) Refusal). MovesDone r (i + 1) (move_turn seats s ts t i h.moving) c us marks) q (f h.moving marks (present_there m true z) h.stand))

  pub move_end : seats ≤ i → MovesWent seats e b rows marks
  move_end m =
      let last : i ≡ seats = omega (arith, h.goes.within) in
      record { moving = h.moving; went = turn_end h.goes m; stand = subst (λ (n : ℕ). MovesOf n h.moving b rows marks) last h.stand }
