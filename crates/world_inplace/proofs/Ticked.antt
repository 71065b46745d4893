-- The tick of a seat on plain arrays: what it leaves in them stands for the slots after the tick. Assumes nothing.
use Prim.Native.Nat.{ℕ, ◌+◌, ◌*◌, ◌≤◌, ◌<◌}
use mathlib.Core.Bool.{Bool, true, false, true≢false}
use mathlib.Core.List.{List}
use mathlib.Core.Path.{◌≡◌, refl, sym, ap, ◌∙◌, subst}
use native.Mathlib.Decide.{ℕ_discrete}
use native.Mathlib.Omega.{arith}
use lib.IntN.{ℤ, pos}
use lib.ListN.{length, get_or, set, drop, replicate, length-set, length-replicate, get_or-replicate}
use lib.Seq.{get_or-set_same, get_or-set_other}
use Rattle.base_rows.specs.Put.{put}
use Rattle.base_rows.proofs.Puts.{length-put}
use Rattle.base_turns.specs.Turns.{Turn, more, stop}
use Rattle.base_turns.proofs.Loop.{Left, turn_on, turn_off, turn_end}
use Rattle.game_records.specs.Numbers.{number_at}
use Rattle.game_refusals.specs.Refusals.{number_of}
use Rattle.character.proofs.Refused.{tick_refused}
use Rattle.game_tuning.specs.Tuning.{tuning_count}
use Rattle.game_tuning.specs.declared.Tuning.{Tuning}
use Rattle.map_tiles.specs.declared.tiles.Sides.{Sides}
use Rattle.character_hook.specs.Hook.{tick_of}
use Rattle.character_meeting.specs.declared.meeting.HookPull.{HookPull}
use Rattle.character.proofs.Held.{held_below, pull-held}
use Rattle.character.specs.Among.{held_seat, with_pull}
use Rattle.character.specs.Character.{with_vel}
use Rattle.character.specs.Places.{place_at, PlacesOf}
use Rattle.character.specs.Records.{to_net, most_tick}
use Rattle.character.specs.Tick.{seats, nowhere, slot_at, pull_of, after_pull, tick_at, ticked_slot}
use Rattle.character.specs.declared.Character.{Character}
use Rattle.character.specs.declared.Slot.{Slot}
use Rattle.character.specs.declared.tick.AfterTick.{AfterTick}
use Rattle.character.specs.declared.tick.OwnTick.{OwnTick}
use Rattle.character_laws.proofs.Others.{Then, tick_pos, pulled_others, pulled-length}
use Rattle.world.proofs.Numbers.{tick-short}
use Rattle.game_tuning.specs.Tuning.{hold_of}
use Rattle.game_tuning.proofs.Hold.{hold_most}
use Rattle.world.specs.Step.{tick_turn}
use Rattle.world_numbers.specs.Encoding.{record_count, seat_place, net_core, record_numbers}
use Rattle.world_numbers.specs.Decoding.{is_set, seat_of, seats_of, decoding}
use Rattle.world_numbers.proofs.Rows.{record_long}
use Rattle.world_numbers.proofs.RowsIn.{rows_long}
use Rattle.world_numbers.proofs.Seats.{seat_is}
use Rattle.world_inplace.specs.Bodies.{Bodies, Sized, BodiesOf, left_at, speeds_after, row_of, Blank, RowFor}
use Rattle.world_inplace.specs.Ticks.{with_speed, TicksOf, TicksWent, TicksDone, TickOf}
use Rattle.world_inplace.proofs.Rows.{row_for, row_whole, row_else, blank_long, blank_row}
use Rattle.world_inplace.proofs.Speeds.{with_speed_at, speed_set, pulled_bodies}
use Rattle.std.specs.Prelude.{Option, Result, Ok, Err}
use Rattle.game_refusals.specs.declared.Refusal.{Refusal}
use Rattle.game_refusals.specs.declared.Refusal.TheVariants.{TooFar}

-- the places of bodies
pub places_in : (n : ℕ) (ss : List Slot) (b : Bodies) → BodiesOf n ss b → PlacesOf n ss b.present b.xs b.ys
places_in n ss b h j l = (h j l).placed

-- an absent seat has no floor mark
unmarked : (r : List ℤ) → ((seat_of r).present ≡ true → ⊥) → (seat_of r).grounded ≡ false
unfolding seat_of
unmarked r = go (is_set (number_at r 0)) refl
  where
    go : (q : Bool) → is_set (number_at r 0) ≡ q → ((seat_of r).present ≡ true → ⊥) → (seat_of r).grounded ≡ false
    go true e h = absurd (h (rw e refl))
    go false e h = rw e refl

-- nobody has ticked yet
pub none_ticked : (l : List ℤ) (b : Bodies) (rows : List ℤ) (marks : List Bool) → Blank rows marks → Sized b → BodiesOf seats (seats_of seats (drop tuning_count l)) b → TicksOf l 0 (seats_of seats (drop tuning_count l)) b rows marks
unfolding decoding
none_ticked l b rows marks e z h = record {
  count = rows_long seat_of _ seats (drop tuning_count l);
  size = blank_long rows e.zeros;
  markers = ap length e.unset ∙ length-replicate seats false;
  sized = z;
  bodies = h;
  waits = λ j q m. same (seat_is seats j l m);
  ticked = λ j q. absurd (omega arith);
  marked = λ j m q. ap (λ (ks : List Bool). get_or ks j false) e.unset ∙ get_or-replicate seats j false false m ∙ sym (ap (λ (s : Slot). s.grounded) (seat_is seats j l m) ∙ unmarked (drop (seat_place j) l) (λ w. absurd (let n : j < 0 = q (ap (λ (s : Slot). s.present) (seat_is seats j l m) ∙ w) in omega arith)));
  absent = λ j m q. blank_row seats j rows e.zeros m;
}
  where
    same : {s o : Slot} → s ≡ o → s ≡ with_speed o s.character.vel
    same e = rw e refl

module _ (l : List ℤ) (s : Sides) (ts : List ℕ) (t : Tuning) (j : ℕ) (m : j < seats) (ss : List Slot) (b : Bodies) (rows : List ℤ) (marks : List Bool) (here : (slot_at ss j).present ≡ true) (h : TicksOf l j ss b rows marks) where
  abbrev seat : Slot
  seat = seat_of (drop (seat_place j) l)

  -- whom it is that ticks, and with which input
  seat_now : slot_at ss j ≡ with_speed seat (place_at b.vxs b.vys j)
  seat_now = h.waits j (omega arith) m ∙ ap (with_speed seat) (sym ((h.bodies j m).moves here))

  module _ (k : Result OwnTick Refusal) (e : with_pull seats ss j t k ≡ tick_at seats (with_vel seat.character (place_at b.vxs b.vys j)) j ss s ts seat.input t) where
    answer : with_pull seats ss j t k ≡ tick_at seats (slot_at ss j).character j ss s ts (slot_at ss j).input t
    answer = rw seat_now e

    pub refuses : (r : Refusal) → k ≡ Err r → tick_turn seats s ts t j ss ≡ stop (number_of r)
    refuses r z =
        let f = sym (rw z at answer) in
        rw (tick_refused seats (slot_at ss j).character j ss s ts (slot_at ss j).input t r f) (simp (here, f))

    module _ (own : OwnTick) (z : k ≡ Ok own) where
      abbrev me : Character
      me = own.me

      abbrev g : Bool
      g = own.grounded

      abbrev pull : Option HookPull
      pull = pull_of seats ss j me.pos me.hook t

      abbrev after : AfterTick
      after = record { me = me; pull = pull; grounded = g }

      to : tick_at seats (slot_at ss j).character j ss s ts (slot_at ss j).input t ≡ Ok after
      to = sym (rw z at answer)

      -- the slots after the pull, then those after the tick
      abbrev pulled : List Slot
      pulled = after_pull ss pull

      abbrev left : List Slot
      left = set pulled j (ticked_slot (slot_at pulled j) after)

      turn : tick_turn seats s ts t j ss ≡ more left
      turn = simp (here, to)

      pulled-full : length pulled ≡ seats
      pulled-full = pulled-length ss pull ∙ h.count

      own-left : slot_at left j ≡ ticked_slot (slot_at pulled j) after
      own-left = get_or-set_same pulled j _ nowhere (omega (arith, pulled-full))

      -- the others but for their velocities
      other-left : (i : ℕ) → (i ≡ j → ⊥) → slot_at left i ≡ with_speed (slot_at ss i) (slot_at left i).character.vel
      other-left i d = let f : slot_at left i ≡ slot_at pulled i = get_or-set_other pulled j i _ nowhere d in rw f (pulled_others ss pull i)

      there : (i : ℕ) → (slot_at left i).present ≡ (slot_at ss i).present
      there i = go (ℕ_discrete i j)
        where
          go : Dec (i ≡ j) → (slot_at left i).present ≡ (slot_at ss i).present
          go (yes q) = rw q (ap (λ (x : Slot). x.present) own-left ∙ ap (λ (x : Slot). x.present) (pulled_others ss pull j))
          go (no d) = ap (λ (x : Slot). x.present) (other-left i d)

      short : tick_of me.hook ≤ most_tick
      short = let q : tick_of me.hook ≤ hold_of t.hook_hold = subst (Then (λ a. tick_of a.me.hook ≤ hold_of t.hook_hold)) to (tick-short seats (slot_at ss j).character j ss s ts (slot_at ss j).input t) in omega (arith, q, hold_most t.hook_hold)

      stays : me.pos ≡ (slot_at ss j).character.pos
      stays = subst (Then (λ a. a.me.pos ≡ (slot_at ss j).character.pos)) to (tick_pos seats (slot_at ss j).character j ss s ts (slot_at ss j).input t)

      -- the arrays after the tick
      sized : Sized (speeds_after b me j t)
      sized = record { present = h.sized.present; xs = h.sized.xs; ys = h.sized.ys; vxs = simp length-set h.sized.vxs; vys = simp length-set h.sized.vys }

      bodies : BodiesOf seats left (speeds_after b me j t)
      bodies =
          let held = held_seat seats me.hook j in
          let lower : held < seats = held_below seats j me.hook m in
          let first = pulled_bodies seats ss b held lower (omega (arith, h.count)) (omega (arith, h.sized.vxs)) (omega (arith, h.sized.vys)) h.bodies me j t in
          let v = left_at b me j held t in
          let next : BodiesOf seats pulled (with_speed_at b held v) = rw (sym (pull-held seats j ss me.pos me.hook t)) at first in
          speed_set seats pulled (with_speed_at b held v) j (omega (arith, pulled-full)) (omega (arith, h.sized.vxs, length-set b.vxs held v.x)) (omega (arith, h.sized.vys, length-set b.vys held v.y)) next (ticked_slot (slot_at pulled j) after) me.vel m (record {
            there = refl;
            stands = stays ∙ sym (ap (λ (v : Slot). v.character.pos) (pulled_others ss pull j));
            moves = λ q. refl;
          })

      abbrev row : List ℤ
      row = record_numbers (record { present = true; core = net_core (to_net me) })

      abbrev rows_left : List ℤ
      rows_left = put rows (record_count * j) row

      long : length row ≡ record_count
      long = record_long _

      other_row : (i : ℕ) → (i ≡ j → ⊥) → row_of rows_left i ≡ row_of rows i
      other_row i d = let z : record_count * j + 0 ≡ record_count * j = omega arith in rw z at (row_else seats j rows h.size m 0 row i (omega (arith, long)) d)

      pub ticks : TicksWent l (j + 1) (tick_turn seats s ts t j ss) (speeds_after b me j t) rows_left (set marks j g)
      ticks = record {
        slots = left;
        went = turn;
        stand = record {
          count = length-set pulled j _ ∙ pulled-full;
          size = length-put rows (record_count * j) row (omega (arith, long, h.size)) ∙ h.size;
          markers = length-set marks j g ∙ h.markers;
          sized = sized;
          bodies = bodies;
          waits = waits;
          ticked = ticked;
          marked = marked;
          absent = absent;
        };
      }
        where
          waits : (i : ℕ) → j + 1 ≤ i → i < seats → slot_at left i ≡ with_speed (seat_of (drop (seat_place i) l)) (slot_at left i).character.vel
          waits i q r = let d : (i ≡ j → ⊥) = λ f. omega arith in other-left i d ∙ ap (λ (v : Slot). with_speed v (slot_at left i).character.vel) (h.waits i (omega arith) r)

          ticked : (i : ℕ) → i < j + 1 → i < seats → (slot_at left i).present ≡ true → RowFor (row_of rows_left i) (slot_at left i).character
          ticked i q r w = go (ℕ_discrete i j)
            where
              go : Dec (i ≡ j) → RowFor (row_of rows_left i) (slot_at left i).character
              go (yes f) = rw (f, own-left) (subst (λ (u : List ℤ). RowFor u me) (sym (row_whole seats j rows h.size m row long)) (row_for me short))
              go (no d) =
                  let old = h.ticked i (omega arith) r (sym (there i) ∙ w) in
                  rw (other-left i d, other_row i d) (record { fits = old.fits; moved = old.moved })

          marked : (i : ℕ) → i < seats → ((slot_at left i).present ≡ true → i < j + 1) → get_or (set marks j g) i false ≡ (slot_at left i).grounded
          marked i r w = go (ℕ_discrete i j)
            where
              go : Dec (i ≡ j) → get_or (set marks j g) i false ≡ (slot_at left i).grounded
              go (yes f) = rw (f, own-left) (get_or-set_same marks j g false (omega (arith, h.markers)))
              go (no d) =
                  get_or-set_other marks j i g false d
                  ∙ h.marked i r (λ z. let n : i < j + 1 = w (there i ∙ z) in omega arith)
                  ∙ sym (ap (λ (x : Slot). x.grounded) (other-left i d))

          absent : (i : ℕ) → i < seats → (slot_at left i).present ≡ false → row_of rows_left i ≡ replicate record_count (pos 0)
          absent i r w =
              let a : (slot_at ss i).present ≡ false = sym (there i) ∙ w in
              other_row i (λ f. true≢false (sym here ∙ ap (λ (n : ℕ). (slot_at ss n).present) (sym f) ∙ a)) ∙ h.absent i r a

-- ---- one tick after another
-- the ids below i have ticked, and what is left ends as the whole does
pub record Ticking (l : List ℤ) (s : Sides) (ts : List ℕ) (t : Tuning) (i : ℕ) (e : Turn (List Slot) ℕ) (b : Bodies) (rows : List ℤ) (marks : List Bool) : Type 0 where
  pub slots : List Slot
  pub goes : Left (tick_turn seats s ts t) seats i slots e
  pub stand : TicksOf l i slots b rows marks

module _ (l : List ℤ) (s : Sides) (ts : List ℕ) (t : Tuning) (i : ℕ) (e : Turn (List Slot) ℕ) (b : Bodies) (rows : List ℤ) (marks : List Bool) (h : Ticking l s ts t i e b rows marks) where
  present_there : i < seats → (q : Bool) → get_or b.present i false ≡ q → (slot_at h.slots i).present ≡ q
  present_there m q z = sym (h.stand.bodies i m).placed.there ∙ z

  pub tick_on : i < seats → get_or b.present i false ≡ true → (r : Result (Unit {0}) Refusal) (u : Unit {0}) → r ≡ Ok u → (c : Bodies) (us : List ℤ) (ks : List Bool) → TickOf r l i s ts t b rows marks c us ks → Ticking l s ts t (i + 1) e c us ks
  tick_on m z r u q c us ks f =
      let w : TicksWent l (i + 1) (tick_turn seats s ts t i h.slots) c us ks = subst (λ (r : Result (Unit {0}) Refusal). TicksDone r l (i + 1) (tick_turn seats s ts t i h.slots) c us ks) q (f h.slots (present_there m true z) h.stand) in
      record { slots = w.slots; goes = turn_on h.goes m w.went; stand = w.stand }

  pub tick_past : i < seats → get_or b.present i false ≡ false → Ticking l s ts t (i + 1) e b rows marks
  tick_past m z =
      let gone = present_there m false z in
      let o = h.stand in
      record { slots = h.slots; goes = turn_on h.goes m (simp gone); stand = record { count = o.count; size = o.size; markers = o.markers; sized = o.sized; bodies = o.bodies; waits = λ j q. o.waits j (omega arith); ticked = λ j q r w. o.ticked j (below j q w) r w; marked = λ j r q. o.marked j r (λ w. below j (q w) w); absent = o.absent } }
    where
      less : (j : ℕ) → j < i + 1 → (j ≡ i → ⊥) → j < i
      less j q d = omega arith

      below : (j : ℕ) → j < i + 1 → (slot_at h.slots j).present ≡ true → j < i
      below j q w = less j q (λ f. true≢false (sym w ∙ ap (λ (n : ℕ). (slot_at h.slots n).present) f ∙ present_there m false z))

  pub tick_off : i < seats → get_or b.present i false ≡ true → (r : Result (Unit {0}) Refusal) (w : Refusal) → r ≡ Err w → (c : Bodies) (us : List ℤ) (ks : List Bool) → TickOf r l i s ts t b rows marks c us ks → e ≡ stop (number_of w)
  tick_off m z r w q c us ks f = turn_off h.goes m (subst (λ (r : Result (Unit {0}) Refusal). TicksDone r l (i + 1) (tick_turn seats s ts t i h.slots) c us ks) q (f h.slots (present_there m true z) h.stand))

  pub tick_end : seats ≤ i → TicksWent l seats e b rows marks
  tick_end m =
      let last : i ≡ seats = omega (arith, h.goes.within) in
      record { slots = h.slots; went = turn_end h.goes m; stand = subst (λ (n : ℕ). TicksOf l n h.slots b rows marks) last h.stand }
