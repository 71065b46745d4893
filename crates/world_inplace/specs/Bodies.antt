-- Plain arrays that stand for slots in a step: who is there, where and how fast; and the rows of the records. Definitions only.
use Rattle.std.specs.Prelude.{ℕ, ◌*◌, ◌<◌, ◌≤◌, Bool, true, false, List, [], ◌∷◌, ◌≡◌, Float, ℤ, pos, length, get_or, set, take, drop, replicate}
use Rattle.base_rows.specs.Put.{put}
use Rattle.num_convert.specs.Convert.{to256ths}
use Rattle.num_convert.specs.Whole.{round_to_i32}
use Rattle.num_vec2.specs.declared.vec2.{vec2}
use Rattle.game_tuning.specs.declared.Tuning.{Tuning}
use Rattle.character_hook.specs.Hook.{tick_of}
use Rattle.character_meeting.specs.declared.meeting.HookPull.{HookPull}
use Rattle.character.specs.Among.{held_seat, pull_at}
use Rattle.character.specs.Places.{place_at, Placed}
use Rattle.character.specs.Records.{core_of, most_tick}
use Rattle.character.specs.Tick.{seats, slot_at}
use Rattle.character.specs.Walk.{moved_to}
use Rattle.character.specs.declared.Character.{Character}
use Rattle.character.specs.declared.Slot.{Slot}
use Rattle.world_numbers.specs.Encoding.{record_count, records_count, record_numbers}
use Rattle.std.specs.Prelude.{Option, None}
use Rattle.std.specs.Prelude.{Some}

-- of each seat whether somebody is there, the place and the velocity; those of an absent seat mean nothing
pub record Bodies : Type 0 where
  pub present : List Bool
  pub xs : List Float
  pub ys : List Float
  pub vxs : List Float
  pub vys : List Float

-- a number for each seat
pub record Sized (b : Bodies) : Type 0 where
  pub present : length b.present ≡ seats
  pub xs : length b.xs ≡ seats
  pub ys : length b.ys ≡ seats
  pub vxs : length b.vxs ≡ seats
  pub vys : length b.vys ≡ seats

-- b is whether somebody is there; p and v are where and how fast, if somebody is
pub record Embodied (s : Slot) (b : Bool) (p v : vec2) : Type 0 where
  pub placed : Placed s b p
  pub moves : s.present ≡ true → v ≡ s.character.vel

-- these are the bodies of the first n slots
abbrev pub BodiesOf : ℕ → List Slot → Bodies → Type 0
BodiesOf n ss b = (j : ℕ) → j < n → Embodied (slot_at ss j) (get_or b.present j false) (place_at b.xs b.ys j) (place_at b.vxs b.vys j)

-- the velocity v after a pull
unfoldable pub pulled_vel : Option HookPull → vec2 → vec2
pulled_vel None v = v
pulled_vel (Some p) v = p.vel

-- the velocity that the hook of c, who has ticked, leaves whoever is at the held seat
unfoldable pub left_at : Bodies → Character → ℕ → ℕ → Tuning → vec2
left_at b c own held t = let v = place_at b.vxs b.vys held in pulled_vel (pull_at c.pos own held (get_or b.present held false) (place_at b.xs b.ys held) v t) v

-- the velocities after the tick that left c at its seat: whom its hook holds, then the own one
abbrev pub speeds_after : Bodies → Character → ℕ → Tuning → Bodies
speeds_after b c own t =
    let held = held_seat seats c.hook own in
    let left = left_at b c own held t in
    record { present = b.present; xs = b.xs; ys = b.ys; vxs = set (set b.vxs held left.x) own c.vel.x; vys = set (set b.vys held left.y) own c.vel.y }

-- ---- rows

-- the row of the seat j
abbrev pub row_of : List ℤ → ℕ → List ℤ
row_of rows j = take record_count (drop (record_count * j) rows)

-- nobody has a record or a floor mark yet
pub record Blank (rows : List ℤ) (marks : List Bool) : Type 0 where
  pub zeros : rows ≡ replicate records_count (pos 0)
  pub unset : marks ≡ replicate seats false

-- where the four numbers begin in a row that a move may change, and which they are
abbrev pub body_place : ℕ
body_place = 2

unfoldable pub body_numbers : vec2 → vec2 → List ℤ
body_numbers p v = round_to_i32 p.x ∷ round_to_i32 p.y ∷ to256ths v.x ∷ to256ths v.y ∷ []

-- the row r is that of c but for these: with those of any place and velocity it is the record of c with this place and velocity
pub record RowFor (r : List ℤ) (c : Character) : Type 0 where
  pub fits : tick_of c.hook ≤ most_tick
  pub moved : (p v : vec2) → put r body_place (body_numbers p v) ≡ record_numbers (record { present = true; core = core_of (moved_to c p v) })
