-- What a query is told, and its refusals as exact conditions. Definitions only; proofs/Readings.antt proves it.
use Rattle.std.specs.Prelude.{ℕ, ◌<◌, true, List, ◌≡◌, ℤ, pos, get_or}
use Rattle.map_tiles.specs.declared.tiles.Sides.{Sides}
use Rattle.game_records.specs.declared.CharacterCore.{CharacterCore}
use Rattle.game_refusals.specs.Refusals.{bad_tuning, tick_too_large}
use Rattle.game_tuning.specs.Tuning.{tuning_count, hook_hold}
use Rattle.character_hook.specs.declared.hook.CharacterId.{CharacterId}
use Rattle.character_hook.specs.declared.hook.Hook.TheVariants.{Grabbed}
use Rattle.character.specs.Records.{from_net, quantize}
use Rattle.character.specs.Tick.{slot_at}
use Rattle.world.specs.World.{fresh}
use Rattle.world.specs.Answers.{LowestFirst, Outside, SeatFits}
use Rattle.world.specs.Hold.{hold_in}
use Rattle.world.specs.Readers.{read_of}
use Rattle.world.specs.Run.{after}
use Rattle.world.specs.declared.World.{World}
use Rattle.world.specs.declared.call.Call.{Call}
use Rattle.world.specs.declared.reading.Query.TheVariants as query
use Rattle.world.specs.ReadAnswer.{ReadAnswer}
use Rattle.world.specs.ReadAnswer as reading
use Rattle.std.specs.Prelude.{Ok}

-- 0 where a query is told what it asks for, else the number that refuses it
abbrev pub read_number : ReadAnswer → ℕ
read_number (reading.Refused k) = k
read_number (reading.Record c) = 0
read_number (reading.FloorMark b) = 0
read_number (reading.PlayerInput i) = 0
read_number (reading.Tuning z) = 0

-- ---- which numbers fit

-- somebody is at this id whose hook has held for more than 2,147,483,647 ticks
pub record HeldTooLong (w : World) (id : ℤ) : Type 0 where
  pub seat : ℕ
  pub is : id ≡ pos seat
  pub there : (slot_at w.slots seat).present ≡ true
  pub who : CharacterId
  pub ticks : ℕ
  pub holds : (slot_at w.slots seat).character.hook ≡ Grabbed who ticks
  pub long : 2147483647 < ticks

-- the read of a record
pub data RecordFits (n : ℕ) (w : World) (id : ℤ) (k : ℕ) : Type 0 where
  no_one : SeatFits n w id k → RecordFits n w id k
  too_long : k ≡ tick_too_large → HeldTooLong w id → RecordFits n w id k

-- the read of a tuning
pub data TuningFits (index : ℤ) (k : ℕ) : Type 0 where
  no_tuning : k ≡ bad_tuning → Outside tuning_count index → TuningFits index k

-- ---- the claim

-- a record is told, and the character that it gives back is what quantizing makes of the one at this id
pub record TellsRecord (n : ℕ) (w : World) (id : ℤ) : Type 0 where
  pub seat : ℕ
  pub is : id ≡ pos seat
  pub core : CharacterCore
  pub told : read_of n w (query.Record id) ≡ reading.Record core
  pub back : quantize (slot_at w.slots seat).character ≡ Ok (from_net core)

pub record Readings (n : ℕ) : Type 0 where
  -- in every world: when a query is refused, and with which number
  pub record_number : (w : World) (id : ℤ) → LowestFirst (RecordFits n w id) (read_number (read_of n w (query.Record id)))
  pub mark_number : (w : World) (id : ℤ) → LowestFirst (SeatFits n w id) (read_number (read_of n w (query.FloorMark id)))
  pub input_number : (w : World) (id : ℤ) → LowestFirst (SeatFits n w id) (read_number (read_of n w (query.PlayerInput id)))
  pub tuning_number : (w : World) (index : ℤ) → LowestFirst (TuningFits index) (read_number (read_of n w (query.Tuning index)))
  -- what else is told: a record, the stored input, and a tuning as it was tuned
  pub told : (w : World) (id : ℤ) → read_number (read_of n w (query.Record id)) ≡ 0 → TellsRecord n w id
  pub input : (w : World) (k : ℕ) → k < n → (slot_at w.slots k).present ≡ true → read_of n w (query.PlayerInput (pos k)) ≡ reading.PlayerInput (slot_at w.slots k).input
  pub tuning : (w : World) (k : ℕ) → k < hook_hold → read_of n w (query.Tuning (pos k)) ≡ reading.Tuning (get_or w.tunings k (pos 0))
  pub hold : (w : World) → read_of n w (query.Tuning (pos hook_hold)) ≡ reading.Tuning (pos (hold_in w))
  -- after every list of calls from a fresh world a record gives back the character itself, and 10 is never told
  pub back : (s : Sides) (ts : List ℕ) (cs : List Call) (k : ℕ) (c : CharacterCore) → let w = after n s ts (fresh n) cs in read_of n w (query.Record (pos k)) ≡ reading.Record c → from_net c ≡ (slot_at w.slots k).character
  pub never_ten : (s : Sides) (ts : List ℕ) (cs : List Call) (id : ℤ) → read_number (read_of n (after n s ts (fresh n) cs) (query.Record id)) ≡ tick_too_large → ⊥
