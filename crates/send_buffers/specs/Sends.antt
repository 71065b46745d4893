-- The calls that pass something along, on a world and a sender's copies that are kept as the numbers of buffers: what each answers, and what it leaves there.
-- Definitions only.
use Rattle.std.specs.Prelude.{ℕ, Bool, cond, ◌&&◌, List, [], eqb, ℤ, length, Result, Ok, Err}
use Rattle.base_rows.specs.Put.{put}
use Rattle.game_refusals.specs.Refusals.{bad_length}
use Rattle.game_refusals.specs.declared.Refusal.{Refusal}
use Rattle.game_refusals.specs.declared.Refusal.TheVariants.{BadLength}
use Rattle.map_tiles.specs.Map.{sides_of}
use Rattle.map_tiles.specs.declared.tiles.Sides.{Sides}
use Rattle.character.specs.Tick.{seats}
use Rattle.world.specs.Run.{ran}
use Rattle.world.specs.declared.call.Call.{Call}
use Rattle.world.specs.declared.call.Call.TheVariants.{Step}
use Rattle.send_rule.specs.Send.{Sent, send}
use Rattle.world_numbers.specs.Encoding.{world_count, records_count}
use Rattle.world_numbers.specs.Decoding.{decoding}
use Rattle.send_numbers.specs.Copies.{sender_count, copies_encoding, copies_decoding}
use Rattle.send_numbers.specs.Passing.{passed_count, all_numbers}
use Rattle.world_buffers.specs.Buffers.{has, LeftWorld, refused_in}
use Rattle.world_buffers.specs.Stepping.{StepBuffers, LeftByStep, step_in}

-- ---- before any call

-- a call's number, and the numbers that it leaves in its buffer
pub record LeftIn : Type 0 where
  pub number : ℕ
  pub numbers : List ℤ

-- the n numbers `new` in place of those that the buffer had
unfoldable pub fresh_buffer : ℕ → List ℤ → List ℤ → LeftIn
fresh_buffer n new l = cond (has n l) (record { number = 0; numbers = new }) (record { number = bad_length; numbers = l })

-- ---- what is passed along

-- what a sender is lent: its copies, a buffer for what is passed along, and a place for how many numbers that has
pub record SenderBuffers : Type 0 where
  pub sender : List ℤ
  pub passed : List ℤ
  pub count : ℕ

-- whether they have the lengths that they must
abbrev pub has_room : SenderBuffers → Bool
has_room b = has sender_count b.sender && has passed_count b.passed

-- an accepted call leaves the next copies and what is passed along, with what stood behind it, a refused one everything as it was
unfoldable pub keep_sent : SenderBuffers → ℕ → Sent → SenderBuffers
keep_sent b number m = cond (eqb number 0) (record { sender = copies_encoding m.copies; passed = put b.passed 0 (all_numbers m.passed); count = length (all_numbers m.passed) }) b

-- for a call on the world and the copies that the numbers stand for
abbrev pub sent_for : Sides → List ℕ → Call → List ℤ → SenderBuffers → SenderBuffers
sent_for s ts c l b = keep_sent b (ran seats s ts (decoding seats l) c).number (send seats s ts (decoding seats l) (copies_decoding seats b.sender) c)

-- ---- a call that needs no map: leave or tune

-- whether the world and the sender's buffers have the lengths that they must
abbrev pub passes : List ℤ → SenderBuffers → Bool
passes l b = has world_count l && has_room b

-- 17 where they have others
abbrev pub room_in : List ℤ → SenderBuffers → Result (Unit {0}) Refusal
room_in l b = cond (passes l b) (Ok tt) (Err BadLength)

-- what it leaves in the sender's buffers
unfoldable pub passed_in : Call → List ℤ → SenderBuffers → SenderBuffers
passed_in c l b = cond (passes l b) (sent_for (sides_of 0 0) [] c l b) b

-- its number and the numbers of the world that it leaves, and what it leaves in the sender's buffers
pub record LeftBySend : Type 0 where
  pub left : LeftWorld
  pub sent : SenderBuffers

-- the call c, which leaves `left` of the world's numbers l where it is made without a sender
unfoldable pub send_in : Call → LeftWorld → List ℤ → SenderBuffers → LeftBySend
send_in c left l b = record { left = cond (passes l b) left (refused_in l bad_length); sent = passed_in c l b }

-- ---- step

pub record LeftBySendStep : Type 0 where
  pub left : LeftByStep
  pub sent : SenderBuffers

-- a step as `step_in` makes it, told in t
unfoldable pub send_step_in : Sides → List ℕ → List ℤ → StepBuffers → SenderBuffers → LeftBySendStep
send_step_in s ts l t b =
    cond (has world_count l && has records_count t.records && has seats t.removed && has_room b)
    (record { left = step_in s ts l t; sent = sent_for s ts Step l b })
    (record { left = record { number = bad_length; world = l; told = t }; sent = b })
