-- A screen that is kept as the numbers of a buffer: what it does with a thing that is passed along, and what is read of it. Definitions only.
use Rattle.std.specs.Prelude.{ℕ, cond, ◌&&◌, List, ltb, ℤ, Ok, Err}
use Rattle.game_refusals.specs.Refusals.{bad_id, not_present, bad_length, number_of}
use Rattle.game_records.specs.Numbers.{core_count, core_numbers}
use Rattle.map_tiles.specs.declared.tiles.Sides.{Sides}
use Rattle.character.specs.Tick.{seats}
use Rattle.world.specs.Calls.{place_of}
use Rattle.send_rule.specs.Send.{receive}
use Rattle.send_rule.specs.Shown.{shown}
use Rattle.send_rule.specs.declared.Screen.{Screen}
use Rattle.send_numbers.specs.Copies.{screen_count, screen_encoding, screen_decoding}
use Rattle.send_numbers.specs.Reading.{PassedRead, read_passed}
use Rattle.world_buffers.specs.Buffers.{has}
use Rattle.world_buffers.specs.Readers.{ReadTold}

-- ---- what arrives

-- a call's number, the numbers of the screen that it leaves, and how many numbers the thing has that it took
pub record LeftByReceive : Type 0 where
  pub number : ℕ
  pub screen : List ℤ
  pub used : ℕ

-- a thing that was read arrives at the screen that the numbers l stand for; where none was read, everything is left as it was
unfoldable pub take_in : Sides → List ℕ → List ℤ → ℕ → PassedRead → LeftByReceive
take_in s ts l used (Err refusal) = record { number = number_of refusal; screen = l; used = used }
take_in s ts l used (Ok (p, k)) = record { number = 0; screen = screen_encoding (receive seats s ts (screen_decoding seats l) p); used = k }

-- the first thing that ps begins with
unfoldable pub receive_in : Sides → List ℕ → List ℤ → List ℤ → ℕ → LeftByReceive
receive_in s ts l ps used = cond (has screen_count l) (take_in s ts l used (read_passed seats ps)) (record { number = bad_length; screen = l; used = used })

-- ---- what is read

-- the screen's record of an id: 2 where there is no such seat, 8 where it has no copy
unfoldable pub record_shown : Screen → ℤ → List ℤ → ReadTold
record_shown z id out =
    let k = place_of seats id in
    cond (ltb k seats)
    (cond (shown z k).present (record { number = 0; numbers = core_numbers (shown z k).core }) (record { number = not_present; numbers = out }))
    (record { number = bad_id; numbers = out })

-- of the screen that the numbers l stand for
unfoldable pub shown_in : List ℤ → ℤ → List ℤ → ReadTold
shown_in l id out = cond (has screen_count l && has core_count out) (record_shown (screen_decoding seats l) id out) (record { number = bad_length; numbers = out })
