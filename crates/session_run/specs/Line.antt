-- What the next line of a text does to a session. Definitions only.
use Rattle.std.specs.Prelude.{ℕ, ◌+◌, ◌≤◌, ◌<◌, true, false, List, Some, None, ◌≡◌, pos, length}
use Rattle.map_tiles.specs.declared.tiles.Sides.{Sides}
use Rattle.world.specs.declared.call.Call.{Call}
use Rattle.text_reading.specs.Calls.{CallAt, answer_of_line}
use Rattle.text_writing.specs.Output.{answer_bytes}
use Rattle.text_writing.specs.Put.{Put}
use Rattle.world.specs.declared.World.{World}
use Rattle.world.specs.Run.{ran, told_by}
use Rattle.text_writing.specs.Answers.{told_bytes}
use Rattle.session_run.specs.declared.session_lines.Session.{Session}
use Rattle.session_run.specs.declared.session_lines.Turned.{Turned}

-- the session has ended; next is the place past what was written
abbrev pub ended_at : ℕ → ℕ → World → ℕ → Turned
ended_at call place w next = record { session = record { done = true; call = call; place = place; world = w }; next = next }

abbrev pub goes_on : ℕ → ℕ → World → ℕ → Turned
goes_on call place w next = record { session = record { done = false; call = call; place = place; world = w }; next = next }

-- on one map with n slots: the buffer d becomes e, the session b the one in r
pub data LineRan (n : ℕ) (text : List ℕ) (s : Sides) (ts : List ℕ) (b : Session) (d : List ℕ) (at : ℕ) (r : Turned) (e : List ℕ) : Type 0 where
  -- the text ends: nothing is written
  end : length text ≤ b.place → r ≡ ended_at b.call b.place b.world at → e ≡ d → LineRan n text s ts b d at r e
  -- no call stands there: text at fault, with the number of the call that is due
  fault : b.place < length text → CallAt text b.place None → r ≡ ended_at b.call b.place b.world r.next → Put d at (answer_bytes (pos b.call) (pos (answer_of_line None))) e r.next → LineRan n text s ts b d at r e
  -- a call: it is run, and its answer is written
  call : (c : Call) (past : ℕ) → b.place < length text → CallAt text b.place (Some (c, past)) → r ≡ goes_on (b.call + 1) past (ran n s ts b.world c).world r.next → Put d at (told_bytes n (pos b.call) (told_by (ran n s ts b.world c))) e r.next → LineRan n text s ts b d at r e
