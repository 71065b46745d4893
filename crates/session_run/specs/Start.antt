-- How a session starts. Definitions only.
use Rattle.std.specs.Prelude.{ℕ, ◌+◌, ◌*◌, List, Some, None, ◌≡◌, pos}
use Rattle.text_map.specs.Map.{most_bytes}
use Rattle.text_map.specs.Reading.{MapAt, map_number}
use Rattle.text_map.specs.declared.map_text.MapPart.{MapPart}
use Rattle.text_writing.specs.Output.{heading, answer_bytes}
use Rattle.text_writing.specs.Put.{Put}
use Rattle.world.specs.World.{fresh}
use Rattle.session_run.specs.Line.{ended_at, goes_on}
use Rattle.session_run.specs.declared.start.Begun.{Begun}

-- how many bytes of a text are read: one more than it may have tells that it is longer
abbrev pub most_read : ℕ
most_read = most_bytes + 1

-- with n slots: the tiles are at the start of ts, and the buffer d becomes e
pub data Began (n : ℕ) (text ts d : List ℕ) (r : Begun) (e : List ℕ) : Type 0 where
  -- no map stands there: after the heading, text at fault with the number of the first call; there is no map
  fault : (m : List ℕ) (k : ℕ) → MapAt text ts None → Put d 0 heading m k → Put m k (answer_bytes (pos 1) (pos (map_number None))) e r.first.next → r ≡ record { sides = record { width = 0; height = 0 }; count = 0; first = ended_at 1 0 (fresh n) r.first.next } → Began n text ts d r e
  -- a map: the heading is written, and the first call is due past the map's part
  map : (p : MapPart) → MapAt text ts (Some p) → Put d 0 heading e r.first.next → r ≡ record { sides = record { width = p.width; height = p.height }; count = p.width * p.height; first = goes_on 1 p.next (fresh n) r.first.next } → Began n text ts d r e
