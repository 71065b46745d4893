-- How many lines of a text are run at once. Definitions only.
use Rattle.std.specs.Prelude.{ℕ, ◌+◌, ◌*◌, Bool, false, not, ◌&&◌, List, ◌≡◌, leb}
use Rattle.map_tiles.specs.declared.tiles.Sides.{Sides}
use Rattle.text_writing.specs.Output.{most_line}
use Rattle.session_run.specs.Line.{LineRan}
use Rattle.session_run.specs.declared.session_lines.Session.{Session}
use Rattle.session_run.specs.declared.session_lines.Turned.{Turned}

-- the most calls that a text can have
abbrev pub most_calls : ℕ
most_calls = 65536

-- another line is run: the session has not ended, a text can have the call that is due, and the buffer has room for a line of each seat
abbrev pub another : ℕ → Bool → ℕ → ℕ → ℕ → Bool
another n done due used len = not done && leb due most_calls && leb (used + most_line * n) len

-- any number of lines, none of them after the session has ended: the session b with the buffer d up to the place `at` becomes the session f with the buffer e up to the place `to`
pub data LinesRan (n : ℕ) (text : List ℕ) (s : Sides) (ts : List ℕ) (b : Session) (d : List ℕ) (at : ℕ) : Session → List ℕ → ℕ → Type 0 where
  none : LinesRan n text s ts b d at b d at
  then : (f : Session) (m : List ℕ) (k : ℕ) (r : Turned) (e : List ℕ) → LinesRan n text s ts b d at f m k → f.done ≡ false → LineRan n text s ts f m k r e → LinesRan n text s ts b d at r.session e r.next
