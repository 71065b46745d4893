-- How the program plays a session, and what it has written then. Definitions only; proofs/ proves the statements.
use Rattle.std.specs.Prelude.{ℕ, suc, ◌*◌, ◌≤◌, ◌<◌, true, false, List, [], ◌++◌, ◌≡◌, length, take}
use Rattle.map_tiles.specs.declared.tiles.Sides.{Sides}
use Rattle.session_laws.specs.Session.{Text, StandsFor}
use Rattle.text_writing.specs.Output.{most_line}
use Rattle.session_run.specs.Session.{most_calls, another, LinesRan}
use Rattle.session_run.specs.Start.{Began}
use Rattle.session_run.specs.declared.session_lines.Session.{Session}
use Rattle.session_run.specs.declared.session_lines.Turned.{Turned}
use Rattle.session_run.specs.declared.start.Begun.{Begun}
use Rattle.session_laws.specs.Output.{output}

-- the session b is played on one map with n slots: after so many turns it is the session f, and the bytes `out` were written in all
pub data Played (n : ℕ) (text : List ℕ) (s : Sides) (ts : List ℕ) (b : Session) : ℕ → Session → List ℕ → Type 0 where
  none : Played n text s ts b 0 b []
  -- a turn: the session has not ended; `run_lines` leaves lines at the start of a buffer that has room for an answer, and these are written
  then : (turns : ℕ) (f g : Session) (out d e : List ℕ) (k : ℕ) → Played n text s ts b turns f out → f.done ≡ false → most_line * n ≤ length d → LinesRan n text s ts f d 0 g e k → another n g.done g.call k (length d) ≡ false → Played n text s ts b (suc turns) g (out ++ take k e)

-- the session f is the one that b comes to: it was played, and has ended
pub record PlayedOut (n : ℕ) (text : List ℕ) (s : Sides) (ts : List ℕ) (b f : Session) : Type 0 where
  pub turns : ℕ
  pub out : List ℕ
  pub played : Played n text s ts b turns f out
  pub done : f.done ≡ true

-- what `begin` leaves of a text: the map, the session before its first turn, and the buffer e
pub record Started (n : ℕ) (text : List ℕ) (s : Sides) (ts : List ℕ) (first : Turned) (e : List ℕ) : Type 0 where
  pub tiles : List ℕ
  pub buffer : List ℕ
  pub begun : Begun
  pub began : Began n text tiles buffer begun e
  pub on_sides : begun.sides ≡ s
  pub on_tiles : take begun.count tiles ≡ ts
  pub is_first : begun.first ≡ first

-- a text was played to its end: it was started, what `begin` left in the buffer was written, and the session f is the one that it came to
pub record TextPlayed (n : ℕ) (text : List ℕ) (f : Session) : Type 0 where
  pub sides : Sides
  pub tiles : List ℕ
  pub first : Turned
  pub buffer : List ℕ
  pub started : Started n text sides tiles first buffer
  pub ended : PlayedOut n text sides tiles first.session f

-- all that was written
abbrev pub all_written : {n : ℕ} {text : List ℕ} {f : Session} → TextPlayed n text f → List ℕ
all_written p = take p.first.next p.buffer ++ p.ended.out

-- once a text was played to its end, all that was written is the output of what the text stands for
abbrev pub WholeOutput : ℕ → Type 0
WholeOutput n = (text : List ℕ) (f : Session) (p : TextPlayed n text f) (t : Text) → StandsFor text t → all_written p ≡ output n t

-- it ends: there are never as many turns as the program has
abbrev pub PlayEnds : ℕ → Type 0
PlayEnds n = (text : List ℕ) (s : Sides) (ts : List ℕ) (first : Turned) (e : List ℕ) → Started n text s ts first e → (turns : ℕ) (f : Session) (out : List ℕ) → Played n text s ts first.session turns f out → turns < most_calls
