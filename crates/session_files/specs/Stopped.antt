-- What is written of a session whose output fails before its end. Definitions only.
use Rattle.std.specs.Prelude.{ℕ, List, ◌++◌, take}
use Rattle.std.specs.declared.option.Option.{Option}
use Rattle.std.specs.Io.KnownBytes.{Appends}
use Rattle.map_tiles.specs.declared.tiles.Sides.{Sides}
use Rattle.session_run.specs.declared.session_lines.Session.{Session}
use Rattle.session_run.specs.declared.session_lines.Turned.{Turned}
use Rattle.session_laws.specs.Played.{Played, Started}

-- known bytes grow by the front of what the text's session writes in its first turns: it was started and played that far, and may go on
pub record WrittenSoFar (n : ℕ) (text : List ℕ) (old new : Option (List ℕ)) : Type 0 where
  pub sides : Sides
  pub tiles : List ℕ
  pub first : Turned
  pub buffer : List ℕ
  pub started : Started n text sides tiles first buffer
  pub turns : ℕ
  pub session : Session
  pub out : List ℕ
  pub played : Played n text sides tiles first.session turns session out
  pub count : ℕ
  pub written : Appends old new (take count (take first.next buffer ++ out))
