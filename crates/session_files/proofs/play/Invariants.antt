-- As many turns as the counter says were played; what is to be written is in the buffer, and what came before it is written.
use Rattle.std.proofs.Common.{ℕ, ◌≡◌, ◌≤◌, List, ◌++◌, length, take}
use Rattle.std.specs.Io.KnownBytes.{Appends}
use Rattle.character.specs.Tick.{seats}
use Rattle.session_laws.specs.Played.{Played}
use Rattle.session_files.proofs.play.Given as goal

abbrev pub invariant-loop : goal.invariant-loop
invariant-loop g l = record {
  same_length : length l.buf ≡ length l.initial.buf;
  next_within : l.turned.next ≤ length l.buf;
  out : List ℕ;
  played : Played seats l.text l.sides l.tiles l.initial.turned.session l.counter l.turned.session out;
  written : List ℕ;
  appended : Appends (g.W.Write.contents l.initial.output) (g.W.Write.contents l.output) written;
  all : written ++ take l.turned.next l.buf ≡ take l.initial.turned.next l.initial.buf ++ out;
}
