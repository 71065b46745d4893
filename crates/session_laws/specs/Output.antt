-- What a session writes in all, by what its text stands for. Definitions only.
use Rattle.std.specs.Prelude.{ℕ, ◌+◌, List, [], ◌∷◌, ◌++◌, pos}
use Rattle.game_refusals.specs.Refusals.{bad_text}
use Rattle.map_tiles.specs.declared.tiles.Sides.{Sides}
use Rattle.world.specs.declared.call.Call.{Call}
use Rattle.text_writing.specs.Output.{heading, answer_bytes}
use Rattle.world.specs.World.{fresh}
use Rattle.world.specs.declared.World.{World}
use Rattle.world.specs.Run.{Told, told}
use Rattle.text_writing.specs.Answers.{told_bytes}
use Rattle.session_laws.specs.Session.{End, ended, fault, Text, no_map, session, due_call}

-- the lines of what calls told, one after another; the first call has the number k
unfoldable pub told_lines : ℕ → ℕ → List Told → List ℕ
told_lines n k [] = []
told_lines n k (t ∷ ts) = told_bytes n (pos k) t ++ told_lines n (k + 1) ts

-- the lines of calls that are run on one map, from the world w on
abbrev pub calls_lines : ℕ → Sides → List ℕ → World → ℕ → List Call → List ℕ
calls_lines n s ts w k cs = told_lines n k (told n s ts w cs)

-- the line of text at fault, where the call with the number k is due
abbrev pub fault_line : ℕ → List ℕ
fault_line k = answer_bytes (pos k) (pos bad_text)

-- what is written after the calls
abbrev pub end_lines : ℕ → End → List ℕ
end_lines k ended = []
end_lines k fault = fault_line k

-- all that a session of n slots writes
unfoldable pub output : ℕ → Text → List ℕ
output n no_map = heading ++ fault_line (due_call no_map)
output n (session w h ts cs e) = heading ++ (calls_lines n (record { width = w; height = h }) ts (fresh n) 1 cs ++ end_lines (due_call (session w h ts cs e)) e)
