-- What a read that is refused leaves. Definitions only; proofs/Refused.antt proves it.
use Rattle.std.specs.Prelude.{ℕ, List, ◌≡◌, ℤ}
use Rattle.map_tiles.specs.declared.tiles.Sides.{Sides}
use Rattle.world.specs.declared.reading.Query.{Query}
use Rattle.world_buffers.specs.Readers.{ReadTold, read_in}
use Rattle.search_calls.specs.Numbers.{search_in}
use Rattle.send_buffers.specs.Screens.{shown_in}

-- where t is refused, the buffer is as it was
abbrev pub Leaves : List ℤ → ReadTold → Type 0
Leaves out t = (t.number ≡ 0 → ⊥) → t.numbers ≡ out

-- so with every reader, whatever the lengths
pub record ReadersLeave : Type 0 where
  pub reads : (q : Query) (l out : List ℤ) → Leaves out (read_in q l out)
  pub searches : (s : Sides) (ts : List ℕ) (l : List ℤ) (id x y : ℤ) (out : List ℤ) → Leaves out (search_in s ts l id x y out)
  pub screens : (l : List ℤ) (id : ℤ) (out : List ℤ) → Leaves out (shown_in l id out)
