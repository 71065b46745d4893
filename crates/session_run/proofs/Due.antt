-- What it says that another line is run, and that each line leaves fewer. Assumes nothing.
use Prim.Native.Nat.{ℕ, ◌+◌, ◌*◌, ◌-◌, ◌≤◌, ◌<◌}
use mathlib.Core.Bool.{Bool, true, false, cond, ◌&&◌, true≢false}
use mathlib.Core.List.{List}
use mathlib.Core.Path.{◌≡◌, refl, sym, ap}
use native.Mathlib.Omega.{arith}
use lib.Dec.{leb}
use borrow.Author.Tests.{leb-true}
use Rattle.map_tiles.specs.declared.tiles.Sides.{Sides}
use Rattle.session_run.specs.Line.{LineRan, end, fault, call}
use Rattle.text_writing.specs.Output.{most_line}
use Rattle.session_run.specs.Session.{most_calls, another}
use Rattle.session_run.specs.declared.session_lines.Session.{Session}
use Rattle.session_run.specs.declared.session_lines.Turned.{Turned}

-- the session goes on, and there is a call and room for its answer
pub another-runs : (n : ℕ) (done : Bool) (due used len : ℕ) → another n done due used len ≡ true → (done ≡ false) × (due ≤ most_calls) × (used + most_line * n ≤ len)
another-runs n true due used len e = absurd (true≢false (sym e))
another-runs n false due used len e = go (leb due most_calls) (leb (used + most_line * n) len) refl refl e
  where
    go : (a b : Bool) → leb due most_calls ≡ a → leb (used + most_line * n) len ≡ b → (a && b) ≡ true → (false ≡ false) × (due ≤ most_calls) × (used + most_line * n ≤ len)
    go true true p q r = (refl, leb-true due most_calls p, leb-true (used + most_line * n) len q)
    go true false p q r = absurd (true≢false (sym r))
    go false b p q r = absurd (true≢false (sym r))

-- how many lines are left at most
abbrev pub most_left : Session → ℕ
most_left b = cond b.done 0 (most_calls + 2 - b.call)

-- a line ends the session or is counted
pub line_less : (n : ℕ) (text : List ℕ) (s : Sides) (ts : List ℕ) (b : Session) (d : List ℕ) (at : ℕ) (r : Turned) (e : List ℕ) → LineRan n text s ts b d at r e → b.call ≤ most_calls → most_left r.session < most_calls + 2 - b.call
line_less n text s ts b d at r e (end past is same) l = rw is (omega arith)
line_less n text s ts b d at r e (fault before none is put) l = rw (ap (λ (t : Turned). most_left t.session) is) (omega arith)
line_less n text s ts b d at r e (call c past before there is put) l = rw (ap (λ (t : Turned). most_left t.session) is) (omega arith)
