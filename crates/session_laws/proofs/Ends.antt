-- Each turn runs a call or ends the session, and a text has few calls. Assumes nothing.
use Prim.Native.Nat.{ℕ, ◌+◌, ◌*◌, ◌≤◌, ◌<◌}
use mathlib.Core.Bool.{false, true≢false}
use mathlib.Core.List.{List}
use mathlib.Core.Path.{◌≡◌, sym, ap, ◌∙◌}
use native.Mathlib.Omega.{arith}
use lib.ListN.{length}
use borrow.Author.Tests.{le-leb}
use Rattle.map_tiles.specs.declared.tiles.Sides.{Sides}
use Rattle.text_decimal.proofs.Places.{within}
use Rattle.text_map.specs.Map.{most_bytes, map_bytes}
use Rattle.session_laws.proofs.Reading.{passed_few}
use Rattle.session_run.specs.Line.{LineRan}
use Rattle.text_writing.specs.Output.{most_line}
use Rattle.session_run.specs.Session.{most_calls, another, LinesRan}
use Rattle.session_run.specs.declared.session_lines.Session.{Session}
use Rattle.session_run.specs.declared.session_lines.Turned.{Turned}
use Rattle.session_laws.specs.Played.{Played, PlayEnds}
use Rattle.session_laws.proofs.SoFar.{SoFar, going, over, after-turns}
use Rattle.session_laws.proofs.Whole.{started}

module _ {n : ℕ} {text : List ℕ} {s : Sides} {ts : List ℕ} where
  -- a line after which the session goes on is counted
  line-counts : {b : Session} {d e : List ℕ} {at : ℕ} {r : Turned} → LineRan n text s ts b d at r e → r.session.done ≡ false → r.session.call ≡ b.call + 1
  line-counts (LineRan.end past is same) live = absurd (true≢false (sym (ap (λ (t : Turned). t.session.done) is) ∙ live))
  line-counts (LineRan.fault before none is put) live = absurd (true≢false (sym (ap (λ (t : Turned). t.session.done) is) ∙ live))
  line-counts (LineRan.call c past before there is put) live = ap (λ (t : Turned). t.session.call) is

  -- lines do not lower the number that is due
  lines_count : {b : Session} {d : List ℕ} {at : ℕ} {f : Session} {e : List ℕ} {k : ℕ} → LinesRan n text s ts b d at f e k → f.done ≡ false → b.call ≤ f.call
  lines_count LinesRan.none live = omega arith
  lines_count (LinesRan.then f m k r e before on l) live = omega (arith, lines_count before on, line-counts l live)

  -- where there is room for an answer, `run_lines` ends the session or raises that number
  turn_counts : {b f : Session} {d e : List ℕ} {k : ℕ} → LinesRan n text s ts b d 0 f e k → b.done ≡ false → b.call ≤ most_calls → most_line * n ≤ length d → another n f.done f.call k (length d) ≡ false → f.done ≡ false → b.call < f.call
  turn_counts {b} {d = d} LinesRan.none on few room full live = absurd (true≢false (simp (on, le-leb b.call most_calls few, le-leb (0 + most_line * n) (length d) (omega arith)) at full))
  turn_counts (LinesRan.then f m k r e before on l) _ few room full live = omega (arith, lines_count before on, line-counts l live)

  -- the number that is due is small: a call has 14 bytes at least
  due_few : {b : Session} {out : List ℕ} → SoFar n text s ts b out → b.done ≡ false → (0 < b.call) × (14 * b.call ≤ most_bytes + 14)
  unfolding map_bytes
  due_few (over t done stands is) live = absurd (true≢false (sym done ∙ live))
  due_few (going cs _ p due a) live = let few = passed_few p in let inside = within p.stood (omega arith) in let short = p.fits in omega arith

  -- every turn that does not end the session raises it
  turns-count : {b f : Session} {turns : ℕ} {before out : List ℕ} → SoFar n text s ts b before → Played n text s ts b turns f out → f.done ≡ false → turns < f.call
  turns-count h Played.none live = (due_few h live).0
  turns-count h (Played.then turns f g out d e k p on room l full) live =
      let few = due_few (after-turns h p) on in
      omega (arith, turns-count h p on, turn_counts l on (omega arith) room full live)

  -- so there are few turns
  turns_few : {b f : Session} {turns : ℕ} {before out : List ℕ} → SoFar n text s ts b before → Played n text s ts b turns f out → turns < most_calls
  turns_few h Played.none = omega arith
  turns_few h (Played.then turns f g out d e k p on room l full) = omega (arith, turns-count h p on, due_few (after-turns h p) on)

-- a whole session
pub play_ends : (n : ℕ) → PlayEnds n
play_ends n text s ts first e b turns f out p = turns_few (started b).2 p
