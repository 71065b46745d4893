-- What was written ends within the buffer, and the tiles within theirs. Assumes nothing.
use Prim.Native.Nat.{ℕ, ◌+◌, ◌*◌, ◌≤◌}
use mathlib.Core.List.{List, ◌++◌}
use mathlib.Core.Path.{◌≡◌, refl, ap}
use native.Mathlib.Omega.{arith}
use lib.ListN.{length, take, drop, length-append, length-take}
use Rattle.map_tiles.specs.declared.tiles.Sides.{Sides}
use Rattle.text_map.proofs.Maps.{map_read}
use Rattle.base_rows.specs.Put.{put}
use Rattle.text_writing.specs.Put.{Put}
use Rattle.session_run.specs.Line.{LineRan}
use Rattle.session_run.specs.Session.{LinesRan}
use Rattle.session_run.specs.Start.{Began}
use Rattle.session_run.specs.declared.session_lines.Session.{Session}
use Rattle.session_run.specs.declared.session_lines.Turned.{Turned}
use Rattle.session_run.specs.declared.start.Begun.{Begun}
use Rattle.session_laws.specs.Played.{Started}
use Rattle.session_laws.proofs.Whole.{started}

-- bytes that were put from within a buffer end within it
put_within : {d w e : List ℕ} {at next : ℕ} → at ≤ length d → Put d at w e next → next ≤ length e
unfolding put
put_within {d} {w} {e} {at} {next} l p =
    let q = p.place in
    let n : length e ≡ length (take at d ++ (w ++ drop (at + length w) d)) = ap length p.bytes in
    omega (arith, length-append (take at d) (w ++ drop (at + length w) d), length-append w (drop (at + length w) d), length-take at d)

-- what `begin` wrote
pub start_within : {n : ℕ} {text : List ℕ} {s : Sides} {ts : List ℕ} {first : Turned} {e : List ℕ} → Started n text s ts first e → first.next ≤ length e
start_within h = let (w, q, i) = started h in put_within (omega arith) q.1

module _ {n : ℕ} {text : List ℕ} {s : Sides} {ts : List ℕ} where
  line_within : {b : Session} {d e : List ℕ} {at : ℕ} {r : Turned} → LineRan n text s ts b d at r e → at ≤ length d → r.next ≤ length e
  line_within (LineRan.end past is same) l = let q = ap (λ (t : Turned). t.next) is in omega (arith, ap length same)
  line_within (LineRan.fault before none is written) l = put_within l written
  line_within (LineRan.call c past before there is written) l = put_within l written

  -- what lines wrote
  pub lines_within : {b : Session} {d : List ℕ} {at : ℕ} {f : Session} {e : List ℕ} {k : ℕ} → LinesRan n text s ts b d at f e k → at ≤ length d → k ≤ length e
  lines_within LinesRan.none l = l
  lines_within (LinesRan.then f m k r e before live ran) l = line_within ran (lines_within before l)

-- the map's tiles
pub count_within : {n : ℕ} {text ts d : List ℕ} {r : Begun} {e : List ℕ} → Began n text ts d r e → r.count ≤ length ts
count_within (Began.fault m k none p q is) = omega (arith, ap (λ (b : Begun). b.count) is)
count_within {text = text} {ts} (Began.map p there written is) =
    let c = ap (λ (b : Begun). b.count) is in
    let m = (map_read text ts p refl there).1.count in
    omega (arith, length-take (p.width * p.height) ts)
