-- What a session has written so far, line by line and turn by turn. Assumes nothing.
use Prim.Native.Nat.{ℕ, suc, ◌+◌}
use mathlib.Core.Bool.{true, false, true≢false}
use mathlib.Core.List.{List, [], ◌∷◌, ◌++◌, append_assoc, append-nil}
use mathlib.Core.Path.{◌≡◌, refl, sym, ap, ◌∙◌, subst}
use native.Mathlib.Omega.{arith}
use lib.IntN.{pos}
use lib.ListN.{length, take, length-append}
use Rattle.map_tiles.specs.declared.tiles.Sides.{Sides}
use Rattle.world.specs.declared.call.Call.{Call}
use Rattle.text_writing.specs.Output.{heading}
use Rattle.base_rows.proofs.Puts.{take_put, put_none}
use Rattle.text_writing.specs.Put.{Put}
use Rattle.text_writing.proofs.Sizes.{put-after}
use Rattle.world.specs.World.{fresh}
use Rattle.world.specs.Run.{ran, told_by}
use Rattle.text_writing.specs.Answers.{told_bytes}
use Rattle.session_laws.specs.Session.{End, ended, fault, Text, session, StandsFor, Passed}
use Rattle.session_laws.proofs.Reading.{passed_call, passed_end, passed_fault}
use Rattle.session_run.specs.Line.{LineRan}
use Rattle.session_run.specs.Session.{LinesRan}
use Rattle.session_run.specs.declared.session_lines.Session.{Session}
use Rattle.session_run.specs.declared.session_lines.Turned.{Turned}
use Rattle.session_laws.specs.Output.{told_lines, calls_lines, fault_line, end_lines, output}
use Rattle.session_laws.specs.Played.{Played}

-- bytes that were put at the start of a buffer stand there
pub put_first : {d w e : List ℕ} {k : ℕ} → Put d 0 w e k → take k e ≡ w
put_first {d} {w} {e} {k} p = ap (take k) p.bytes ∙ take_put d 0 w k p.place (omega arith)

-- after the heading, `out` was written
pub data SoFar (n : ℕ) (text : List ℕ) (s : Sides) (ts : List ℕ) (b : Session) (out : List ℕ) : Type 0 where
  -- the session goes on: these calls were passed, and `out` is their lines, before those of any calls that come next
  going : (cs : List Call) → b.done ≡ false → Passed text s.width s.height ts cs b.place → b.call ≡ suc (length cs) → ((ds : List Call) → calls_lines n s ts (fresh n) 1 (cs ++ ds) ≡ out ++ calls_lines n s ts b.world b.call ds) → SoFar n text s ts b out
  -- it has ended, and all is written
  over : (t : Text) → b.done ≡ true → StandsFor text t → heading ++ out ≡ output n t → SoFar n text s ts b out

module _ {n : ℕ} {text : List ℕ} {s : Sides} {ts : List ℕ} where
  -- with what is written after the calls, all is written
  at_end : {f : Session} (out : List ℕ) (k : ℕ) (cs : List Call) (l : End) → f.done ≡ true → StandsFor text (session s.width s.height ts cs l) → k ≡ suc (length cs) → calls_lines n s ts (fresh n) 1 (cs ++ []) ≡ out ++ [] → SoFar n text s ts f (out ++ end_lines k l)
  unfolding output
  at_end out k cs l done stands due a =
      let total : calls_lines n s ts (fresh n) 1 cs ≡ out = ap (calls_lines n s ts (fresh n) 1) (sym (append-nil cs)) ∙ a ∙ append-nil out in
      over (session s.width s.height ts cs l) done stands (ap (λ (x : ℕ). heading ++ (out ++ end_lines x l)) due ∙ ap (λ (x : List ℕ). heading ++ (x ++ end_lines (suc (length cs)) l)) (sym total))

  -- a line more
  after_line : {b : Session} {out d e : List ℕ} {at : ℕ} {r : Turned} → SoFar n text s ts b out → b.done ≡ false → LineRan n text s ts b d at r e → (w : List ℕ) × Put d at w e r.next × SoFar n text s ts r.session (out ++ w)
  unfolding told_lines
  after_line (over t done stands is) live l = absurd (true≢false (sym done ∙ live))
  after_line {b} {out} {d} {at = at} (going cs _ p due a) _ (LineRan.end past is same) =
      let q = ap (λ (t : Turned). t.next) is in
      ([], record { bytes = same ∙ put_none d at; place = omega arith }, at_end out b.call cs ended (ap (λ (t : Turned). t.session.done) is) (passed_end p past) due (a []))
  after_line {b} {out} (going cs _ p due a) _ (LineRan.fault before none is written) =
      (fault_line b.call, written, at_end out b.call cs fault (ap (λ (t : Turned). t.session.done) is) (passed_fault p before refl none) due (a []))
  after_line {b} {out} (going cs _ p due a) _ (LineRan.call c past before there is written) =
      let w : List ℕ = told_bytes n (pos b.call) (told_by (ran n s ts b.world c)) in
      let others : List Call → List ℕ = calls_lines n s ts (ran n s ts b.world c).world (b.call + 1) in
      let more : (ds : List Call) → calls_lines n s ts (fresh n) 1 ((cs ++ (c ∷ [])) ++ ds) ≡ (out ++ w) ++ others ds = λ ds. ap (calls_lines n s ts (fresh n) 1) (append_assoc cs (c ∷ []) ds) ∙ a (c ∷ ds) ∙ sym (append_assoc out w (others ds)) in
      (w, written, subst (λ (t : Turned). SoFar n text s ts t.session (out ++ w)) (sym is) (going (cs ++ (c ∷ [])) refl (passed_call p c past refl there) (omega (arith, length-append cs (c ∷ []))) more))

  -- any number of lines more
  after_lines : {b : Session} {d : List ℕ} {f : Session} {out e : List ℕ} {k : ℕ} → SoFar n text s ts b out → LinesRan n text s ts b d 0 f e k → (w : List ℕ) × Put d 0 w e k × SoFar n text s ts f (out ++ w)
  after_lines {b} {d} {out = out} h LinesRan.none = ([], record { bytes = put_none d 0; place = refl }, subst (SoFar n text s ts b) (sym (append-nil out)) h)
  after_lines {out = out} h (LinesRan.then f m k r e before live l) =
      let (w, p, g) = after_lines h before in
      let (v, q, i) = after_line g live l in
      (w ++ v, put-after (omega arith) p q, subst (SoFar n text s ts r.session) (append_assoc out w v) i)

  -- any number of turns
  pub after-turns : {b f : Session} {turns : ℕ} {before out : List ℕ} → SoFar n text s ts b before → Played n text s ts b turns f out → SoFar n text s ts f (before ++ out)
  after-turns {b} {before = before} h Played.none = subst (SoFar n text s ts b) (sym (append-nil before)) h
  after-turns {before = before} h (Played.then turns f g out d e k p live room l full) =
      let (w, q, i) = after_lines (after-turns h p) l in
      subst (SoFar n text s ts g) (append_assoc before out w ∙ ap (λ (x : List ℕ). before ++ (out ++ x)) (sym (put_first q))) i
