-- All that a session writes is the output of what its text stands for. Assumes nothing.
use Prim.Native.Nat.{ℕ}
use mathlib.Core.Bool.{true, true≢false}
use mathlib.Core.List.{List, [], ◌++◌, append_assoc, append-nil}
use mathlib.Core.Path.{◌≡◌, refl, sym, ap, ◌∙◌, subst}
use native.Mathlib.Omega.{arith}
use lib.ListN.{take}
use Rattle.map_tiles.specs.declared.tiles.Sides.{Sides}
use Rattle.text_writing.specs.Output.{heading}
use Rattle.text_writing.specs.Put.{Put}
use Rattle.text_writing.proofs.Sizes.{put_as, put-after}
use Rattle.session_laws.specs.Session.{Text, no_map, StandsFor}
use Rattle.session_laws.proofs.Reading.{no_map_lem, passed_map}
use Rattle.session_laws.proofs.Unique.{text_unique}
use Rattle.session_run.specs.Start.{Began}
use Rattle.session_run.specs.declared.session_lines.Session.{Session}
use Rattle.session_run.specs.declared.session_lines.Turned.{Turned}
use Rattle.session_run.specs.declared.start.Begun.{Begun}
use Rattle.session_laws.specs.Output.{told_lines, fault_line, output}
use Rattle.session_laws.specs.Played.{Started, WholeOutput}
use Rattle.session_laws.proofs.SoFar.{put_first, SoFar, going, over, after-turns}

-- the bytes w were put at the start of some buffer, which became e
abbrev Put0 : List ℕ → List ℕ → ℕ → Type 0
Put0 w e next = (d : List ℕ) × Put d 0 w e next

-- a session that starts has written the heading, and nothing more unless its map is at fault
pub after-start : {n : ℕ} {text ts d : List ℕ} {r : Begun} {e : List ℕ} → Began n text ts d r e → (w : List ℕ) × Put d 0 (heading ++ w) e r.first.next × SoFar n text r.sides (take r.count ts) r.first.session w
unfolding told_lines output
after-start {text = text} {ts} (Began.fault m k none p q is) =
    (fault_line 1, put-after (omega arith) p q, over no_map (ap (λ (b : Begun). b.first.session.done) is) (no_map_lem text ts refl none) refl)
after-start {n} {text} {ts} (Began.map p there written is) =
    ([], put_as (sym (append-nil heading)) refl written, subst (λ (x : Begun). SoFar n text x.sides (take x.count ts) x.first.session []) (sym is) (going [] refl (passed_map text ts p refl there) refl (λ ds. refl)))

-- a session that has ended has written all
all-written : {n : ℕ} {text : List ℕ} {s : Sides} {ts : List ℕ} {f : Session} {out : List ℕ} → SoFar n text s ts f out → f.done ≡ true → (t : Text) → StandsFor text t → heading ++ out ≡ output n t
all-written (going cs live p due a) done t h = absurd (true≢false (sym done ∙ live))
all-written {n} {text} (over u _ stands is) done t h = is ∙ ap (output n) (text_unique text u t stands h)

-- the same of what `begin` leaves
pub started : {n : ℕ} {text : List ℕ} {s : Sides} {ts : List ℕ} {first : Turned} {e : List ℕ} → Started n text s ts first e → (w : List ℕ) × Put0 (heading ++ w) e first.next × SoFar n text s ts first.session w
started {n} {text} {e = e} h =
    let (w, q, i) = after-start h.began in
    (w, subst (λ (t : Turned). Put0 (heading ++ w) e t.next) h.is_first (h.buffer, q), rw (← h.on_sides, ← h.on_tiles, ← h.is_first) i)

-- a whole session
pub whole_output : (n : ℕ) → WholeOutput n
whole_output n text f p t h =
    let (w, q, i) = started p.started in
    let out = p.ended.out in
    ap (λ (x : List ℕ). x ++ out) (put_first q.1) ∙ append_assoc heading w out ∙ all-written (after-turns i p.ended.played) p.ended.done t h
