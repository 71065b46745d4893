-- A turn more, what the last turn wrote, and that the turns are enough.
use Rattle.std.proofs.Common.{rules, ℕ, ◌+◌, ◌*◌, ◌≤◌, List, [], ◌++◌, ◌≡◌, false, length, take, refl, sym, ap, ◌∙◌, subst, append_assoc, append-nil, add-one, arith}
use Rattle.std.specs.Io.KnownBytes.{Appends}
use Rattle.std.proofs.KnownBytes.{Appends-nil, Appends-trans}
use Rattle.std.proofs.Math.Seq.{take-append-add}
use Rattle.std.proofs.lemmas.Result.{MatchResult-from_err}
use Rattle.character.specs.Tick.{seats}
use Rattle.map_tiles.specs.declared.tiles.Sides.{Sides}
use Rattle.text_writing.specs.Output.{most_line}
use Rattle.session_run.specs.Session.{another, LinesRan}
use Rattle.session_run.specs.declared.session_lines.Session.{Session}
use Rattle.session_laws.specs.Played.{Played, then}
use Rattle.session_laws.proofs.Ends.{play_ends}
use Rattle.session_laws.proofs.Within.{start_within, lines_within}
use Rattle.session_files.proofs.play.Goals as goal

-- one turn more
module _ {n : ℕ} {text : List ℕ} {s : Sides} {ts : List ℕ} {b : Session} where
  played_on : (turns : ℕ) {f g : Session} {out d e : List ℕ} {k : ℕ} → Played n text s ts b turns f out → f.done ≡ false → most_line * n ≤ length d → LinesRan n text s ts f d 0 g e k → another n g.done g.call k (length d) ≡ false → Played n text s ts b (turns + 1) g (out ++ take k e)
  played_on turns {f} {g} {out} {d} {e} {k} p live room l full = subst (λ (i : ℕ). Played n text s ts b i g (out ++ take k e)) (sym (add-one turns)) (then turns f g out d e k p live room l full)

-- what was written, what the buffer has, and what comes next
joined : (written now start out next : List ℕ) → written ++ now ≡ start ++ out → (written ++ now) ++ next ≡ start ++ (out ++ next)
joined written now start out next same = ap (λ l. l ++ next) same ∙ append_assoc start out next

pub loop-init : goal.loop-init
loop-init g c = record {
  same_length = refl;
  next_within = start_within c.requires.0;
  out = [];
  played = Played.none;
  written = [];
  appended = Appends-nil _;
  all = sym (append-nil _);
}

pub returns-then-turned-clause-played : goal.returns-then-turned-clause-played
returns-then-turned-clause-played g c =
    let i = c.loop.invariant in
    let now = take c.loop.turned.next c.loop.buf in
    let contents = g.W.Write.contents in
    let wrote : Appends (contents c.loop.output) (contents c.write_full.new.output) now = c.in_ok-write_full.ensures.bytes in
    let so_far = Appends-trans (contents c.args.output.now) (contents c.loop.output) (contents c.write_full.new.output) i.written now i.appended wrote in
    (record { turns = c.loop.counter; out = i.out; played = i.played; done = c.if-turned.true }, subst (Appends (contents c.args.output.now) (contents c.write_full.new.output)) i.all so_far)

pub loop-preserved : goal.loop-preserved
loop-preserved g c =
    let i = c.loop.invariant in
    let r = c.run_lines-turned in
    let now = take c.loop.turned.next c.loop.buf in
    let next = take r.result.next r.new.buf in
    let contents = g.W.Write.contents in
    let wrote : Appends (contents c.loop.output) (contents c.write_full.new.output) now = c.in_ok-write_full.ensures.bytes in
    record {
      same_length = search rules;
      next_within = lines_within r.ensures.lines_ran (omega arith);
      out = i.out ++ next;
      played = played_on c.loop.counter i.played c.if-turned.false (omega (arith, i.same_length)) r.ensures.lines_ran r.ensures.buf_value;
      written = i.written ++ now;
      appended = Appends-trans (contents c.args.output.now) (contents c.loop.output) (contents c.write_full.new.output) i.written now i.appended wrote;
      all = joined i.written now (take c.args.first.next c.args.buf.now) i.out next i.all;
    }

-- what was written before the write that failed, and what that one wrote
pub returns-in_err-write_full-clause-err : goal.returns-in_err-write_full-clause-err
returns-in_err-write_full-clause-err g c =
    let i = c.loop.invariant in
    let (n, within, some) = c.in_err-write_full.ensures.err in
    let now = take c.loop.turned.next c.loop.buf in
    let contents = g.W.Write.contents in
    let wrote : Appends (contents c.loop.output) (contents c.write_full.new.output) (take n now) = some in
    let so_far = Appends-trans (contents c.args.output.now) (contents c.loop.output) (contents c.write_full.new.output) i.written (take n now) i.appended wrote in
    let front = sym (take-append-add i.written now n) ∙ ap (take (length i.written + n)) i.all in
    let left : (turns : ℕ) × (f : Session) × (out : List ℕ) × Played seats c.args.text.now c.args.sides c.args.tiles.now c.args.first.session turns f out × (k : ℕ) × Appends (contents c.args.output.now) (contents c.write_full.new.output) (take k (take c.args.first.next c.args.buf.now ++ out)) = (c.loop.counter, c.loop.turned.session, i.out, i.played, length i.written + n, subst (Appends (contents c.args.output.now) (contents c.write_full.new.output)) front so_far) in
    MatchResult-from_err c.from_residual.result _ _ c.from_residual.ensures.0 (λ _. left)

-- the session has ended before the turns are over
pub returns : goal.returns
returns g c =
    let i = c.loop.invariant in
    let few = play_ends seats _ _ _ _ _ c.requires.0 c.loop.counter _ i.out i.played in
    absurd (omega (arith, few, c.loop-test.false))
