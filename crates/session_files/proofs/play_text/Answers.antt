-- What `begin` leaves is played on, and what it wrote is written first.
use Rattle.std.proofs.Common.{rules, ℕ, List, take, refl, sym}
use Rattle.std.proofs.lemmas.List.{length-take-le}
use Rattle.std.proofs.lemmas.Result.{IfOk-weaker, IfErr-weaker}
use Rattle.session_run.specs.Start.{Began}
use Rattle.session_run.specs.declared.start.Begun.{Begun}
use Rattle.session_run.specs.declared.session_lines.Session.{Session}
use Rattle.session_laws.specs.Played.{Started}
use Rattle.session_laws.proofs.Within.{count_within}
use Rattle.session_files.proofs.play_text.Goals as goal

-- what `begin` leaves, with the part of the tiles that is lent on
begun_started : {n : ℕ} {text ts d : List ℕ} {r : Begun} {e : List ℕ} → Began n text ts d r e → Started n text r.sides (take r.count ts) r.first e
begun_started {r = r} b = record { tiles = _; buffer = _; begun = r; began = b; on_sides = refl; on_tiles = refl; is_first = refl }

pub slice_bounds-tiles-end : goal.slice_bounds-tiles-end
slice_bounds-tiles-end g c = count_within c.begin-begun.ensures

pub slice_bounds-play-end : goal.slice_bounds-play-end
slice_bounds-play-end g c = sym (length-take-le _ _ (count_within c.begin-begun.ensures))

pub play-requires : goal.play-requires
play-requires g c = (begun_started c.begin-begun.ensures, search rules)

pub returns-clause-played : goal.returns-clause-played
returns-clause-played g c = IfOk-weaker c.play.result _ _ (λ (f : Session) p. (record { sides = _; tiles = _; first = _; buffer = _; started = begun_started c.begin-begun.ensures; ended = p.0 }, p.1)) c.play.ensures.played

pub returns-clause-err : goal.returns-clause-err
returns-clause-err g c = IfErr-weaker c.play.result _ _ (λ _ p. let (turns, session, out, played, count, written) = p in record { sides = _; tiles = _; first = _; buffer = _; started = begun_started c.begin-begun.ensures; turns = turns; session = session; out = out; played = played; count = count; written = written }) c.play.ensures.err
