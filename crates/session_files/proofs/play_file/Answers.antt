-- The row is as long as the most that is read, so what does not fill it is the whole input.
use Rattle.std.proofs.Common.{◌≡◌, ◌<◌, length, take, refl, sym, subst}
use Rattle.std.proofs.lemmas.List.{length-take-le}
use Rattle.session_run.specs.Start.{most_read}
use Rattle.session_files.proofs.play_file.Goals as goal

pub read_and_play-requires : goal.read_and_play-requires
read_and_play-requires g c = refl

pub returns-clause-played : goal.returns-clause-played
returns-clause-played g c =
    let e = c.in_ok-played.ensures in
    let r = c.in_ok-played.played in
    let row = c.read_and_play.new.text in
    let counted : length (take r.count row) ≡ r.count = length-take-le r.count row e.played.0 in
    let whole : length row ≡ most_read = c.read_and_play.ensures.as_long in
    (take r.count row, r.session, e.played.1, refl, e.read, (λ h. e.end (subst (λ n. n < length row) counted (subst (λ n. length (take r.count row) < n) (sym whole) h))), e.played.2)
