-- What a turn writes follows what is written.
use Rattle.std.proofs.Common.{rules, ◌≡◌, ◌+◌, ◌++◌, length, take, slice_range, sym, ap, ◌∙◌, subst}
use Rattle.std.proofs.lemmas.List.{take_rest}
use Rattle.std.specs.Io.KnownBytes.{Appends}
use Rattle.std.proofs.KnownBytes.{Appends-trans}
use lib.Seq.{take-add}
use Rattle.base_input.proofs.write_full.Goals as goal

pub loop-done-preserved : goal.loop-done-preserved
loop-done-preserved g c =
    let row = c.args.row.now in
    let from = c.loop-done.done in
    let n = c.in_ok-n.n in
    let joined : take from row ++ take n (slice_range row from (length row)) ≡ take (from + n) row = ap (λ l. take from row ++ take n l) (take_rest row from) ∙ sym (take-add from n row) in
    record {
      within = search rules;
      given = subst (Appends _ _) joined (Appends-trans _ _ _ _ _ c.loop-done.invariant.given c.in_ok-n.ensures.bytes);
    }
