use mathlib.Core.Path.{◌≡◌, refl, sym, ap, ◌∙◌}
use native.Mathlib.Omega.{arith}
use lib.ListN.{length}
use mir.Facts.{to_z-of_z}
use Rattle.std.proofs.lemmas.Result.{err_from_is_err_and}
use Rattle.std.specs.Prelude.{Result}
use Rattle.base_rows.proofs.Puts.{put_end}
use Rattle.game_records.proofs.Back.{core_long}
use Rattle.game_records.specs.Numbers.{core_count}
use Rattle.game_records.specs.declared.CharacterCore.{CharacterCore}
use Rattle.game_refusals.specs.declared.Refusal.{Refusal}
use Rattle.character.specs.Tick.{seats}
use Rattle.character.proofs.Refused.{net_refused}
use Rattle.world.specs.Readers.{seated, of_record, record_now}
use Rattle.world.specs.declared.reading.Query.TheVariants as query
use Rattle.world_numbers.specs.Decoding.{decoding}
use Rattle.world_buffers.specs.Readers.{told_as, reading_told}
use Rattle.world_buffers.proofs.Readings.{wrong_world, wrong_out, told-seated}
use Rattle.world_buffers.proofs.readers.record_in.Goals.{then-world-ne-WORLD-via-then-world-ne-WORLD, then-world-ne-WORLD-via-else-world-ne-WORLD+then-record-ne-CORE}
use Rattle.world_buffers.proofs.readers.record_in.Goals as goal

pub returns-then-world-ne-WORLD : goal.returns-then-world-ne-WORLD
returns-then-world-ne-WORLD c =
    let a = c.args in
    elim c.then-world-ne-WORLD.branch [
      | then-world-ne-WORLD-via-then-world-ne-WORLD w ↦ wrong_world (query.Record a.id) a.world.now a.«record».now w.if-world-ne-WORLD.true
      | then-world-ne-WORLD-via-else-world-ne-WORLD+then-record-ne-CORE w ↦ wrong_out (query.Record a.id) a.world.now a.«record».now w.if-world-ne-WORLD.false w.if-record-ne-CORE.true
    ]

pub returns-in_err-seated_in : goal.returns-in_err-seated_in
returns-in_err-seated_in c =
    let a = c.args in
    let p = err_from_is_err_and c.from_residual.result c.from_residual.ensures.1 in
    rw (p.1, p.2) (told-seated (query.Record a.id) a.world.now a.«record».now a.id record_now _ _ (λ w. refl) c.if-world-ne-WORLD.false c.if-record-ne-CORE.false (c.in_err-seated_in.ensures ∙ ap (seated seats (decoding seats a.world.now)) (to_z-of_z c.ranges.id)) refl)

pub returns-in_err-core : goal.returns-in_err-core
returns-in_err-core c =
    let a = c.args in
    let p = err_from_is_err_and c.from_residual-in_err-core.result c.from_residual-in_err-core.ensures.1 in
    let net = sym c.to_net.ensures ∙ c.in_err-core.was in
    rw (p.1, p.2, net_refused _ _ net)
    (told-seated (query.Record a.id) a.world.now a.«record».now a.id record_now _ _ (λ w. refl) c.if-world-ne-WORLD.false c.if-record-ne-CORE.false (c.in_ok-seated_in.ensures ∙ ap (seated seats (decoding seats a.world.now)) (to_z-of_z c.ranges.id)) refl
    ∙ ap (λ (x : Result CharacterCore Refusal). reading_told a.«record».now (of_record x)) net)

pub returns : goal.returns
returns c =
    let a = c.args in
    let r = c.core_numbers-row in
    let n : length r.result ≡ core_count = ap length r.ensures ∙ core_long _ in
    let h = c.if-record-ne-CORE.false in
    let row = c.copy.ensures ∙ put_end a.«record».now 0 r.result (omega arith) ∙ r.ensures in
    let net = sym c.to_net.ensures ∙ c.in_ok-core.was in
    told-seated (query.Record a.id) a.world.now a.«record».now a.id record_now _ _ (λ w. refl) c.if-world-ne-WORLD.false c.if-record-ne-CORE.false (c.in_ok-seated_in.ensures ∙ ap (seated seats (decoding seats a.world.now)) (to_z-of_z c.ranges.id)) refl
    ∙ ap (λ (x : Result CharacterCore Refusal). reading_told a.«record».now (of_record x)) net
    ∙ ap told_as (sym row)
