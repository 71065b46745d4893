use Prim.Native.Nat.{ℕ, ◌-◌, ◌*◌, ◌≤◌, ◌<◌}
use mathlib.Core.List.{List}
use mathlib.Core.Path.{◌≡◌, sym, ap, ◌∙◌}
use native.Mathlib.Omega.{arith}
use lib.IntN.{ℤ}
use lib.ListN.{length, take, drop}
use mir.Facts.{to_z-of_z}
use borrow.Author.Tests.{not-true, not-false}
use Rattle.base_rows.proofs.Puts.{put_end}
use Rattle.game_records.specs.Numbers.{core_count, core_numbers}
use Rattle.game_records.proofs.Back.{core_long}
use Rattle.game_tuning.specs.Tuning.{tuning_count}
use Rattle.character.specs.Tick.{seats}
use Rattle.world.specs.Calls.{place_of}
use Rattle.send_rule.specs.declared.Copy.{Copy}
use Rattle.send_rule.specs.Send.{copy_at}
use Rattle.world_numbers.proofs.RowsIn.{to_end}
use Rattle.send_numbers.specs.Copies.{copy_in, copy_count, screen_decoding}
use Rattle.send_numbers.proofs.CopiesBack.{copy_is}
use Rattle.send_buffers.proofs.Taken.{shown_wrong_screen, shown-wrong-record, shown-no-seat, shown-none, shown-is}
use Rattle.send_buffers.proofs.screens.shown_in.Goals.{then-screen-ne-SCREEN-via-then-screen-ne-SCREEN, then-screen-ne-SCREEN-via-else-screen-ne-SCREEN+then-record-ne-CORE}
use Rattle.send_buffers.proofs.screens.shown_in.Goals as goal

-- the copy that is read at a place
copy_is_read : (l : List ℤ) (k : ℕ) (r : Copy) → k < seats → tuning_count ≤ length l → r ≡ copy_in (drop (copy_count * k) (take (length l - tuning_count) (drop tuning_count l))) → copy_at (screen_decoding seats l).copies k ≡ r
unfolding screen_decoding
copy_is_read l k r h m e = copy_is seats k (drop tuning_count l) h ∙ ap (λ (m : List ℤ). copy_in (drop (copy_count * k) m)) (sym (to_end tuning_count l m)) ∙ sym e

pub returns-then-screen-ne-SCREEN : goal.returns-then-screen-ne-SCREEN
returns-then-screen-ne-SCREEN c =
    let a = c.args in
    elim c.then-screen-ne-SCREEN.branch [
      | then-screen-ne-SCREEN-via-then-screen-ne-SCREEN w ↦ shown_wrong_screen a.screen.now a.id a.«record».now w.if-screen-ne-SCREEN.true
      | then-screen-ne-SCREEN-via-else-screen-ne-SCREEN+then-record-ne-CORE w ↦ shown-wrong-record a.screen.now a.id a.«record».now w.if-screen-ne-SCREEN.false w.if-record-ne-CORE.true
    ]

pub returns-then-at-ge-SEATS : goal.returns-then-at-ge-SEATS
returns-then-at-ge-SEATS c = let b = c in let a = b.args in shown-no-seat a.screen.now a.id a.«record».now b.if-screen-ne-SCREEN.false b.if-record-ne-CORE.false b.place_of-at.result (c.place_of-at.ensures ∙ ap (place_of seats) (to_z-of_z c.ranges.id)) c.if-at-ge-SEATS.true

pub returns : goal.returns
returns c =
    let d = c in
    let b = c in
    let a = b.args in
    let s = copy_is_read c.args.screen.now c.place_of-at.result c.copy_at-shown.result c.if-at-ge-SEATS.false (omega arith) c.copy_at-shown.ensures in
    let r = c.core_numbers-core in
    let n : length r.result ≡ core_count = ap length r.ensures ∙ core_long _ in
    let g = b.if-record-ne-CORE.false in
    shown-is a.screen.now a.id a.«record».now b.if-screen-ne-SCREEN.false g b.place_of-at.result (c.place_of-at.ensures ∙ ap (place_of seats) (to_z-of_z c.ranges.id)) c.copy.new.numbers d.if-at-ge-SEATS.false (ap (λ (x : Copy). x.kept) s ∙ not-false _ c.if-not-shown.false) (c.copy.ensures ∙ put_end _ 0 _ (omega arith) ∙ r.ensures ∙ ap (λ (x : Copy). core_numbers x.core) (sym s))

pub returns-then-not-shown : goal.returns-then-not-shown
returns-then-not-shown c =
    let d = c in
    let b = c in
    let a = b.args in
    shown-none a.screen.now a.id a.«record».now b.if-screen-ne-SCREEN.false b.if-record-ne-CORE.false b.place_of-at.result (c.place_of-at.ensures ∙ ap (place_of seats) (to_z-of_z c.ranges.id)) d.if-at-ge-SEATS.false (ap (λ (x : Copy). x.kept) (copy_is_read c.args.screen.now c.place_of-at.result c.copy_at-shown.result c.if-at-ge-SEATS.false (omega arith) c.copy_at-shown.ensures) ∙ not-true _ c.if-not-shown.true)
