use Prim.Native.Nat.{ℕ, ◌+◌, ◌*◌, ◌-◌, ◌≤◌}
use mathlib.Core.Path.{◌≡◌, sym, ap, ap₂, ◌∙◌}
use mathlib.Core.List.{List, ◌++◌, append-nil}
use native.Mathlib.Omega.{arith}
use lib.IntN.{ℤ}
use lib.ListN.{length, take, length-map}
use lib.Seq.{take_all}
use borrow.Author.Rules.{rules}
use Rattle.base_rows.specs.Put.{put}
use Rattle.base_rows.proofs.Puts.{take_put}
use Rattle.character.specs.Tick.{seats}
use Rattle.character.specs.declared.Slot.{Slot}
use Rattle.game_tuning.specs.Tuning.{tuning_count}
use Rattle.world_numbers.specs.Encoding.{seat_count, world_count, each, seat_numbers, encoding}
use Rattle.world_numbers.proofs.Rows.{next_row, seat_long}
use Rattle.world_numbers.proofs.encoding.encode.Goals as goal

pub loop-i-init : goal.loop-i-init
unfolding each
loop-i-init c = (omega arith, c.copy.auto.numbers ∙ c.requires, sym (append-nil _))

pub loop-i-preserved : goal.loop-i-preserved
loop-i-preserved c =
    let k = c.copy-in-loop-i in
    let p = c.seat_place in
    let r = c.seat_numbers-row in
    let l = c in
    let i = l.loop-i.i in
    let s = c in
    let m : length s.args.world.slots ≡ seats = s.well_formed.0.1.1.0.1.0.1 in
    (omega arith, k.auto.numbers ∙ l.loop-i.invariant.1, next_row seat_numbers seat_count seat_long (take tuning_count l.copy.new.numbers) s.args.world.slots _ i (tuning_count + seat_count * i) (tuning_count + seat_count * (i + 1)) l.loop-i.numbers k.new.numbers r.result (omega arith) (omega arith) l.loop-i.invariant.2 r.ensures (k.ensures ∙ ap (λ (at : ℕ). put l.loop-i.numbers at r.result) p.ensures) (omega arith))

pub returns : goal.returns
unfolding encoding
returns c =
    let l = c in
    let i = l.loop-i.i in
    let s = c in
    let w = s.args.world in
    let k = c.copy in
    let m : length w.slots ≡ seats = s.well_formed.0.1.1.0.1.0.1 in
    let t : length w.tunings ≡ tuning_count = search rules in
    sym (take_all (tuning_count + seat_count * i) l.loop-i.numbers (omega arith))
    ∙ l.loop-i.invariant.2
    ∙ ap₂ (λ (p : List ℤ) (ss : List Slot). p ++ each seat_numbers ss) (ap (take tuning_count) k.ensures ∙ take_put _ 0 w.tunings tuning_count (omega arith) (omega arith)) (take_all i w.slots (omega arith))
