use mathlib.Core.Bool.{true, false}
use mathlib.Core.List.{List}
use mathlib.Core.Path.{◌≡◌, sym, ap, ◌∙◌}
use Prim.Native.Nat.{ℕ, ◌+◌}
use lib.IntN.{ℤ}
use lib.ListN.{length}
use Rattle.base_rows.specs.Put.{put}
use Rattle.base_turns.specs.Turns.{more}
use Rattle.base_turns.proofs.Loop.{fold_first, fold_end, turn_on}
use Rattle.world_numbers.specs.Encoding.{seat_place, hook_place, retracted_numbers}
use Rattle.world_buffers.specs.Leaving.{holds_in, release_at, release_in}
use Rattle.world_buffers.proofs.leaving.release_in.Goals.{then-holds_in, else-holds_in}
use Rattle.world_buffers.proofs.leaving.release_in.Goals as goal

-- a turn, by what the test said
released : (k j : ℕ) (l m : List ℤ) → holds_in l j k ≡ true → m ≡ put l (seat_place j + hook_place) retracted_numbers → release_at k j l ≡ m
released k j l m e q = rw (e, q)

stays : (k j : ℕ) (l m : List ℤ) → holds_in l j k ≡ false → m ≡ l → release_at k j l ≡ m
stays k j l m e q = rw (e, q)

pub loop-j-init : goal.loop-j-init
unfolding release_in
loop-j-init c = (c.requires, fold_first)

pub loop-j-preserved : goal.loop-j-preserved
loop-j-preserved c =
    let l = c.loop-j in
    let h = c.loop-j-test.true in
    let e = c.holds_in.ensures in
    let k = c.args.id in
    elim c.if-holds_in.branch [
      | then-holds_in w ↦ (ap length w.world-is ∙ w.copy.auto.numbers ∙ l.invariant.0, turn_on l.invariant.1 h (ap more (released k l.j l.world c.if-holds_in.world (sym e ∙ w.if-holds_in.true) (w.world-is ∙ w.copy.ensures ∙ ap (λ (at : ℕ). put l.world (at + hook_place) retracted_numbers) w.seat_place.ensures))))
      | else-holds_in w ↦ (ap length w.world-is ∙ l.invariant.0, turn_on l.invariant.1 h (ap more (stays k l.j l.world c.if-holds_in.world (sym e ∙ w.if-holds_in.false) w.world-is)))
    ]

pub returns : goal.returns
returns c = sym (fold_end c.loop-j.invariant.1 c.loop-j-test.false)
