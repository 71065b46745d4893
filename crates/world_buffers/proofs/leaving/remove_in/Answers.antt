use mathlib.Core.List.{List, map}
use mathlib.Core.Path.{◌≡◌, refl, sym, ap, ◌∙◌, subst}
use Prim.Native.Nat.{ℕ, ◌+◌, ◌<◌}
use native.Mathlib.Omega.{arith}
use lib.IntN.{ℤ, nat_abs}
use lib.ListN.{length, take, drop}
use Rattle.game_records.specs.Numbers.{number_at}
use Rattle.game_records.proofs.Bits.{again}
use Rattle.character.specs.Tick.{seats}
use Rattle.world.specs.Calls.{place_of}
use Rattle.world_buffers.specs.Leaving.{vacate_in, remove_in}
use Rattle.world_buffers.proofs.Listed.{place_abs, remove_next, remove_end}
use borrow.Author.Rules.{rules}
use Rattle.world_buffers.proofs.leaving.remove_in.Goals.{After-place_of}
use Rattle.world_buffers.proofs.leaving.remove_in.Goals as goal

-- the seat that the next id names
place_is : (c : After-place_of) → c.place_of.result ≡ place_of seats (number_at c.args.gone.ids c.loop-i.i)
place_is c = c.place_of.ensures ∙ ap (place_of seats) (again c.place_of-arg-1.given)

pub loop-i-init : goal.loop-i-init
loop-i-init c = (c.requires.0, omega arith, refl)

pub bounds-ids-i : goal.bounds-ids-i
bounds-ids-i c = omega (arith, c.requires.1.few)

pub vacate_in-requires : goal.vacate_in-requires
vacate_in-requires c = (c.loop-i.invariant.0, subst (λ (k : ℕ). k < seats) (sym (place_is c)) (c.requires.1.seat c.loop-i.i c.loop-i-test.true))

pub overflow_step-i : goal.overflow_step-i
overflow_step-i c = let f = c.requires.1.few in omega (arith, f)

pub loop-i-smaller : goal.loop-i-smaller
loop-i-smaller c = omega arith

pub loop-i-preserved : goal.loop-i-preserved
loop-i-preserved c =
    let s = c in
    let l = c.loop-i in
    let h = c.loop-i-test.true in
    let v = c.vacate_in in
    let ids = s.args.gone.ids in
    let n = s.args.gone.count in
    let z = number_at ids l.i in
    let long : length ids ≡ seats = search rules in
    (v.auto.world ∙ l.invariant.0, omega arith, ap (λ (m : List ℤ). remove_in m (map nat_abs (drop (l.i + 1) (take n ids)))) (v.ensures ∙ ap (vacate_in l.world) (place_is c.before.before ∙ place_abs z (s.requires.1.seat l.i h))) ∙ sym (remove_next ids n l.i l.world h (omega (arith, s.requires.1.few))) ∙ l.invariant.2)

pub returns : goal.returns
returns c =
    let s = c in
    let l = c.loop-i in
    let ids = s.args.gone.ids in
    let long : length ids ≡ seats = search rules in
    sym (remove_end ids s.args.gone.count l.i l.world l.invariant.1 c.loop-i-test.false (omega (arith, s.requires.1.few))) ∙ l.invariant.2
