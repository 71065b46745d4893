use Prim.Native.Nat.{◌+◌, ◌≤◌, ◌<◌}
use mathlib.Core.Path.{◌≡◌, refl, sym, ap, ◌∙◌}
use native.Mathlib.Numerals.{add-one}
use native.Mathlib.Omega.{arith}
use lib.IntN.{ℤ, pos}
use lib.ListN.{length, take, get_or, set, length-set}
use lib.Seq.{take_all, take-suc, take-suc-set}
use borrow.Author.Count.{below_more}
use Rattle.num_convert.specs.Casts.{IsI32}
use mathlib.Core.List.{List, [], ◌∷◌, ◌++◌}
use mir.Syntax.{w32}
use mir.Val.{to_z, of_z}
use Rattle.num_convert.proofs.Signed.{read}
use Rattle.game_records.specs.Numbers.{number_at}
use Rattle.search_calls.proofs.Steps.{every_i32}
use Rattle.search_calls.proofs.stepping.copy_world.Goals as goal

pub loop-i-init : goal.loop-i-init
loop-i-init c = (omega arith, refl, sym c.requires, refl, λ k h. absurd (omega arith))

pub loop-i-preserved : goal.loop-i-preserved
loop-i-preserved c =
    let l = c in
    let w = l.args.world.now in
    let i = l.loop-i.i in
    let x = l.loop-i.next in
    let h : i < length w = c.loop-i-test.true in
    let v = read (get_or w i (pos 0)) c.next-1.given in
    let copied : take (i + 1) (set x i (to_z w32 (of_z w32 (get_or w i (pos 0))))) ≡ take (i + 1) w =
    rw (add-one i) (take-suc-set x i _ (omega (arith, l.loop-i.invariant.2)) ∙ ap (λ (y : ℤ). take i x ++ (y ∷ [])) v ∙ ap (λ (y : List ℤ). y ++ (get_or w i (pos 0) ∷ [])) l.loop-i.invariant.3 ∙ sym (take-suc w i (pos 0) h)) in
    (omega arith, refl, length-set x i _ ∙ l.loop-i.invariant.2, copied, below_more (λ k. IsI32 (number_at w k)) i l.loop-i.invariant.4 c.next-1.given)

pub returns : goal.returns
returns c =
    let l = c in
    let w = l.args.world.now in
    let n = l.loop-i.next in
    let h : length w ≤ l.loop-i.i = omega (arith, c.loop-i-test.false) in
    record { same = sym (take_all l.loop-i.i n (omega (arith, l.loop-i.invariant.2))) ∙ l.loop-i.invariant.3 ∙ take_all l.loop-i.i w h; known = λ k. every_i32 w k (λ q. l.loop-i.invariant.4 k (omega (arith, h))) }
