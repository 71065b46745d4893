use Prim.Native.Nat.{ℕ, suc, ◌+◌, ◌-◌, ◌<◌}
use mathlib.Core.List.{List}
use mathlib.Core.Path.{◌≡◌, refl, sym, ap, ◌∙◌}
use native.Mathlib.Omega.{arith}
use lib.IntN.{ℤ}
use lib.ListN.{drop, set, length-set}
use borrow.Author.Rules.{rules}
use Rattle.std.specs.Prelude.{Ok, Err}
use Rattle.std.proofs.lemmas.Result.{err_from_is_err_and}
use Rattle.num_convert.proofs.Signed.{read}
use Rattle.game_records.specs.declared.CharacterCore.{CharacterCore}
use Rattle.game_packed.specs.Unpacked.{IntRead, int_read, on_read, ints_read, unpacked}
use Rattle.game_packed.proofs.unpack.Goals as goal

-- one turn of the loop
one_read : (bytes : List ℕ) (i at : ℕ) (ns : List ℤ) {r : IntRead} → i < 15 → r ≡ int_read (drop at bytes) at → ints_read (15 - i) i bytes at ns ≡ on_read (λ z next. ints_read (15 - (i + 1)) (i + 1) bytes next (set ns i z)) r
unfolding ints_read
one_read bytes i at ns h e =
    let k : 15 - i ≡ suc (15 - (i + 1)) = omega arith in
    ap (λ (m : ℕ). ints_read m i bytes at ns) k ∙ ap (on_read _) (sym e)

pub loop-number-init : goal.loop-number-init
unfolding unpacked
loop-number-init c = record { read = refl; long = refl }

pub returns-in_err-number : goal.returns-in_err-number
returns-in_err-number c =
    let l = c.loop-number in
    let p = err_from_is_err_and c.from_residual.result c.from_residual.ensures.1 in
    p.1 ∙ ap Err p.2 ∙ sym (one_read c.args.bytes.now l.number-index l.at l.number-items c.loop-number-test.true c.read_int.ensures ∙ ap (on_read _) c.in_err-number.was) ∙ l.invariant.read

pub loop-number-preserved : goal.loop-number-preserved
loop-number-preserved c =
    let l = c.loop-number in
    let one = one_read c.args.bytes.now l.number-index l.at l.number-items c.loop-number-test.true c.read_int.ensures ∙ ap (on_read _) c.in_ok-number.was in
    let z = read c.in_ok-number.field-0-0 (search rules) in
    record {
      read = ap (λ (y : ℤ). ints_read (15 - (l.number-index + 1)) (l.number-index + 1) c.args.bytes.now c.in_ok-number.field-0-1 (set l.number-items l.number-index y)) z ∙ sym one ∙ l.invariant.read;
      long = length-set l.number-items l.number-index _ ∙ l.invariant.long;
    }

pub returns : goal.returns
unfolding ints_read
returns c =
    let l = c.loop-number in
    let none : 0 ≡ 15 - l.number-index = omega (arith, c.loop-number-test.false) in
    ap (λ (n : CharacterCore). Ok (n, l.at)) c.core_of.ensures ∙ ap (λ (k : ℕ). ints_read k l.number-index c.args.bytes.now l.at l.number-items) none ∙ l.invariant.read
