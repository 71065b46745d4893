use Prim.Native.Nat.{ℕ, ◌+◌, ◌-◌, ◌/◌, ◌%◌, ◌<◌, ◌≤◌}
use mathlib.Core.List.{List, ◌∷◌}
use mathlib.Core.Path.{◌≡◌, sym, ap, ◌∙◌}
use native.Mathlib.Numerals.{add-one}
use native.Mathlib.Omega.{arith}
use lib.Dec.{eqb}
use lib.IntN.{ℤ}
use lib.ListN.{length, get_or, drop, drop_of_length-le, length-drop}
use lib.Seq.{drop-cons, take_all}
use Rattle.std.specs.Prelude.{Ok, Err}
use Rattle.std.proofs.lemmas.Grind.{common_steps}
use Rattle.std.proofs.lemmas.Option.{gets}
use Rattle.std.proofs.lemmas.Result.{err_from_is_err_and}
use Rattle.game_refusals.specs.declared.Refusal.TheVariants.{BytesEnd}
use Rattle.num_convert.proofs.Signed.{held}
use Rattle.game_packed.specs.Unpacked.{signed, int_read, later_read}
use Rattle.game_packed.proofs.Later.{first_last, first_more, none_there}
use Rattle.game_packed.proofs.number.read_int.Goals as goal

bytes_from : (bytes : List ℕ) (at b : ℕ) → at < length bytes → b ≡ get_or bytes at 0 → drop at bytes ≡ b ∷ drop (at + 1) bytes
bytes_from bytes at b h e = drop-cons bytes at 0 h ∙ ap (λ (n : ℕ). get_or bytes at 0 ∷ drop n bytes) (sym (add-one at)) ∙ ap (λ (x : ℕ). x ∷ drop (at + 1) bytes) (sym e)

pub returns-in_err-ok_or : goal.returns-in_err-ok_or
returns-in_err-ok_or c =
    let p = err_from_is_err_and c.from_residual.result c.from_residual.ensures.1 in
    let past : length c.args.bytes.now ≤ c.args.at = grind (arith, common_steps, gets, c.get.ensures.lookup, c.ok_or.ensures.value, c.ok_or.ensures.variant, c.in_err-ok_or.was) in
    let end : c.in_err-ok_or.field-0.0 ≡ BytesEnd = grind (arith, common_steps, c.ok_or.ensures.value, c.ok_or.ensures.variant, c.in_err-ok_or.was) in
    p.1 ∙ ap Err (p.2 ∙ end) ∙ sym (ap (λ (s : List ℕ). int_read s c.args.at) (drop_of_length-le c.args.bytes.now past) ∙ none_there c.args.at)

pub returns-then-first-lt128 : goal.returns-then-first-lt128
returns-then-first-lt128 c =
    let at = c.args.at in
    let bytes = c.args.bytes.now in
    let within : at < length bytes = grind (arith, common_steps, gets, c.get.ensures.lookup, c.ok_or.ensures.ok_part, c.in_ok-ok_or.was) in
    let is : c.from-first.result ≡ get_or bytes at 0 = grind (arith, common_steps, gets, c.get.ensures.lookup, c.ok_or.ensures.ok_part, c.in_ok-ok_or.was, c.from-first.ensures) in
    let split = bytes_from bytes at c.from-first.result within is in
    let first = c.from-first.result in
    let value : ℤ = signed (eqb (first / 64 % 2) 1) (first % 64) in
    let read : int_read (drop at bytes) at ≡ Ok (value, at + 1) = ap (λ (s : List ℕ). int_read s at) split ∙ first_last _ at first c.if-first-lt128.true in
    ◌∙◌ {b = Ok (value, at + 1)} (ap (λ (z : ℤ). Ok (z, at + 1)) (held c.signed.result c.signed.type_inv c.signed.ensures)) (sym read)

pub returns-else-first-lt128 : goal.returns-else-first-lt128
returns-else-first-lt128 c =
    let at = c.args.at in
    let bytes = c.args.bytes.now in
    let within : at < length bytes = grind (arith, common_steps, gets, c.get.ensures.lookup, c.ok_or.ensures.ok_part, c.in_ok-ok_or.was) in
    let is : c.from-first.result ≡ get_or bytes at 0 = grind (arith, common_steps, gets, c.get.ensures.lookup, c.ok_or.ensures.ok_part, c.in_ok-ok_or.was, c.from-first.ensures) in
    let split = bytes_from bytes at c.from-first.result within is in
    let first = c.from-first.result in
    let later = drop (at + 1) bytes in
    let long : length later ≤ length bytes - (at + 1) = omega (arith, length-drop (at + 1) bytes) in
    c.read_later.ensures ∙ ap (λ (s : List ℕ). later_read (eqb (first / 64 % 2) 1) 3 s (at + 1) (first % 64) 64) (take_all (length bytes - (at + 1)) later long) ∙ sym (ap (λ (s : List ℕ). int_read s at) split ∙ first_more _ at _ c.if-first-lt128.false)
