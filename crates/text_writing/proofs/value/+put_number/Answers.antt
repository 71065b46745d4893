use Prim.Native.Nat.{ℕ, ◌+◌, ◌/◌, ◌%◌}
use mathlib.Core.Path.{◌≡◌, sym, ap, ◌∙◌}
use mathlib.Core.List.{List}
use native.Mathlib.Omega.{arith}
use lib.ListN.{length, set}
use Rattle.text_decimal.specs.Decimal.{digits}
use Rattle.base_rows.specs.Put.{put}
use Rattle.text_decimal.proofs.Digits.{lone, ten_last, ten_length}
use Rattle.base_rows.proofs.Puts.{put_one, put_snoc}
use Rattle.text_writing.proofs.value.+put_number.Goals as goal

pub bounds-buf-at : goal.bounds-buf-at
bounds-buf-at t c = omega (arith, ap length (lone 9 c.args.n c.if-n-lt10.true))

pub put_number-last-requires : goal.put_number-last-requires
put_number-last-requires t c =
    let l = ten_length c.args.n c.if-n-lt10.false (omega arith) in
    (omega arith, omega arith)

pub bounds-buf-last : goal.bounds-buf-last
bounds-buf-last t c =
    let l = ten_length c.args.n c.if-n-lt10.false (omega arith) in
    let p = c.put_number-last.ensures.place in
    omega (arith, c.put_number-last.auto.buf)

pub overflow_add-result-else-n-lt10 : goal.overflow_add-result-else-n-lt10
overflow_add-result-else-n-lt10 t c =
    let l = ten_length c.args.n c.if-n-lt10.false (omega arith) in
    let p = c.put_number-last.ensures.place in
    omega (arith, c.put_number-last.auto.buf)

pub returns-then-n-lt10 : goal.returns-then-n-lt10
returns-then-n-lt10 t c =
    let a = c.args in
    let e = lone 9 a.n c.if-n-lt10.true in
    let l : length (digits 10 a.n) ≡ 1 = ap length e in
    record { bytes = put_one a.buf.now a.at (48 + a.n) (omega arith) ∙ ap (put a.buf.now a.at) (sym e); place = omega arith }

pub returns-else-n-lt10 : goal.returns-else-n-lt10
returns-else-n-lt10 t c =
    let a = c.args in
    let k = c.put_number-last in
    let ten = c.if-n-lt10.false in
    let l = ten_length a.n ten (omega arith) in
    let p = k.ensures.place in
    record {
      bytes =
          ap (λ (d : List ℕ). set d k.result (48 + a.n % 10)) k.ensures.bytes
          ∙ put_snoc a.buf.now a.at (digits 10 (a.n / 10)) k.result (48 + a.n % 10) p (omega arith)
          ∙ ap (put a.buf.now a.at) (sym (ten_last a.n ten (omega arith)));
      place = omega arith;
    }
