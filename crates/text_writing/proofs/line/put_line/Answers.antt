use Prim.Native.Nat.{ℕ, ◌+◌, ◌-◌}
use mathlib.Core.Path.{refl, sym, ap, ◌∙◌, subst}
use mathlib.Core.List.{List, [], ◌∷◌}
use native.Mathlib.Omega.{arith}
use lib.IntN.{ℤ, pos}
use lib.ListN.{length, take, set, get_or, length-set, length-append}
use mir.Syntax.{w32}
use mir.ValLaws.{to_z-of_z}
use Rattle.text_decimal.specs.Decimal.{written}
use Rattle.text_decimal.specs.Lines.{end_byte, ended}
use Rattle.text_decimal.proofs.Digits.{short}
use Rattle.text_decimal.proofs.Lines.{front}
use Rattle.base_rows.specs.Put.{put}
use Rattle.text_writing.specs.Put.{Put}
use Rattle.base_rows.proofs.Puts.{put_none, put_then}
use Rattle.text_writing.proofs.Rows.{line_more, line_whole}
use Rattle.text_writing.proofs.line.put_line.Goals.{After-put_value-end}
use Rattle.text_writing.proofs.line.put_line.Goals as goal

-- the value at i, as it was put
value_at : (c : After-put_value-end) → ℤ
value_at c = get_or c.args.values.now c.loop-i.i (pos 0)

said : (c : After-put_value-end) → let l = c in Put l.loop-i.buf l.loop-i.next (written (value_at c)) c.put_value-end.new.buf c.put_value-end.result
unfolding value_at
said c =
    let l = c in
    subst (λ (z : ℤ). Put l.loop-i.buf l.loop-i.next (written z) c.put_value-end.new.buf c.put_value-end.result) (to_z-of_z w32 (value_at c) (record { sfits = c.z-1.given })) c.put_value-end.ensures

pub loop-i-init : goal.loop-i-init
loop-i-init c = (omega arith, omega arith, omega arith, put_none _ _, refl)

pub bounds-buf-end : goal.bounds-buf-end
bounds-buf-end c =
    let p = c.before.before.before in
    let s = (said p).place in
    omega (arith, short (value_at p), p.put_value-end.auto.buf)

pub overflow_add-next : goal.overflow_add-next
overflow_add-next c =
    let p = c.before.before.before in
    let s = (said p).place in
    omega (arith, short (value_at p), p.put_value-end.auto.buf)

pub loop-i-preserved : goal.loop-i-preserved
unfolding value_at
loop-i-preserved c =
    let p = c.before.before.before in
    let l = p in
    let a = l.args in
    let zs = a.values.now in
    let i = l.loop-i.i in
    let t = p.loop-i-test.true in
    let z = value_at p in
    let s = said p in
    let q = s.place in
    let v = short z in
    let w = line_more zs i t in
    let u : List ℕ = front end_byte (length zs - i) (take i zs) in
    let n = ap length w in
    let m = length-append u (ended (written z) (end_byte (length zs - 1 - i))) in
    let k = length-append (written z) (end_byte (length zs - 1 - i) ∷ []) in (
      omega arith,
      omega arith,
      omega arith,
      ap (λ (d : List ℕ). set d p.put_value-end.result c.end_byte.result) (s.bytes ∙ ap (λ (d : List ℕ). put d l.loop-i.next (written z)) l.loop-i.invariant.3)
          ∙ ap (set (put (put a.buf.now a.at u) l.loop-i.next (written z)) p.put_value-end.result) c.end_byte.ensures
          ∙ put_then a.buf.now a.at u (written z) l.loop-i.next p.put_value-end.result (end_byte (length zs - 1 - i)) l.loop-i.invariant.2 q (omega arith)
          ∙ ap (put a.buf.now a.at) (sym w),
      simp length-set (p.put_value-end.auto.buf ∙ l.loop-i.invariant.4),
    )

pub returns : goal.returns
returns c =
    let l = c in
    let a = l.args in
    let e = line_whole a.values.now l.loop-i.i l.loop-i.invariant.0 c.loop-i-test.false in
    record { bytes = l.loop-i.invariant.3 ∙ ap (put a.buf.now a.at) e; place = l.loop-i.invariant.2 ∙ ap (λ (s : List ℕ). a.at + length s) e }
