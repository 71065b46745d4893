use Prim.Native.Nat.{ℕ, ◌+◌, ◌-◌, ◌≤◌, ◌<◌}
use mathlib.Core.Path.{◌≡◌, refl, sym, ap, ◌∙◌, subst}
use mathlib.Core.List.{List, [], ◌∷◌, ◌++◌}
use native.Mathlib.Numerals.{add-one}
use native.Mathlib.Omega.{arith}
use lib.IntN.{ℤ}
use lib.ListN.{length, take, set, length-set}
use mir.Syntax.{w32}
use mir.ValLaws.{to_z-of_z}
use lib.Seq.{length-take-le, take_all, take-suc-set}
use Rattle.num_convert.specs.Casts.{IsI32}
use Rattle.text_decimal.specs.Decimal.{written}
use Rattle.text_decimal.specs.Lines.{end_byte, ended}
use Rattle.text_decimal.specs.Places.{Stands, Absent}
use Rattle.text_decimal.proofs.Lines.{front_line, end_low, Begun, begun_none, begun_more, begun-not, begun_whole}
use Rattle.text_decimal.proofs.Told.{value_read, value_fault}
use Rattle.text_reading.specs.Parts.{ValuesAt}
use Rattle.text_reading.proofs.values.read_values.Goals as goal

stop_is : {i k : ℕ} → i < 7 → k ≡ i → end_byte (6 - i) ≡ end_byte (7 - (k + 1))
stop_is {i} {k} h e = ap end_byte (less i k h e)
  where
    less : (i k : ℕ) → i < 7 → k ≡ i → 6 - i ≡ 7 - (k + 1)
    less i k h e = omega arith

-- as many values were read as there were turns
taken : (i : ℕ) (v : List ℤ) → length v ≡ 7 → i < 7 → length (take i v) ≡ i
taken i v e h = length-take-le i v (omega arith)

pub loop-i-init : goal.loop-i-init
loop-i-init c = (omega arith, refl, begun_none end_byte 7 _ _)

pub read_value-requires : goal.read_value-requires
read_value-requires c = rw c.end_byte.ensures (end_low (6 - c.loop-i.i))

pub returns-in_err-z : goal.returns-in_err-z
unfolding ValuesAt
returns-in_err-z c =
    let v = c.loop-i.value-items in
    let turn : c.loop-i.i < 7 = omega arith in
    let s = c.args.text.now in
    let n = taken c.loop-i.i c.loop-i.value-items c.loop-i.invariant.1 turn in
    rw c.from_residual.ensures (λ zs m f rest e. begun-not c.loop-i.invariant.2 (omega arith) end_low IsI32 (λ z i. i) (λ z i. subst (λ (b : ℕ). Absent (ended (written z) b) s c.loop-i.place) (c.end_byte.ensures ∙ stop_is turn n) (value_fault _ s c.loop-i.place refl c.in_err-z.ensures z i)) zs m f rest (e ∙ ap (λ (w : List ℕ). w ++ rest) (sym (front_line zs))))

pub loop-i-preserved : goal.loop-i-preserved
loop-i-preserved c =
    let v = c.loop-i.value-items in
    let turn : c.loop-i.i < 7 = omega arith in
    let i = c.loop-i.i in
    let s = c.args.text.now in
    let z = c.in_ok-z.z in
    let next = c.in_ok-z.next in
    let t = value_read _ s c.loop-i.place z next refl c.in_ok-z.ensures in
    let n = taken c.loop-i.i c.loop-i.value-items c.loop-i.invariant.1 turn in
    let b = begun_more c.loop-i.invariant.2 (omega arith) z next t.0 (subst (λ (x : ℕ). Stands (ended (written z) x) s c.loop-i.place next) (c.end_byte.ensures ∙ stop_is turn n) t.1) in
    let e : take (i + 1) (set v i z) ≡ take i v ++ (z ∷ []) = rw add-one (take-suc-set v i z (omega arith)) in
    subst (λ (x : ℤ). (i + 1 ≤ 7) × (length (set v i x) ≡ 7) × Begun end_byte 7 (take (i + 1) (set v i x)) s c.args.at next) (sym (to_z-of_z w32 z (record { sfits = t.0 }))) (
      omega arith,
      length-set v i z ∙ c.loop-i.invariant.1,
      subst (λ (x : List ℤ). Begun end_byte 7 x s c.args.at next) (sym e) b,
    )

pub returns : goal.returns
unfolding ValuesAt
returns c =
    let l = c in
    let v = l.loop-i.value-items in
    let all : take l.loop-i.i v ≡ v = take_all l.loop-i.i v (omega arith) in
    let b = subst (λ (x : List ℤ). Begun end_byte 7 x l.args.text.now l.args.at l.loop-i.place) all l.loop-i.invariant.2 in
    (l.loop-i.invariant.1, b.fits, subst (λ (w : List ℕ). Stands w l.args.text.now l.args.at l.loop-i.place) (front_line v) (begun_whole b l.loop-i.invariant.1))
