-- Laws of call lines: what reading answers, and that no two calls are written alike. Assumes nothing.
use Prim.Native.Nat.{ℕ, ◌≤◌}
use mathlib.Core.Path.{◌≡◌, refl, sym, ap, ◌∙◌, subst}
use mathlib.Core.Bool.{cond}
use mathlib.Core.List.{List, ◌++◌}
use native.Mathlib.Omega.{arith}
use lib.Dec.{eqb}
use lib.IntN.{ℤ, pos, nat_abs}
use lib.ListN.{length, drop, get_or}
use Rattle.num_convert.specs.Casts.{IsI32}
use Rattle.text_decimal.specs.Lines.{line, All}
use Rattle.text_decimal.specs.Places.{Stands, Absent}
use Rattle.text_decimal.proofs.Lines.{line_unique, line_long}
use Rattle.text_reading.specs.Calls.{values, IsCall, call_bytes, CallAt}
use Rattle.text_reading.specs.Parts.{ValuesAt, DecodedAs}
use Rattle.world.specs.declared.call.Call.{Call}
use Rattle.world.specs.declared.call.Call.TheVariants.{Join, Leave, Input, Step, Tune}
use Rattle.std.specs.declared.option.Option.{Option}
use Rattle.std.specs.declared.option.Option.TheVariants.{None, Some}

seven : (c : Call) → length (values c) ≡ 7
seven (Join id x y) = refl
seven (Leave id) = refl
seven (Input id d x y j h) = refl
seven Step = refl
seven (Tune i v) = refl

-- a call from its values, so calls with the same values are the same
of_values : List ℤ → Call
of_values zs =
    let at : ℕ → ℤ = λ k. get_or zs k (pos 0) in
    let n : ℕ = nat_abs (at 0) in
    cond (eqb n 1) (Join (at 1) (at 2) (at 3)) (cond (eqb n 2) (Leave (at 1)) (cond (eqb n 3) (Input (at 1) (at 2) (at 3) (at 4) (at 5) (at 6)) (cond (eqb n 4) Step (Tune (at 1) (at 2)))))

of_values_back : (c : Call) → of_values (values c) ≡ c
unfolding of_values
of_values_back (Join id x y) = refl
of_values_back (Leave id) = refl
of_values_back (Input id d x y j h) = refl
of_values_back Step = refl
of_values_back (Tune i v) = refl

-- no two calls are written alike
pub call_unique : (b c : Call) (p q : List ℕ) → IsCall b → IsCall c → call_bytes b ++ p ≡ call_bytes c ++ q → b ≡ c
unfolding call_bytes
call_unique b c p q f g e = sym (of_values_back b) ∙ ap of_values (line_unique (values b) (values c) p q (seven b ∙ sym (seven c)) f g e) ∙ of_values_back c

-- a call line has at least 14 bytes
pub call_long : (c : Call) → 14 ≤ length (call_bytes c)
unfolding call_bytes
call_long c = omega (arith, line_long (values c), seven c)

pub call_read : (s : List ℕ) (at : ℕ) (c : Call) (next : ℕ) {r : Option (Call × ℕ)} → r ≡ Some (c, next) → CallAt s at r → IsCall c × Stands (call_bytes c) s at next
unfolding CallAt
call_read s at c next e h = subst (CallAt s at) e h

pub call_fault : (s : List ℕ) (at : ℕ) {r : Option (Call × ℕ)} → r ≡ None → CallAt s at r → (c : Call) → IsCall c → Absent (call_bytes c) s at
unfolding CallAt
call_fault s at e h = subst (CallAt s at) e h

-- ---- what the reader's parts say together
module _ (s : List ℕ) (at : ℕ) where
  pub no_values : ValuesAt s at None → CallAt s at None
  unfolding ValuesAt CallAt call_bytes
  no_values h = λ c i. h (values c) (seven c) i

  module _ (zs : List ℤ) (next : ℕ) (h : ValuesAt s at (Some (zs, next))) where
    pub no_call : DecodedAs zs None → CallAt s at None
    unfolding ValuesAt DecodedAs CallAt call_bytes
    no_call m = λ c i rest f. m c (sym (line_unique zs (values c) (drop next s) rest (h.0 ∙ sym (seven c)) h.1 i (sym h.2.bytes ∙ f)))

    pub a_call : (c : Call) → DecodedAs zs (Some c) → CallAt s at (Some (c, next))
    unfolding ValuesAt DecodedAs CallAt call_bytes
    a_call c v = (subst (All IsI32) (sym v) h.1, subst (λ (l : List ℤ). Stands (line l) s at next) (sym v) h.2)
