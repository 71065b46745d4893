-- A call line stands at a place or does not: there is an answer for every text. Assumes nothing.
use Prim.Native.Nat.{ℕ, ◌<◌}
use mathlib.Core.Path.{refl, sym, ap, ◌∙◌, subst}
use mathlib.Core.List.{List, ◌++◌}
use Rattle.num_convert.specs.Casts.{IsI32}
use lib.IntN.{ℤ}
use Rattle.text_decimal.specs.Lines.{end_byte}
use Rattle.text_decimal.specs.Places.{Stands}
use Rattle.text_decimal.specs.Reading.{ValueAt}
use Rattle.text_decimal.proofs.Every.{NextValue, here, absent, NextValues, all_here, not_all, values_some}
use Rattle.text_decimal.proofs.Lines.{front_line, end_low}
use Rattle.text_decimal.proofs.Told.{value_some, value_read, value_fault}
use Rattle.text_reading.specs.Calls.{CallAt}
use Rattle.text_reading.specs.Parts.{ValuesAt, DecodedAs}
use Rattle.text_reading.proofs.Calls.{no_values, no_call, a_call}
use Rattle.text_reading.proofs.Codes.{decoded_some}
use Rattle.world.specs.declared.call.Call.{Call}
use Rattle.std.specs.declared.option.Option.{Option}
use Rattle.std.specs.declared.option.Option.TheVariants.{None, Some}

one_value : (s : List ℕ) (stop place : ℕ) → stop < 48 → NextValue IsI32 s stop place
one_value s stop place low = let r = value_some stop s place low in by r.0 r.1
  where
    by : (r : Option (ℤ × ℕ)) → ValueAt stop s place r → NextValue IsI32 s stop place
    by (Some (z, next)) h = let t = value_read stop s place z next refl h in here z next t.0 t.1
    by None h = absent (value_fault stop s place refl h)

pub call_some : (s : List ℕ) (at : ℕ) → (r : Option (Call × ℕ)) × CallAt s at r
unfolding ValuesAt
call_some s at = by (values_some IsI32 (λ z i. i) s end_byte end_low (one_value s) 7 at)
  where
    decide : (zs : List ℤ) (next : ℕ) → ValuesAt s at (Some (zs, next)) → (d : Option Call) → DecodedAs zs d → (x : Option (Call × ℕ)) × CallAt s at x
    decide zs next h (Some c) m = (Some (c, next), a_call s at zs next h c m)
    decide zs next h None m = (None, no_call s at zs next h m)

    by : NextValues IsI32 s end_byte 7 at → (r : Option (Call × ℕ)) × CallAt s at r
    by (all_here zs next l a t) = let d = decoded_some zs l in decide zs next (l, a, subst (λ (w : List ℕ). Stands w s at next) (front_line zs) t) d.0 d.1
    by (not_all f) = (None, no_values s at (λ zs l a rest e. f zs l a rest (e ∙ ap (λ (w : List ℕ). w ++ rest) (sym (front_line zs)))))
