-- What the readers' answers say, and that no two values are written alike. Assumes nothing.
use Prim.Native.Nat.{ℕ, ◌+◌, ◌^◌, ◌≤◌, ◌<◌}
use mathlib.Core.Path.{◌≡◌, refl, sym, ap, ◌∙◌, subst}
use mathlib.Core.List.{List, [], ◌∷◌, ◌++◌, append_assoc}
use native.Mathlib.Omega.{arith}
use lib.IntN.{ℤ}
use lib.ListN.{length, drop, length-append}
use Rattle.num_convert.specs.Casts.{IsI32}
use Rattle.text_decimal.specs.Decimal.{digits, written}
use Rattle.text_decimal.specs.Lines.{ended}
use Rattle.text_decimal.specs.Places.{Stands, Absent}
use Rattle.text_decimal.specs.Reading.{NumberAt, ValueAt}
use Rattle.text_decimal.proofs.Scan.{scan_number, scan_value}
use Rattle.text_decimal.proofs.Exact.{sound_number, complete_number, sound_value, complete_value}
use Rattle.text_decimal.proofs.Places.{stands, follows}
use Rattle.std.proofs.lemmas.Option.{some_pair_parts}
use Rattle.std.specs.declared.option.Option.{Option}
use Rattle.std.specs.declared.option.Option.TheVariants.{None, Some}

-- an ended word, and what follows it
split : (w : List ℕ) (stop : ℕ) (rest : List ℕ) → ended w stop ++ rest ≡ w ++ stop ∷ rest
split w stop rest = append_assoc w (stop ∷ []) rest

-- the same place, counted in two ways
past : (w : List ℕ) (stop at : ℕ) → at + length (ended w stop) ≡ at + length w + 1
past w stop at = omega (arith, length-append w (stop ∷ []))

found : (w : List ℕ) (stop : ℕ) (s : List ℕ) (at next : ℕ) (rest : List ℕ) → drop at s ≡ w ++ stop ∷ rest → next ≡ at + length w + 1 → Stands (ended w stop) s at next
found w stop s at next rest e p = subst (Stands (ended w stop) s at) (past w stop at ∙ sym p) (stands (ended w stop) s rest at (e ∙ sym (split w stop rest)))

-- ---- numbers
number_there : (stop : ℕ) (s : List ℕ) (at n : ℕ) (rest : List ℕ) → stop < 48 → n ≤ 2 ^ 31 → drop at s ≡ ended (digits 10 n) stop ++ rest → scan_number stop at (drop at s) ≡ Some (n, at + length (digits 10 n) + 1)
number_there stop s at n rest low h e = ap (scan_number stop at) (e ∙ split (digits 10 n) stop rest) ∙ complete_number n stop at rest h low

pub number_told : (stop : ℕ) (s : List ℕ) (at : ℕ) (r : Option (ℕ × ℕ)) → stop < 48 → scan_number stop at (drop at s) ≡ r → NumberAt stop s at r
unfolding NumberAt
number_told stop s at (Some (n, next)) low e =
    let t = sound_number stop at (drop at s) n next e in
    let said = ap (scan_number stop at) t.1.1 ∙ complete_number n stop at t.1.0 t.0 low in
    let p : next ≡ at + length (digits 10 n) + 1 = (some_pair_parts n n next _ (sym e ∙ said)).1 in
    (t.0, found (digits 10 n) stop s at next t.1.0 t.1.1 p)
number_told stop s at None low e = λ n h rest f. let said = number_there stop s at n rest low h f in let z : ◌≡◌ {A = ℕ} 0 1 = cc in omega arith

pub number_scanned : (stop : ℕ) (s : List ℕ) (at : ℕ) (r : Option (ℕ × ℕ)) → stop < 48 → NumberAt stop s at r → scan_number stop at (drop at s) ≡ r
unfolding NumberAt
number_scanned stop s at (Some (n, next)) low h =
    let p = h.1.place ∙ past (digits 10 n) stop at in
    number_there stop s at n (drop next s) low h.0 h.1.bytes ∙ ap (λ (k : ℕ). Some (n, k)) (sym p)
number_scanned stop s at None low h = by (scan_number stop at (drop at s)) refl
  where
    by : (x : Option (ℕ × ℕ)) → scan_number stop at (drop at s) ≡ x → x ≡ None
    by None e = refl
    by (Some (n, next)) e =
        let t = sound_number stop at (drop at s) n next e in
        absurd (h n t.0 t.1.0 (t.1.1 ∙ sym (split (digits 10 n) stop t.1.0)))

-- every place has an answer
pub number_some : (stop : ℕ) (s : List ℕ) (at : ℕ) → stop < 48 → (r : Option (ℕ × ℕ)) × NumberAt stop s at r
number_some stop s at low = (scan_number stop at (drop at s), number_told stop s at _ low refl)

pub number_read : (stop : ℕ) (s : List ℕ) (at n next : ℕ) {r : Option (ℕ × ℕ)} → r ≡ Some (n, next) → NumberAt stop s at r → (n ≤ 2 ^ 31) × Stands (ended (digits 10 n) stop) s at next
unfolding NumberAt
number_read stop s at n next e h = subst (NumberAt stop s at) e h

pub number_fault : (stop : ℕ) (s : List ℕ) (at : ℕ) {r : Option (ℕ × ℕ)} → r ≡ None → NumberAt stop s at r → (n : ℕ) → n ≤ 2 ^ 31 → Absent (ended (digits 10 n) stop) s at
unfolding NumberAt
number_fault stop s at e h = subst (NumberAt stop s at) e h

-- ---- values
value_there : (stop : ℕ) (s : List ℕ) (at : ℕ) (z : ℤ) (rest : List ℕ) → stop < 48 → IsI32 z → drop at s ≡ ended (written z) stop ++ rest → scan_value stop at (drop at s) ≡ Some (z, at + length (written z) + 1)
value_there stop s at z rest low h e = ap (scan_value stop at) (e ∙ split (written z) stop rest) ∙ complete_value z stop at rest h low

pub value_told : (stop : ℕ) (s : List ℕ) (at : ℕ) (r : Option (ℤ × ℕ)) → stop < 48 → scan_value stop at (drop at s) ≡ r → ValueAt stop s at r
unfolding ValueAt
value_told stop s at (Some (z, next)) low e =
    let t = sound_value (drop at s) stop at z next e in
    let said = ap (scan_value stop at) t.1.1 ∙ complete_value z stop at t.1.0 t.0 low in
    let p : next ≡ at + length (written z) + 1 = (some_pair_parts z z next _ (sym e ∙ said)).1 in
    (t.0, found (written z) stop s at next t.1.0 t.1.1 p)
value_told stop s at None low e = λ y h rest f. let said = value_there stop s at y rest low h f in let z : ◌≡◌ {A = ℕ} 0 1 = cc in omega arith

pub value_some : (stop : ℕ) (s : List ℕ) (at : ℕ) → stop < 48 → (r : Option (ℤ × ℕ)) × ValueAt stop s at r
value_some stop s at low = (scan_value stop at (drop at s), value_told stop s at _ low refl)

pub value_read : (stop : ℕ) (s : List ℕ) (at : ℕ) (z : ℤ) (next : ℕ) {r : Option (ℤ × ℕ)} → r ≡ Some (z, next) → ValueAt stop s at r → IsI32 z × Stands (ended (written z) stop) s at next
unfolding ValueAt
value_read stop s at z next e h = subst (ValueAt stop s at) e h

pub value_fault : (stop : ℕ) (s : List ℕ) (at : ℕ) {r : Option (ℤ × ℕ)} → r ≡ None → ValueAt stop s at r → (z : ℤ) → IsI32 z → Absent (ended (written z) stop) s at
unfolding ValueAt
value_fault stop s at e h = subst (ValueAt stop s at) e h

-- no two values are written alike
pub value_unique : (stop : ℕ) (y z : ℤ) (p q : List ℕ) → stop < 48 → IsI32 y → IsI32 z → ended (written y) stop ++ p ≡ ended (written z) stop ++ q → y ≡ z
value_unique stop y z p q low f g e =
    let a = value_there stop (ended (written y) stop ++ p) 0 y p low f refl in
    let b = value_there stop (ended (written y) stop ++ p) 0 z q low g e in
    (some_pair_parts y z _ _ (sym a ∙ b)).0

-- where a number stands, any that is there is that one, and the same follows
pub number_only : (stop : ℕ) {s : List ℕ} {at next : ℕ} (m n : ℕ) (rest : List ℕ) → stop < 48 → m ≤ 2 ^ 31 → n ≤ 2 ^ 31 → Stands (ended (digits 10 m) stop) s at next → drop at s ≡ ended (digits 10 n) stop ++ rest → (m ≡ n) × (drop next s ≡ rest)
number_only stop {s} {at} {next} m n rest low f g h e =
    let a = number_there stop s at m (drop next s) low f h.bytes in
    let b = number_there stop s at n rest low g e in
    let k : m ≡ n = (some_pair_parts m n _ _ (sym a ∙ b)).0 in
    (k, follows h rest (e ∙ ap (λ (x : ℕ). ended (digits 10 x) stop ++ rest) (sym k)))
