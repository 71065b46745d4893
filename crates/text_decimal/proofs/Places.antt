-- Laws of bytes at a place. Assumes nothing.
use Prim.Native.Nat.{ℕ, ◌+◌, ◌≤◌, ◌<◌}
use mathlib.Core.Path.{◌≡◌, refl, sym, ap, ◌∙◌}
use mathlib.Core.List.{List, [], ◌∷◌, ◌++◌, append_assoc, append_cancel_left}
use native.Mathlib.Numerals.{add-one}
use native.Mathlib.Omega.{arith}
use lib.ListN.{length, drop, get_or, length-append, length-drop}
use lib.Seq.{drop_at, drop-cons, drop-drop}
use Rattle.text_decimal.specs.Places.{Stands}

-- the bytes from i on: the byte at i, and then those from i + 1 on
pub from : (s : List ℕ) (i : ℕ) → i < length s → drop i s ≡ get_or s i 0 ∷ drop (i + 1) s
from s i h = rw (add-one, drop-cons s i 0)

pub stands : (w s rest : List ℕ) (at : ℕ) → drop at s ≡ w ++ rest → Stands w s at (at + length w)
stands w s rest at e =
    let k : drop (at + length w) s ≡ rest = sym (drop-drop (length w) at s) ∙ ap (drop (length w)) e ∙ drop_at w rest (length w) refl in
    record { bytes = e ∙ ap (λ (l : List ℕ). w ++ l) (sym k); place = refl }

-- what follows
pub follows : {w s : List ℕ} {at next : ℕ} → Stands w s at next → (rest : List ℕ) → drop at s ≡ w ++ rest → drop next s ≡ rest
follows {w} {s} {at} {next} h rest e = append_cancel_left w (drop next s) rest (sym h.bytes ∙ e)

-- no bytes, and some after others
pub none : (s : List ℕ) (at : ℕ) → Stands [] s at at
none s at = record { bytes = refl; place = omega arith }

pub chain : {u v s : List ℕ} {a b c : ℕ} → Stands u s a b → Stands v s b c → Stands (u ++ v) s a c
chain {u} {v} {s} {a} {b} {c} f g =
    let p = f.place in
    let q = g.place in
    record { bytes = f.bytes ∙ ap (λ (l : List ℕ). u ++ l) g.bytes ∙ sym (append_assoc u v (drop c s)); place = omega (arith, length-append u v) }

-- bytes that are there end within the text
pub within : {w s : List ℕ} {at next : ℕ} → Stands w s at next → 1 ≤ length w → (at < next) × (next ≤ length s)
within {w} {s} {at} {next} h some =
    let p = h.place in
    let l = ap length h.bytes in
    (omega arith, omega (arith, length-drop at s, length-append w (drop next s), length-drop next s))
