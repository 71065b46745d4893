-- An array that fills from the front. Assumes nothing.
use Prim.Native.Nat.{ℕ, suc, ◌-◌, ◌<◌}
use native.Mathlib.Omega.{arith}
use mathlib.Core.List.{List, [], ◌∷◌, ◌++◌, map}
use mathlib.Core.Path.{◌≡◌, refl, sym, ap, ◌∙◌}
use lib.ListN.{length, set, replicate, length-append, length-map}
use lib.Seq.{set_at, append_snoc, take_at}
use Rattle.send_rule.specs.Send.{item, filled, first_among}
use Rattle.send_rule.specs.declared.Item.{Item}
use Rattle.send_rule.specs.declared.Passed.{Passed}
use Rattle.send_rule.specs.declared.Passed.TheVariants as passed

pub longer : (ps : List Passed) (p : Passed) → length (ps ++ (p ∷ [])) ≡ suc (length ps)
longer ps p = length-append ps (p ∷ []) ∙ omega arith

map_last : (ps : List Passed) (p : Passed) → map item (ps ++ (p ∷ [])) ≡ map item ps ++ (item p ∷ [])
map_last [] p = refl
map_last (q ∷ ps) p = ap (λ (m : List Item). item q ∷ m) (map_last ps p)

-- behind the last
pub filled-set : (n : ℕ) (ps : List Passed) (p : Passed) → length ps < n → set (filled n ps) (length ps) (item p) ≡ filled n (ps ++ (p ∷ []))
unfolding filled
filled-set n ps p l =
    let marks : ℕ → List Item = λ m. replicate m (item passed.Mark) in
    let e : n - length ps ≡ suc (n - suc (length ps)) = omega arith in
    ap (λ (m : ℕ). set (map item ps ++ marks m) (length ps) (item p)) e
    ∙ set_at (map item ps) (item passed.Mark) (marks (n - suc (length ps))) (item p) (length ps) (length-map ps item)
    ∙ sym (append_snoc (map item ps) (item p) (marks (n - suc (length ps))))
    ∙ ap (λ (m : List Item). m ++ marks (n - suc (length ps))) (sym (map_last ps p))
    ∙ ap (λ (m : ℕ). map item (ps ++ (p ∷ [])) ++ marks (n - m)) (sym (longer ps p))

-- and read again
items_read : (ps : List Passed) → map (λ (i : Item). i.passed) (map item ps) ≡ ps
items_read [] = refl
items_read (p ∷ ps) = ap (λ (qs : List Passed). p ∷ qs) (items_read ps)

pub filled_read : (n : ℕ) (ps : List Passed) → first_among (length ps) (filled n ps) ≡ ps
unfolding filled
filled_read n ps = ap (map (λ (i : Item). i.passed)) (take_at (map item ps) (replicate (n - length ps) (item passed.Mark)) (length ps) (length-map ps item)) ∙ items_read ps
