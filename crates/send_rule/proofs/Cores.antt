-- Two records are the same where their fifteen numbers are. Assumes nothing.
use mathlib.Core.Bool.{true, true≢false}
use mathlib.Core.List.{List, [], ◌∷◌, ◌++◌}
use mathlib.Core.Path.{◌≡◌, refl, sym, ap, ◌∙◌}
use lib.IntN.{ℤ}
use Rattle.game_records.specs.Numbers.{same_number, core_numbers, core_in}
use Rattle.game_records.specs.declared.CharacterCore.{CharacterCore}
use Rattle.game_records.proofs.Back.{core_back}
use Rattle.game_records.proofs.Same.{number_same, number_self}
use Rattle.send_rule.specs.Send.{same_numbers, same_core}
use Rattle.base_turns.proofs.Tests.{both}

pub numbers_same : (xs ys : List ℤ) → same_numbers xs ys ≡ true → xs ≡ ys
numbers_same [] [] e = refl
numbers_same (x ∷ xs) (y ∷ ys) e = let t = both (same_number x y) (same_numbers xs ys) e in let p = number_same x y t.0 in let q = numbers_same xs ys t.1 in cc
numbers_same [] (y ∷ ys) e = absurd (true≢false (sym e))
numbers_same (x ∷ xs) [] e = absurd (true≢false (sym e))

pub numbers_self : (xs : List ℤ) → same_numbers xs xs ≡ true
numbers_self [] = refl
numbers_self (x ∷ xs) = rw number_self (numbers_self xs)

pub core_same : (a b : CharacterCore) → same_core a b ≡ true → a ≡ b
unfolding same_core
core_same a b e = sym (core_back a []) ∙ ap (λ (xs : List ℤ). core_in (xs ++ [])) (numbers_same (core_numbers a) (core_numbers b) e) ∙ core_back b []

pub core_self : (a b : CharacterCore) → a ≡ b → same_core a b ≡ true
unfolding same_core
core_self a b e = ap (λ (c : CharacterCore). same_numbers (core_numbers a) (core_numbers c)) (sym e) ∙ numbers_self (core_numbers a)
