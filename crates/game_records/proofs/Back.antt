-- A record and an input come back from their numbers, whatever stands after these, and the numbers from the record. Assumes nothing.
use Prim.Native.Nat.{ℕ, zero, suc, ◌+◌}
use mathlib.Core.Path.{◌≡◌, refl, sym, ap, ◌∙◌}
use mathlib.Core.List.{List, [], ◌∷◌, ◌++◌}
use native.Mathlib.Omega.{arith}
use lib.IntN.{ℤ, pos}
use lib.ListN.{length, drop}
use lib.Seq.{drop-cons, drop-length}
use Rattle.game_records.specs.Numbers.{core_count, input_count, core_numbers, input_numbers, number_at, core_in, input_of_numbers}
use Rattle.game_records.specs.declared.CharacterCore.{CharacterCore}
use Rattle.game_records.specs.declared.PlayerInput.{PlayerInput}

-- how many there are
pub core_long : (n : CharacterCore) → length (core_numbers n) ≡ core_count
unfolding core_numbers
core_long n = refl

pub input_long : (i : PlayerInput) → length (input_numbers i) ≡ input_count
unfolding input_numbers
input_long i = refl

pub core_back : (n : CharacterCore) (l : List ℤ) → core_in (core_numbers n ++ l) ≡ n
unfolding core_numbers core_in
core_back n l = refl

pub input_back : (i : PlayerInput) (l : List ℤ) → input_of_numbers (input_numbers i ++ l) ≡ i
unfolding input_numbers input_of_numbers
input_back i l = refl

-- n numbers from the k-th on, each by its place
listed : List ℤ → ℕ → ℕ → List ℤ
listed l k zero = []
listed l k (suc n) = number_at l k ∷ listed l (suc k) n

all_listed : (n k : ℕ) (l : List ℤ) → length l ≡ k + n → listed l k n ≡ drop k l
unfolding listed
all_listed zero k l h = let e : k ≡ length l = omega arith in rw e (sym (drop-length l))
all_listed (suc n) k l h = ap (λ (r : List ℤ). number_at l k ∷ r) (all_listed n (suc k) l (omega arith)) ∙ sym (drop-cons l k (pos 0) (omega arith))

pub core_numbers_back : (l : List ℤ) → length l ≡ core_count → core_numbers (core_in l) ≡ l
unfolding core_numbers core_in listed
core_numbers_back l h = all_listed core_count 0 l h

pub input-numbers-back : (l : List ℤ) → length l ≡ input_count → input_numbers (input_of_numbers l) ≡ l
unfolding input_numbers input_of_numbers listed
input-numbers-back l h = all_listed input_count 0 l h
