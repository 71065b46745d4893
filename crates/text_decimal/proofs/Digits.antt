-- Laws of decimal digits: how many there are, and what one more does. Assumes nothing.
use Prim.Native.Nat.{ℕ, zero, suc, ◌+◌, ◌*◌, ◌/◌, ◌%◌, ◌^◌, ◌≤◌, ◌<◌}
use mathlib.Core.Path.{◌≡◌, sym, ap, ◌∙◌}
use mathlib.Core.Bool.{Bool, true, false, cond}
use mathlib.Core.List.{List, [], ◌∷◌, ◌++◌}
use native.Mathlib.Nat.{pow-suc}
use native.Mathlib.Omega.{arith}
use lib.Dec.{ltb}
use lib.Arith.{digits_div, digits_mod}
use lib.ListN.{length, length-append}
use lib.IntN.{ℤ, pos, negsuc}
use borrow.Author.Tests.{lt-ltb, le-ltb}
use Rattle.text_decimal.specs.Decimal.{digits, written}

-- more room changes nothing
room : (k n : ℕ) → n < 10 ^ suc k → digits (suc (suc k)) n ≡ digits (suc k) n
unfolding digits
room zero n h = simp (lt-ltb n 10 h)
room (suc k) n h = ap (λ l. cond (ltb n 10) ((48 + n) ∷ []) (l ++ ((48 + n % 10) ∷ []))) (room k (n / 10) (omega (arith, pow-suc 10 (suc k))))

-- a number of one digit, and one of more
pub lone : (k n : ℕ) → n < 10 → digits (suc k) n ≡ (48 + n) ∷ []
unfolding digits
lone k n h = simp (lt-ltb n 10 h)

pub last : (k n : ℕ) → 10 ≤ n → digits (suc k) n ≡ digits k (n / 10) ++ ((48 + n % 10) ∷ [])
unfolding digits
last k n h = simp (le-ltb n 10 h)

-- one digit more
pub one_more : (k n d : ℕ) → 0 < n → d < 10 → n < 10 ^ suc k → digits (suc (suc k)) (n * 10 + d) ≡ digits (suc (suc k)) n ++ ((48 + d) ∷ [])
one_more k n d a b h = last (suc k) (n * 10 + d) (omega arith) ∙ simp (digits_div n b, digits_mod n b, room k n h)

-- no more digits than there is room for, and at least one
pub few : (k n : ℕ) → length (digits k n) ≤ k
unfolding digits
few zero n = omega arith
few (suc k) n = by (ltb n 10) (few k (n / 10))
  where
    by : (t : Bool) → length (digits k (n / 10)) ≤ k → length (cond t ((48 + n) ∷ []) (digits k (n / 10) ++ ((48 + n % 10) ∷ []))) ≤ suc k
    by true h = omega arith
    by false h = rw length-append (omega arith)

pub some : (k n : ℕ) → 1 ≤ length (digits (suc k) n)
unfolding digits
some k n = by (ltb n 10)
  where
    by : (t : Bool) → 1 ≤ length (cond t ((48 + n) ∷ []) (digits k (n / 10) ++ ((48 + n % 10) ∷ [])))
    by true = omega arith
    by false = rw length-append (omega arith)

-- a value has 1 to 11 bytes
pub short : (z : ℤ) → length (written z) ≤ 11
short (pos n) = omega (arith, few 10 n)
short (negsuc n) = omega (arith, few 10 (suc n))

pub long : (z : ℤ) → 1 ≤ length (written z)
long (pos n) = some 9 n
long (negsuc n) = omega arith

-- in the room of ten digits
pub ten_last : (n : ℕ) → 10 ≤ n → n < 10000000000 → digits 10 n ≡ digits 10 (n / 10) ++ ((48 + n % 10) ∷ [])
ten_last n a h = last 9 n a ∙ ap (λ (l : List ℕ). l ++ ((48 + n % 10) ∷ [])) (sym (room 8 (n / 10) (omega arith)))

pub ten_length : (n : ℕ) → 10 ≤ n → n < 10000000000 → length (digits 10 n) ≡ length (digits 10 (n / 10)) + 1
ten_length n a h = ap length (ten_last n a h) ∙ length-append (digits 10 (n / 10)) ((48 + n % 10) ∷ [])
