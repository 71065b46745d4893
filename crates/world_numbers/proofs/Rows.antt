-- Rows of numbers that are written one after the other. Assumes nothing.
use Prim.Native.Nat.{ℕ, ◌+◌, ◌*◌, ◌≤◌, ◌<◌}
use mathlib.Core.Path.{◌≡◌, refl, sym, ap, ap₂, ◌∙◌}
use mathlib.Core.List.{List, [], ◌∷◌, ◌++◌, append_assoc, append-nil}
use mathlib.Core.Bool.{Bool, true, false, cond}
use native.Mathlib.Nat.{mul-zero, mul-suc, add_comm}
use native.Mathlib.Numerals.{add-one}
use lib.IntN.{ℤ, pos}
use lib.ListN.{length, take, get_or, replicate, length-append}
use lib.Seq.{take-suc}
use Rattle.base_rows.specs.Put.{put}
use Rattle.base_rows.proofs.Puts.{take_put}
use Rattle.game_records.specs.Numbers.{core_numbers, input_numbers}
use Rattle.character.specs.declared.Slot.{Slot}
use Rattle.world.specs.declared.Published.{Published}
use Rattle.world.specs.declared.World.{World}
use Rattle.world_numbers.specs.Encoding.{record_count, seat_count, each, record_numbers, present_numbers, seat_numbers, encoding}

pub each_last : {A : Type 0} (f : A → List ℤ) (xs : List A) (y : A) → each f (xs ++ (y ∷ [])) ≡ each f xs ++ f y
unfolding each
each_last f [] y = append-nil (f y)
each_last f (x ∷ xs) y = ap (λ (r : List ℤ). f x ++ r) (each_last f xs y) ∙ sym (append_assoc (f x) (each f xs) (f y))

-- d starts with p and the rows of the first i; the next row r is written at the end of these
pub next_row : {A : Type 0} (f : A → List ℤ) (k : ℕ) → ((x : A) → length (f x) ≡ k) → (p : List ℤ) (xs : List A) (x : A) (i at next : ℕ) (d e r : List ℤ) → i < length xs → at ≤ length d → take at d ≡ p ++ each f (take i xs) → r ≡ f (get_or xs i x) → e ≡ put d at r → next ≡ at + k → take next e ≡ p ++ each f (take (i + 1) xs)
next_row f k long p xs x i at next d e r h g q u t n =
    let m : next ≡ at + length r = n ∙ ap (λ (j : ℕ). at + j) (sym (ap length u ∙ long (get_or xs i x))) in
    ap (take next) t
    ∙ take_put d at r next m g
    ∙ ap₂ (λ (a b : List ℤ). a ++ b) q u
    ∙ append_assoc p (each f (take i xs)) (f (get_or xs i x))
    ∙ ap (λ (l : List ℤ). p ++ l) (sym (each_last f (take i xs) (get_or xs i x)) ∙ ap (each f) (sym (take-suc xs i x h) ∙ ap (λ (j : ℕ). take j xs) (sym (add-one i))))

-- how many numbers a record and a seat have
pub record_long : (p : Published) → length (record_numbers p) ≡ record_count
unfolding record_numbers core_numbers
record_long p = refl

pub present_long : (s : Slot) → length (present_numbers s) ≡ seat_count
unfolding present_numbers record_numbers core_numbers input_numbers
present_long s = refl

pub seat_long : (s : Slot) → length (seat_numbers s) ≡ seat_count
unfolding seat_numbers
seat_long s = go s.present
  where
    go : (b : Bool) → length (cond b (present_numbers s) (replicate seat_count (pos 0))) ≡ seat_count
    go true = present_long s
    go false = refl

-- ---- how long the numbers of a world are
pub each_long : {A : Type 0} (f : A → List ℤ) (k : ℕ) → ((x : A) → length (f x) ≡ k) → (xs : List A) → length (each f xs) ≡ k * length xs
unfolding each
each_long f k h [] = sym (mul-zero k)
each_long f k h (x ∷ xs) = length-append (f x) (each f xs) ∙ ap₂ ◌+◌ (h x) (each_long f k h xs) ∙ add_comm k (k * length xs) ∙ sym (mul-suc k (length xs))

pub encoding_long : (w : World) → length (encoding w) ≡ length w.tunings + seat_count * length w.slots
unfolding encoding
encoding_long w = length-append w.tunings (each seat_numbers w.slots) ∙ ap (λ (n : ℕ). length w.tunings + n) (each_long seat_numbers seat_count seat_long w.slots)
