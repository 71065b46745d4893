use Rattle.std.proofs.Common.{◌≡◌, ℕ, ◌-◌, ◌<◌, ◌≤◌, List, length, get_or, ℤ, pos}
use Rattle.num_convert.specs.Casts.{cast_signed}
use Rattle.test_common.specs.Words.{word_at}
use Rattle.test_common.proofs.numbers.are_numbers.Given as goal

-- the first n numbers are their words, and with the next one the first n + 1
abbrev pub First : List ℕ → List ℤ → ℕ → Type 0
First s zs n = (k : ℕ) → k < n → get_or zs k (pos 0) ≡ cast_signed (word_at s k)

abbrev pub invariant-loop-i : goal.invariant-loop-i
invariant-loop-i l = (l.i ≤ length l.numbers) × (l.i-end ≡ length l.numbers) × First l.words l.numbers l.i

abbrev pub decreases-loop-i : goal.decreases-loop-i
decreases-loop-i l = l.i-end - l.i
