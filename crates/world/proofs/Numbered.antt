-- The number of a refusal is never 0, with which an accepted call is answered. Assumes nothing.
use mathlib.Core.Bool.{true, false, true≢false}
use mathlib.Core.Path.{◌≡◌, refl, sym}
use Rattle.std.specs.Prelude.{Result, Ok, Err}
use Rattle.std.specs.Result.{is_err}
use native.Mathlib.Omega.{arith}
use Rattle.game_refusals.specs.Refusals.{number_of, number_of_answer}
use Rattle.game_refusals.specs.declared.Refusal.{Refusal}
use Rattle.game_refusals.specs.declared.Refusal.TheVariants.{BadMap, BadId, BadTuning, OutOfReach, NotClear, BadText, Present, Absent, TooFar, TickTooLarge, BytesEnd, BadBytes, NotAllowed, BadArea, BadTrial, BadHold, BadLength}

pub numbered : (refusal : Refusal) → number_of refusal ≡ 0 → ⊥
numbered BadMap e = omega arith
numbered BadId e = omega arith
numbered BadTuning e = omega arith
numbered OutOfReach e = omega arith
numbered NotClear e = omega arith
numbered BadText e = omega arith
numbered Present e = omega arith
numbered Absent e = omega arith
numbered TooFar e = omega arith
numbered TickTooLarge e = omega arith
numbered BytesEnd e = omega arith
numbered BadBytes e = omega arith
numbered NotAllowed e = omega arith
numbered BadArea e = omega arith
numbered BadTrial e = omega arith
numbered BadHold e = omega arith
numbered BadLength e = omega arith

-- so the number tells whether the call was accepted
pub accepted : {A : Type 0} (answer : Result A Refusal) → is_err answer ≡ false → number_of_answer answer ≡ 0
accepted (Ok a) e = refl
accepted (Err refusal) e = absurd (true≢false e)

pub declined : {A : Type 0} (answer : Result A Refusal) → is_err answer ≡ true → number_of_answer answer ≡ 0 → ⊥
declined (Ok a) e z = true≢false (sym e)
declined (Err refusal) e z = numbered refusal z
