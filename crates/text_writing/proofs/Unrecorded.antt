-- What a call without records writes: a line with its number. Assumes nothing.
use Prim.Native.Nat.{ℕ, zero, suc}
use mathlib.Core.List.{[]}
use mathlib.Core.Path.{◌≡◌, refl}
use lib.IntN.{ℤ}
use mir.Syntax.{w32}
use mir.Val.{to_z}
use Rattle.std.specs.Prelude.{Result, Ok, Err, replicate, get_or}
use Rattle.base_turns.proofs.Kept.{fold-kept}
use Rattle.num_convert.specs.Casts.{cast_signed}
use Rattle.game_refusals.specs.Refusals.{number_of, number_of_answer}
use Rattle.game_refusals.specs.declared.Refusal.{Refusal}
use Rattle.game_refusals.specs.declared.Refusal.TheVariants.{BadMap, BadId, BadTuning, OutOfReach, NotClear, BadText, Present, Absent, TooFar, TickTooLarge, BytesEnd, BadBytes, NotAllowed, BadArea, BadTrial, BadHold, BadLength}
use Rattle.world.specs.Answered.{Answer}
use Rattle.world.specs.Run.{without_records, told_by}
use Rattle.world.specs.Step.{unpublished}
use Rattle.text_writing.specs.Answers.{line_turn, record_lines, told_bytes}
use Rattle.text_writing.specs.Output.{answer_bytes}

-- a refusal has no record
no_record : (n k : ℕ) → get_or (replicate n unpublished) k unpublished ≡ unpublished
no_record zero k = refl
no_record (suc n) zero = refl
no_record (suc n) (suc k) = no_record n k

pub no_lines : (n : ℕ) (call : ℤ) → record_lines n call (replicate n unpublished) ≡ []
unfolding record_lines
no_lines n call = fold-kept (line_turn call (replicate n unpublished)) (λ w. w ≡ []) (λ k w e. rw (no_record n k) e) n 0 [] refl

-- the number of a refusal, as it is written
pub number_as_signed : (r : Refusal) → to_z w32 (number_of r) ≡ cast_signed (number_of r)
unfolding cast_signed
number_as_signed BadMap = refl
number_as_signed BadId = refl
number_as_signed BadTuning = refl
number_as_signed OutOfReach = refl
number_as_signed NotClear = refl
number_as_signed BadText = refl
number_as_signed Present = refl
number_as_signed Absent = refl
number_as_signed TooFar = refl
number_as_signed TickTooLarge = refl
number_as_signed BytesEnd = refl
number_as_signed BadBytes = refl
number_as_signed NotAllowed = refl
number_as_signed BadArea = refl
number_as_signed BadTrial = refl
number_as_signed BadHold = refl
number_as_signed BadLength = refl

-- the number of an answer, as it is written
pub answer_as_signed : {A : Type 0} (r : Result A Refusal) → to_z w32 (number_of_answer r) ≡ cast_signed (number_of_answer r)
unfolding cast_signed
answer_as_signed (Ok a) = refl
answer_as_signed (Err refusal) = number_as_signed refusal

pub unrecorded_told : (n : ℕ) (call : ℤ) (a : Answer) → told_bytes n call (told_by (without_records n a)) ≡ answer_bytes call (cast_signed a.number)
unfolding told_bytes
unrecorded_told n call a = rw (no_lines n call) refl
