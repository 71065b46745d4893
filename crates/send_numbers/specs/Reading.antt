-- The first thing that numbers begin with, out of what is passed along. Definitions only; proofs/PassedBack.antt proves what is claimed.
use Rattle.std.specs.Prelude.{ℕ, ◌+◌, ◌*◌, ◌^◌, ◌≤◌, ◌<◌, Bool, cond, List, ◌++◌, ◌≡◌, eqb, ltb, ℤ, pos, length, drop, Result, Ok, Err}
use Rattle.game_refusals.specs.declared.Refusal.{Refusal}
use Rattle.game_refusals.specs.declared.Refusal.TheVariants.{BadId, BadTuning, BadLength}
use Rattle.game_records.specs.Numbers.{same_number, core_count, number_at, core_in, input_of_numbers}
use Rattle.game_tuning.specs.Tuning.{tuning_count}
use Rattle.world.specs.Calls.{place_of}
use Rattle.send_rule.specs.declared.Passed.{Passed}
use Rattle.send_rule.specs.declared.Passed.TheVariants as passed
use Rattle.send_numbers.specs.Passing.{message_count, passed_numbers, all_numbers}

-- a refusal, or the thing and how many numbers it has
abbrev pub PassedRead : Type 0
PassedRead = Result (Passed × ℕ) Refusal

-- the place out of n that a thing of m numbers names: 17 where there are fewer numbers, then the refusal `none` where it names no such place
abbrev pub named : ℕ → ℕ → Refusal → List ℤ → Result ℕ Refusal
named m n none l = let k = place_of n (number_at l 1) in cond (ltb (length l) m) (Err BadLength) (cond (ltb k n) (Ok k) (Err none))

-- a thing of m numbers that names one of n places: 17 where there are fewer numbers, then the refusal `none` where it names no such place
abbrev pub read_place : ℕ → ℕ → Refusal → (ℕ → Passed) → List ℤ → PassedRead
read_place m n none thing l = let k = place_of n (number_at l 1) in cond (ltb (length l) m) (Err BadLength) (cond (ltb k n) (Ok (thing k, m)) (Err none))

-- the message of the seat k whose numbers l starts with
abbrev pub message_in : List ℤ → ℕ → Passed
message_in l k = passed.Message k (core_in (drop 2 l)) (input_of_numbers (drop (2 + core_count) l))

-- a message of one of n seats
unfoldable pub read_message : ℕ → List ℤ → PassedRead
read_message n l = read_place message_count n BadId (message_in l) l

-- a removal
unfoldable pub read_removal : ℕ → List ℤ → PassedRead
read_removal n l = read_place 2 n BadId passed.Removal l

-- a leave
unfoldable pub read_leave : ℕ → List ℤ → PassedRead
read_leave n l = read_place 2 n BadId passed.Leave l

-- the tuning k with the value that l has
abbrev pub tune_read : List ℤ → ℕ → Passed
tune_read l k = passed.Tune k (number_at l 2)

-- a tuning
unfoldable pub read_tune : List ℤ → PassedRead
read_tune l = read_place 3 tuning_count BadTuning (tune_read l) l

-- whether l begins with the kind k
abbrev pub is_kind : ℕ → List ℤ → Bool
is_kind k l = same_number (number_at l 0) (pos k)

-- a thing by its kind; 17 where that is none
abbrev pub read_kind : ℕ → List ℤ → PassedRead
read_kind n l =
    cond (is_kind 0 l) (Ok (passed.Mark, 1))
    (cond (is_kind 1 l) (read_message n l) (cond (is_kind 2 l) (read_removal n l) (cond (is_kind 3 l) (read_leave n l) (cond (is_kind 4 l) (read_tune l) (Err BadLength)))))

-- the first thing that l begins with, for n seats: 17 where it begins with no whole one
unfoldable pub read_passed : ℕ → List ℤ → PassedRead
read_passed n l = cond (eqb (length l) 0) (Err BadLength) (read_kind n l)

-- ---- both in turn

-- the id of p is that of one of n seats, or its index that of a tuning
abbrev pub Known : ℕ → Passed → Type 0
Known n passed.Mark = Unit {0}
Known n (passed.Message k core i) = k < n
Known n (passed.Removal k) = k < n
Known n (passed.Leave k) = k < n
Known n (passed.Tune k v) = k < tuning_count

-- it comes back from its numbers, whatever stands behind them
abbrev pub PassedComesBack : ℕ → Type 0
PassedComesBack n = n ≤ 2 ^ 31 → (p : Passed) (rest : List ℤ) → Known n p → read_passed n (passed_numbers p ++ rest) ≡ Ok (p, length (passed_numbers p))

-- the numbers of some things find room
abbrev pub PassedFits : Type 0
PassedFits = (ps : List Passed) → length (all_numbers ps) ≤ message_count * length ps
