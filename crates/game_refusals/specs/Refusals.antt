-- The numbers with which a call is declined. Definitions only.
use Rattle.std.specs.Prelude.{ℕ, Result, Ok, Err}
use Rattle.game_refusals.specs.declared.Refusal.{Refusal}
use Rattle.game_refusals.specs.declared.Refusal.TheVariants.{BadMap, BadId, BadTuning, OutOfReach, NotClear, BadText, Present, Absent, TooFar, TickTooLarge, BytesEnd, BadBytes, NotAllowed, BadArea, BadTrial, BadHold, BadLength}

-- a map's sides are not 1 to 1,024 each, or its bytes are not width times height
abbrev pub bad_map : ℕ
bad_map = 1

-- no seat has this id
abbrev pub bad_id : ℕ
bad_id = 2

-- no tuning has this index
abbrev pub bad_tuning : ℕ
bad_tuning = 3

-- a join with x or y outside -100,000 to 100,000
abbrev pub out_of_reach : ℕ
out_of_reach = 4

-- a join whose box is not clear
abbrev pub not_clear : ℕ
not_clear = 5

-- a text at fault
abbrev pub bad_text : ℕ
bad_text = 6

-- a join of an id that is present
abbrev pub already_present : ℕ
already_present = 7

-- an id that is absent
abbrev pub not_present : ℕ
not_present = 8

-- a walk of more turns than there may be
abbrev pub too_far : ℕ
too_far = 9

-- a hook that has held somebody for more ticks than a record holds
abbrev pub tick_too_large : ℕ
tick_too_large = 10

-- packed bytes that end before the last number is complete
abbrev pub bytes_end : ℕ
bytes_end = 11

-- a packed number that is not in its shortest form, or has a bit too many
abbrev pub bad_bytes : ℕ
bad_bytes = 12

-- a call or a read that its role doesn't allow
abbrev pub not_allowed : ℕ
not_allowed = 13

-- a rectangle that has no tiles, a rectangle or a tile that reaches outside the map, or totals that are not one entry for each tile
abbrev pub bad_area : ℕ
bad_area = 14

-- a trial with no tunings or more than eight, or with a number of steps outside 0 to 3,000
abbrev pub bad_trial : ℕ
bad_trial = 15

-- a hook's hold outside 1 to 60 steps
abbrev pub bad_hold : ℕ
bad_hold = 16

-- a lent buffer of numbers that has another length than it must
abbrev pub bad_length : ℕ
bad_length = 17

-- the number of each refusal
abbrev pub number_of : Refusal → ℕ
number_of BadMap = bad_map
number_of BadId = bad_id
number_of BadTuning = bad_tuning
number_of OutOfReach = out_of_reach
number_of NotClear = not_clear
number_of BadText = bad_text
number_of Present = already_present
number_of Absent = not_present
number_of TooFar = too_far
number_of TickTooLarge = tick_too_large
number_of BytesEnd = bytes_end
number_of BadBytes = bad_bytes
number_of NotAllowed = not_allowed
number_of BadArea = bad_area
number_of BadTrial = bad_trial
number_of BadHold = bad_hold
number_of BadLength = bad_length

-- the number that a call is answered with: 0 where it is accepted
abbrev pub number_of_answer : {A : Type 0} → Result A Refusal → ℕ
number_of_answer (Ok a) = 0
number_of_answer (Err refusal) = number_of refusal
