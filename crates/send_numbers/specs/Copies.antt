-- A sender's copies and a screen as lists of numbers, and back. Definitions only; proofs/CopiesBack.antt and proofs/ScreensBack.antt prove what is claimed.
use Rattle.std.specs.Prelude.{ℕ, ◌+◌, ◌*◌, ◌^◌, ◌<◌, List, [], ◌∷◌, ◌++◌, ◌≡◌, ℤ, length, take, drop}
use Rattle.num_convert.specs.Casts.{IsI32, cast_signed, cast_unsigned}
use Rattle.game_records.specs.Numbers.{input_count, input_numbers, number_at, core_in, input_of_numbers}
use Rattle.game_tuning.specs.Tuning.{tuning_count}
use Rattle.character.specs.Tick.{seats}
use Rattle.send_rule.specs.Send.{copy_at}
use Rattle.send_rule.specs.declared.Copy.{Copy}
use Rattle.send_rule.specs.declared.Screen.{Screen}
use Rattle.world_numbers.specs.Encoding.{record_count, each, flag, record_numbers}
use Rattle.world_numbers.specs.Decoding.{is_set, each_in}

-- ---- how many numbers there are

-- of a copy before its own marks: whether there is one, its record and its input
abbrev pub marks_place : ℕ
marks_place = record_count + input_count

-- of a copy: the same, whether its small world has removed it, whether it was refused, and its steps
abbrev pub copy_count : ℕ
copy_count = marks_place + 3

-- of a sender's copies
abbrev pub sender_count : ℕ
sender_count = copy_count * seats

-- of a screen
abbrev pub screen_count : ℕ
screen_count = tuning_count + sender_count

-- ---- which they are

-- a copy's; its steps are the i32 with the same bits
unfoldable pub copy_numbers : Copy → List ℤ
copy_numbers c = record_numbers (record { present = c.kept; core = c.core }) ++ (input_numbers c.input ++ (flag c.removed ∷ flag c.refused ∷ cast_signed c.steps ∷ []))

-- one copy after the other
unfoldable pub copies_encoding : List Copy → List ℤ
copies_encoding cs = each copy_numbers cs

-- the tunings, then the copies
unfoldable pub screen_encoding : Screen → List ℤ
screen_encoding z = z.tunings ++ copies_encoding z.copies

-- ---- the way back

-- the copy whose numbers l starts with: its record as it is, and each mark set where it is not 0
unfoldable pub copy_in : List ℤ → Copy
copy_in l = record {
  kept = is_set (number_at l 0);
  core = core_in (drop 1 l);
  input = input_of_numbers (drop record_count l);
  removed = is_set (number_at l marks_place);
  refused = is_set (number_at l (marks_place + 1));
  steps = cast_unsigned (number_at l (marks_place + 2));
}

-- n copies
unfoldable pub copies_decoding : ℕ → List ℤ → List Copy
copies_decoding n l = each_in copy_in copy_count n l

-- the tunings, then n copies
unfoldable pub screen_decoding : ℕ → List ℤ → Screen
screen_decoding n l = record { copies = copies_decoding n (drop tuning_count l); tunings = take tuning_count l }

-- ---- both in turn

-- copies whose steps are u32
abbrev pub StepsFit : List Copy → Type 0
StepsFit cs = (k : ℕ) → k < length cs → (copy_at cs k).steps < 2 ^ 32

-- they come back from their numbers
abbrev pub CopiesComeBack : ℕ → Type 0
CopiesComeBack n = (cs : List Copy) → length cs ≡ n → StepsFit cs → copies_decoding n (copies_encoding cs) ≡ cs

-- so does a screen
abbrev pub ScreenComesBack : ℕ → Type 0
ScreenComesBack n = (z : Screen) → length z.copies ≡ n → length z.tunings ≡ tuning_count → StepsFit z.copies → screen_decoding n (screen_encoding z) ≡ z

-- so do the copies that any numbers stand for, whoever wrote them
abbrev pub AnyCopiesComeBack : ℕ → Type 0
AnyCopiesComeBack n = (l : List ℤ) → ((k : ℕ) → IsI32 (number_at l k)) → copies_decoding n (copies_encoding (copies_decoding n l)) ≡ copies_decoding n l

-- and the screen
abbrev pub AnyScreenComesBack : ℕ → Type 0
AnyScreenComesBack n = (l : List ℤ) → length l ≡ tuning_count + copy_count * n → ((k : ℕ) → IsI32 (number_at l k)) → screen_decoding n (screen_encoding (screen_decoding n l)) ≡ screen_decoding n l
