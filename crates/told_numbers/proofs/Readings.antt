-- What a reader tells comes back as what the world says. Assumes nothing.
use Prim.Native.Nat.{ℕ, zero, suc, ◌<◌}
use mathlib.Core.List.{List, [], append-nil}
use mathlib.Core.Path.{◌≡◌, refl, sym, ap, ◌∙◌}
use native.Mathlib.Omega.{arith}
use lib.Dec.{ltb}
use lib.IntN.{ℤ}
use Rattle.game_records.specs.Numbers.{input_numbers, input_of_numbers}
use Rattle.game_records.proofs.Back.{input_back}
use Rattle.game_tuning.specs.Tuning.{tuning_count}
use Rattle.character.specs.Records.{to_net}
use Rattle.character.specs.Tick.{seats}
use Rattle.character.specs.declared.Slot.{Slot}
use Rattle.world.specs.Calls.{place_of}
use Rattle.world.specs.Readers.{seated, of_seated, of_record, record_now, mark_now, input_now, tuning_now, read_of}
use Rattle.world.specs.declared.World.{World}
use Rattle.world.specs.declared.reading.Query.{Query}
use Rattle.world.specs.declared.reading.Query.TheVariants as query
use Rattle.world.specs.ReadAnswer.{ReadAnswer}
use Rattle.world.specs.ReadAnswer as reading
use Rattle.world.proofs.Seats.{by_test}
use Rattle.world_numbers.specs.Decoding.{decoding}
use Rattle.world_numbers.proofs.Encoded.{flag-back}
use Rattle.world_buffers.specs.Readers.{ReadTold, reading_told}
use Rattle.world_buffers.proofs.Readings.{right_lengths}
use Rattle.told_numbers.specs.Readings.{reading_in, ReadingsTold}
use Rattle.told_numbers.proofs.Records.{core_alone}
use Rattle.told_numbers.proofs.Seated.{Numbered, seated_numbered}
use Rattle.std.specs.Prelude.{Result, Ok, Err}
use Rattle.game_records.specs.declared.CharacterCore.{CharacterCore}
use Rattle.game_refusals.specs.Refusals.{number_of}
use Rattle.game_refusals.specs.declared.Refusal.{Refusal}
use Rattle.game_refusals.specs.declared.Refusal.TheVariants.{TickTooLarge}

module _ (out : List ℤ) where
  -- an answer to q comes back
  abbrev Back : Query → ReadAnswer → Type 0
  Back q r = let t = reading_told out r in reading_in t.number q t.numbers ≡ r

  refused-back : (q : Query) (k : ℕ) → 0 < k → Back q (reading.Refused k)
  refused-back q zero h = absurd (omega arith)
  refused-back q (suc k) h = refl

  seated-back : (q : Query) (f : Slot → ReadAnswer) → ((x : Slot) → Back q (f x)) → (z : Result Slot Refusal) → Numbered z → Back q (of_seated f z)
  seated-back q f own (Err e) h = refused-back q (number_of e) h
  seated-back q f own (Ok x) h = own x

  record_back : (id : ℤ) (n : Result CharacterCore Refusal) → Back (query.Record id) (of_record n)
  record_back id (Err e) = refl
  record_back id (Ok c) = ap reading.Record (core_alone c)

  read_back : (w : World) (q : Query) → Back q (read_of seats w q)
  unfolding tuning_now
  read_back w (query.Record id) = seated-back (query.Record id) record_now (λ x. record_back id (to_net x.character)) (seated seats w id) (seated_numbered seats w id)
  read_back w (query.FloorMark id) = seated-back (query.FloorMark id) mark_now (λ x. ap reading.FloorMark (flag-back x.grounded)) (seated seats w id) (seated_numbered seats w id)
  read_back w (query.PlayerInput id) = seated-back (query.PlayerInput id) input_now (λ x. ap reading.PlayerInput (ap input_of_numbers (sym (append-nil (input_numbers x.input))) ∙ input_back x.input [])) (seated seats w id) (seated_numbered seats w id)
  read_back w (query.Tuning index) = by_test (Back (query.Tuning index)) (ltb (place_of tuning_count index) tuning_count) (λ e. refl) (λ e. refl)

pub readings_told_lem : ReadingsTold
readings_told_lem q l out h g = ap (λ (t : ReadTold). reading_in t.number q t.numbers) (right_lengths q l out h g) ∙ read_back out (decoding seats l) q
