-- What is passed along comes back from its numbers, and finds room. Assumes nothing.
use Prim.Native.Nat.{ℕ, ◌+◌, ◌*◌, ◌^◌, ◌≤◌, ◌<◌}
use mathlib.Core.List.{List, [], ◌∷◌, ◌++◌, map, map-append}
use mathlib.Core.Path.{◌≡◌, refl, sym, ap, ◌∙◌}
use native.Mathlib.Numerals.{add-one}
use native.Mathlib.Omega.{arith}
use lib.IntN.{ℤ, pos}
use lib.ListN.{length, take, get_or, length-append}
use lib.Seq.{take-suc}
use borrow.Author.Tests.{lt-ltb, ne_eqb}
use Rattle.base_rows.specs.Put.{put}
use Rattle.base_rows.proofs.Puts.{put_none, put-put}
use Rattle.num_convert.specs.Casts.{cast_signed}
use Rattle.game_refusals.specs.declared.Refusal.TheVariants.{BadId, BadTuning}
use Rattle.game_records.specs.Numbers.{core_numbers, input_numbers, core_in, input_of_numbers}
use Rattle.game_tuning.specs.Tuning.{tuning_count}
use Rattle.world.specs.Calls.{place_of}
use Rattle.send_rule.specs.declared.Item.{Item}
use Rattle.send_rule.specs.declared.Passed.{Passed}
use Rattle.send_rule.specs.declared.Passed.TheVariants as passed
use Rattle.world_numbers.specs.Encoding.{each}
use Rattle.world_numbers.proofs.Rows.{each_last}
use Rattle.send_numbers.specs.Passing.{message_count, message_numbers, passed_numbers, all_numbers}
use Rattle.send_rule.specs.Send.{first_among}
use Rattle.send_numbers.specs.Reading.{message_in, read_message, read_removal, read_leave, tune_read, read_tune, read_kind, read_passed, PassedComesBack, PassedFits}
use Rattle.send_numbers.proofs.Readings.{place_read}

-- an id or an index is read as the place that it names
place_back : (n k : ℕ) → n ≤ 2 ^ 31 → k < n → place_of n (cast_signed k) ≡ k
unfolding place_of cast_signed
place_back n k b h = rw (lt-ltb k (2 ^ 31) (omega arith)) (rw (lt-ltb k n h) refl)

-- there is a number
some_read : (n : ℕ) (z : ℤ) (l : List ℤ) → read_passed n (z ∷ l) ≡ read_kind n (z ∷ l)
unfolding read_passed
some_read n z l = rw (ne_eqb (length (z ∷ l)) 0 (λ e. omega arith))

pub passed_comes_back : (n : ℕ) → PassedComesBack n
unfolding passed_numbers message_numbers read_message read_removal read_leave read_tune core_numbers input_numbers core_in input_of_numbers
passed_comes_back n b passed.Mark rest h = some_read n (pos 0) rest
passed_comes_back n b (passed.Message k core i) rest h = let l : List ℤ = message_numbers k core i ++ rest in let e : message_count ≤ length l = omega (arith, length-append (message_numbers k core i) rest) in some_read n (pos 1) _ ∙ place_read message_count n BadId (message_in l) l k e (sym (place_back n k b h)) h
passed_comes_back n b (passed.Removal k) rest h = let l : List ℤ = pos 2 ∷ cast_signed k ∷ rest in let e : 2 ≤ length l = omega arith in some_read n (pos 2) _ ∙ place_read 2 n BadId passed.Removal l k e (sym (place_back n k b h)) h
passed_comes_back n b (passed.Leave k) rest h = let l : List ℤ = pos 3 ∷ cast_signed k ∷ rest in let e : 2 ≤ length l = omega arith in some_read n (pos 3) _ ∙ place_read 2 n BadId passed.Leave l k e (sym (place_back n k b h)) h
passed_comes_back n b (passed.Tune k v) rest h = let l : List ℤ = pos 4 ∷ cast_signed k ∷ v ∷ rest in let e : 3 ≤ length l = omega arith in some_read n (pos 4) _ ∙ place_read 3 tuning_count BadTuning (tune_read l) l k e (sym (place_back tuning_count k (omega arith) h)) h

-- ---- how many there are
pub thing_long : (p : Passed) → (0 < length (passed_numbers p)) × (length (passed_numbers p) ≤ message_count)
unfolding passed_numbers message_numbers core_numbers input_numbers
thing_long passed.Mark = (omega arith, omega arith)
thing_long (passed.Message k core i) = (omega arith, omega arith)
thing_long (passed.Removal k) = (omega arith, omega arith)
thing_long (passed.Leave k) = (omega arith, omega arith)
thing_long (passed.Tune k v) = (omega arith, omega arith)

pub passed_fits : PassedFits
unfolding each
passed_fits [] = omega arith
passed_fits (p ∷ ps) = let a = (thing_long p).1 in let b = passed_fits ps in let e = length-append (passed_numbers p) (all_numbers ps) in omega arith

-- ---- the things of an array, written one after the other
next-all : (is : List Item) (k : ℕ) (i : Item) → k < length is → all_numbers (first_among (k + 1) is) ≡ all_numbers (first_among k is) ++ passed_numbers (get_or is k i).passed
next-all is k i h =
    ap (λ (js : List Item). all_numbers (map (λ j. j.passed) js)) (ap (λ (m : ℕ). take m is) (add-one k) ∙ take-suc is k i h)
    ∙ ap all_numbers (map-append (λ (j : Item). j.passed) (take k is) (get_or is k i ∷ []))
    ∙ each_last passed_numbers (first_among k is) (get_or is k i).passed

-- d after the first k of them, which end at `at`
pub record Written (d : List ℤ) (is : List Item) (k : ℕ) (e : List ℤ) (at : ℕ) : Type 0 where
  pub all : e ≡ put d 0 (all_numbers (first_among k is))
  pub end : at ≡ length (all_numbers (first_among k is))
  pub room : at ≤ message_count * k

pub none_written : (d : List ℤ) (is : List Item) → Written d is 0 d 0
unfolding each
none_written d is = record { all = put_none d 0; end = refl; room = omega arith }

pub next-written : (d : List ℤ) (is : List Item) (k : ℕ) (e f : List ℤ) (at end : ℕ) (i : Item) → Written d is k e at → k < length is → f ≡ put e at (passed_numbers (get_or is k i).passed) → end ≡ at + length (passed_numbers (get_or is k i).passed) → Written d is (k + 1) f end
next-written d is k e f at end i w h p q =
    let a : List ℤ = all_numbers (first_among k is) in
    let b : List ℤ = passed_numbers (get_or is k i).passed in
    let l = length-append a b in
    let x = w.end in
    let r = w.room in
    let t = (thing_long (get_or is k i).passed).1 in
    record {
      all = p ∙ ap (λ (g : List ℤ). put g at b) w.all ∙ put-put d 0 a b at (omega arith) (omega arith) ∙ ap (put d 0) (sym (next-all is k i h));
      end = (let y : end ≡ length (a ++ b) = omega arith in y ∙ ap length (sym (next-all is k i h)));
      room = omega arith;
    }
