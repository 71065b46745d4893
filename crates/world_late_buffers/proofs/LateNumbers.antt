-- Calls for different ids and tunings commute on any numbers, and a later input or tuning replaces an earlier one. Assumes nothing.
use Prim.Native.Nat.{ℕ, ◌+◌}
use mathlib.Core.List.{List}
use mathlib.Core.Logic.{inl}
use mathlib.Core.Path.{◌≡◌, refl, sym, ap, ap₂, ◌∙◌}
use native.Mathlib.Omega.{arith}
use lib.IntN.{ℤ, pos}
use lib.ListN.{length-set}
use lib.Seq.{set-set, set_comm}
use Rattle.base_rows.specs.Put.{put}
use Rattle.base_rows.proofs.Puts.{length-put, put_else, put_over}
use Rattle.map_tiles.specs.declared.tiles.Sides.{Sides}
use Rattle.game_records.specs.Numbers.{input_numbers}
use Rattle.game_records.proofs.Back.{input_long}
use Rattle.game_tuning.specs.Tuning.{tuning_count}
use Rattle.character.specs.Tick.{seats}
use Rattle.world.specs.declared.call.Call.{Call}
use Rattle.world.specs.declared.call.Call.TheVariants.{Input, Tune}
use Rattle.world.specs.Calls.{place_of}
use Rattle.world.specs.Run.{input_of}
use Rattle.world_numbers.specs.Encoding.{record_count, seat_place}
use Rattle.world_numbers.specs.Decoding.{is_set}
use Rattle.world_buffers.specs.Stepping.{StepBuffers}
use Rattle.world_buffers.specs.Following.{left_by, left_by_all}
use Rattle.world_late.specs.Late.{subject_of, MayReplace, inputs, tunes, Reordered, same, exchange, behind, again}
use Rattle.world_late.proofs.Changes.{left, replacing}
use Rattle.world_late.proofs.Subjects.{Named, both_named, subjects-commute}
use Rattle.world_late_buffers.specs.LateNumbers.{NumbersCommute, NumbersReplaced, LateNumbers}
use Rattle.world_late_buffers.proofs.Actions.{act_in, actions_commute, action_tuned}
use Rattle.world_late_buffers.proofs.Calls.{input_decided, input_number, tune_number, Fits, tuned_in, number_in, call_at, change_in, leaves_in}

pub numbers_commute_lem : NumbersCommute
numbers_commute_lem s ts b l c d h =
    let p = subject_of c in
    let q = subject_of d in
    let named = both_named p q h in
    let f = leaves_in s ts b c named.0 in
    let g = leaves_in s ts b d named.1 in
    let x = subjects-commute seats Fits act_in tuned_in (number_in s ts b) actions_commute action_tuned (λ i j y z m r. set_comm m i j y z r) c d p q (call_at s ts b c) (call_at s ts b d) h l in
    record {
      first = ap (λ (m : List ℤ). (left_by s ts b m c).number) (g l) ∙ x.first;
      second = ap (λ (m : List ℤ). (left_by s ts b m d).number) (f l) ∙ x.second;
      world = g (left_by s ts b l c).world ∙ ap (left (change_in s ts b d)) (f l) ∙ x.state ∙ sym (f (left_by s ts b l d).world ∙ ap (left (change_in s ts b c)) (g l));
    }

-- ---- replaced
module _ (s : Sides) (ts : List ℕ) (b : StepBuffers) (l : List ℤ) where
  replaced : (c d : Call) → Named (subject_of c) → Named (subject_of d)
      → (number_in s ts b c l ≡ 0 → number_in s ts b d ((change_in s ts b c).next l) ≡ number_in s ts b d l) → (number_in s ts b c l ≡ 0 → (change_in s ts b d).next ((change_in s ts b c).next l) ≡ (change_in s ts b d).next l)
      → let m = (left_by s ts b l c).world in (left_by s ts b m d).number ≡ 0 → left_by s ts b m d ≡ left_by s ts b l d
  replaced c d j k p q z =
      let m = (left_by s ts b l c).world in
      let f : m ≡ left (change_in s ts b c) l = leaves_in s ts b c j l in
      let g = leaves_in s ts b d k in
      let e = replacing (change_in s ts b c) (change_in s ts b d) l p (λ u v. q u) (sym (ap (number_in s ts b d) f) ∙ z) in
      ap₂ (λ (i : ℕ) (v : List ℤ). record { number = i; world = v }) (ap (number_in s ts b d) f ∙ e.0) (g m ∙ ap (left (change_in s ts b d)) f ∙ e.1 ∙ sym (g l))

  replaces_at : {c d : Call} → MayReplace c d → let m = (left_by s ts b l c).world in (left_by s ts b m d).number ≡ 0 → left_by s ts b m d ≡ left_by s ts b l d
  unfolding call_at
  replaces_at (inputs {id} {d} {x} {y} {j} {h} {d'} {x'} {y'} {j'} {h'}) =
      let k = place_of seats id in
      let u = input_numbers (input_of d x y j h) in
      let v = input_numbers (input_of d' x' y' j' h') in
      let m = input_long (input_of d x y j h) in
      let n = input_long (input_of d' x' y' j' h') in
      let fits = (input_decided l id (input_of d x y j h)).facts in
      replaced (Input id d x y j h) (Input id d' x' y' j' h') tt tt
      (λ z. let f = fits z in input_number (put l (seat_place k + record_count) u) l (length-put l (seat_place k + record_count) u (omega arith)) id (λ q. ap is_set (put_else l (seat_place k + record_count) u (seat_place k) (pos 0) (omega arith) (inl (omega arith)))) (input_of d' x' y' j' h'))
      (λ z. let f = fits z in put_over l (seat_place k + record_count) u v (m ∙ sym n) (omega arith))
  replaces_at (tunes {index} {z} {z'}) =
      let k = place_of tuning_count index in
      replaced (Tune index z) (Tune index z') tt tt (λ q. tune_number (tuned_in k z l) l (length-set l k z) index z') (λ q. set-set l k z z')

pub numbers_replaced_lem : NumbersReplaced
numbers_replaced_lem s ts b l c d h = replaces_at s ts b l h

-- ---- lists
module _ (s : Sides) (ts : List ℕ) (b : StepBuffers) where
  reordered : (l : List ℤ) {cs ds : List Call} → Reordered (λ c. c) cs ds → left_by_all s ts b l cs ≡ left_by_all s ts b l ds
  reordered l (same cs) = refl
  reordered l (exchange c d cs h) = ap (λ (m : List ℤ). left_by_all s ts b m cs) (numbers_commute_lem s ts b l c d h).world
  reordered l (behind c h) = reordered (left_by s ts b l c).world h
  reordered l (again h k) = reordered l h ∙ reordered l k

pub late_numbers_lem : LateNumbers
late_numbers_lem s ts b l cs ds h = reordered s ts b l h
