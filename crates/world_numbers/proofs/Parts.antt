-- A seat is read of its own numbers alone, and a row that is written into them changes the part that is read of it. Assumes nothing.
use Prim.Native.Nat.{ℕ, ◌+◌, ◌≤◌, ◌<◌}
use mathlib.Core.Bool.{Bool, true, cond}
use mathlib.Core.List.{List, [], ◌∷◌, ◌++◌}
use mathlib.Core.Logic.{◌⊎◌, inl, inr}
use mathlib.Core.Path.{◌≡◌, refl, sym, ap, ◌∙◌}
use native.Mathlib.Omega.{arith}
use lib.Dec.{lit<}
use lib.IntN.{ℤ, pos, negsuc}
use lib.ListN.{length, take, drop, length-drop}
use lib.Seq.{get_or-take, get_or-drop}
use Rattle.base_rows.specs.Put.{put}
use Rattle.base_rows.proofs.Puts.{drop-put, drop-put-add, part_else, put_else}
use Rattle.game_records.specs.Numbers.{core_count, input_count, number_at, core_numbers, input_numbers, core_in, input_of_numbers}
use Rattle.game_records.specs.declared.CharacterCore.{CharacterCore}
use Rattle.game_records.specs.declared.PlayerInput.{PlayerInput}
use Rattle.game_records.proofs.Back.{core_long, input_long, core_back, input_back}
use Rattle.character_hook.specs.Hook.{hook_from_net}
use Rattle.character_hook.specs.declared.hook.Hook.TheVariants.{Retracted}
use Rattle.character.specs.Character.{with_hook}
use Rattle.character.specs.Slot.{empty_slot, joined_slot, with_character, with_input, with_grounded}
use Rattle.character.specs.Records.{from_net}
use Rattle.character.specs.declared.Character.{Character}
use Rattle.character.specs.declared.Slot.{Slot}
use Rattle.world_numbers.specs.Encoding.{record_count, mark_place, seat_count, flag, seat_numbers, hook_place, retracted_numbers}
use Rattle.world_numbers.specs.Decoding.{is_set, readable, seat_of}
use Rattle.world_numbers.proofs.Encoded.{Kept, flag-back, seat_back}

-- the same first n numbers
abbrev pub Alike : ℕ → List ℤ → List ℤ → Type 0
Alike n l m = (i : ℕ) → i < n → number_at l i ≡ number_at m i

pub same_first : (n : ℕ) (l m : List ℤ) → take n l ≡ take n m → Alike n l m
same_first n l m e i h = sym (get_or-take n l i (pos 0) h) ∙ ap (λ (k : List ℤ). number_at k i) e ∙ get_or-take n m i (pos 0) h

-- those behind a
later : (a n : ℕ) (l m : List ℤ) → Alike (a + n) l m → Alike n (drop a l) (drop a m)
later a n l m h i q = get_or-drop a l i (pos 0) ∙ h (a + i) (omega arith) ∙ sym (get_or-drop a m i (pos 0))

core_same : (l m : List ℤ) → Alike core_count l m → core_in l ≡ core_in m
unfolding core_in
core_same l m h =
    rw (h 0 (lit< tt), h 1 (lit< tt), h 2 (lit< tt), h 3 (lit< tt), h 4 (lit< tt), h 5 (lit< tt), h 6 (lit< tt), h 7 (lit< tt), h 8 (lit< tt), h 9 (lit< tt), h 10 (lit< tt), h 11 (lit< tt), h 12 (lit< tt), h 13 (lit< tt), h 14 (lit< tt))

input_same : (l m : List ℤ) → Alike input_count l m → input_of_numbers l ≡ input_of_numbers m
unfolding input_of_numbers
input_same l m h = rw (h 0 (lit< tt), h 1 (lit< tt), h 2 (lit< tt), h 3 (lit< tt), h 4 (lit< tt))

-- ---- a seat by its parts
abbrev slot_from : Bool → CharacterCore → PlayerInput → Bool → Slot
slot_from b n i g = let c = from_net (readable n) in cond b (with_grounded (with_input (with_character (joined_slot c.pos) c) i) g) empty_slot

parts : (l : List ℤ) (b : Bool) (n : CharacterCore) (i : PlayerInput) (g : Bool) → is_set (number_at l 0) ≡ b → core_in (drop 1 l) ≡ n → input_of_numbers (drop record_count l) ≡ i → is_set (number_at l mark_place) ≡ g → seat_of l ≡ slot_from b n i g
unfolding seat_of
parts l b n i g p q r s = rw (p, q, r, s)

pub seat_same : (l m : List ℤ) → Alike seat_count l m → seat_of l ≡ seat_of m
unfolding seat_of
seat_same l m h =
    parts l _ _ _ _
    (ap is_set (h 0 (lit< tt)))
    (core_same (drop 1 l) (drop 1 m) (later 1 core_count l m (λ i q. h i (omega arith))))
    (input_same (drop record_count l) (drop record_count m) (later record_count input_count l m (λ i q. h i (omega arith))))
    (ap is_set (h mark_place (lit< tt)))

-- ---- a record with a Retracted hook
abbrev retracted_core : List ℤ → CharacterCore
retracted_core l = record {
  tick = number_at l 0;
  x = number_at l 1;
  y = number_at l 2;
  vel_x = number_at l 3;
  vel_y = number_at l 4;
  angle = number_at l 5;
  direction = number_at l 6;
  jumped = number_at l 7;
  hooked_player = negsuc 0;
  hook_state = negsuc 0;
  hook_tick = record { 0 = pos 0 };
  hook_x = pos 0;
  hook_y = pos 0;
  hook_dx = pos 0;
  hook_dy = pos 0;
}

retracted_in : (l : List ℤ) → core_count ≤ length l → core_in (put l 8 retracted_numbers) ≡ retracted_core l
unfolding core_in
retracted_in l h = rw (old 0 (lit< tt), old 1 (lit< tt), old 2 (lit< tt), old 3 (lit< tt), old 4 (lit< tt), old 5 (lit< tt), old 6 (lit< tt), old 7 (lit< tt), new 0, new 1, new 2, new 3, new 4, new 5, new 6)
  where
    old : (i : ℕ) → i < 8 → number_at (put l 8 retracted_numbers) i ≡ number_at l i
    old i q = put_else l 8 retracted_numbers i (pos 0) (omega arith) (inl q)

    new : (i : ℕ) → number_at (put l 8 retracted_numbers) (8 + i) ≡ number_at (retracted_numbers ++ drop 15 l) i
    new i = sym (get_or-drop 8 (put l 8 retracted_numbers) i (pos 0)) ∙ ap (λ (m : List ℤ). number_at m i) (drop-put l 8 retracted_numbers (omega arith))

retracted_read : (l : List ℤ) → from_net (readable (retracted_core l)) ≡ with_hook (from_net (readable (core_in l))) Retracted
unfolding from_net readable core_in hook_from_net
retracted_read l = refl

-- ---- rows that are written into a seat
-- a part elsewhere
untouched : (d : List ℤ) (at : ℕ) (w : List ℤ) (a n : ℕ) → at ≤ length d → (a + n ≤ at) ⊎ (at + length w ≤ a) → Alike n (drop a (put d at w)) (drop a d)
untouched d at w a n g h = same_first n (drop a (put d at w)) (drop a d) (part_else d at w a n g h)

module _ (m : List ℤ) (long : seat_count ≤ length m) where
  -- another input
  pub input-put : (i : PlayerInput) → is_set (number_at m 0) ≡ true → seat_of (put m record_count (input_numbers i)) ≡ with_input (seat_of m) i
  unfolding seat_of
  input-put i e =
      let w = input_numbers i in
      let n = input_long i in
      parts (put m record_count w) true (core_in (drop 1 m)) i (is_set (number_at m mark_place))
      (ap is_set (put_else m record_count w 0 (pos 0) (omega arith) (inl (omega arith))) ∙ e)
      (core_same _ _ (untouched m record_count w 1 core_count (omega arith) (inl (omega arith))))
      (ap input_of_numbers (drop-put m record_count w (omega arith)) ∙ input_back i (drop (record_count + length w) m))
      (ap is_set (put_else m record_count w mark_place (pos 0) (omega arith) (inr (omega arith))))
      ∙ rw e refl

  -- another slot
  pub seat_put : (s : Slot) → Kept s → seat_of (put m 0 (seat_numbers s)) ≡ s
  seat_put s k = ap seat_of (drop-put m 0 (seat_numbers s) (omega arith)) ∙ seat_back s (drop (0 + length (seat_numbers s)) m) k

  -- another record
  pub core_put : (n : CharacterCore) → is_set (number_at m 0) ≡ true → seat_of (put m 1 (core_numbers n)) ≡ with_character (seat_of m) (from_net (readable n))
  unfolding seat_of
  core_put n e =
      let w = core_numbers n in
      let k = core_long n in
      parts (put m 1 w) true n (input_of_numbers (drop record_count m)) (is_set (number_at m mark_place))
      (ap is_set (put_else m 1 w 0 (pos 0) (omega arith) (inl (omega arith))) ∙ e)
      (ap core_in (drop-put m 1 w (omega arith)) ∙ core_back n (drop (1 + length w) m))
      (input_same _ _ (untouched m 1 w record_count input_count (omega arith) (inr (omega arith))))
      (ap is_set (put_else m 1 w mark_place (pos 0) (omega arith) (inr (omega arith))))
      ∙ rw e refl

  -- another floor mark
  pub mark_put : (g : Bool) → is_set (number_at m 0) ≡ true → seat_of (put m mark_place (flag g ∷ [])) ≡ with_grounded (seat_of m) g
  unfolding seat_of
  mark_put g e =
      let w = flag g ∷ [] in
      parts (put m mark_place w) true (core_in (drop 1 m)) (input_of_numbers (drop record_count m)) g
      (ap is_set (put_else m mark_place w 0 (pos 0) (omega arith) (inl (omega arith))) ∙ e)
      (core_same _ _ (untouched m mark_place w 1 core_count (omega arith) (inl (omega arith))))
      (input_same _ _ (untouched m mark_place w record_count input_count (omega arith) (inl (omega arith))))
      (ap is_set (sym (get_or-drop mark_place (put m mark_place w) 0 (pos 0)) ∙ ap (λ (l : List ℤ). number_at l 0) (drop-put m mark_place w (omega arith))) ∙ flag-back g)
      ∙ rw e refl

  -- a hook that is Retracted
  pub release-put : is_set (number_at m 0) ≡ true → seat_of (put m hook_place retracted_numbers) ≡ with_character (seat_of m) (with_hook (seat_of m).character Retracted)
  unfolding seat_of
  release-put e =
      let w = retracted_numbers in
      let d = drop 1 m in
      let z = length-drop 1 m in
      parts (put m hook_place w) true (retracted_core d) (input_of_numbers (drop record_count m)) (is_set (number_at m mark_place))
      (ap is_set (put_else m hook_place w 0 (pos 0) (omega arith) (inl (omega arith))) ∙ e)
      (ap core_in (drop-put-add m 1 8 w (omega arith)) ∙ retracted_in d (omega arith))
      (input_same _ _ (untouched m hook_place w record_count input_count (omega arith) (inr (omega arith))))
      (ap is_set (put_else m hook_place w mark_place (pos 0) (omega arith) (inr (omega arith))))
      ∙ (rw e (ap (λ (c : Character). with_grounded (with_input (with_character (joined_slot c.pos) c) (input_of_numbers (drop record_count m))) (is_set (number_at m mark_place))) (retracted_read d)))
