-- The inputs before a step, on numbers: they are the calls of the rule on the world that the numbers stand for. Assumes nothing.
use Prim.Native.Nat.{ℕ, zero, suc, ◌+◌, ◌<◌}
use mathlib.Core.Bool.{Bool, true, false, cond}
use mathlib.Core.List.{List, ◌∷◌, map}
use mathlib.Core.Path.{◌≡◌, refl, sym, ap, ◌∙◌, subst}
use native.Mathlib.Omega.{arith}
use lib.IntN.{ℤ, pos}
use lib.Ieee.{Float}
use lib.ListN.{length, drop}
use lib.Seq.{get_or-drop, drop-drop}
use borrow.Author.Tests.{lt-ltb}
use Rattle.base_rows.specs.Put.{put}
use Rattle.base_rows.proofs.Puts.{drop_behind}
use Rattle.base_turns.specs.Turns.{fold}
use Rattle.num_convert.specs.Convert.{i32_to_f32}
use Rattle.map_corners.specs.Tile.{tile_at}
use Rattle.map_tiles.specs.declared.tiles.Sides.{Sides}
use Rattle.game_records.specs.Numbers.{number_at, core_in, input_numbers}
use Rattle.game_records.specs.declared.PlayerInput.{PlayerInput}
use Rattle.game_records.proofs.Back.{input_long}
use Rattle.character.specs.Records.{from_net}
use Rattle.character.specs.Tick.{seats, slot_at}
use Rattle.character.specs.declared.Slot.{Slot}
use Rattle.world.specs.Calls.{place_of}
use Rattle.world.specs.Removal.{ids_of}
use Rattle.world.specs.Run.{input_of, after}
use Rattle.world.specs.declared.World.{World}
use Rattle.world.specs.declared.call.Call.{Call}
use Rattle.world_numbers.specs.Encoding.{record_count, seat_count, world_count, seat_place, flag}
use Rattle.world_numbers.specs.Decoding.{is_set, readable, seat_of, decoding}
use Rattle.world_numbers.proofs.Seats.{seat_is}
use Rattle.world_numbers.proofs.Written.{row_at}
use Rattle.world_buffers.specs.Buffers.{LeftWorld, is_there, input_in}
use Rattle.world_buffers.specs.Following.{left_by}
use Rattle.world_buffers.proofs.Answers.{nobody, somebody}
use Rattle.world_buffers.proofs.Released.{first_in}
use Rattle.world_buffers.proofs.Stands.{there}
use Rattle.trial_rule.specs.Trial.{Trying, player_at, towards, input_for, inputs_for}
use Rattle.trial_rule.specs.declared.Player.{Player}
use Rattle.trial_runs.specs.InPlace.{x_place, IsWorld, trial_input, steered_at, steered_all}
use Rattle.trial_runs.proofs.Worlds.{world_long, no_buffers, called_quietly}

pub place_self : (n k : ℕ) → k < n → place_of n (pos k) ≡ k
unfolding place_of
place_self n k h = rw (lt-ltb k n h)

-- ---- one seat
module _ (s : Sides) (p : Player) (j : ℕ) (l : List ℤ) (h : j < seats) (long : length l ≡ world_count) where
  abbrev i : PlayerInput
  i = trial_input s p (number_at l (seat_place j + x_place))

  -- nobody is there
  pub stays : is_there l j ≡ false → steered_at s p j l ≡ l
  unfolding steered_at input_in
  stays e = ap (λ (a : LeftWorld). a.world) (nobody l (pos j) (λ k. put l (seat_place k + record_count) (input_numbers i)) j long (sym (place_self seats j h)) h e)

  -- somebody is: the numbers behind the seat are as they were
  behind_kept : is_there l j ≡ true → drop (seat_place (suc j)) (steered_at s p j l) ≡ drop (seat_place (suc j)) l
  unfolding steered_at input_in
  behind_kept e =
      let m = put l (seat_place j + record_count) (input_numbers i) in
      ap (λ (a : LeftWorld). drop (seat_place (suc j)) a.world) (somebody l (pos j) (λ k. put l (seat_place k + record_count) (input_numbers i)) j long (sym (place_self seats j h)) m h e refl)
      ∙ drop_behind l (seat_place j + record_count) (input_numbers i) (seat_place (suc j)) (omega (arith, input_long i)) (omega arith)

-- the x of somebody who is at a seat
row_x : (r : List ℤ) → is_set (number_at r 0) ≡ true → (seat_of r).character.pos.x ≡ i32_to_f32 (number_at r x_place)
unfolding seat_of readable core_in from_net
row_x r e = rw e (ap i32_to_f32 (get_or-drop 1 r 1 (pos 0)))

seat_x : (j : ℕ) (l : List ℤ) → j < seats → is_there l j ≡ true → (slot_at (decoding seats l).slots j).character.pos.x ≡ i32_to_f32 (number_at l (seat_place j + x_place))
seat_x j l h e =
    let r = row_at l j in
    ap (λ (x : Slot). x.character.pos.x) (seat_is seats j l h)
    ∙ row_x r (ap is_set (sym (first_in l j)) ∙ e)
    ∙ ap i32_to_f32 (get_or-drop (seat_place j) l x_place (pos 0))

-- ---- all of them, from the numbers l₀
module _ (s : Sides) (ts : List ℕ) (ps : List Player) (l₀ : List ℤ) (h₀ : IsWorld l₀) where
  abbrev t : Trying
  t = record { world = decoding seats l₀; players = ps }

  abbrev is_present : ℕ → Bool
  is_present j = (slot_at (decoding seats l₀).slots j).present

  abbrev turn : ℕ → List ℤ → List ℤ
  turn j = steered_at s (player_at ps j) j

  -- l is l₀ from the seat j on
  number_is : (j k : ℕ) (l : List ℤ) → drop (seat_place j) l ≡ drop (seat_place j) l₀ → number_at l (seat_place j + k) ≡ number_at l₀ (seat_place j + k)
  number_is j k l e = sym (get_or-drop (seat_place j) l k (pos 0)) ∙ ap (λ (r : List ℤ). number_at r k) e ∙ get_or-drop (seat_place j) l₀ k (pos 0)

  there_is : (j : ℕ) (l : List ℤ) → j < seats → drop (seat_place j) l ≡ drop (seat_place j) l₀ → is_there l j ≡ is_present j
  there_is j l h e = ap is_set (first_in l j ∙ ap (λ (r : List ℤ). number_at r 0) e ∙ sym (first_in l₀ j)) ∙ sym (there l₀ (world_long l₀ h₀) j h)

  -- the input is the rule's
  input_is : (j : ℕ) (l : List ℤ) → j < seats → drop (seat_place j) l ≡ drop (seat_place j) l₀ → is_present j ≡ true → turn j l ≡ (left_by s ts no_buffers l (input_for s t j)).world
  unfolding steered_at trial_input
  input_is j l h e q =
      ap (λ (x : Float). (input_in l (pos j) (input_of (towards (tile_at s.width x) (player_at ps j).column) (pos 0) (pos 0) (flag (player_at ps j).stayed) (pos 0))).world)
      (ap i32_to_f32 (number_is j x_place l e) ∙ sym (seat_x j l₀ h (sym (there l₀ (world_long l₀ h₀) j h) ∙ q)))

  record Steered (l : List ℤ) (cs : List Call) (m : List ℤ) : Type 0 where
    kept : IsWorld m
    world : decoding seats m ≡ after seats s ts (decoding seats l) cs

  behind_on : (j : ℕ) (l m : List ℤ) → drop (seat_place j) l ≡ drop (seat_place j) m → drop (seat_place (suc j)) l ≡ drop (seat_place (suc j)) m
  behind_on j l m e =
      let q : seat_place (suc j) ≡ seat_place j + seat_count = omega arith in
      ap (λ (k : ℕ). drop k l) q ∙ sym (drop-drop seat_count (seat_place j) l) ∙ ap (drop seat_count) e ∙ drop-drop seat_count (seat_place j) m ∙ sym (ap (λ (k : ℕ). drop k m) q)

  steer : (n j : ℕ) (l : List ℤ) → n + j ≡ seats → IsWorld l → drop (seat_place j) l ≡ drop (seat_place j) l₀ → Steered l (map (input_for s t) (ids_of is_present n j)) (fold turn n j l)
  unfolding fold
  steer zero j l b h e = record { kept = h; world = refl }
  steer (suc n) j l b h e = go (steer n (suc j)) (is_present j) refl
    where
      in_range : j < seats
      in_range = omega arith

      rest : List Call
      rest = map (input_for s t) (ids_of is_present n (suc j))

      go : ((m : List ℤ) → n + suc j ≡ seats → IsWorld m → drop (seat_place (suc j)) m ≡ drop (seat_place (suc j)) l₀ → Steered m rest (fold turn n (suc j) m)) → (x : Bool) → is_present j ≡ x → Steered l (map (input_for s t) (cond x (j ∷ ids_of is_present n (suc j)) (ids_of is_present n (suc j)))) (fold turn n (suc j) (turn j l))
      go on true q =
          let c = called_quietly s ts l (input_for s t j) h in
          let f : turn j l ≡ (left_by s ts no_buffers l (input_for s t j)).world = input_is j l in_range e q in
          let k = behind_kept s (player_at ps j) j l in_range (world_long l h) (there_is j l in_range e ∙ q) ∙ behind_on j l l₀ e in
          let r = on (turn j l) (omega arith) (subst IsWorld (sym f) c.kept) k in
          record { kept = r.kept; world = r.world ∙ ap (λ (w : World). after seats s ts w rest) (ap (decoding seats) f ∙ c.world) }
      go on false q =
          let f = stays s (player_at ps j) j l in_range (world_long l h) (there_is j l in_range e ∙ q) in
          subst (λ (m : List ℤ). Steered l rest (fold turn n (suc j) m)) (sym f) (on l (omega arith) h (behind_on j l l₀ e))

  all_steered : Steered l₀ (inputs_for seats s t) (steered_all s ps l₀)
  unfolding steered_all inputs_for
  all_steered = steer seats 0 l₀ (omega arith) h₀ refl

  pub steered_kept : IsWorld (steered_all s ps l₀)
  steered_kept = all_steered.kept

  pub steered_world : decoding seats (steered_all s ps l₀) ≡ after seats s ts (decoding seats l₀) (inputs_for seats s t)
  steered_world = all_steered.world
