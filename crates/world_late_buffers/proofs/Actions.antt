-- What a join, a leave and an input make of a world's numbers, and that in either order they leave the same. Assumes nothing.
use Prim.Native.Nat.{ℕ, ◌+◌, ◌≤◌, ◌<◌}
use mathlib.Core.Bool.{Bool, true, false, cond, ◌&&◌}
use mathlib.Core.List.{List}
use mathlib.Core.Logic.{inl}
use mathlib.Core.Path.{◌≡◌, refl, sym, ap, ◌∙◌, subst}
use native.Mathlib.Decide.{ℕ_discrete}
use native.Mathlib.Nat.{add-zero}
use native.Mathlib.Omega.{arith}
use lib.Dec.{eqb}
use lib.IntN.{ℤ, pos, negsuc}
use lib.ListN.{length, take, set, replicate, length-set, length-replicate}
use lib.Seq.{get_or-drop, take-set-lt, drop-set-lt}
use Rattle.base_rows.specs.Put.{put}
use Rattle.base_rows.proofs.Puts.{length-put, take_before, drop-put, put_end, put_else, put-apart}
use Rattle.num_convert.specs.Casts.{cast_unsigned}
use Rattle.game_records.specs.Numbers.{number_at, core_numbers, input_numbers}
use Rattle.game_records.proofs.Back.{input_long}
use Rattle.game_tuning.specs.Tuning.{tuning_count}
use Rattle.character_hook.specs.Hook.{net_state, tick_of}
use Rattle.character.specs.Character.{spawn}
use Rattle.character.specs.Records.{core_of, to_net}
use Rattle.character.specs.Slot.{joined_slot}
use Rattle.character.specs.Tick.{seats}
use Rattle.world.proofs.Seats.{by_test}
use Rattle.world_numbers.specs.Encoding.{record_count, seat_count, world_count, seat_place, hook_place, state_place, retracted_numbers, record_numbers, present_numbers}
use Rattle.world_numbers.specs.Decoding.{is_set}
use Rattle.world_numbers.proofs.Rows.{present_long}
use Rattle.world_buffers.specs.Buffers.{is_there}
use Rattle.world_buffers.specs.Leaving.{is_attached, release_in, vacate_in}
use Rattle.world_late.proofs.Actions.{Action, joining, leaving, storing}
use Rattle.world_late.proofs.Seatwise.{acts-agree}
use Rattle.world_late_buffers.proofs.Rows.{row_of, row_size, put_row, put_rows, numbers_same}
use Rattle.world_late_buffers.proofs.Hooks.{holds_row, released_row, first_number, released-sized, released-row}

abbrev zeros : List ℤ
zeros = replicate seat_count (pos 0)

-- what it makes of all numbers, at the seat k
abbrev pub act_in : ℕ → Action → List ℤ → List ℤ
act_in k (joining p) l = put l (seat_place k) (present_numbers (joined_slot p))
act_in k leaving l = vacate_in l k
act_in k (storing i) l = put l (seat_place k + record_count) (input_numbers i)

-- of the row of that seat
abbrev mine : Action → List ℤ → List ℤ
mine (joining p) r = present_numbers (joined_slot p)
mine leaving r = zeros
mine (storing i) r = put r record_count (input_numbers i)

-- of any other
abbrev others : ℕ → Action → List ℤ → List ℤ
others k (joining p) r = r
others k leaving r = released_row r k
others k (storing i) r = r

-- ---- a whole row is written
module _ (l : List ℤ) (long : length l ≡ world_count) (k : ℕ) (h : k < seats) (w : List ℤ) (full : length w ≡ seat_count) where
  here : put l (seat_place k) w ≡ put l (seat_place k + 0) w
  here = ap (λ (i : ℕ). put l i w) (sym (add-zero (seat_place k)))

  whole_size : length (put l (seat_place k) w) ≡ world_count
  whole_size = length-put l (seat_place k) w (omega arith) ∙ long

  whole_tunings : take tuning_count (put l (seat_place k) w) ≡ take tuning_count l
  whole_tunings = take_before l (seat_place k) w tuning_count (omega arith) (omega arith)

  whole_own : row_of (put l (seat_place k) w) k ≡ w
  whole_own = ap (λ (m : List ℤ). row_of m k) here ∙ put_row l long k 0 w h (omega arith) ∙ put_end (row_of l k) 0 w (let q = row_size l long k h in omega arith)

  whole_else : (m : ℕ) → m < seats → (m ≡ k → ⊥) → row_of (put l (seat_place k) w) m ≡ row_of l m
  whole_else m q d = ap (λ (v : List ℤ). row_of v m) here ∙ put_rows l long k 0 w h (omega arith) m q d

-- ---- an action
module _ (l : List ℤ) (long : length l ≡ world_count) (k : ℕ) (h : k < seats) where
  free : length zeros ≡ seat_count
  free = length-replicate seat_count (pos 0)

  pub act_size : (e : Action) → length (act_in k e l) ≡ world_count
  unfolding vacate_in
  act_size (joining p) = whole_size l long k h (present_numbers (joined_slot p)) (present_long (joined_slot p))
  act_size leaving = whole_size (release_in l k) (released-sized k l long).0 k h zeros free
  act_size (storing i) = length-put l (seat_place k + record_count) (input_numbers i) (omega (arith, input_long i)) ∙ long

  act_tunings : (e : Action) → take tuning_count (act_in k e l) ≡ take tuning_count l
  unfolding vacate_in
  act_tunings (joining p) = whole_tunings l long k h (present_numbers (joined_slot p)) (present_long (joined_slot p))
  act_tunings leaving = whole_tunings (release_in l k) (released-sized k l long).0 k h zeros free ∙ (released-sized k l long).1
  act_tunings (storing i) = take_before l (seat_place k + record_count) (input_numbers i) tuning_count (omega arith) (omega arith)

  act_own : (e : Action) → row_of (act_in k e l) k ≡ mine e (row_of l k)
  unfolding vacate_in
  act_own (joining p) = whole_own l long k h (present_numbers (joined_slot p)) (present_long (joined_slot p))
  act_own leaving = whole_own (release_in l k) (released-sized k l long).0 k h zeros free
  act_own (storing i) = put_row l long k record_count (input_numbers i) h (omega (arith, input_long i))

  act_else : (e : Action) (m : ℕ) → m < seats → (m ≡ k → ⊥) → row_of (act_in k e l) m ≡ others k e (row_of l m)
  unfolding vacate_in
  act_else (joining p) m q d = whole_else l long k h (present_numbers (joined_slot p)) (present_long (joined_slot p)) m q d
  act_else leaving m q d = whole_else (release_in l k) (released-sized k l long).0 k h zeros free m q d ∙ released-row k l long m q
  act_else (storing i) m q d = put_rows l long k record_count (input_numbers i) h (omega (arith, input_long i)) m q d

-- ---- rows in either order
module _ (r : List ℤ) (full : length r ≡ seat_count) where
  never : (b : Bool) → (b && false) ≡ false
  never true = refl
  never false = refl

  retracted_holds : (k : ℕ) → holds_row (put r hook_place retracted_numbers) k ≡ false
  unfolding is_attached
  retracted_holds k =
      let q = put r hook_place retracted_numbers in
      let state : number_at q state_place ≡ negsuc 0 = sym (get_or-drop hook_place q 1 (pos 0)) ∙ ap (λ (v : List ℤ). number_at v 1) (drop-put r hook_place retracted_numbers (omega arith)) in
      ap (λ (z : ℤ). is_set (number_at q 0) && (is_attached z && eqb (cast_unsigned (number_at q hook_place)) k)) state ∙ never (is_set (number_at q 0))

  releases_agree : (i j : ℕ) → released_row (released_row r j) i ≡ released_row (released_row r i) j
  releases_agree i j = go (holds_row r i) (holds_row r j) refl refl
    where
      u : List ℤ
      u = put r hook_place retracted_numbers

      stays : (k : ℕ) → released_row u k ≡ u
      stays k = ap (λ (b : Bool). cond b (put u hook_place retracted_numbers) u) (retracted_holds k)

      go : (a b : Bool) → holds_row r i ≡ a → holds_row r j ≡ b → released_row (cond b u r) i ≡ released_row (cond a u r) j
      go true true p q = stays i ∙ sym (stays j)
      go true false p q = ap (λ (b : Bool). cond b u r) p ∙ sym (stays j)
      go false true p q = stays i ∙ sym (ap (λ (b : Bool). cond b u r) q)
      go false false p q = ap (λ (b : Bool). cond b u r) p ∙ sym (ap (λ (b : Bool). cond b u r) q)

  -- an input is no part of the hook
  input-released : (k : ℕ) (w : List ℤ) → record_count + length w ≤ seat_count → released_row (put r record_count w) k ≡ put (released_row r k) record_count w
  input-released k w g = ap (λ (b : Bool). cond b (put v hook_place retracted_numbers) v) same ∙ go (holds_row r k)
    where
      v : List ℤ
      v = put r record_count w

      before : (i : ℕ) → i < record_count → number_at v i ≡ number_at r i
      before i h = put_else r record_count w i (pos 0) (omega arith) (inl h)

      same : holds_row v k ≡ holds_row r k
      same = λ i. is_set (before 0 (omega arith) i) && (is_attached (before state_place (omega arith) i) && eqb (cast_unsigned (before hook_place (omega arith) i)) k)

      go : (b : Bool) → cond b (put v hook_place retracted_numbers) v ≡ put (cond b (put r hook_place retracted_numbers) r) record_count w
      go true = sym (put-apart r hook_place retracted_numbers record_count w (omega arith) (omega arith))
      go false = refl

abbrev Row : List ℤ → Type 0
Row r = length r ≡ seat_count

passes : (k : ℕ) (e f : Action) (r : List ℤ) → Row r → others k e (mine f r) ≡ mine f (others k e r)
unfolding present_numbers record_numbers core_numbers to_net core_of tick_of net_state spawn is_set is_attached
passes k (joining p) f r h = refl
passes k leaving (joining p) r h = refl
passes k leaving leaving r h = refl
passes k leaving (storing i) r h = input-released r h k (input_numbers i) (omega (arith, input_long i))
passes k (storing i) f r h = refl

agree : (i j : ℕ) (e f : Action) (r : List ℤ) → Row r → others i e (others j f r) ≡ others j f (others i e r)
agree i j leaving leaving r h = releases_agree r h i j
agree i j (joining p) f r h = refl
agree i j (storing p) f r h = refl
agree i j leaving (joining p) r h = refl
agree i j leaving (storing p) r h = refl

-- ---- actions in either order
abbrev Has : List ℤ → ℕ → Type 0
Has l m = (length l ≡ world_count) × (m < seats)

pub actions_commute : (i j : ℕ) (e f : Action) (l : List ℤ) → length l ≡ world_count → i < seats → j < seats → (i ≡ j → ⊥) → act_in j f (act_in i e l) ≡ act_in i e (act_in j f l)
actions_commute i j e f l long a b d =
    let p = act_size l long i a e in
    let q = act_size l long j b f in
    numbers_same _ _ (act_size (act_in i e l) p j b f) (act_size (act_in j f l) q i a e)
    (act_tunings (act_in i e l) p j b f ∙ act_tunings l long i a e ∙ sym (act_tunings (act_in j f l) q i a e ∙ act_tunings l long j b f))
    (λ m r. acts-agree row_of Has (λ k. k < seats) Row act_in mine others (λ u k h. row_size u h.0 k h.1) (λ k g u s n h. (act_size u h.0 k s g, h.1)) (λ k g u s h. act_own u h.0 k s g) (λ k g u s n h t. act_else u h.0 k s g n h.1 t) passes agree i j e f l a b d m (long, r))

-- an action and a tuning
set_row : (l : List ℤ) (i : ℕ) (z : ℤ) (m : ℕ) → i < tuning_count → row_of (set l i z) m ≡ row_of l m
set_row l i z m h = ap (take seat_count) (drop-set-lt (seat_place m) l i z (omega arith))

pub action_tuned : (k : ℕ) (e : Action) (i : ℕ) (z : ℤ) (l : List ℤ) → length l ≡ world_count → k < seats → i < tuning_count → set (act_in k e l) i z ≡ act_in k e (set l i z)
action_tuned k e i z l long a h =
    let p = act_size l long k a e in
    let q = length-set l i z ∙ long in
    numbers_same _ _ (length-set (act_in k e l) i z ∙ p) (act_size (set l i z) q k a e)
    (take-set-lt tuning_count (act_in k e l) i z h ∙ ap (λ (t : List ℤ). set t i z) (act_tunings l long k a e) ∙ sym (act_tunings (set l i z) q k a e ∙ take-set-lt tuning_count l i z h))
    (λ m r. set_row (act_in k e l) i z m h ∙ each m r q (ℕ_discrete m k))
  where
    each : (m : ℕ) → m < seats → length (set l i z) ≡ world_count → Dec (m ≡ k) → row_of (act_in k e l) m ≡ row_of (act_in k e (set l i z)) m
    each m r q (yes d) = subst (λ (j : ℕ). row_of (act_in k e l) j ≡ row_of (act_in k e (set l i z)) j) (sym d) (act_own l long k a e ∙ sym (act_own (set l i z) q k a e ∙ ap (mine e) (set_row l i z k h)))
    each m r q (no d) = act_else l long k a e m r d ∙ sym (act_else (set l i z) q k a e m r d ∙ ap (others k e) (set_row l i z m h))

-- ---- who is there
-- nobody comes or goes by an action elsewhere
pub else_there : (l : List ℤ) → length l ≡ world_count → (k : ℕ) → k < seats → (e : Action) (m : ℕ) → m < seats → (m ≡ k → ⊥) → is_there (act_in k e l) m ≡ is_there l m
else_there l long k h e m q d = ap is_set (first_number (act_in k e l) m ∙ ap (λ (r : List ℤ). number_at r 0) (act_else l long k h e m q d) ∙ stays e ∙ sym (first_number l m))
  where
    stays : (e : Action) → number_at (others k e (row_of l m)) 0 ≡ number_at (row_of l m) 0
    stays (joining p) = refl
    stays leaving = by_test (λ (r : List ℤ). number_at r 0 ≡ number_at (row_of l m) 0) (holds_row (row_of l m) k) (λ b. put_else (row_of l m) hook_place retracted_numbers 0 (pos 0) (let s = row_size l long m q in omega arith) (inl (omega arith))) (λ b. refl)
    stays (storing i) = refl

-- nor by a tuning
pub tuned_there : (l : List ℤ) (i : ℕ) (z : ℤ) → i < tuning_count → (m : ℕ) → is_there (set l i z) m ≡ is_there l m
tuned_there l i z h m = ap is_set (first_number (set l i z) m ∙ ap (λ (r : List ℤ). number_at r 0) (set_row l i z m h) ∙ sym (first_number l m))
