-- A step lists ids of seats, and whoever is listed goes one after another. Assumes nothing.
use Prim.Native.Nat.{ℕ, zero, suc, ◌+◌, ◌-◌, ◌≤◌, ◌<◌}
use mathlib.Core.Bool.{Bool, true, false, ◌||◌, true≢false}
use mathlib.Core.List.{List, [], ◌∷◌, ◌++◌, map}
use mathlib.Core.Path.{◌≡◌, refl, sym, ap, ◌∙◌}
use native.Mathlib.Numerals.{add-one}
use native.Mathlib.Omega.{arith}
use lib.Dec.{eqb, ltb}
use lib.IntN.{ℤ, pos, negsuc, nat_abs}
use lib.ListN.{length, take, drop, replicate}
use lib.Seq.{drop-cons, drop-length, get_or-take, length-take-le}
use borrow.Author.Tests.{eq-eqb, lt-ltb}
use Rattle.base_turns.specs.Turns.{Turn, more, stop, next}
use Rattle.map_tiles.specs.Map.{is_map}
use Rattle.map_tiles.specs.declared.tiles.Sides.{Sides}
use Rattle.game_records.specs.Numbers.{number_at}
use Rattle.game_tuning.specs.Tuning.{tuning_of}
use Rattle.character.specs.Tick.{seats, slot_at}
use Rattle.character.specs.declared.Slot.{Slot}
use Rattle.world.specs.Calls.{place_of}
use Rattle.world.specs.Removal.{dies, dying, listed, is_in}
use Rattle.world.specs.Step.{Moving, tick_all, move_all, step_answer, step_on, step}
use Rattle.world.specs.Answered.{Stepped}
use Rattle.world.specs.declared.World.{World}
use Rattle.world.proofs.Removal.{dying_within}
use Rattle.world.proofs.Seats.{by_test}
use Rattle.world_step.proofs.Listed.{ids_fit}
use Rattle.world_buffers.specs.Leaving.{vacate_in, ListsSeats, remove_in}

-- ---- what a step lists
pub either_in : (b c : Bool) → c ≡ true → (b || c) ≡ true
either_in true c e = refl
either_in false c e = e

pub first_of : (b c : Bool) → b ≡ true → (b || c) ≡ true
first_of true c e = refl
first_of false c e = absurd (true≢false (sym e))

all_named : (ks : List ℕ) (rest : List ℤ) → ((k : ℕ) → is_in k ks ≡ true → k < seats) → (i : ℕ) → i < length ks → place_of seats (number_at (map pos ks ++ rest) i) < seats
unfolding place_of
all_named [] rest h i l = absurd (omega arith)
all_named (k ∷ ks) rest h zero l = let q = h k (first_of (eqb k k) (is_in k ks) (eq-eqb k k refl)) in rw (lt-ltb k seats q) q
all_named (k ∷ ks) rest h (suc i) l = all_named ks rest (λ j e. h j (either_in (eqb k j) (is_in j ks) e)) i (omega arith)

lists : (ks : List ℕ) → ((k : ℕ) → is_in k ks ≡ true → k < seats) → length ks ≤ seats → ListsSeats (listed seats ks)
lists ks h f = record { few = f; seat = all_named ks (replicate (seats - length ks) (pos 0)) h }

none_listed : ListsSeats (listed seats [])
none_listed = lists [] (λ k e. absurd (true≢false (sym e))) (omega arith)

pub dying_lists : (s : Sides) (ts : List ℕ) (ss : List Slot) → ListsSeats (listed seats (dying seats s ts ss))
unfolding dying
dying_lists s ts ss = lists (dying seats s ts ss) (dying_within seats s ts ss) (ids_fit (λ i. dies s ts (slot_at ss i)) seats 0)

module _ (w : World) (s : Sides) (ts : List ℕ) where
  moves_list : (a : Turn Moving ℕ) → ListsSeats (step_answer seats w s ts a).removed
  moves_list (stop r) = none_listed
  moves_list (more m) = dying_lists s ts m.slots

  pub step_lists : ListsSeats (step seats w s ts).removed
  unfolding step step_on
  step_lists = by_test (λ (a : Stepped). ListsSeats a.removed) (is_map s ts) (λ e. moves_list (next (λ us. move_all seats us s ts (tuning_of w.tunings)) (tick_all seats w.slots s ts (tuning_of w.tunings)))) (λ e. none_listed)

-- ---- one after another
pub place_abs : (z : ℤ) → place_of seats z < seats → place_of seats z ≡ nat_abs z
unfolding place_of
place_abs (pos k) h = go (ltb k seats) refl h
  where
    go : (b : Bool) → ltb k seats ≡ b → place_of seats (pos k) < seats → place_of seats (pos k) ≡ k
    go true e l = rw e refl
    go false e l = absurd (let q : place_of seats (pos k) ≡ seats = rw e refl in omega (arith, q, l))
place_abs (negsuc k) h = absurd (omega arith)

pub remove_next : (ids : List ℤ) (count i : ℕ) (l : List ℤ) → i < count → count ≤ length ids → remove_in l (map nat_abs (drop i (take count ids))) ≡ remove_in (vacate_in l (nat_abs (number_at ids i))) (map nat_abs (drop (i + 1) (take count ids)))
remove_next ids count i l h g =
    let t : List ℤ = take count ids in
    let n : length t ≡ count = length-take-le count ids g in
    ap (λ (r : List ℤ). remove_in l (map nat_abs r)) (drop-cons t i (pos 0) (omega arith))
    ∙ ap (λ (z : ℤ). remove_in (vacate_in l (nat_abs z)) (map nat_abs (drop (suc i) t))) (get_or-take count ids i (pos 0) h)
    ∙ ap (λ (k : ℕ). remove_in (vacate_in l (nat_abs (number_at ids i))) (map nat_abs (drop k t))) (sym (add-one i))

pub remove_end : (ids : List ℤ) (count i : ℕ) (l : List ℤ) → i ≤ count → count ≤ i → count ≤ length ids → remove_in l (map nat_abs (drop i (take count ids))) ≡ l
remove_end ids count i l h g f =
    let t : List ℤ = take count ids in
    let n : i ≡ length t = (let m = length-take-le count ids f in omega arith) in
    ap (λ (r : List ℤ). remove_in l (map nat_abs r)) (ap (λ (k : ℕ). drop k t) n ∙ drop-length t)
