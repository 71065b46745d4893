-- What a search leaves in its buffer, by the tests that decide it. Assumes nothing.
use Prim.Native.Nat.{ℕ, ◌<◌}
use mathlib.Core.Bool.{Bool, true, false, cond}
use mathlib.Core.List.{List}
use mathlib.Core.Path.{◌≡◌, refl}
use native.Mathlib.Omega.{arith}
use lib.Dec.{ltb}
use lib.IntN.{ℤ}
use lib.ListN.{length}
use borrow.Author.Tests.{eq-eqb, ne_eqb, ltb-true}
use Rattle.base_turns.specs.Turns.{more, stop}
use Rattle.game_refusals.specs.Refusals.{bad_map, bad_id, not_present, bad_length}
use Rattle.map_tiles.specs.Map.{is_map}
use Rattle.map_tiles.specs.declared.tiles.Sides.{Sides}
use Rattle.character.specs.Tick.{seats, slot_at}
use Rattle.character.specs.declared.Slot.{Slot}
use Rattle.world.specs.Calls.{place_of}
use Rattle.world.specs.Readers.{seated}
use Rattle.world.specs.declared.World.{World}
use Rattle.world_numbers.specs.Encoding.{world_count}
use Rattle.world_numbers.specs.Decoding.{decoding}
use Rattle.world_buffers.specs.Readers.{untold, told_as}
use Rattle.search_rule.specs.Search.{Found, answer_of, search_from, search}
use Rattle.search_calls.specs.Numbers.{way_count, found_numbers, search_told, search_in}
use Rattle.std.specs.Prelude.{Result, Ok, Err}
use Rattle.game_refusals.specs.declared.Refusal.{Refusal}
use Rattle.game_refusals.specs.declared.Refusal.TheVariants.{BadId, Absent}

module _ (s : Sides) (ts : List ℕ) (l : List ℤ) (id x y : ℤ) (out : List ℤ) where
  pub wrong_world : (length l ≡ world_count → ⊥) → search_in s ts l id x y out ≡ untold out bad_length
  unfolding search_in
  wrong_world h = rw (ne_eqb (length l) world_count h)

  module _ (h : length l ≡ world_count) where
    pub wrong-way : (length out ≡ way_count → ⊥) → search_in s ts l id x y out ≡ untold out bad_length
    unfolding search_in
    wrong-way g = rw (eq-eqb (length l) world_count h, ne_eqb (length out) way_count g)

    module _ (g : length out ≡ way_count) where
      pub no_map : is_map s ts ≡ false → search_in s ts l id x y out ≡ untold out bad_map
      unfolding search_in search
      no_map e = rw (eq-eqb (length l) world_count h, eq-eqb (length out) way_count g, e)

      -- on a map, where z is who is at the id
      pub searched : (z : Result Slot Refusal) → is_map s ts ≡ true → seated seats (decoding seats l) id ≡ z → search_in s ts l id x y out ≡ search_told out (search_from seats s ts (decoding seats l) id x y z)
      unfolding search_in search
      searched z e q = rw (eq-eqb (length l) world_count h, eq-eqb (length out) way_count g, e, q)

-- what is found as numbers
pub found_told : (out : List ℤ) (t : Found) → search_told out (answer_of t) ≡ told_as (found_numbers t)
found_told out (more z) = refl
found_told out (stop u) = refl

-- somebody sits within the seats
pub seat_within : (n : ℕ) (w : World) (id : ℤ) (x : Slot) → seated n w id ≡ Ok x → place_of n id < n
unfolding seated
seat_within n w id x = go (ltb (place_of n id) n) (slot_at w.slots (place_of n id)).present refl
  where
    go : (b c : Bool) → ltb (place_of n id) n ≡ b → cond b (cond c (Ok (slot_at w.slots (place_of n id))) (Err Absent)) (Err BadId) ≡ Ok x → place_of n id < n
    go true c l e = ltb-true (place_of n id) n l
    go false c l e = let z : ◌≡◌ {A = ℕ} 0 1 = cc in absurd (omega arith)
