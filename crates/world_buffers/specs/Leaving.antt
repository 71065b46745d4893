-- Whoever is gone from a world that is kept as numbers: the hooks that held it are released, and its seat has zeros. Definitions only.
use Rattle.std.specs.Prelude.{ℕ, ◌+◌, ◌≤◌, ◌<◌, Bool, false, cond, ◌&&◌, List, [], ◌∷◌, eqb, ℤ, pos, negsuc, replicate}
use Rattle.base_rows.specs.Put.{put}
use Rattle.base_turns.specs.Turns.{fold}
use Rattle.num_convert.specs.Casts.{cast_unsigned}
use Rattle.game_records.specs.Numbers.{number_at}
use Rattle.character.specs.Tick.{seats}
use Rattle.world.specs.Calls.{place_of}
use Rattle.world.specs.declared.Removed.{Removed}
use Rattle.world_numbers.specs.Encoding.{seat_count, seat_place, hook_place, state_place, retracted_numbers}
use Rattle.world_numbers.specs.Decoding.{is_set}

-- the state of a hook that is attached, or that holds somebody
unfoldable pub is_attached : ℤ → Bool
is_attached (pos n) = eqb n 5
is_attached (negsuc k) = false

-- somebody is at the seat j, with a hook whose player is k
unfoldable pub holds_in : List ℤ → ℕ → ℕ → Bool
holds_in l j k = is_set (number_at l (seat_place j)) && (is_attached (number_at l (seat_place j + state_place)) && eqb (cast_unsigned (number_at l (seat_place j + hook_place))) k)

-- a hook that holds k is Retracted, any other stays
abbrev pub release_at : ℕ → ℕ → List ℤ → List ℤ
release_at k j l = cond (holds_in l j k) (put l (seat_place j + hook_place) retracted_numbers) l

-- every seat's
unfoldable pub release_in : List ℤ → ℕ → List ℤ
release_in l k = fold (release_at k) seats 0 l

-- whoever was at k is gone
unfoldable pub vacate_in : List ℤ → ℕ → List ℤ
vacate_in l k = put (release_in l k) (seat_place k) (replicate seat_count (pos 0))

-- as many ids as r counts are listed, each of a seat
pub record ListsSeats (r : Removed) : Type 0 where
  pub few : r.count ≤ seats
  pub seat : (i : ℕ) → i < r.count → place_of seats (number_at r.ids i) < seats

-- each in turn
abbrev pub remove_in : List ℤ → List ℕ → List ℤ
remove_in l [] = l
remove_in l (k ∷ ks) = remove_in (vacate_in l k) ks
