-- What a step's records make of the players, read from their numbers. Assumes nothing.
use Prim.Native.Nat.{ℕ, ◌+◌, ◌*◌, ◌<◌}
use mathlib.Core.Bool.{Bool, true, false, cond}
use mathlib.Core.List.{List}
use mathlib.Core.Path.{◌≡◌, refl, sym, ap, ◌∙◌}
use native.Mathlib.Omega.{arith}
use lib.IntN.{ℤ, pos}
use lib.ListN.{length, drop, set}
use lib.Seq.{get_or-drop, get_or-take, set-get_or}
use Rattle.map_tiles.specs.declared.tiles.Sides.{Sides}
use Rattle.game_records.specs.Numbers.{number_at, core_numbers}
use Rattle.world.specs.Demand3.{record_at}
use Rattle.world.specs.Step.{unpublished}
use Rattle.world.specs.declared.Published.{Published}
use Rattle.world_numbers.specs.Encoding.{record_count, record_numbers, records_encoding}
use Rattle.world_numbers.specs.Decoding.{is_set}
use Rattle.world_numbers.proofs.Encoded.{flag-back}
use Rattle.world_numbers.proofs.Rows.{record_long}
use Rattle.world_numbers.proofs.Written.{each_row}
use Rattle.trial_rule.specs.Trial.{player_at, no_player, noted, note_turn}
use Rattle.trial_rule.specs.declared.Player.{Player}
use Rattle.trial_runs.specs.InPlace.{x_place, y_place, noted_at}

module _ (rs : List Published) (j : ℕ) (h : j < length rs) where
  -- the k-th number of the record of a seat
  number_in : (k : ℕ) → k < record_count → number_at (records_encoding rs) (record_count * j + k) ≡ number_at (record_numbers (record_at rs j)) k
  unfolding records_encoding
  number_in k q =
      let l = records_encoding rs in
      sym (get_or-take record_count (drop (record_count * j) l) k (pos 0) q ∙ get_or-drop (record_count * j) l k (pos 0))
      ∙ ap (λ (r : List ℤ). number_at r k) (each_row record_numbers record_count unpublished record_long rs j h)

  present_in : is_set (number_at (records_encoding rs) (record_count * j)) ≡ (record_at rs j).present
  unfolding record_numbers
  present_in = ap (λ (k : ℕ). is_set (number_at (records_encoding rs) k)) (omega arith) ∙ ap is_set (number_in 0 (omega arith)) ∙ flag-back (record_at rs j).present

  x_in : number_at (records_encoding rs) (record_count * j + x_place) ≡ (record_at rs j).core.x
  unfolding record_numbers core_numbers
  x_in = number_in x_place (omega arith)

  y_in : number_at (records_encoding rs) (record_count * j + y_place) ≡ (record_at rs j).core.y
  unfolding record_numbers core_numbers
  y_in = number_in y_place (omega arith)

  pub turn_is : (s : Sides) (k : ℕ) (ps : List Player) → set ps j (noted_at s k (records_encoding rs) j (player_at ps j)) ≡ note_turn s k rs j ps
  unfolding noted_at
  turn_is s k ps = rw (present_in, x_in, y_in) (go (record_at rs j).present)
    where
      p : Player
      p = noted s k (record_at rs j).core.x (record_at rs j).core.y (player_at ps j)

      go : (b : Bool) → set ps j (cond b p (player_at ps j)) ≡ cond b (set ps j p) ps
      go true = refl
      go false = set-get_or ps j no_player
