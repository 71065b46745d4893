-- A trial on the numbers of a world in place. Definitions only.
use Rattle.std.specs.Prelude.{ℕ, ◌+◌, ◌*◌, cond, List, ◌≡◌, ℤ, pos, length, Result, Ok, Err}
use Rattle.base_turns.specs.Turns.{Turn, more, stop, fold}
use Rattle.game_refusals.specs.Refusals.{number_of}
use Rattle.game_refusals.specs.declared.Refusal.{Refusal}
use Rattle.num_convert.specs.Convert.{i32_to_f32}
use Rattle.map_corners.specs.Tile.{tile_at}
use Rattle.map_tiles.specs.declared.tiles.Sides.{Sides}
use Rattle.game_records.specs.Numbers.{number_at}
use Rattle.game_records.specs.declared.PlayerInput.{PlayerInput}
use Rattle.character.specs.Tick.{seats}
use Rattle.world.specs.Run.{input_of}
use Rattle.world.specs.Settled.{Settled}
use Rattle.world.specs.declared.Published.{Published}
use Rattle.world_numbers.specs.Encoding.{record_count, seat_place, flag, encoding, records_encoding}
use Rattle.world_numbers.specs.Decoding.{is_set, decoding}
use Rattle.world_buffers.specs.Buffers.{input_in}
use Rattle.trial_rule.specs.Trial.{Trying, player_at, towards, noted}
use Rattle.trial_rule.specs.declared.Player.{Player}

-- where x and y stand among the numbers of a seat, behind its presence and its tick
abbrev pub x_place : ℕ
x_place = 2

abbrev pub y_place : ℕ
y_place = 3

-- the numbers of a world as calls can reach one
pub record IsWorld (l : List ℤ) : Type 0 where
  pub numbers : encoding (decoding seats l) ≡ l
  pub settled : Settled seats (decoding seats l)

-- the input of a player at x
unfoldable pub trial_input : Sides → Player → ℤ → PlayerInput
trial_input s p x = input_of (towards (tile_at s.width (i32_to_f32 x)) p.column) (pos 0) (pos 0) (flag p.stayed) (pos 0)

-- given to the seat j; refused, and so nothing, where nobody is there
unfoldable pub steered_at : Sides → Player → ℕ → List ℤ → List ℤ
steered_at s p j l = (input_in l (pos j) (trial_input s p (number_at l (seat_place j + x_place)))).world

-- to every seat
unfoldable pub steered_all : Sides → List Player → List ℤ → List ℤ
steered_all s ps l = fold (λ j. steered_at s (player_at ps j) j) seats 0 l

-- what the numbers of a step's records make of the player of the seat j
unfoldable pub noted_at : Sides → ℕ → List ℤ → ℕ → Player → Player
noted_at s k l j p = let at = record_count * j in cond (is_set (number_at l at)) (noted s k (number_at l (at + x_place)) (number_at l (at + y_place)) p) p

-- P of the records that the numbers l are of
abbrev pub RecordsOf : List ℤ → (List Published → Type 0) → Type 0
RecordsOf l P = (rs : List Published) → length rs ≡ seats → l ≡ records_encoding rs → P rs

-- what joins leave: the numbers of the world and the players, or a refusal
abbrev pub Enters : Turn Trying ℕ → Result (List Player) Refusal → List ℤ → Type 0
Enters (more t) (Ok players) l = IsWorld l × (t ≡ record { world = decoding seats l; players = players })
Enters (more t) (Err refusal) l = ⊥
Enters (stop k) (Ok players) l = ⊥
Enters (stop k) (Err refusal) l = number_of refusal ≡ k
