use mathlib.Core.Path.{◌≡◌, sym, ap, ap₂, ◌∙◌}
use mathlib.Core.List.{List}
use Prim.Native.Nat.{ℕ}
use lib.IntN.{ℤ}
use Rattle.base_rows.specs.Put.{put}
use Rattle.map_tiles.specs.Box.{check_box, character_box}
use Rattle.game_records.specs.Numbers.{number_at}
use Rattle.game_records.proofs.Bits.{again}
use Rattle.world_numbers.specs.Encoding.{present_numbers}
use Rattle.world_numbers.specs.Decoding.{is_set}
use Rattle.world_buffers.specs.Buffers.{is_there}
use Rattle.world_buffers.proofs.Answers.{blocked, taken, seated}
use Rattle.world_buffers.proofs.buffers.join_at_in.Goals.{After-check_box, After-is_set}
use Rattle.world_buffers.proofs.buffers.join_at_in.Goals as goal

box_is : (c : After-check_box) → c.check_box.result ≡ check_box c.args.sides c.args.tiles.now c.args.pos character_box
box_is c = c.check_box.ensures ∙ ap (check_box c.args.sides c.args.tiles.now c.args.pos) c.new-box_.ensures

-- what the code asks of the seat
there_is : (c : After-is_set) → c.is_set.result ≡ is_there c.args.world.now c.args.at
there_is c = c.is_set.ensures ∙ ap is_set (again c.is_set-arg-1.given ∙ ap (number_at c.args.world.now) c.seat_place-place.ensures)

pub returns-then-check_box : goal.returns-then-check_box
returns-then-check_box c = let a = c.args in blocked a.sides a.tiles.now a.world.now a.at a.pos (sym (box_is (record { before = c.before.before; type_inv = record { tiles = c.type_inv.tiles } })) ∙ c.if-check_box.true)

pub returns-then-is_set : goal.returns-then-is_set
returns-then-is_set c = let a = c.args in taken a.sides a.tiles.now a.world.now a.at a.pos (sym (box_is (record { before = c.before.before.before.before.before.before; type_inv = record { tiles = c.type_inv.tiles } })) ∙ c.if-check_box.false) (sym (there_is (record { before = c.before.before; type_inv = record { tiles = c.type_inv.tiles } })) ∙ c.if-is_set.true)

pub returns : goal.returns
returns c =
    let a = c.args in
    let y = c.copy in
    let r = c.present_numbers-row.ensures ∙ ap present_numbers c.joined.ensures in
    seated a.sides a.tiles.now a.world.now a.at a.pos (sym (box_is (record { before = c.before.before.before.before.before.before.before.before.before.before.before.before; type_inv = record { tiles = c.type_inv.tiles } })) ∙ c.if-check_box.false) y.new.numbers (sym (there_is (record { before = c.before.before.before.before.before.before.before.before; type_inv = record { tiles = c.type_inv.tiles } })) ∙ c.if-is_set.false) (y.ensures ∙ ap₂ (λ (at : ℕ) (row : List ℤ). put a.world.now at row) c.seat_place-place.ensures r)
