use Prim.Native.Nat.{ℕ, ◌<◌}
use mathlib.Core.Path.{◌≡◌, refl, sym, ap, ap₂, ◌∙◌, subst}
use native.Mathlib.Omega.{arith}
use lib.ListN.{length}
use borrow.Author.Rules.{rules}
use Rattle.num_convert.proofs.Signed.{read}
use Rattle.game_records.specs.Numbers.{number_at}
use Rattle.game_records.proofs.Bits.{again}
use Rattle.character.specs.Tick.{seats}
use Rattle.world.specs.Calls.{place_of}
use Rattle.world_numbers.specs.Encoding.{world_count, seat_place}
use Rattle.world_numbers.specs.Decoding.{is_set}
use Rattle.world_buffers.specs.Buffers.{input_in}
use Rattle.world.proofs.Numbered.{accepted, declined}
use Rattle.search_calls.specs.Steps.{record_is_at}
use Rattle.search_calls.proofs.Steps.{took, not-took}
use Rattle.search_calls.proofs.stepping.step_with.Goals as goal

pub record_is_at-requires : goal.record_is_at-requires
record_is_at-requires c =
    let seat : c.place_of-at.result ≡ place_of seats c.args.goal.id = c.place_of-at.ensures ∙ ap (place_of seats) (read c.args.goal.id c.struct_told-2-1.given.0.1) in
    let within : c.place_of-at.result < seats = subst (λ (k : ℕ). k < seats) (sym seat) c.requires.2 in
    (c.records-2-1.given, within)

pub seat_place-requires : goal.seat_place-requires
seat_place-requires c =
    let seat : c.place_of-at.result ≡ place_of seats c.args.goal.id = c.place_of-at.ensures ∙ ap (place_of seats) (read c.args.goal.id c.struct_told-2-1.given.0.1) in
    let within : c.place_of-at.result < seats = subst (λ (k : ℕ). k < seats) (sym seat) c.requires.2 in
    within

pub offset_bounds-world-seat_place : goal.offset_bounds-world-seat_place
offset_bounds-world-seat_place c =
    let seat : c.place_of-at.result ≡ place_of seats c.args.goal.id = c.place_of-at.ensures ∙ ap (place_of seats) (read c.args.goal.id c.struct_told-2-1.given.0.1) in
    let within : c.place_of-at.result < seats = subst (λ (k : ℕ). k < seats) (sym seat) c.requires.2 in
    record { fits = omega (arith, within, c.seat_place.ensures) }

pub slice_copy_out-is_set : goal.slice_copy_out-is_set
slice_copy_out-is_set c =
    let seat : c.place_of-at.result ≡ place_of seats c.args.goal.id = c.place_of-at.ensures ∙ ap (place_of seats) (read c.args.goal.id c.struct_told-2-1.given.0.1) in
    let within : c.place_of-at.result < seats = subst (λ (k : ℕ). k < seats) (sym seat) c.requires.2 in
    let long : length c.input_in.new.world ≡ world_count = c.world-1.given ∙ c.requires.0 in
    omega (arith, within, c.seat_place.ensures, c.world-2-1.given, long)

pub returns-then-is_err : goal.returns-then-is_err
returns-then-is_err c =
    let a = c.args in
    let p = c.requires in
    let stored = ap₂ (input_in a.world.now) (sym (read a.goal.id c.struct_told-1.given.0.1)) (sym c.input_with.ensures) ∙ c.input_in.ensures in
    let long : length c.input_in.new.world ≡ world_count = c.world-1.given ∙ p.0 in
    not-took a.sides a.tiles.now a.goal a.buttons a.world.now p.0 p.1 _ _ stored long _ (search rules) (search rules) _ (c.step_in.ensures 0) (c.world-2-1.given ∙ long) p.2 _ (declined c.step_in.result (sym c.is_err.ensures.value ∙ c.if-is_err.true)) refl refl

pub returns : goal.returns
returns c =
    let a = c.args in
    let p = c.requires in
    let stored = ap₂ (input_in a.world.now) (sym (read a.goal.id c.struct_told-1.given.0.1)) (sym c.input_with.ensures) ∙ c.input_in.ensures in
    let long : length c.input_in.new.world ≡ world_count = c.world-1.given ∙ p.0 in
    let seat : c.place_of-at.result ≡ place_of seats c.args.goal.id = c.place_of-at.ensures ∙ ap (place_of seats) (read c.args.goal.id c.struct_told-2-1.given.0.1) in
    took a.sides a.tiles.now a.goal a.buttons a.world.now p.0 p.1 _ _ stored long _ (search rules) (search rules) _ (c.step_in.ensures 0) (c.world-2-1.given ∙ long) p.2 _ (accepted c.step_in.result (sym c.is_err.ensures.value ∙ c.if-is_err.false)) c.records-2-1.given
    (c.record_is_at.ensures ∙ ap (λ (k : ℕ). record_is_at c.step_in.new.records k a.goal) seat)
    (c.is_set.ensures ∙ ap is_set (again c.is_set-arg-1.given ∙ ap (number_at c.step_in.new.world) (c.seat_place.ensures ∙ ap seat_place seat)))
