use Prim.Native.Nat.{ℕ, suc, ◌^◌, ◌<◌}
use mathlib.Core.Bool.{Bool}
use mathlib.Core.List.{List}
use mathlib.Core.Path.{◌≡◌, sym, ap, ◌∙◌, subst}
use native.Mathlib.Omega.{arith}
use lib.IntN.{ℤ, pos, ◌+ℤ◌}
use lib.ListN.{length, set, length-set}
use native.Mathlib.Numerals.{add-one}
use mir.Facts.{to_z-of_z}
use mir.Syntax.{w32}
use mir.Val.{SFits, to_z, of_z}
use borrow.Author.Tests.{lt-ltb}
use Rattle.base_rows.proofs.Puts.{put_end}
use Rattle.base_turns.proofs.Loop.{Left, turn_first}
use Rattle.character.specs.Tick.{seats}
use Rattle.world_numbers.specs.Decoding.{decoding}
use Rattle.search_rule.specs.Ways.{longest}
use Rattle.search_rule.specs.Search.{first_among}
use Rattle.search_calls.specs.Numbers.{way_count, found_in}
use Rattle.search_calls.proofs.Turns.{zeros, lengths, way_turns, way-written, none-longer, none_written}
use Rattle.search_calls.proofs.searching.tell_way.Goals.{After-way-in-loop-more-1}
use Rattle.search_calls.proofs.searching.tell_way.Goals as goal

-- how many steps the way has, as its bits say
module _ (m : ℕ) (h : m < longest) where
  fits : SFits w32 (pos m)
  fits = record { sfits = omega arith }

  value : to_z w32 m ≡ pos m
  value = rw (lt-ltb m (2 ^ 31) (omega arith))

  fits_more : SFits w32 (to_z w32 m +ℤ pos 1)
  fits_more = rw value (record { sfits = omega arith })

  told : to_z w32 (of_z w32 (to_z w32 m +ℤ pos 1)) ≡ pos (suc m)
  told = to_z-of_z fits_more ∙ ap (λ (z : ℤ). z +ℤ pos 1) value ∙ ap pos (add-one m)

pub copy-requires : goal.copy-requires
copy-requires c = omega (arith, c.requires.2)

pub loop-more-init : goal.loop-more-init
loop-more-init c =
    let a = c.args in
    let w = decoding seats a.world.now in
    (c.copy.ensures ∙ put_end a.way.now 0 _ (omega (arith, c.requires.2)), subst (Left (lengths a.sides a.tiles.now a.goal w) longest 0 tt) (way_turns a.sides a.tiles.now a.goal w) turn_first)

pub first_of-requires : goal.first_of-requires
first_of-requires c = let e = ap length c.loop-more.invariant.0 in (c.requires.0, c.requires.1, omega (arith, e, c.loop-more-test.true))

-- what is found, where the numbers before were zeros
found_is : (c : After-way-in-loop-more-1) → let a = c.args in found_in (zeros a.sides a.tiles.now a.goal) 1 (first_among seats a.sides a.tiles.now a.goal c.loop-more.more (decoding seats a.world.now)) ≡ record { found = c.first_of.result; way = c.first_of.new.way }
found_is c = ap (λ (l : List ℤ). found_in l 1 (first_among seats c.args.sides c.args.tiles.now c.args.goal c.loop-more.more (decoding seats c.args.world.now))) (sym c.loop-more.invariant.0) ∙ c.first_of.ensures

long : (c : After-way-in-loop-more-1) → length c.first_of.new.way ≡ way_count
long c = c.way-in-loop-more-1.given ∙ ap length c.loop-more.invariant.0

pub overflow_cast-way : goal.overflow_cast-way
overflow_cast-way c = fits c.loop-more.more c.loop-more-test.true

pub overflow_add-way : goal.overflow_add-way
overflow_add-way c = fits_more c.loop-more.more c.loop-more-test.true

pub bounds-way-0 : goal.bounds-way-0
bounds-way-0 c = let l = long (record { before = c.before.before; type_inv = record { tiles = c.type_inv.tiles } }) in omega (arith, l)

pub shape_of-way-then-first_of : goal.shape_of-way-then-first_of
shape_of-way-then-first_of c = length-set c.first_of.new.way 0 _ ∙ long (record { before = c.before.before; type_inv = record { tiles = c.type_inv.tiles } }) ∙ sym c.requires.2

pub returns-then-first_of : goal.returns-then-first_of
returns-then-first_of c =
    let d = c.before.before in
    let a = d.args in
    let l = d.loop-more in
    ap (set d.first_of.new.way 0) (told l.more d.loop-more-test.true) ∙ way-written a.sides a.tiles.now a.goal l.more (decoding seats a.world.now) _ l.invariant.1 _ d.loop-more-test.true (found_is (record { before = d; type_inv = record { tiles = c.type_inv.tiles } }) ∙ ap (λ (y : Bool). record { found = y; way = d.first_of.new.way }) c.if-first_of.true) (long (record { before = d; type_inv = record { tiles = c.type_inv.tiles } }))

pub loop-more-preserved : goal.loop-more-preserved
loop-more-preserved c =
    let d = c.before.before in
    let a = d.args in
    let l = d.loop-more in
    none-longer a.sides a.tiles.now a.goal l.more (decoding seats a.world.now) _ l.invariant.1 _ d.loop-more-test.true (found_is (record { before = d; type_inv = record { tiles = c.type_inv.tiles } }) ∙ ap (λ (y : Bool). record { found = y; way = d.first_of.new.way }) c.if-first_of.false)

pub shape_of-way : goal.shape_of-way
shape_of-way c = ap length c.loop-more.invariant.0 ∙ sym c.requires.2

pub returns : goal.returns
returns c =
    let a = c.args in
    let l = c.loop-more in
    l.invariant.0 ∙ none_written a.sides a.tiles.now a.goal l.more (decoding seats a.world.now) _ l.invariant.1 c.loop-more-test.false
