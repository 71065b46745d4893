use Prim.Native.Nat.{ℕ, ◌≤◌}
use mathlib.Core.Path.{◌≡◌, refl}
use mathlib.Core.List.{List}
use native.Mathlib.Nat.{le_trans, lt_of_le_of_lt, mul-le-mul}
use native.Mathlib.Omega.{arith}
use lib.Dec.{lit<}
use lib.ListN.{length, take}
use lib.Seq.{length-take-le}
use Rattle.text_map.specs.Map.{most_tiles}
use Rattle.text_map.specs.Reading.{MapAt}
use Rattle.text_map.proofs.Heads.{name_read, name_fault}
use Rattle.text_map.proofs.Maps.{too_long, head_absent, head_read, too_many, tiles_absent, tiles_read, tiles_fault, names-absent, a-map}
use Rattle.text_map.proofs.map_text.read_map.Goals as goal

filled : {n : ℕ} (d e : List ℕ) → n ≤ most_tiles → most_tiles ≤ length d → length e ≡ length d → length (take n e) ≡ n
filled {n} d e h m k = length-take-le n e (omega arith)

pub returns-then-text-gt-MOST_BYTES : goal.returns-then-text-gt-MOST_BYTES
returns-then-text-gt-MOST_BYTES c = too_long _ _ c.if-text-gt-MOST_BYTES.true

pub returns-in_err-width : goal.returns-in_err-width
returns-in_err-width c = rw c.from_residual.ensures (head_absent _ _ refl c.in_err-width.ensures)

pub overflow_mul-width : goal.overflow_mul-width
overflow_mul-width c =
    let i = head_read _ _ _ _ refl c.in_ok-width.ensures in
    record { fits = lt_of_le_of_lt (mul-le-mul i.0.1 i.1.1) (lit< tt) }

pub returns-then-width-height-gt-MOST_TILES : goal.returns-then-width-height-gt-MOST_TILES
returns-then-width-height-gt-MOST_TILES c =
    let i = head_read _ _ _ _ refl c.in_ok-width.ensures in
    too_many _ _ _ _ i.0 i.1 i.2 _ c.if-width-height-gt-MOST_TILES.true

pub read_tiles-requires : goal.read_tiles-requires
read_tiles-requires c =
    let i = head_read _ _ _ _ refl c.in_ok-width.ensures in
    (i.0.0, le_trans c.if-width-height-gt-MOST_TILES.false c.requires)

pub returns-in_err-past : goal.returns-in_err-past
returns-in_err-past c =
    let i = head_read _ _ _ _ refl c.in_ok-width.ensures in
    rw c.from_residual-in_err-past.ensures (tiles_absent _ _ _ _ i.0 i.1 i.2 _ (tiles_fault _ _ _ _ _ refl c.in_err-past.ensures))

pub returns-in_err-next : goal.returns-in_err-next
returns-in_err-next c =
    let i = head_read _ _ _ _ refl c.in_ok-width.ensures in
    let t = tiles_read _ _ _ _ _ _ refl c.in_ok-past.ensures in
    rw c.from_residual-in_err-next.ensures (names-absent _ _ _ _ i.0 i.1 i.2 _ _ (filled c.args.tiles.now _ c.if-width-height-gt-MOST_TILES.false c.requires c.read_tiles.auto.tiles) t.0 t.1 _ (name_fault _ _ _ refl c.in_err-next.ensures))

pub returns : goal.returns
unfolding MapAt
returns c =
    let i = head_read _ _ _ _ refl c.in_ok-width.ensures in
    let t = tiles_read _ _ _ _ _ _ refl c.in_ok-past.ensures in
    let m = a-map _ _ _ _ i.0 i.1 i.2 _ _ (filled c.args.tiles.now _ c.if-width-height-gt-MOST_TILES.false c.requires c.read_tiles.auto.tiles) t.0 t.1 _ (name_read _ _ _ _ refl c.in_ok-next.ensures) in
    (c.if-text-gt-MOST_BYTES.false, m.0, m.1)
