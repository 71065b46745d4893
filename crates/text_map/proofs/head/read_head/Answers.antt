use mathlib.Core.Path.{refl}
use Rattle.text_map.proofs.Heads.{name_read, name_fault, side_read, side_fault, no_names, no-width, no-height, no-tiles, a-head}
use Rattle.text_map.proofs.head.read_head.Goals as goal

pub returns-in_err-p : goal.returns-in_err-p
returns-in_err-p c = rw c.from_residual.ensures (no_names _ (name_fault _ _ _ refl c.in_err-p.ensures))

pub returns-in_err-width : goal.returns-in_err-width
returns-in_err-width c = rw c.from_residual-in_err-width.ensures (no-width _ _ (name_read _ _ _ _ refl c.in_ok-p.ensures) (side_fault _ _ _ refl c.in_err-width.ensures))

pub returns-in_err-height : goal.returns-in_err-height
returns-in_err-height c =
    let p = name_read _ _ _ _ refl c.in_ok-p.ensures in
    let w = side_read _ _ _ _ _ refl c.in_ok-width.ensures in
    rw c.from_residual-in_err-height.ensures (no-height _ _ p _ _ w.0 w.1 (side_fault _ _ _ refl c.in_err-height.ensures))

pub returns-in_err-at : goal.returns-in_err-at
returns-in_err-at c =
    let p = name_read _ _ _ _ refl c.in_ok-p.ensures in
    let w = side_read _ _ _ _ _ refl c.in_ok-width.ensures in
    let h = side_read _ _ _ _ _ refl c.in_ok-height.ensures in
    rw c.from_residual-in_err-at.ensures (no-tiles _ _ p _ _ w.0 w.1 _ _ h.0 h.1 (name_fault _ _ _ refl c.in_err-at.ensures))

pub returns : goal.returns
returns c =
    let p = name_read _ _ _ _ refl c.in_ok-p.ensures in
    let w = side_read _ _ _ _ _ refl c.in_ok-width.ensures in
    let h = side_read _ _ _ _ _ refl c.in_ok-height.ensures in
    a-head _ _ p _ _ w.0 w.1 _ _ h.0 h.1 _ (name_read _ _ _ _ refl c.in_ok-at.ensures)
