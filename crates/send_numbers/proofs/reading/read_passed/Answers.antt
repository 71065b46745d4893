use mathlib.Core.Bool.{true, false}
use mathlib.Core.Path.{◌≡◌, refl, sym, ◌∙◌}
use native.Mathlib.Omega.{arith}
use lib.Dec.{eqb}
use lib.ListN.{length}
use mir.Syntax.{w32}
use mir.Val.{of_z}
use Rattle.game_records.specs.Numbers.{number_at}
use Rattle.send_numbers.specs.Reading.{read_passed}
use Rattle.send_numbers.proofs.Readings.{is_kind_lem, not_kind}
use Rattle.send_numbers.proofs.reading.read_passed.Goals as goal

pub returns-then-is_empty : goal.returns-then-is_empty
unfolding read_passed
returns-then-is_empty c = let e : eqb (length c.args.numbers.now) 0 ≡ true = sym c.is_empty.ensures ∙ c.if-is_empty.true in rw e refl

pub returns-in-0 : goal.returns-in-0
unfolding read_passed
returns-in-0 c =
    let l = c.args.numbers.now in
    let some : eqb (length l) 0 ≡ false = sym c.is_empty.ensures ∙ c.if-is_empty.false in
    let q : of_z w32 (number_at l 0) ≡ 0 = omega arith in
    rw (some, is_kind_lem 0 l c.kind-1.given refl q) refl

pub returns-in-1 : goal.returns-in-1
unfolding read_passed
returns-in-1 c =
    let l = c.args.numbers.now in
    let some : eqb (length l) 0 ≡ false = sym c.is_empty.ensures ∙ c.if-is_empty.false in
    let q : of_z w32 (number_at l 0) ≡ 1 = omega arith in
    rw (some, not_kind 0 l c.kind-1.given refl (λ e. omega (arith, q)), is_kind_lem 1 l c.kind-1.given refl q) c.read_message.ensures

pub returns-in-2 : goal.returns-in-2
unfolding read_passed
returns-in-2 c =
    let l = c.args.numbers.now in
    let some : eqb (length l) 0 ≡ false = sym c.is_empty.ensures ∙ c.if-is_empty.false in
    let q : of_z w32 (number_at l 0) ≡ 2 = omega arith in
    rw (some, not_kind 0 l c.kind-1.given refl (λ e. omega (arith, q)), not_kind 1 l c.kind-1.given refl (λ e. omega (arith, q)), is_kind_lem 2 l c.kind-1.given refl q) c.read_removal.ensures

pub returns-in-3 : goal.returns-in-3
unfolding read_passed
returns-in-3 c =
    let l = c.args.numbers.now in
    let some : eqb (length l) 0 ≡ false = sym c.is_empty.ensures ∙ c.if-is_empty.false in
    let q : of_z w32 (number_at l 0) ≡ 3 = omega arith in
    rw (some, not_kind 0 l c.kind-1.given refl (λ e. omega (arith, q)), not_kind 1 l c.kind-1.given refl (λ e. omega (arith, q)), not_kind 2 l c.kind-1.given refl (λ e. omega (arith, q)), is_kind_lem 3 l c.kind-1.given refl q) c.read_leave.ensures

pub returns-in-4 : goal.returns-in-4
unfolding read_passed
returns-in-4 c =
    let l = c.args.numbers.now in
    let some : eqb (length l) 0 ≡ false = sym c.is_empty.ensures ∙ c.if-is_empty.false in
    let q : of_z w32 (number_at l 0) ≡ 4 = omega arith in
    rw (some, not_kind 0 l c.kind-1.given refl (λ e. omega (arith, q)), not_kind 1 l c.kind-1.given refl (λ e. omega (arith, q)), not_kind 2 l c.kind-1.given refl (λ e. omega (arith, q)), not_kind 3 l c.kind-1.given refl (λ e. omega (arith, q)), is_kind_lem 4 l c.kind-1.given refl q) c.read_tune.ensures

pub returns-in_default : goal.returns-in_default
unfolding read_passed
returns-in_default c =
    let l = c.args.numbers.now in
    let some : eqb (length l) 0 ≡ false = sym c.is_empty.ensures ∙ c.if-is_empty.false in
    rw (some, not_kind 0 l c.kind-1.given refl (λ e. omega arith), not_kind 1 l c.kind-1.given refl (λ e. omega arith), not_kind 2 l c.kind-1.given refl (λ e. omega arith), not_kind 3 l c.kind-1.given refl (λ e. omega arith), not_kind 4 l c.kind-1.given refl (λ e. omega arith)) refl
