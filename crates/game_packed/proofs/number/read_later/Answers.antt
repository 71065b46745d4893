use Prim.Native.Nat.{ℕ, ◌+◌, ◌-◌, ◌*◌, ◌%◌, ◌<◌}
use mathlib.Core.Bool.{Bool, false}
use mathlib.Core.List.{List, ◌∷◌}
use mathlib.Core.Path.{◌≡◌, sym, ap, ap₂, ◌∙◌, subst}
use native.Mathlib.Numerals.{add-one}
use native.Mathlib.Omega.{arith}
use lib.IntN.{ℤ}
use lib.ListN.{length, get_or, drop, drop_of_length-le}
use lib.Seq.{drop-cons}
use Rattle.std.specs.Prelude.{Ok}
use Rattle.num_convert.proofs.Signed.{held}
use Rattle.game_packed.specs.Unpacked.{IntRead, is_wrong, later_read}
use Rattle.game_packed.proofs.Later.{later_ends, later_wrong, later_last, scale_of, not_fifth, goes_on_lem}
use Rattle.game_packed.proofs.number.read_later.Goals as goal

-- at a byte
there : (later : List ℕ) (negative : Bool) (left i place value scale : ℕ) {e : IntRead} → later_read negative left (drop i later) place value scale ≡ e → i < length later → later_read negative left (get_or later i 0 ∷ drop (i + 1) later) place value scale ≡ e
there later negative left i place value scale h l = ap (λ (s : List ℕ). later_read negative left s place value scale) (sym (drop-cons later i 0 l ∙ ap (λ (n : ℕ). get_or later i 0 ∷ drop n later) (sym (add-one i)))) ∙ h

pub returns-then-is_wrong : goal.returns-then-is_wrong
returns-then-is_wrong c =
    let l = c.loop-i in
    let negative = c.args.negative in
    let later = c.args.later.now in
    let byte = ap (λ (b : ℕ). is_wrong (3 - l.i) b) (sym c.from-b.ensures) ∙ sym c.is_wrong.ensures ∙ c.if-is_wrong.true in
    sym (later_wrong negative _ (c.args.at + l.i) l.value l.scale (3 - l.i) (get_or later l.i 0) byte) ∙ there later negative (3 - l.i) l.i (c.args.at + l.i) l.value l.scale l.invariant.read c.loop-i-test.true

pub returns-then-b-lt128 : goal.returns-then-b-lt128
returns-then-b-lt128 c =
    let l = c.loop-i in
    let negative = c.args.negative in
    let later = c.args.later.now in
    let place = c.args.at + l.i in
    let b = c.from-b.result in
    let right : is_wrong (3 - l.i) b ≡ false = sym c.is_wrong.ensures ∙ c.if-is_wrong.false in
    let here = ap (λ (x : ℕ). later_read negative (3 - l.i) (x ∷ drop (l.i + 1) later) place l.value l.scale) c.from-b.ensures ∙ there later negative (3 - l.i) l.i place l.value l.scale l.invariant.read c.loop-i-test.true in
    ap (λ (z : ℤ). Ok (z, place + 1)) (held c.signed.result c.signed.type_inv c.signed.ensures) ∙ sym (later_last negative _ place l.value l.scale (3 - l.i) b right c.if-b-lt128.true) ∙ here

pub loop-i-preserved : goal.loop-i-preserved
loop-i-preserved c =
    let l = c.loop-i in
    let negative = c.args.negative in
    let later = c.args.later.now in
    let place = c.args.at + l.i in
    let b = c.from-b.result in
    let right : is_wrong (3 - l.i) b ≡ false = sym c.is_wrong.ensures ∙ c.if-is_wrong.false in
    let here = ap (λ (x : ℕ). later_read negative (3 - l.i) (x ∷ drop (l.i + 1) later) place l.value l.scale) c.from-b.ensures ∙ there later negative (3 - l.i) l.i place l.value l.scale l.invariant.read c.loop-i-test.true in
    let less = not_fifth (3 - l.i) b right c.if-b-lt128.false in
    let g = goes_on_lem negative (drop (l.i + 1) later) place l.value l.scale (3 - l.i) b right c.if-b-lt128.false (omega arith) l.invariant.scaled l.invariant.small here in
    let left : 3 - l.i - 1 ≡ 3 - (l.i + 1) = omega arith in
    let next : place + 1 ≡ c.args.at + (l.i + 1) = omega arith in
    record {
      read = ap₂ (λ (k n : ℕ). later_read negative k (drop (l.i + 1) later) n (l.value + b % 128 * l.scale) (l.scale * 128)) (sym left) (sym next) ∙ g.0;
      most = omega arith;
      scaled = g.2 ∙ ap scale_of left;
      small = subst (λ (k : ℕ). l.value + b % 128 * l.scale < scale_of k) left g.3;
    }

pub returns : goal.returns
returns c =
    let l = c.loop-i in
    let negative = c.args.negative in
    let later = c.args.later.now in
    sym (later_ends negative (3 - l.i) (c.args.at + l.i) l.value l.scale) ∙ ap (λ (s : List ℕ). later_read negative (3 - l.i) s (c.args.at + l.i) l.value l.scale) (sym (drop_of_length-le later c.loop-i-test.false)) ∙ l.invariant.read
