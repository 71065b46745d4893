use mir.Facts.{to_z-of_z}
use mathlib.Core.Bool.{cond}
use mathlib.Core.List.{List, [], ◌∷◌}
use mathlib.Core.Path.{◌≡◌, refl, ap, ap₂, ◌∙◌}
use Rattle.std.specs.Prelude.{replicate}
use Rattle.world.specs.Step.{unpublished}
use Prim.Native.Nat.{ℕ, ◌≤◌}
use native.Mathlib.Omega.{arith}
use lib.Dec.{eqb}
use lib.IntN.{ℤ, pos}
use lib.ListN.{length}
use borrow.Author.Tests.{ne_eqb}
use Rattle.num_convert.specs.Casts.{cast_signed}
use Rattle.character.specs.Tick.{seats}
use mir.Syntax.{w32}
use mir.Val.{to_z}
use Rattle.game_refusals.specs.Refusals.{number_of}
use Rattle.game_refusals.specs.declared.Refusal.{Refusal}
use Rattle.text_writing.specs.Output.{answer_bytes}
use Rattle.text_writing.specs.Put.{Put}
use Rattle.text_writing.proofs.Sizes.{put_as, put-after}
use Rattle.text_writing.specs.Answers.{record_lines, told_bytes}
use Rattle.text_writing.proofs.Unrecorded.{no_lines, number_as_signed}
use Rattle.text_writing.proofs.answers.put_told.Goals as goal

-- no record: the place is as before, and the answer stands there
none_told : {d e f : List ℕ} {at end next : ℕ} (l a : List ℕ) → at ≤ length d → end ≡ at → Put d at l e end → Put e at a f next → Put d at (cond (eqb (length l) 0) a l) f next
none_told [] a h q p r = put-after h p (rw q r)
none_told (x ∷ l) a h q p r = let z = p.place in absurd (omega arith)

some_told : {d e : List ℕ} {at end : ℕ} (l a : List ℕ) → (end ≡ at → ⊥) → Put d at l e end → Put d at (cond (eqb (length l) 0) a l) e end
some_told l a h p = rw (ne_eqb (length l) 0 (λ q. h (p.place ∙ omega arith))) p

refused_told : (call : ℤ) (r : Refusal) → answer_bytes call (to_z w32 (number_of r)) ≡ told_bytes seats call (record { number = number_of r; records = replicate seats unpublished; removed = [] })
unfolding told_bytes
refused_told call r = rw (no_lines seats call, number_as_signed r) refl

pub returns-then-end-at : goal.returns-then-end-at
unfolding told_bytes cast_signed
returns-then-end-at c = λ w.
    let a = c.args in
    let rs = c.in-Ok.told.records in
    rw c.in-Ok.is (none_told (record_lines seats a.call rs) (answer_bytes a.call (pos 0)) (omega (arith, c.requires)) c.if-end-at.true
    (put_as (ap (λ (z : ℤ). record_lines seats z rs) (to_z-of_z c.ranges.call)) refl c.put_records-end.ensures)
    (put_as (ap (λ (z : ℤ). answer_bytes z (pos 0)) (to_z-of_z c.ranges.call)) refl c.put_answer.ensures))

pub returns-else-end-at : goal.returns-else-end-at
unfolding told_bytes
returns-else-end-at c = λ w.
    let a = c.args in
    let rs = c.in-Ok.told.records in
    rw c.in-Ok.is (some_told (record_lines seats a.call rs) _ c.if-end-at.false (put_as (ap (λ (z : ℤ). record_lines seats z rs) (to_z-of_z c.ranges.call)) refl c.put_records-end.ensures))

pub returns-in-Err : goal.returns-in-Err
returns-in-Err c = λ w.
    let number : to_z w32 c.from.result ≡ to_z w32 (number_of c.in-Err.refusal) = ap (to_z w32) c.from.ensures in
    rw c.in-Err.is (put_as (ap₂ answer_bytes (to_z-of_z c.ranges.call) number ∙ refused_told c.args.call c.in-Err.refusal) refl c.put_answer-in-Err.ensures)
