use mathlib.Core.Bool.{true, false}
use mathlib.Core.List.{List, [], ◌++◌}
use mathlib.Core.Path.{◌≡◌, sym, ap, ◌∙◌, subst}
use Prim.Native.Nat.{ℕ, ◌+◌, ◌*◌, ◌≤◌, ◌<◌}
use native.Mathlib.Omega.{arith}
use lib.IntN.{ℤ, pos}
use lib.ListN.{length, length-append}
use mir.Syntax.{w32}
use mir.Val.{to_z, of_z}
use mir.Facts.{to_z-of_z}
use borrow.Author.Rules.{sfits_of}
use Rattle.num_convert.proofs.Signed.{read}
use Rattle.base_turns.proofs.Loop.{fold_first, turn_on, fold_end}
use Rattle.game_records.specs.declared.CharacterCore.{CharacterCore}
use Rattle.character.specs.Tick.{seats}
use Rattle.world.specs.Demand3.{record_at}
use Rattle.world.specs.declared.Published.{Published}
use Rattle.text_writing.specs.Output.{most_line, record_bytes}
use Rattle.text_writing.specs.Put.{Put}
use Rattle.base_rows.proofs.Puts.{length-put, put_none}
use Rattle.text_writing.proofs.Sizes.{record_short, put-after}
use Rattle.text_writing.specs.Answers.{record_lines}
use Rattle.text_writing.proofs.answers.put_records.Invariants.{Sofar}
use Rattle.text_writing.proofs.answers.put_records.Goals.{then-published, else-published}
use Rattle.text_writing.proofs.answers.put_records.Goals as goal

as_id : {e f : List ℕ} {next end : ℕ} (call : ℤ) (core : CharacterCore) (z y : ℤ) → z ≡ y → Put e next (record_bytes call (pos 0) z core) f end → Put e next (record_bytes call (pos 0) y core) f end
as_id call core z y q p = rw (sym q) p

module _ (d : List ℕ) (at : ℕ) (call : ℤ) (rs : List Published) (room : at + most_line * seats ≤ length d) where
  start : Sofar d at call rs d at 0
  unfolding record_lines
  start = record { lines = []; left = fold_first; put = record { bytes = put_none d at; place = omega arith }; short = omega arith }

  module _ (e : List ℕ) (next id : ℕ) (s : Sofar d at call rs e next id) (l : id < seats) where
    told : (f : List ℕ) (end : ℕ) → (record_at rs id).present ≡ true → Put e next (record_bytes call (pos 0) (pos id) (record_at rs id).core) f end → Sofar d at call rs f end (id + 1)
    told f end p q =
        let r = record_bytes call (pos 0) (pos id) (record_at rs id).core in
        let a : length (s.lines ++ r) ≡ length s.lines + length r = length-append s.lines r in
        let b : length r ≤ most_line = record_short call (pos 0) (pos id) (record_at rs id).core in
        record { lines = s.lines ++ r; left = turn_on s.left l (simp p); put = put-after (omega arith) s.put q; short = omega (arith, s.short) }

    untold : (record_at rs id).present ≡ false → Sofar d at call rs e next (id + 1)
    untold p = record { lines = s.lines; left = turn_on s.left l (simp p); put = s.put; short = omega (arith, s.short) }

  -- the buffer is as long as before, and another line finds room
  as_long : (e : List ℕ) (next id : ℕ) → Sofar d at call rs e next id → id ≤ seats → length e ≡ length d
  as_long e next id s l = ap length s.put.bytes ∙ length-put d at s.lines (omega (arith, s.short))

  room_left : (e : List ℕ) (next id : ℕ) → Sofar d at call rs e next id → id < seats → next + most_line ≤ length e
  room_left e next id s l = let h = as_long e next id s (omega arith) in let p = s.put.place in omega (arith, s.short)

pub loop-id-init : goal.loop-id-init
loop-id-init c = start _ _ _ _ c.requires

pub overflow_cast-id : goal.overflow_cast-id
overflow_cast-id c = sfits_of (omega arith)

pub put_record-next-requires : goal.put_record-next-requires
put_record-next-requires c = let l = c.loop-id in room_left _ _ _ _ c.requires l.buf l.next l.id l.invariant c.loop-id-test.true

pub loop-id-preserved : goal.loop-id-preserved
loop-id-preserved c =
    let a = c in
    let l = c.loop-id in
    let t = c.loop-id-test.true in
    elim c.if-published.branch [
      | then-published w ↦ told a.args.buf.now a.args.at (to_z w32 (of_z w32 a.args.call)) a.args.records a.requires l.buf l.next l.id l.invariant t c.if-published.buf c.if-published.next w.if-published.true (rw (w.buf-is, w.next-is) (as_id (to_z w32 (of_z w32 a.args.call)) (record_at a.args.records l.id).core _ (pos l.id) (read (pos l.id) (omega arith)) w.put_record-next.ensures))
      | else-published w ↦ rw (w.buf-is, w.next-is) (untold a.args.buf.now a.args.at (to_z w32 (of_z w32 a.args.call)) a.args.records a.requires l.buf l.next l.id l.invariant t w.if-published.false)
    ]

pub shape_of-buf : goal.shape_of-buf
shape_of-buf c = let a = c in let l = c.loop-id in as_long _ _ _ _ a.requires l.buf l.next l.id l.invariant l.invariant.left.within

pub returns : goal.returns
returns c =
    let a = c in
    let l = c.loop-id in
    subst (λ (w : List ℕ). Put a.args.buf.now a.args.at w l.buf l.next) (sym (fold_end l.invariant.left c.loop-id-test.false) ∙ ap (λ (z : ℤ). record_lines seats z a.args.records) (to_z-of_z a.ranges.call)) l.invariant.put
