use mathlib.Core.Bool.{Bool, true, false, cond, true≢false}
use mathlib.Core.List.{List}
use mathlib.Core.Logic.{◌⊎◌, inl, inr, ⊎_elim}
use mathlib.Core.Path.{◌≡◌, refl, sym, ◌∙◌, subst}
use Prim.Native.Nat.{ℕ, ◌+◌, ◌-◌, ◌≤◌, ◌<◌}
use native.Mathlib.Omega.{arith}
use lib.Dec.{T, eqb}
use lib.Ieee.{Float}
use lib.ListN.{length, get_or, set, length-set}
use borrow.Author.Rules.{rules}
use borrow.Author.Tests.{ne_eqb, eqb-false}
use Rattle.num_order.proofs.Vectors.{FitsPair}
use Rattle.num_vec2.specs.Vec2.{vdistance, vmix}
use Rattle.num_vec2.specs.declared.vec2.{vec2}
use Rattle.num_order.proofs.Parts.{part}
use Rattle.character_walk.proofs.Mixed.{untouched}
use Rattle.character_walk.proofs.Mixed as mixed
use Rattle.character_walk.specs.Touching.{touches}
use Rattle.character_walk.specs.Walking.{player_turns}
use Rattle.character_aside.specs.Aside.{may_touch}
use Rattle.character.specs.Near.{Asked}
use Rattle.character.specs.Places.{place_at, PlacesOf, Among}
use Rattle.character.specs.Tick.{seats, slot_at}
use Rattle.character.specs.Walk.{is_close}
use Rattle.character.specs.declared.Slot.{Slot}
use Rattle.character.proofs.Gathered.{asked_none, asked_past, asked_more}
use Rattle.character_aside.proofs.Passed.{left_out}
use Rattle.character.proofs.Scan.{through}
use Rattle.character.proofs.near.gather.Invariants.{Kept}
use Rattle.character.proofs.near.gather.Goals.{Start}
use Rattle.character.proofs.near.gather.Goals.{then-may_touch+then-present-j+then-j-id, then-may_touch+then-present-j+else-j-id, then-may_touch+else-present-j, else-may_touch}
use Rattle.character.proofs.near.gather.Goals as goal

-- a turn, on plain values: somebody is taken in, or left out
module _ (ps : List Bool) (xs ys : List Float) (id : ℕ) (from end : vec2) (j m : ℕ) (us vs : List Float) (l : j < seats) (q : vec2) (at : q ≡ place_at xs ys j) (k : Kept ps xs ys id from end j m us vs) (us' vs' : List Float) (n : ℕ) where
  close : (j ≡ id → ⊥) → (s : Slot) → s.present ≡ true → (p : vec2) → is_close s id j p ≡ touches p s.character.pos
  unfolding is_close
  close o s here p = simp (ne_eqb j id o, here)

  taken : get_or ps j false ≡ true → (j ≡ id → ⊥) → us' ≡ set us m q.x → vs' ≡ set vs m q.y → n ≡ m + 1 → Kept ps xs ys id from end (j + 1) n us' vs'
  taken b o d e f = rw (d, e, f) (omega arith, omega arith, simp length-set k.2, simp length-set k.3, λ ss places. more ss places)
    where
      more : (ss : List Slot) → PlacesOf seats ss ps xs ys → Asked ss id from end (j + 1) (m + 1) (set us m q.x) (set vs m q.y)
      more ss places =
          let here : (slot_at ss j).present ≡ true = sym (places j l).there ∙ b in
          let stands : q ≡ (slot_at ss j).character.pos = at ∙ (places j l).stands here in
          rw stands (asked_more ss id from end j m us vs (omega arith) (omega arith) (close o (slot_at ss j) here) (k.4 ss places))

  -- its own place, nobody there, or on one side of the way
  abbrev Reason : Type 0
  Reason = (j ≡ id) ⊎ ((get_or ps j false ≡ false) ⊎ (may_touch from end q ≡ false))

  module _ (fit : FitsPair from) (why : Reason) where
    module _ (ss : List Slot) (places : PlacesOf seats ss ps xs ys) (to : vec2) (z : end ≡ mixed.end from to) (i : ℕ) (h : i < player_turns (vdistance from to)) where
      far : (j ≡ id → ⊥) → (slot_at ss j).present ≡ true → Reason → touches (vmix from to (part from to i)) (slot_at ss j).character.pos ≡ false
      far o here (inl own) = absurd (o own)
      far o here (inr (inl gone)) = absurd (true≢false (sym here ∙ sym (places j l).there ∙ gone))
      far o here (inr (inr side)) = sym (untouched from to (slot_at ss j).character.pos i h fit (left_out from to (slot_at ss j).character.pos (rw (at ∙ (places j l).stands here, z) at side)))

      not-close : is_close (slot_at ss j) id j (vmix from to (part from to i)) ≡ false
      unfolding is_close
      not-close = go (eqb j id) (slot_at ss j).present refl refl
        where
          go : (b c : Bool) → eqb j id ≡ b → (slot_at ss j).present ≡ c → cond b false (cond c (touches (vmix from to (part from to i)) (slot_at ss j).character.pos) false) ≡ false
          go true c d e = refl
          go false false d e = refl
          go false true d e = far (eqb-false j id d) e why

  passed : FitsPair from → Reason × (us' ≡ us) × (vs' ≡ vs) × (n ≡ m) → Kept ps xs ys id from end (j + 1) n us' vs'
  passed fit (why, d, e, f) = rw (d, e, f) (omega arith, omega arith, k.2, k.3, λ ss places. asked_past ss id from end j m us vs (not-close fit why ss places) (k.4 ss places))

pub loop-j-init : goal.loop-j-init
loop-j-init c = (search rules, search rules, search rules, search rules, λ ss places. asked_none ss _ _ _ _ _)

-- where the way begins, two floats that fit their width
fits : (s : Start) → FitsPair s.args.from
fits s = let from = s.well_formed.1.1.1.1.0 in (subst T (sym from.1.1.0.1) tt, subst T (sym from.1.1.1.0.1) tt)

pub overflow_add-j : goal.overflow_add-j
overflow_add-j c = omega arith

pub loop-j-smaller-then-none_touched : goal.loop-j-smaller-then-none_touched
loop-j-smaller-then-none_touched c = omega arith

pub loop-j-preserved-then-none_touched : goal.loop-j-preserved-then-none_touched
loop-j-preserved-then-none_touched c =
    let l = c.loop-j in
    let s = c.before.before.before.before in
    let a = s.args in
    let row = c.none_touched.ensures c.if-none_touched.true in
    through (λ k. Kept a.present.now a.xs.now a.ys.now a.id a.from a.end k l.count l.near_xs l.near_ys) 8 l.j
    (λ k b e kept. passed a.present.now a.xs.now a.ys.now a.id a.from a.end k l.count l.near_xs l.near_ys (omega (arith, row.row)) (place_at a.xs.now a.ys.now k) refl kept l.near_xs l.near_ys l.count (fits s) (inr (inr (row.none k b e)), refl, refl, refl))
    l.invariant

pub offset_bounds-xs-j : goal.offset_bounds-xs-j
offset_bounds-xs-j c = omega arith

pub offset_bounds-ys-j : goal.offset_bounds-ys-j
offset_bounds-ys-j c = omega arith

pub offset_bounds-near_xs-count : goal.offset_bounds-near_xs-count
offset_bounds-near_xs-count c = omega arith

pub offset_bounds-near_ys-count : goal.offset_bounds-near_ys-count
offset_bounds-near_ys-count c = omega arith

pub overflow_add-count : goal.overflow_add-count
overflow_add-count c = omega arith

pub overflow_add-j-else-none_touched : goal.overflow_add-j-else-none_touched
overflow_add-j-else-none_touched c = omega arith

pub loop-j-smaller : goal.loop-j-smaller
loop-j-smaller c = omega arith

pub loop-j-preserved : goal.loop-j-preserved
loop-j-preserved c =
    let h = c.loop-j-test.true in
    let l = c.loop-j in
    let s = c.before.before.before.before.before.before.before.before.before in
    let a = s.args in
    let q = c.new-place in
    let side = sym c.may_touch.ensures in
    let pass = passed a.present.now a.xs.now a.ys.now a.id a.from a.end l.j l.count l.near_xs l.near_ys h q.result q.ensures l.invariant c.if-may_touch.near_xs c.if-may_touch.near_ys c.if-may_touch.count (fits s) in
    elim c.if-may_touch.branch [
      | then-may_touch+then-present-j+then-j-id w ↦ taken a.present.now a.xs.now a.ys.now a.id a.from a.end l.j l.count l.near_xs l.near_ys h q.result q.ensures l.invariant c.if-may_touch.near_xs c.if-may_touch.near_ys c.if-may_touch.count w.if-present-j.true w.if-j-id.true w.near_xs-is w.near_ys-is w.count-is
      | then-may_touch+then-present-j+else-j-id w ↦ pass (inl w.if-j-id.false, w.near_xs-is, w.near_ys-is, w.count-is)
      | then-may_touch+else-present-j w ↦ pass (inr (inl w.if-present-j.false), w.near_xs-is, w.near_ys-is, w.count-is)
      | else-may_touch w ↦ pass (inr (inr (side ∙ w.if-may_touch.false)), w.near_xs-is, w.near_ys-is, w.count-is)
    ]

pub returns : goal.returns
returns c =
    let l = c.loop-j in
    let a = c.args in
    (omega arith, l.invariant.2, l.invariant.3, λ ss places. subst (λ (j : ℕ). Asked ss a.id a.from a.end j l.count l.near_xs l.near_ys) (omega arith) (l.invariant.4 ss places))
