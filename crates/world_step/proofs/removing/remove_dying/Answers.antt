use mathlib.Core.Bool.{Bool, true, false}
use mathlib.Core.List.{List}
use mathlib.Core.Logic.{⊎_elim}
use mathlib.Core.Path.{◌≡◌, refl, sym, ap, ◌∙◌}
use Prim.Native.Nat.{ℕ, ◌+◌, ◌-◌, ◌<◌}
use native.Mathlib.Omega.{arith}
use lib.IntN.{ℤ, pos}
use lib.ListN.{set}
use borrow.Author.Rules.{rules}
use Rattle.map_tiles.specs.Box.{on_deadly}
use Rattle.map_tiles.specs.declared.tiles.Sides.{Sides}
use Rattle.character.specs.Tick.{seats, slot_at}
use Rattle.character.specs.declared.Slot.{Slot}
use Rattle.world.specs.Calls.{vacate}
use Rattle.world.specs.Removal.{ids_of, dies, dying, remove_all, listed}
use Rattle.world.specs.declared.World.{World}
use Rattle.world_step.proofs.Listed.{as_i32, ids_more, ids_same, removed_last, Listing, none_listed, listed_now, listing-fits, listing-more, listing-same}
use Rattle.world_step.proofs.removing.remove_dying.Goals.{After-vacate}
use Rattle.world_step.proofs.removing.remove_dying.Invariants.{up_to, Removing}
use Rattle.world_step.proofs.removing.remove_dying.Goals.{then-slot+then-on_deadly, then-slot+else-on_deadly, else-slot}
use Rattle.world_step.proofs.removing.remove_dying.Goals as goal

-- the turns on plain values
module _ (s : Sides) (ts : List ℕ) (ss : List Slot) (w : World) where
  module _ (j : ℕ) (next : World) (ids : List ℤ) (count : ℕ) (h : Removing s ts ss w j next ids count) (l : j < seats) where
    dead : (v : World) (is : List ℤ) (c : ℕ) → dies s ts (slot_at ss j) ≡ true → v ≡ vacate next j → is ≡ set ids count (pos j) → c ≡ count + 1 → Removing s ts ss w (j + 1) v is c
    dead v is c d e g k = record {
      list = listing-more (λ i. dies s ts (slot_at ss i)) seats j ids count h.list l is c d g k;
      world_is = e ∙ ap (λ (u : World). vacate u j) h.world_is ∙ sym (removed_last (up_to s ts ss w j) w j) ∙ ap (remove_all w) (sym (ids_more (λ i. dies s ts (slot_at ss i)) j d));
    }

    alive : (v : World) (is : List ℤ) (c : ℕ) → dies s ts (slot_at ss j) ≡ false → v ≡ next → is ≡ ids → c ≡ count → Removing s ts ss w (j + 1) v is c
    alive v is c d e g k = record {
      list = listing-same (λ i. dies s ts (slot_at ss i)) seats j ids count h.list l is c d g k;
      world_is = e ∙ h.world_is ∙ ap (remove_all w) (sym (ids_same (λ i. dies s ts (slot_at ss i)) j d));
    }

    -- what the two tests decide
    on_spikes : (b d : Bool) → (slot_at ss j).present ≡ true → d ≡ on_deadly s ts (slot_at ss j).character.pos → d ≡ b → dies s ts (slot_at ss j) ≡ b
    on_spikes b d p e q = rw p (sym e ∙ q)

    nobody : (slot_at ss j).present ≡ false → dies s ts (slot_at ss j) ≡ false
    nobody p = rw p

pub loop-j-init : goal.loop-j-init
loop-j-init c = record { list = none_listed _ seats; world_is = refl }

pub bounds-slots-j : goal.bounds-slots-j
bounds-slots-j c = omega arith

pub on_deadly-requires : goal.on_deadly-requires
on_deadly-requires c = c.requires

pub vacate-requires : goal.vacate-requires
vacate-requires c = c.loop-j-test.true

below : (c : After-vacate) → c.loop-j.count < seats
below c = let l = c.loop-j in listing-fits _ seats l.j l.ids l.count l.invariant.list c.loop-j-test.true

pub offset_bounds-ids-count : goal.offset_bounds-ids-count
offset_bounds-ids-count c = let b = below c in omega (arith, b)

pub bounds-ids-count : goal.bounds-ids-count
bounds-ids-count c = below c

pub overflow_add-count : goal.overflow_add-count
overflow_add-count c = let b = below c in omega (arith, b)

pub overflow_step-j : goal.overflow_step-j
overflow_step-j c = omega arith

pub loop-j-smaller : goal.loop-j-smaller
loop-j-smaller c = omega arith

pub loop-j-preserved : goal.loop-j-preserved
loop-j-preserved c =
    let a = c.args in
    let l = c.loop-j in
    let h = c.loop-j-test.true in
    let n = c.if-slot.world in
    let is = c.if-slot.ids in
    let k = c.if-slot.count in
    elim c.if-slot.branch [
      | then-slot+then-on_deadly w ↦ dead a.sides a.tiles.now a.world.now.slots a.world.now l.j l.world l.ids l.count l.invariant h n is k (on_spikes a.sides a.tiles.now a.world.now.slots a.world.now l.j l.world l.ids l.count l.invariant h true w.on_deadly.result w.if-slot.true w.on_deadly.ensures w.if-on_deadly.true) (w.world-is ∙ w.vacate.ensures) (w.ids-is ∙ ap (λ (z : ℤ). set l.ids l.count z) (as_i32 l.j h)) w.count-is
      | then-slot+else-on_deadly w ↦ alive a.sides a.tiles.now a.world.now.slots a.world.now l.j l.world l.ids l.count l.invariant h n is k (on_spikes a.sides a.tiles.now a.world.now.slots a.world.now l.j l.world l.ids l.count l.invariant h false w.on_deadly.result w.if-slot.true w.on_deadly.ensures w.if-on_deadly.false) w.world-is w.ids-is w.count-is
      | else-slot w ↦ alive a.sides a.tiles.now a.world.now.slots a.world.now l.j l.world l.ids l.count l.invariant h n is k (nobody a.sides a.tiles.now a.world.now.slots a.world.now l.j l.world l.ids l.count l.invariant h w.if-slot.false) w.world-is w.ids-is w.count-is
    ]

pub returns : goal.returns
unfolding dying
returns c =
    let i = c.loop-j.invariant in
    let e : c.loop-j.j ≡ seats = (let h = c.loop-j-test.false in let g = i.list.within in omega arith) in
    let s = c.args in
    (i.world_is ∙ ap (λ (j : ℕ). remove_all s.world.now (up_to s.sides s.tiles.now s.world.now.slots s.world.now j)) e, listed_now _ seats _ _ _ i.list ∙ ap (λ (j : ℕ). listed seats (up_to s.sides s.tiles.now s.world.now.slots s.world.now j)) e)
