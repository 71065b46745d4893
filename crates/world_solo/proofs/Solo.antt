-- Solo heats are what specs/Solo.antt says, for every number of slots. Assumes nothing.
use Prim.Native.Nat.{ℕ, ◌<◌}
use mathlib.Core.Bool.{Bool, true, false, cond}
use mathlib.Core.List.{List, [], ◌∷◌, ◌++◌}
use mathlib.Core.Path.{◌≡◌, refl, sym, ap, ◌∙◌, subst}
use lib.Dec.{ltb}
use lib.IntN.{ℤ}
use lib.ListN.{get_or-replicate}
use borrow.Author.Tests.{ltb-true, ltb-false}
use Rattle.map_tiles.specs.declared.tiles.Sides.{Sides}
use Rattle.character.specs.Slot.{empty_slot}
use Rattle.character.specs.Tick.{slot_at, nowhere}
use Rattle.character.specs.declared.Slot.{Slot}
use Rattle.world.specs.declared.call.Call.{Call}
use Rattle.world.specs.World.{fresh}
use Rattle.world.specs.Run.{ran}
use Rattle.world.specs.Settled.{Settled}
use Rattle.world.specs.declared.World.{World}
use Rattle.world.proofs.Settled.{answer-settled, after_settled}
use Rattle.world_solo.specs.Solo.{for_other, without_other, SoloHeat, Seen, seen, Solo}
use Rattle.world_solo.proofs.Calls.{Left, left_by, other-call, alone, own-call, free-next}
use Rattle.world_solo.proofs.Free.{Free, empty_free}
use Rattle.world_solo.proofs.Seatless.{nobody, seen_seatless}

module _ (n : ℕ) (s : Sides) (ts : List ℕ) (k : ℕ) (l : k < n) where
  -- what calls show of the id k from its slot and the tunings alone
  abbrev seen_alone : Slot → List ℤ → List Call → List Seen
  seen_alone x t [] = []
  seen_alone x t (c ∷ cs) = let a = alone n s ts k l x t c in a.shown ++ seen_alone a.slot a.tunings cs

  -- what is shown after a call, with that call's
  abbrev then : Left → List Call → List Seen
  then a cs = a.shown ++ seen_alone a.slot a.tunings cs

  seen-alone : (cs : List Call) (w : World) → Settled n w → Free (slot_at w.slots k) → SoloHeat n s ts w cs → seen n s ts k w cs ≡ seen_alone (slot_at w.slots k) w.tunings (without_other n k cs)
  seen-alone [] w g f h = refl
  seen-alone (c ∷ cs) w g f h = ap (λ (ys : List Seen). a.shown ++ ys) (seen-alone cs (ran n s ts w c).world (answer-settled n s ts w c g) (free-next n s ts k l w c g f h.0) h.1) ∙ go (for_other n k c) refl
    where
      a : Left
      a = left_by k (ran n s ts w c) c

      go : (b : Bool) → for_other n k c ≡ b → then a (without_other n k cs) ≡ seen_alone (slot_at w.slots k) w.tunings (cond b (without_other n k cs) (c ∷ without_other n k cs))
      go true e = ap (λ (a : Left). then a (without_other n k cs)) (other-call n s ts k l w c g f e)
      go false e = ap (λ (a : Left). then a (without_other n k cs)) (own-call n s ts k l w g c f e h.0)

fresh_free : (n k : ℕ) → k < n → Free (slot_at (fresh n).slots k)
unfolding fresh
fresh_free n k l = subst Free (sym (get_or-replicate n k empty_slot nowhere l)) empty_free

-- of an id that has a slot, and of one that has none, both lists are seen as what is left of them
pub solo : (n : ℕ) → Solo n
solo n s ts k cs ds e h i = go (ltb k n) refl
  where
    g : Settled n (fresh n)
    g = after_settled n s ts []

    go : (b : Bool) → ltb k n ≡ b → seen n s ts k (fresh n) cs ≡ seen n s ts k (fresh n) ds
    go true q =
        let l = ltb-true k n q in
        let f = fresh_free n k l in
        seen-alone n s ts k l cs (fresh n) g f h ∙ ap (seen_alone n s ts k l (slot_at (fresh n).slots k) (fresh n).tunings) e ∙ sym (seen-alone n s ts k l ds (fresh n) g f i)
    go false q = let l = ltb-false k n q in seen_seatless n s ts k l cs (fresh n) g ∙ ap nobody e ∙ sym (seen_seatless n s ts k l ds (fresh n) g)
