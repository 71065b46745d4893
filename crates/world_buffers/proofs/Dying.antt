-- Who dies is listed by rising id and loses the floor mark, out of the places. Assumes nothing.
use Prim.Native.Nat.{ℕ, ◌+◌, ◌≤◌, ◌<◌}
use mathlib.Core.Bool.{Bool, true, false, cond}
use mathlib.Core.List.{List}
use mathlib.Core.Path.{◌≡◌, refl, sym, ap, ◌∙◌}
use native.Mathlib.Decide.{ℕ_discrete}
use native.Mathlib.Omega.{arith}
use lib.Ieee.{Float}
use lib.IntN.{ℤ, pos}
use lib.ListN.{length, get_or, set, replicate}
use lib.Seq.{get_or-set_same, get_or-set_other}
use Rattle.map_tiles.specs.Box.{on_deadly}
use Rattle.map_tiles.specs.declared.tiles.Sides.{Sides}
use Rattle.num_vec2.specs.declared.vec2.{vec2}
use Rattle.character.specs.Places.{place_at, PlacesOf}
use Rattle.character.specs.Tick.{seats, slot_at}
use Rattle.character.specs.declared.Slot.{Slot}
use Rattle.world.specs.Removal.{dies, dying}
use Rattle.world_step.proofs.Listed.{Listing, none_listed, listed_now, listing-more, listing-same}
use Rattle.world_buffers.specs.Stepping.{DyingOf}

module _ (s : Sides) (ts : List ℕ) (ss : List Slot) (start : List Bool) where
  abbrev gone : ℕ → Bool
  gone i = dies s ts (slot_at ss i)

  -- after j turns
  pub record Clearing (j : ℕ) (marks : List Bool) (ids : List ℤ) (count : ℕ) : Type 0 where
    pub list : Listing gone seats j ids count
    pub passed : (i : ℕ) → i < j → get_or marks i false ≡ cond (gone i) false (get_or start i false)
    pub ahead : (i : ℕ) → j ≤ i → get_or marks i false ≡ get_or start i false

  module _ (j : ℕ) (marks : List Bool) (ids : List ℤ) (count : ℕ) (h : Clearing j marks ids count) (l : j < seats) where
    pub dead : (ks : List Bool) (is : List ℤ) (c : ℕ) → length marks ≡ seats → gone j ≡ true → ks ≡ set marks j false → is ≡ set ids count (pos j) → c ≡ count + 1 → Clearing (j + 1) ks is c
    dead ks is c size d e f g = record { list = listing-more gone seats j ids count h.list l is c d f g; passed = λ i q. go i q (ℕ_discrete i j); ahead = λ i q. let n : (i ≡ j → ⊥) = λ z. omega arith in rw e (get_or-set_other marks j i false false n ∙ h.ahead i (omega arith)) }
      where
        go : (i : ℕ) → i < j + 1 → Dec (i ≡ j) → get_or ks i false ≡ cond (gone i) false (get_or start i false)
        go i q (yes z) = rw (z, d, e) (get_or-set_same marks j false false (omega arith))
        go i q (no n) = rw e (get_or-set_other marks j i false false n ∙ h.passed i (omega arith))

    pub alive : (ks : List Bool) (is : List ℤ) (c : ℕ) → gone j ≡ false → ks ≡ marks → is ≡ ids → c ≡ count → Clearing (j + 1) ks is c
    alive ks is c d e f g = record { list = listing-same gone seats j ids count h.list l is c d f g; passed = λ i q. go i q (ℕ_discrete i j); ahead = λ i q. rw e (h.ahead i (omega arith)) }
      where
        go : (i : ℕ) → i < j + 1 → Dec (i ≡ j) → get_or ks i false ≡ cond (gone i) false (get_or start i false)
        go i q (yes z) = rw (z, d, e) (h.ahead j (omega arith))
        go i q (no n) = rw e (h.passed i (omega arith))

  pub cleared_first : Clearing 0 start (replicate seats (pos 0)) 0
  cleared_first = record { list = none_listed gone seats; passed = λ i q. absurd (omega arith); ahead = λ i q. refl }

  pub cleared_end : (j : ℕ) (marks : List Bool) (ids : List ℤ) (count : ℕ) → Clearing j marks ids count → seats ≤ j → DyingOf s ts ss start (record { count = count; ids = ids }) marks
  unfolding dying
  cleared_end j marks ids count h q =
      let last : j ≡ seats = omega (arith, h.list.within) in
      record { ids = rw last at (listed_now gone seats j ids count h.list); cleared = λ i r. h.passed i (omega arith) }

-- what the tests decide
module _ (s : Sides) (ts : List ℕ) (ss : List Slot) (ps : List Bool) (xs ys : List Float) (h : PlacesOf seats ss ps xs ys) (j : ℕ) (l : j < seats) where
  pub on_spikes : (q d : Bool) (p : vec2) → get_or ps j false ≡ true → p ≡ place_at xs ys j → d ≡ on_deadly s ts p → d ≡ q → dies s ts (slot_at ss j) ≡ q
  on_spikes q d p b e f g =
      let here = sym (h j l).there ∙ b in
      rw here (sym (f ∙ ap (on_deadly s ts) (e ∙ (h j l).stands here)) ∙ g)

  pub nobody : get_or ps j false ≡ false → dies s ts (slot_at ss j) ≡ false
  nobody b = let here = sym (h j l).there ∙ b in rw here
