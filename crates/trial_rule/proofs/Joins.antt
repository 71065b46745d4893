-- What the joins of a trial leave: each entrant is at its seat, and nobody else. Assumes nothing.
use Prim.Native.Nat.{ℕ, ◌<◌}
use mathlib.Core.Bool.{Bool, true, false, cond, ◌&&◌, true≢false}
use mathlib.Core.List.{List, [], ◌∷◌, ◌++◌}
use mathlib.Core.Path.{◌≡◌, refl, sym, ap, ◌∙◌, subst}
use native.Mathlib.Omega.{arith}
use lib.Dec.{eqb, ltb}
use lib.IntN.{ℤ}
use lib.ListN.{length, set, length-set, length-replicate}
use lib.Seq.{get_or-set_same, get_or-set_other}
use borrow.Author.Tests.{eqb-true, eqb-false}
use Rattle.base_turns.specs.Turns.{Turn, more, stop, next}
use Rattle.map_tiles.specs.Map.{is_map}
use Rattle.map_tiles.specs.declared.tiles.Sides.{Sides}
use Rattle.map_tiles.specs.Box.{check_box, character_box}
use Rattle.character.specs.Slot.{joined_slot}
use Rattle.character.specs.Tick.{nowhere, slot_at}
use Rattle.character.specs.declared.Slot.{Slot}
use Rattle.world.specs.World.{fresh, with_slot}
use Rattle.world.specs.Calls.{refused, accepted, place_of, is_in_reach, point_of, join_at, join}
use Rattle.world.specs.Answered.{Answer}
use Rattle.world.specs.declared.World.{World}
use Rattle.world.proofs.Outcomes.{Outcome, no, yes, Joins, join_outcome}
use Rattle.trial_rule.specs.Trial.{Entrant, Trying, no_player, player_at, entered, enter, enter_all, nobody_yet}
use Rattle.trial_rule.specs.declared.Player.{Player}

-- ---- one join
module _ (n : ℕ) (s : Sides) (ts : List ℕ) where
  -- nobody is where an accepted join goes
  free : (w : World) (id x y : ℤ) → (join n w s ts id x y).number ≡ 0 → (slot_at w.slots (place_of n id)).present ≡ false
  unfolding join join_at
  free w id x y = go (is_map s ts) (ltb k n) (is_in_reach x && is_in_reach y) (check_box s ts (point_of x y) character_box) (slot_at w.slots k).present refl
    where
      k : ℕ
      k = place_of n id

      go : (a b c d e : Bool) → (slot_at w.slots k).present ≡ e → (cond a (cond b (cond c (cond d (refused w 5) (cond e (refused w 7) (accepted (with_slot w k (joined_slot (point_of x y)))))) (refused w 4)) (refused w 2)) (refused w 1)).number ≡ 0 → (slot_at w.slots k).present ≡ false
      go false b c d e q z = absurd (omega (arith, z))
      go true false c d e q z = absurd (omega (arith, z))
      go true true false d e q z = absurd (omega (arith, z))
      go true true true true e q z = absurd (omega (arith, z))
      go true true true false true q z = absurd (omega (arith, z))
      go true true true false false q z = q

  -- what one that was accepted has done
  pub record Entered (e : Entrant) (t v : Trying) : Type 0 where
    pub seat : place_of n e.id < n
    pub free : (slot_at t.world.slots (place_of n e.id)).present ≡ false
    pub joined : v.world ≡ (join n t.world s ts e.id e.x e.y).world
    pub world : v.world ≡ with_slot t.world (place_of n e.id) (joined_slot (point_of e.x e.y))
    pub players : v.players ≡ set t.players (place_of n e.id) (entered s e)

  pub enter_done : (e : Entrant) (t v : Trying) → enter n s ts e t ≡ more v → Entered e t v
  unfolding enter
  enter_done e t v q = go (eqb a.number 0) refl q
    where
      a : Answer
      a = join n t.world s ts e.id e.x e.y

      outcome : (b : Answer) → b.number ≡ 0 → Outcome t.world (with_slot t.world (place_of n e.id) (joined_slot (point_of e.x e.y))) (Joins n t.world s ts e.id e.x e.y) b → (place_of n e.id < n) × (b.world ≡ with_slot t.world (place_of n e.id) (joined_slot (point_of e.x e.y)))
      outcome b z (no r f) = absurd (let g = ap (λ (c : Answer). c.number) f in omega (arith, z, g))
      outcome b z (yes f g) = (f.seat, ap (λ (c : Answer). c.world) g)

      go : (b : Bool) → eqb a.number 0 ≡ b → cond b (more (record { world = a.world; players = set t.players (place_of n e.id) (entered s e) })) (stop a.number) ≡ more v → Entered e t v
      go true f r =
          let z = eqb-true a.number 0 f in
          let o = outcome a z (join_outcome n t.world s ts e.id e.x e.y) in
          let p : v ≡ record { world = a.world; players = set t.players (place_of n e.id) (entered s e) } = cc in
          record { seat = o.0; free = free t.world e.id e.x e.y z; joined = ap (λ (x : Trying). x.world) p; world = ap (λ (x : Trying). x.world) p ∙ o.1; players = ap (λ (x : Trying). x.players) p }
      go false f r = absurd (let z : ◌≡◌ {A = ℕ} 0 1 = cc in omega (arith, z))

  -- ---- all of them

  pub enter_both : (before later : List Entrant) (t : Trying) → enter_all n s ts (before ++ later) t ≡ next (enter_all n s ts later) (enter_all n s ts before t)
  enter_both [] later t = refl
  enter_both (e ∷ before) later t = go (enter_both before later) (enter n s ts e t)
    where
      go : ((v : Trying) → enter_all n s ts (before ++ later) v ≡ next (enter_all n s ts later) (enter_all n s ts before v)) → (a : Turn Trying ℕ) → next (enter_all n s ts (before ++ later)) a ≡ next (enter_all n s ts later) (next (enter_all n s ts before) a)
      go f (more v) = f v
      go f (stop k) = refl

  -- a turn that goes on, and then another
  pub on_more : (f : Trying → Turn Trying ℕ) (P : Type 0) (v : Trying) (a : Turn Trying ℕ) → next f a ≡ more v → ((w : Trying) → a ≡ more w → f w ≡ more v → P) → P
  on_more f P v (more w) q g = g w refl q
  on_more f P v (stop k) q g = absurd (let z : ◌≡◌ {A = ℕ} 0 1 = cc in omega (arith, z))

  -- the number of a refusal is not 0
  pub refusal_counts : (es : List Entrant) (t : Trying) (k : ℕ) → enter_all n s ts es t ≡ stop k → k ≡ 0 → ⊥
  unfolding enter
  refusal_counts [] t k q z = let y : ◌≡◌ {A = ℕ} 0 1 = cc in omega (arith, y)
  refusal_counts (e ∷ es) t k q z = go (refusal_counts es) (enter n s ts e t) refl q
    where
      one : (b : Bool) → eqb (join n t.world s ts e.id e.x e.y).number 0 ≡ b → (v : Trying) → cond b (more v) (stop (join n t.world s ts e.id e.x e.y).number) ≡ stop k → ⊥
      one true f v r = let y : ◌≡◌ {A = ℕ} 0 1 = cc in omega (arith, y)
      one false f v r = let y : (join n t.world s ts e.id e.x e.y).number ≡ k = cc in eqb-false _ 0 f (y ∙ z)

      here : enter n s ts e t ≡ stop k → ⊥
      here r = one (eqb (join n t.world s ts e.id e.x e.y).number 0) refl _ r

      go : ((v : Trying) (i : ℕ) → enter_all n s ts es v ≡ stop i → i ≡ 0 → ⊥) → (a : Turn Trying ℕ) → enter n s ts e t ≡ a → next (enter_all n s ts es) a ≡ stop k → ⊥
      go f (more v) g r = f v k r z
      go f (stop i) g r = here (g ∙ r)

  -- what each join keeps, all keep
  pub all_keep : (P : Trying → Type 0) → ((e : Entrant) (t v : Trying) → Entered e t v → P t → P v) → (es : List Entrant) (t v : Trying) → enter_all n s ts es t ≡ more v → P t → P v
  all_keep P f [] t v q h = let e : t ≡ v = cc in subst P e h
  all_keep P f (e ∷ es) t v q h = on_more (enter_all n s ts es) (P v) v (enter n s ts e t) q (λ w r p. all_keep P f es w v p (f e t w (enter_done e t w r) h))

  -- ---- an entrant at its seat
  pub record Sized (t : Trying) : Type 0 where
    pub slots : length t.world.slots ≡ n
    pub players : length t.players ≡ n

  sized_on : (e : Entrant) (t v : Trying) → Entered e t v → Sized t → Sized v
  sized_on e t v d h = record { slots = ap (λ (w : World). length w.slots) d.world ∙ length-set t.world.slots (place_of n e.id) _ ∙ h.slots; players = ap length d.players ∙ length-set t.players (place_of n e.id) _ ∙ h.players }

  first_sized : Sized (nobody_yet n)
  unfolding fresh
  first_sized = record { slots = length-replicate n _; players = length-replicate n no_player }

  pub all_sized : (es : List Entrant) (t : Trying) → enter_all n s ts es (nobody_yet n) ≡ more t → Sized t
  all_sized es t q = all_keep Sized sized_on es (nobody_yet n) t q first_sized

  pub record Here (e : Entrant) (t : Trying) : Type 0 where
    pub seat : place_of n e.id < n
    pub there : (slot_at t.world.slots (place_of n e.id)).present ≡ true
    pub player : player_at t.players (place_of n e.id) ≡ entered s e

  here_first : (e : Entrant) (t v : Trying) → Sized t → Entered e t v → Here e v
  here_first e t v h d =
      let k = place_of n e.id in
      record {
        seat = d.seat;
        there = ap (λ (w : World). (slot_at w.slots k).present) d.world ∙ ap (λ (x : Slot). x.present) (get_or-set_same t.world.slots k _ nowhere (omega (arith, h.slots, d.seat)));
        player = ap (λ (ps : List Player). player_at ps k) d.players ∙ get_or-set_same t.players k (entered s e) no_player (omega (arith, h.players, d.seat));
      }

  here_on : (e e' : Entrant) (t v : Trying) → Entered e' t v → Here e t → Here e v
  here_on e e' t v d h =
      let k = place_of n e.id in
      let j = place_of n e'.id in
      let apart : k ≡ j → ⊥ = λ q. true≢false (sym h.there ∙ ap (λ (i : ℕ). (slot_at t.world.slots i).present) q ∙ d.free) in
      record {
        seat = h.seat;
        there = ap (λ (w : World). (slot_at w.slots k).present) d.world ∙ ap (λ (x : Slot). x.present) (get_or-set_other t.world.slots j k _ nowhere apart) ∙ h.there;
        player = ap (λ (ps : List Player). player_at ps k) d.players ∙ get_or-set_other t.players j k _ no_player apart ∙ h.player;
      }

  pub all_here : (before later : List Entrant) (e : Entrant) (t : Trying) → enter_all n s ts (before ++ (e ∷ later)) (nobody_yet n) ≡ more t → Here e t
  all_here before later e t q =
      on_more (enter_all n s ts (e ∷ later)) (Here e t) t (enter_all n s ts before (nobody_yet n)) (sym (enter_both before (e ∷ later) (nobody_yet n)) ∙ q) (λ v r p.
      on_more (enter_all n s ts later) (Here e t) t (enter n s ts e v) p (λ w a b.
      all_keep (Here e) (here_on e) later w t b (here_first e v w (all_sized before v r) (enter_done e v w a))))

  -- ---- a seat that nobody joined
  pub nobody_there : (j : ℕ) (es : List Entrant) (t v : Trying) → ((before later : List Entrant) (e : Entrant) → es ≡ before ++ (e ∷ later) → place_of n e.id ≡ j → ⊥) → enter_all n s ts es t ≡ more v → player_at v.players j ≡ player_at t.players j
  nobody_there j [] t v f q = let e : v ≡ t = cc in ap (λ (x : Trying). player_at x.players j) e
  nobody_there j (e ∷ es) t v f q = on_more (enter_all n s ts es) (player_at v.players j ≡ player_at t.players j) v (enter n s ts e t) q (λ w r p.
      nobody_there j es w v (λ before later x z. f (e ∷ before) later x (ap (λ (l : List Entrant). e ∷ l) z)) p
      ∙ ap (λ (ps : List Player). player_at ps j) (enter_done e t w r).players ∙ get_or-set_other t.players (place_of n e.id) j (entered s e) no_player (λ z. f [] es e refl (sym z)))
