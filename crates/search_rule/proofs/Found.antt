-- The search finds the first way that counts, or nothing where none does. Assumes nothing.
use Prim.Native.Nat.{ℕ, zero, suc, pred, ◌≤◌, ◌<◌}
use mathlib.Core.Bool.{Bool, true, false, cond, ◌&&◌, true≢false}
use mathlib.Core.List.{List, [], ◌∷◌}
use mathlib.Core.Logic.{inl, inr}
use mathlib.Core.Path.{◌≡◌, refl, sym, ap, ◌∙◌, subst}
use native.Mathlib.Omega.{arith}
use lib.ListN.{length}
use Rattle.base_turns.specs.Turns.{more, stop}
use Rattle.map_tiles.specs.declared.tiles.Sides.{Sides}
use Rattle.world.specs.Answered.{Stepped}
use Rattle.world.specs.declared.World.{World}
use Rattle.base_turns.proofs.Tests.{both}
use Rattle.search_rule.specs.Ways.{Way, Pressed, longest, IsWay, Lower, Earlier, Before}
use Rattle.search_rule.specs.Search.{step_with, arrives, goes_on, counts, Found, nothing, choices, buttons_at, following, each_first, ending, going_on, first_among, first_way}
use Rattle.search_rule.specs.declared.Buttons.{Buttons}
use Rattle.search_rule.specs.declared.Goal.{Goal}
use Rattle.search_rule.proofs.Choices.{lower_below, index_of, is_direction, is_jump}
use Rattle.search_rule.proofs.Tried.{Tries, Hit, tried}

-- u is the first of the ways with so many steps that meet P
record FirstWith (P : Way → Bool) (m : ℕ) (u : Way) : Type 0 where
  long : length u ≡ m
  pressed : Pressed u
  meets : P u ≡ true
  earlier : (v : Way) → Pressed v → length v ≡ m → Earlier v u → P v ≡ true → ⊥

-- what is found is that, or there is none
abbrev Finds : (Way → Bool) → ℕ → Found → Type 0
Finds P m (more z) = (v : Way) → Pressed v → length v ≡ m → P v ≡ true → ⊥
Finds P m (stop u) = FirstWith P m u

-- ---- each first step in turn

module _ (P : Way → Bool) (m : ℕ) where
  -- the ways that begin with b
  abbrev Begins : Buttons → Found → Type 0
  Begins b (more z) = (v : Way) → Pressed v → length v ≡ m → P (b ∷ v) ≡ true → ⊥
  Begins b (stop u) = (v : Way) × (u ≡ b ∷ v) × FirstWith (λ x. P (b ∷ x)) m v

  begins : (b : Buttons) (t : Found) → Finds (λ v. P (b ∷ v)) m t → Begins b (following b t)
  begins b (more z) h = h
  begins b (stop u) h = (u, refl, h)

  module _ (f : ℕ → Found) (h : (i : ℕ) → Begins (buttons_at i) (f i)) where
    empty-at : (i : ℕ) → f i ≡ more tt → (v : Way) → Pressed v → length v ≡ m → P (buttons_at i ∷ v) ≡ true → ⊥
    empty-at i e = subst (Begins (buttons_at i)) e (h i)

    none_begins_lem : (i : ℕ) (b : Buttons) (v : Way) → buttons_at i ≡ b → f i ≡ more tt → Pressed v → length v ≡ m → P (b ∷ v) ≡ true → ⊥
    none_begins_lem i b v q e p l c = empty-at i e v p l (ap (λ (a : Buttons). P (a ∷ v)) q ∙ c)

    none_found : ((k : ℕ) → 0 ≤ k → k < choices → f k ≡ more tt) → (v : Way) → Pressed v → length v ≡ suc m → P v ≡ true → ⊥
    none_found e [] p l c = absurd (omega arith)
    none_found e (b ∷ v) p l c = let i = index_of b p.0.0 p.0.1 in none_begins_lem i.index b v i.is (e i.index (omega arith) i.within) p.1 (omega arith) c

    first_found : (u : Way) → Hit f 0 choices u → FirstWith P (suc m) u
    first_found u t = go (subst (Begins b) t.found (h j))
      where
        j : ℕ
        j = t.try

        b : Buttons
        b = buttons_at j

        go : (v : Way) × (u ≡ b ∷ v) × FirstWith (λ x. P (b ∷ x)) m v → FirstWith P (suc m) u
        go (v, e, r) = subst (FirstWith P (suc m)) (sym e) (record { long = ap suc r.long; pressed = ((is_direction j t.to, is_jump j), r.pressed); meets = r.meets; earlier = before })
          where
            -- another first step is one of those before, and with the same one what follows is earlier
            before : (x : Way) → Pressed x → length x ≡ suc m → Earlier x (b ∷ v) → P x ≡ true → ⊥
            before [] p l o c = o
            before (a ∷ x) p l (inl o) c = let i = index_of a p.0.0 p.0.1 in none_begins_lem i.index a x i.is (t.empty i.index (omega arith) (lower_below i.index j (subst (λ (y : Buttons). Lower y b) (sym i.is) o))) p.1 (omega arith) c
            before (a ∷ x) p l (inr o) c = r.earlier x p.1 (omega arith) o.1 (ap (λ (y : Buttons). P (y ∷ x)) (sym o.0) ∙ c)

    finds : (t : Found) → Tries f 0 choices t → Finds P (suc m) t
    finds (more z) e = none_found e
    finds (stop u) e = first_found u e

-- ---- ways of one length

one_step : (v : Way) → length v ≡ 0 → v ≡ []
one_step [] l = refl
one_step (b ∷ v) l = absurd (omega arith)

module _ (n : ℕ) (s : Sides) (ts : List ℕ) (g : Goal) where
  -- the last step
  last_finds : (w : World) (b : Buttons) (c : Bool) → arrives n g (step_with n s ts g w b) ≡ c → Finds (λ v. counts n s ts g w (b ∷ v)) 0 (cond c (stop []) nothing)
  last_finds w b true e = record { long = refl; pressed = tt; meets = e; earlier = λ v p l o c. earlier-none v o }
    where
      earlier-none : (v : Way) → Earlier v [] → ⊥
      earlier-none [] o = o
      earlier-none (a ∷ v) o = o
  last_finds w b false e = λ v p l c. true≢false (sym c ∙ ap (λ (x : Way). counts n s ts g w (b ∷ x)) (one_step v l) ∙ e)

  -- a step before it
  step_finds : (m : ℕ) (w : World) (b : Buttons) (t : Found) → let a = step_with n s ts g w b in Finds (counts n s ts g a.world) (suc m) t → (c : Bool) → goes_on n g a ≡ c → Finds (λ v. counts n s ts g w (b ∷ v)) (suc m) (cond c t nothing)
  step_finds m w b t h c e = go c e t h
    where
      a : Stepped
      a = step_with n s ts g w b

      split : (d : Buttons) (v : Way) → counts n s ts g w (b ∷ d ∷ v) ≡ true → (goes_on n g a ≡ true) × (counts n s ts g a.world (d ∷ v) ≡ true)
      split d v q = both (goes_on n g a) (counts n s ts g a.world (d ∷ v)) q

      off : goes_on n g a ≡ false → (v : Way) → length v ≡ suc m → counts n s ts g w (b ∷ v) ≡ true → ⊥
      off e [] l q = absurd (omega arith)
      off e (d ∷ v) l q = true≢false (sym (split d v q).0 ∙ e)

      on : (v : Way) → length v ≡ suc m → counts n s ts g w (b ∷ v) ≡ true → counts n s ts g a.world v ≡ true
      on [] l q = absurd (omega arith)
      on (d ∷ v) l q = (split d v q).1

      back : (u : Way) → length u ≡ suc m → goes_on n g a ≡ true → counts n s ts g a.world u ≡ true → counts n s ts g w (b ∷ u) ≡ true
      back [] l e q = absurd (omega arith)
      back (d ∷ u) l e q = ap (λ (x : Bool). x && counts n s ts g a.world (d ∷ u)) e ∙ q

      go : (c : Bool) → goes_on n g a ≡ c → (t : Found) → Finds (counts n s ts g a.world) (suc m) t → Finds (λ v. counts n s ts g w (b ∷ v)) (suc m) (cond c t nothing)
      go false e t h = λ v p l q. off e v l q
      go true e (more z) h = λ v p l q. h v p l (on v l q)
      go true e (stop u) h = record { long = h.long; pressed = h.pressed; meets = back u h.long e h.meets; earlier = λ v p l o q. h.earlier v p l o (on v l q) }

  each_finds : (m : ℕ) (w : World) (f : Stepped → Found) → ((b : Buttons) → Finds (λ v. counts n s ts g w (b ∷ v)) m (f (step_with n s ts g w b))) → Finds (counts n s ts g w) (suc m) (each_first n s ts g w f)
  each_finds m w f h =
      let try : ℕ → Found = λ i. following (buttons_at i) (f (step_with n s ts g w (buttons_at i))) in
      finds (counts n s ts g w) m try (λ i. begins (counts n s ts g w) m (buttons_at i) (f (step_with n s ts g w (buttons_at i))) (h (buttons_at i))) (each_first n s ts g w f) (tried try choices 0)

  first_of : (m : ℕ) (w : World) → Finds (counts n s ts g w) (suc m) (first_among n s ts g m w)
  unfolding first_among
  first_of zero w = each_finds zero w (ending n g) (λ b. last_finds w b (arrives n g (step_with n s ts g w b)) refl)
  first_of (suc m) w = each_finds (suc m) w (going_on n g (first_among n s ts g m)) (λ b. let a = step_with n s ts g w b in step_finds m w b (first_among n s ts g m a.world) (first_of m a.world) (goes_on n g a) refl)

  pub found_long : (m : ℕ) (w : World) (u : Way) → first_among n s ts g m w ≡ stop u → length u ≡ suc m
  found_long m w u e = (subst (Finds (counts n s ts g w) (suc m)) e (first_of m w)).long

  -- ---- and of all lengths

  -- u is the first way that counts, of those that there are
  pub record FirstThatCounts (w : World) (u : Way) : Type 0 where
    pub way : IsWay u
    pub meets : counts n s ts g w u ≡ true
    pub first : (v : Way) → IsWay v → Before v u → counts n s ts g w v ≡ true → ⊥

  abbrev pub Chooses : World → Found → Type 0
  Chooses w (more z) = (v : Way) → IsWay v → counts n s ts g w v ≡ true → ⊥
  Chooses w (stop u) = FirstThatCounts w u

  -- a way has one step more than those before its last
  module _ (w : World) (m : ℕ) where
    none-long : first_among n s ts g m w ≡ more tt → (v : Way) → IsWay v → length v ≡ suc m → counts n s ts g w v ≡ true → ⊥
    none-long e v i l = subst (Finds (counts n s ts g w) (suc m)) e (first_of m w) v i.pressed l

  chooses : (w : World) (t : Found) → Tries (λ m. first_among n s ts g m w) 0 longest t → Chooses w t
  chooses w (more z) e = λ v i c. none-long w (pred (length v)) (e (pred (length v)) (omega arith) (omega (arith, i.few))) v i (omega (arith, i.some)) c
  chooses w (stop u) t =
      let r : FirstWith (counts n s ts g w) (suc t.try) u = subst (Finds (counts n s ts g w) (suc t.try)) t.found (first_of t.try w) in
      record { way = record { some = omega (arith, r.long); few = omega (arith, r.long, t.to); pressed = r.pressed }; meets = r.meets; first = before r }
    where
      before : FirstWith (counts n s ts g w) (suc t.try) u → (v : Way) → IsWay v → Before v u → counts n s ts g w v ≡ true → ⊥
      before r v i (inl l) c = none-long w (pred (length v)) (t.empty (pred (length v)) (omega arith) (omega (arith, r.long, i.some))) v i (omega (arith, i.some)) c
      before r v i (inr o) c = r.earlier v i.pressed (o.0 ∙ r.long) o.1 c

  pub way_chosen : (w : World) → Chooses w (first_way n s ts g w)
  unfolding first_way
  way_chosen w = chooses w (first_way n s ts g w) (tried (λ m. first_among n s ts g m w) longest 0)
