-- The world of a run is the one that its calls reach from a fresh world. Assumes nothing.
use Prim.Native.Nat.{ℕ, zero, suc, ◌+◌, ◌<◌}
use mathlib.Core.Bool.{Bool, true, false, cond}
use mathlib.Core.List.{List, [], ◌∷◌, ◌++◌, append_assoc, append-nil}
use mathlib.Core.Path.{◌≡◌, refl, sym, ap, ◌∙◌}
use native.Mathlib.Omega.{arith}
use lib.IntN.{ℤ, pos}
use lib.Dec.{eqb}
use lib.ListN.{length, get_or, take, length-set}
use lib.Seq.{take_all, take-suc-set}
use borrow.Author.Tests.{lt-ltb, eqb-true}
use Rattle.base_turns.specs.Turns.{more}
use Rattle.game_tuning.specs.Tuning.{tuning_count, hook_hold, is_hold, may_tune}
use Rattle.map_tiles.specs.declared.tiles.Sides.{Sides}
use Rattle.world.specs.World.{fresh, with_tuning}
use Rattle.world.specs.Calls.{place_of, tune}
use Rattle.world.specs.Run.{ran, after}
use Rattle.world.specs.declared.World.{World}
use Rattle.world.specs.declared.call.Call.{Call}
use Rattle.world.specs.declared.call.Call.TheVariants.{Step}
use Rattle.world.proofs.Settled.{after_settled}
use Rattle.trial_rule.specs.Trial.{Entrant, Trying, inputs_for, step_from, enter, enter_all, nobody_yet, tuned_to}
use Rattle.trial_rule.specs.Calls.{has_hold}
use Rattle.trial_rule.specs.Laws.{state_after, joins_of, tunes_of, steps_of, RunsByCalls}
use Rattle.trial_rule.proofs.Joins.{enter_done, on_more}

module _ (n : ℕ) (s : Sides) (ts : List ℕ) where
  -- one list of calls, and then another
  both : (cs ds : List Call) (w : World) → after n s ts w (cs ++ ds) ≡ after n s ts (after n s ts w cs) ds
  both [] ds w = refl
  both (c ∷ cs) ds w = both cs ds (ran n s ts w c).world

  -- ---- the joins
  joins : (es : List Entrant) (t v : Trying) → enter_all n s ts es t ≡ more v → after n s ts t.world (joins_of es) ≡ v.world
  joins [] t v q = let e : t ≡ v = cc in ap (λ (x : Trying). x.world) e
  joins (e ∷ es) t v q = on_more n s ts (enter_all n s ts es) (after n s ts t.world (joins_of (e ∷ es)) ≡ v.world) v (enter n s ts e t) q (λ w r p. ap (λ (x : World). after n s ts x (joins_of es)) (sym (enter_done n s ts e t w r).joined) ∙ joins es w v p)

  -- ---- the tunes

  tuned : (i : ℕ) (z : ℤ) (w : World) → i < tuning_count → may_tune i z ≡ true → (tune w (pos i) z).world ≡ with_tuning w i z
  unfolding tune place_of
  tuned i z w h m = rw (lt-ltb i tuning_count h) (rw (lt-ltb i tuning_count h, m) refl)

  -- from the index i on
  tunes : (zs : List ℤ) (i : ℕ) (w : World) → length w.tunings ≡ tuning_count → i + length zs ≡ tuning_count → ((k : ℕ) → may_tune (i + k) (get_or zs k (pos 0)) ≡ true) → after n s ts w (tunes_of i zs) ≡ record { slots = w.slots; tunings = take i w.tunings ++ zs }
  tunes [] i w h e m = ap (λ (l : List ℤ). record { slots = w.slots; tunings = l }) (sym (append-nil (take i w.tunings) ∙ take_all i w.tunings (omega (arith, h, e))))
  tunes (z ∷ zs) i w h e m =
      let l : i < tuning_count = omega (arith, e) in
      let v = with_tuning w i z in
      ap (λ (x : World). after n s ts x (tunes_of (suc i) zs)) (tuned i z w l (ap (λ (j : ℕ). may_tune j z) (omega arith) ∙ m 0))
      ∙ tunes zs (suc i) v (length-set w.tunings i z ∙ h) (omega (arith, e)) (λ k. ap (λ (j : ℕ). may_tune j (get_or zs k (pos 0))) (omega arith) ∙ m (suc k))
      ∙ ap (λ (m : List ℤ). record { slots = w.slots; tunings = m }) (ap (λ (m : List ℤ). m ++ zs) (take-suc-set w.tunings i z (omega (arith, h, l))) ∙ append_assoc (take i w.tunings) (z ∷ []) zs)

  -- ---- the steps
  steps : (u : Trying) (k : ℕ) → (state_after n s ts u k).world ≡ after n s ts u.world (steps_of n s ts u k)
  unfolding step_from
  steps u zero = refl
  steps u (suc k) =
      let t = state_after n s ts u k in
      sym (both (steps_of n s ts u k) (inputs_for n s t ++ (Step ∷ [])) u.world
      ∙ ap (λ (w : World). after n s ts w (inputs_for n s t ++ (Step ∷ []))) (sym (steps u k))
      ∙ both (inputs_for n s t) (Step ∷ []) t.world)

-- a tuning with a hold is taken at every index
taken : (zs : List ℤ) → has_hold zs ≡ true → (k : ℕ) → may_tune k (get_or zs k (pos 0)) ≡ true
unfolding may_tune
taken zs g k = go (eqb k hook_hold) refl
  where
    go : (b : Bool) → eqb k hook_hold ≡ b → cond b (is_hold (get_or zs k (pos 0))) true ≡ true
    go true e = ap (λ (j : ℕ). is_hold (get_or zs j (pos 0))) (eqb-true k hook_hold e) ∙ g
    go false e = refl

pub runs_by_calls : (n : ℕ) → RunsByCalls n
runs_by_calls n s ts es t zs k q e g =
    let u = tuned_to zs t in
    let w = fresh n in
    let j = joins n s ts es (nobody_yet n) t q in
    let h : length t.world.tunings ≡ tuning_count = ap (λ (x : World). length x.tunings) (sym j) ∙ (after_settled n s ts (joins_of es)).tunings in
    steps n s ts u k
    ∙ sym (both n s ts (joins_of es) (tunes_of 0 zs ++ steps_of n s ts u k) w
    ∙ ap (λ (x : World). after n s ts x (tunes_of 0 zs ++ steps_of n s ts u k)) j
    ∙ both n s ts (tunes_of 0 zs) (steps_of n s ts u k) t.world
    ∙ ap (λ (x : World). after n s ts x (steps_of n s ts u k)) (tunes n s ts zs 0 t.world h (omega (arith, e)) (λ i. ap (λ (j : ℕ). may_tune j (get_or zs i (pos 0))) (omega arith) ∙ taken zs g i)))
