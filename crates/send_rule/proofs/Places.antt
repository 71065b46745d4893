-- The copies place by place: after every copy's step, and after some are dropped. Assumes nothing.
use Prim.Native.Nat.{ℕ, zero, suc, ◌+◌, ◌≤◌, ◌<◌}
use native.Mathlib.Omega.{arith}
use mathlib.Core.Bool.{Bool, true, false, ◌||◌, true≢false}
use mathlib.Core.List.{List, [], ◌∷◌}
use mathlib.Core.Path.{◌≡◌, refl, sym, ap, ◌∙◌, subst}
use lib.Dec.{eqb}
use lib.IntN.{ℤ}
use lib.ListN.{length, set, length-set}
use lib.Seq.{get_or-set_other}
use borrow.Author.Tests.{eqb-true, eqb-false}
use Rattle.base_turns.specs.Turns.{fold}
use Rattle.map_tiles.specs.declared.tiles.Sides.{Sides}
use Rattle.character_laws.proofs.Slots.{set_others}
use Rattle.world.specs.Removal.{is_in}
use Rattle.send_rule.specs.Send.{no_copy, copy_at, step_copy, step_turn, step_copies, dropped}
use Rattle.send_rule.specs.declared.Copy.{Copy}
use Rattle.base_turns.proofs.Tests.{neither}

-- what each turn keeps for the next index, the walk keeps for the one past its last
pub fold_on : {S : Type 0} (f : ℕ → S → S) (P : ℕ → S → Type 0) → ((i : ℕ) (s : S) → P i s → P (suc i) (f i s)) → (n i : ℕ) (s : S) → P i s → P (n + i) (fold f n i s)
unfolding fold
fold_on f P k zero i s p = subst (λ (j : ℕ). P j s) (omega arith) p
fold_on f P k (suc n) i s p = subst (λ (j : ℕ). P j (fold f n (suc i) (f i s))) (omega arith) (fold_on f P k n (suc i) (f i s) (k i s p))

-- ---- every copy's step
module _ (n : ℕ) (s : Sides) (ts : List ℕ) (tunings : List ℤ) (cs : List Copy) where
  record Stepping (i : ℕ) (us : List Copy) : Type 0 where
    size : length us ≡ n
    done : (k : ℕ) → k < i → copy_at us k ≡ step_copy n s ts tunings k (copy_at cs k)
    todo : (k : ℕ) → i ≤ k → copy_at us k ≡ copy_at cs k

  turn : (i : ℕ) (us : List Copy) → (i ≤ n → Stepping i us) → suc i ≤ n → Stepping (suc i) (step_turn n s ts tunings i us)
  turn i us f l =
      let h = f (omega arith) in
      let c = step_copy n s ts tunings i (copy_at us i) in
      record {
        size = length-set us i c ∙ h.size;
        done = set_others (λ k x. k < suc i → x ≡ step_copy n s ts tunings k (copy_at cs k)) us i c no_copy (omega (arith, h.size)) (λ k d q. h.done k (omega arith)) (λ q. ap (step_copy n s ts tunings i) (h.todo i (omega arith)));
        todo = set_others (λ k x. suc i ≤ k → x ≡ copy_at cs k) us i c no_copy (omega (arith, h.size)) (λ k d q. h.todo k (omega arith)) (λ q. absurd (omega arith));
      }

  stepped : length cs ≡ n → Stepping n (step_copies n s ts tunings cs)
  unfolding step_copies
  stepped e = subst (λ (j : ℕ). Stepping j (fold (step_turn n s ts tunings) n 0 cs)) (omega arith) (fold_on (step_turn n s ts tunings) (λ i us. i ≤ n → Stepping i us) turn n 0 cs (λ l. record { size = e; done = λ k q. absurd (omega arith); todo = λ k q. refl }) (omega arith))

  pub step_size : length cs ≡ n → length (step_copies n s ts tunings cs) ≡ n
  step_size e = (stepped e).size

  pub step-at : length cs ≡ n → (k : ℕ) → k < n → copy_at (step_copies n s ts tunings cs) k ≡ step_copy n s ts tunings k (copy_at cs k)
  step-at e k l = (stepped e).done k l

-- ---- some are dropped
pub drop_size : (ks : List ℕ) (cs : List Copy) → length (dropped ks cs) ≡ length cs
drop_size [] cs = refl
drop_size (k ∷ ks) cs = drop_size ks (set cs k no_copy) ∙ length-set cs k no_copy

-- the others stay
pub drop_other : (ks : List ℕ) (cs : List Copy) (k : ℕ) → is_in k ks ≡ false → copy_at (dropped ks cs) k ≡ copy_at cs k
drop_other [] cs k e = refl
drop_other (j ∷ ks) cs k e = let t = neither (eqb j k) (is_in k ks) e in drop_other ks (set cs j no_copy) k t.1 ∙ get_or-set_other cs j k no_copy no_copy (λ q. eqb-false j k t.0 (sym q))

none_set : (cs : List Copy) (k : ℕ) → copy_at (set cs k no_copy) k ≡ no_copy
none_set [] k = refl
none_set (c ∷ cs) zero = refl
none_set (c ∷ cs) (suc k) = none_set cs k

none_kept : (cs : List Copy) (j k : ℕ) → copy_at cs k ≡ no_copy → copy_at (set cs j no_copy) k ≡ no_copy
none_kept [] j k e = refl
none_kept (c ∷ cs) zero zero e = refl
none_kept (c ∷ cs) zero (suc k) e = e
none_kept (c ∷ cs) (suc j) zero e = e
none_kept (c ∷ cs) (suc j) (suc k) e = none_kept cs j k e

drop_none : (ks : List ℕ) (cs : List Copy) (k : ℕ) → copy_at cs k ≡ no_copy → copy_at (dropped ks cs) k ≡ no_copy
drop_none [] cs k e = e
drop_none (j ∷ ks) cs k e = drop_none ks (set cs j no_copy) k (none_kept cs j k e)

-- and they have none
pub drop_same : (ks : List ℕ) (cs : List Copy) (k : ℕ) → is_in k ks ≡ true → copy_at (dropped ks cs) k ≡ no_copy
drop_same [] cs k e = absurd (true≢false (sym e))
drop_same (j ∷ ks) cs k e = go (drop_same ks (set cs j no_copy) k) (eqb j k) refl e
  where
    go : (is_in k ks ≡ true → copy_at (dropped ks (set cs j no_copy)) k ≡ no_copy) → (b : Bool) → eqb j k ≡ b → b || is_in k ks ≡ true → copy_at (dropped ks (set cs j no_copy)) k ≡ no_copy
    go later true q r = drop_none ks (set cs j no_copy) k (ap (λ (i : ℕ). copy_at (set cs i no_copy) k) (eqb-true j k q) ∙ none_set cs k)
    go later false q r = later r
