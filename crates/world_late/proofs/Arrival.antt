-- Which orders exchanges lead to: those in which each id's calls and each index's tunes come in their own order, between the same steps. Assumes nothing.
use Prim.Native.Nat.{ℕ}
use mathlib.Core.Bool.{Bool, true, false, cond, true≢false}
use mathlib.Core.List.{List, [], ◌∷◌}
use mathlib.Core.Path.{◌≡◌, refl, sym, ap, ◌∙◌, subst}
use native.Mathlib.Omega.{arith}
use lib.IntN.{ℤ_discrete}
use Rattle.world.specs.declared.call.Call.{Call}
use Rattle.world.specs.declared.call.Call.TheVariants.{Join, Leave, Input, Step, Tune}
use Rattle.world_late.specs.Late.{Subject, seat, tuning, everything, subject_of, Apart, Reordered, same, exchange, behind, again}
use Rattle.world_late.specs.Arrival.{is_yes, concerns, calls_for, AnyArrival}
use Rattle.world_late.proofs.Subjects.{Named}

-- ---- tests of what calls are for
yes_is : {P : Type 0} (d : Dec P) → P → is_yes d ≡ true
yes_is (yes h) p = refl
yes_is (no h) p = absurd (h p)

is_yes_lem : {P : Type 0} (d : Dec P) → is_yes d ≡ true → P
is_yes_lem (yes h) e = h
is_yes_lem (no h) e = absurd (true≢false (sym e))

not_yes : {P : Type 0} (d : Dec P) → is_yes d ≡ false → P → ⊥
not_yes (yes h) e p = true≢false e
not_yes (no h) e p = h p

concerns_own : (p : Subject) → concerns p p ≡ true
concerns_own (seat a) = yes_is (ℤ_discrete a a) refl
concerns_own (tuning a) = yes_is (ℤ_discrete a a) refl
concerns_own everything = refl

unconcerned_apart : (p q : Subject) → Named p → concerns p q ≡ false → Apart p q
unconcerned_apart (seat a) (seat b) n e = not_yes (ℤ_discrete a b) e
unconcerned_apart (seat a) (tuning b) n e = tt
unconcerned_apart (seat a) everything n e = absurd (true≢false e)
unconcerned_apart (tuning a) (seat b) n e = tt
unconcerned_apart (tuning a) (tuning b) n e = not_yes (ℤ_discrete a b) e
unconcerned_apart (tuning a) everything n e = absurd (true≢false e)
unconcerned_apart everything q n e = absurd n

-- calls that are apart do not both concern one
apart-concerns : (p q r : Subject) → Apart q r → concerns p q ≡ true → concerns p r ≡ true → ⊥
apart-concerns (seat a) (seat b) (seat c) h e f = h (sym (is_yes_lem (ℤ_discrete a b) e) ∙ is_yes_lem (ℤ_discrete a c) f)
apart-concerns (tuning a) (tuning b) (tuning c) h e f = h (sym (is_yes_lem (ℤ_discrete a b) e) ∙ is_yes_lem (ℤ_discrete a c) f)
apart-concerns (seat a) (tuning b) r h e f = true≢false (sym e)
apart-concerns (tuning a) (seat b) r h e f = true≢false (sym e)
apart-concerns (seat a) (seat b) (tuning c) h e f = true≢false (sym f)
apart-concerns (tuning a) (tuning b) (seat c) h e f = true≢false (sym f)
apart-concerns everything (seat b) r h e f = true≢false (sym e)
apart-concerns everything (tuning b) r h e f = true≢false (sym e)
apart-concerns (seat a) (seat b) everything h e f = h
apart-concerns (tuning a) (tuning b) everything h e f = h
apart-concerns (seat a) everything r h e f = h
apart-concerns (tuning a) everything r h e f = h
apart-concerns everything everything r h e f = h

-- ---- an exchange leaves the calls for each
same_calls : (p : Subject) {cs ds : List Call} → Reordered (λ c. c) cs ds → calls_for p cs ≡ calls_for p ds
same_calls p (same cs) = refl
same_calls p (exchange c d cs h) = go (concerns p (subject_of c)) (concerns p (subject_of d)) refl refl
  where
    go : (a b : Bool) → concerns p (subject_of c) ≡ a → concerns p (subject_of d) ≡ b → cond a (c ∷ cond b (d ∷ calls_for p cs) (calls_for p cs)) (cond b (d ∷ calls_for p cs) (calls_for p cs)) ≡ cond b (d ∷ cond a (c ∷ calls_for p cs) (calls_for p cs)) (cond a (c ∷ calls_for p cs) (calls_for p cs))
    go true true e f = absurd (apart-concerns p (subject_of c) (subject_of d) h e f)
    go true false e f = refl
    go false true e f = refl
    go false false e f = refl
same_calls p (behind c h) = ap (λ (cs : List Call). cond (concerns p (subject_of c)) (c ∷ cs) cs) (same_calls p h)
same_calls p (again h k) = same_calls p h ∙ same_calls p k

-- ---- the first call of the one list comes to the front of the other
record Front (c : Call) (ds : List Call) : Type 0 where
  rest : List Call
  moved : Reordered (λ x. x) (c ∷ rest) ds

no_calls : (c : Call) (cs : List Call) → [] ≡ c ∷ cs → ⊥
no_calls c cs e = let z : ◌≡◌ {A = ℕ} 0 1 = cc in omega arith

first_call : (c d : Call) (cs ds : List Call) → c ∷ cs ≡ d ∷ ds → c ≡ d
first_call c d cs ds e = cc

later_calls : (c : Call) (cs ds : List Call) → c ∷ cs ≡ c ∷ ds → cs ≡ ds
later_calls c cs ds e = cc

own_first : (d : Call) (ds : List Call) → calls_for (subject_of d) (d ∷ ds) ≡ d ∷ calls_for (subject_of d) ds
own_first d ds = ap (λ (b : Bool). cond b (d ∷ calls_for (subject_of d) ds) (calls_for (subject_of d) ds)) (concerns_own (subject_of d))

found : (c : Call) → Named (subject_of c) → (ds es : List Call) → calls_for (subject_of c) ds ≡ c ∷ es → Front c ds
found c n [] es e = absurd (no_calls c es e)
found c n (d ∷ ds) es e = go (concerns (subject_of c) (subject_of d)) refl (found c n ds es) e
  where
    go : (b : Bool) → concerns (subject_of c) (subject_of d) ≡ b → (calls_for (subject_of c) ds ≡ c ∷ es → Front c ds) → cond b (d ∷ calls_for (subject_of c) ds) (calls_for (subject_of c) ds) ≡ c ∷ es → Front c (d ∷ ds)
    go true f deeper q = record { rest = ds; moved = subst (λ (x : Call). Reordered (λ x. x) (x ∷ ds) (d ∷ ds)) (first_call d c (calls_for (subject_of c) ds) es q) (same (d ∷ ds)) }
    go false f deeper q = let r = deeper q in record { rest = d ∷ r.rest; moved = again (exchange c d r.rest (unconcerned_apart (subject_of c) (subject_of d) n f)) (behind d r.moved) }

stepped : (cs ds : List Call) → ((p : Subject) → calls_for p (Step ∷ cs) ≡ calls_for p ds) → Front Step ds
stepped cs [] h = absurd (no_calls Step (calls_for everything cs) (sym (h everything)))
stepped cs (d ∷ ds) h = record { rest = ds; moved = subst (λ (x : Call). Reordered (λ x. x) (x ∷ ds) (d ∷ ds)) (sym (first_call Step d _ _ (h (subject_of d) ∙ own_first d ds))) (same (d ∷ ds)) }

front : (c : Call) (cs ds : List Call) → ((p : Subject) → calls_for p (c ∷ cs) ≡ calls_for p ds) → Front c ds
front (Join id x y) cs ds h = found (Join id x y) tt ds _ (sym (h (seat id)) ∙ own_first (Join id x y) cs)
front (Leave id) cs ds h = found (Leave id) tt ds _ (sym (h (seat id)) ∙ own_first (Leave id) cs)
front (Input id d x y j u) cs ds h = found (Input id d x y j u) tt ds _ (sym (h (seat id)) ∙ own_first (Input id d x y j u) cs)
front (Tune index z) cs ds h = found (Tune index z) tt ds _ (sym (h (tuning index)) ∙ own_first (Tune index z) cs)
front Step cs ds h = stepped cs ds h

-- ---- and so on
reordered : (cs ds : List Call) → ((p : Subject) → calls_for p cs ≡ calls_for p ds) → Reordered (λ c. c) cs ds
reordered [] [] h = same []
reordered [] (d ∷ ds) h = absurd (no_calls d (calls_for (subject_of d) ds) (h (subject_of d) ∙ own_first d ds))
reordered (c ∷ cs) ds h = let f = front c cs ds h in again (behind c (reordered cs f.rest (λ p. go p f.rest (h p ∙ sym (same_calls p f.moved))))) f.moved
  where
    go : (p : Subject) (es : List Call) → calls_for p (c ∷ cs) ≡ calls_for p (c ∷ es) → calls_for p cs ≡ calls_for p es
    go p es = split (concerns p (subject_of c))
      where
        split : (b : Bool) → cond b (c ∷ calls_for p cs) (calls_for p cs) ≡ cond b (c ∷ calls_for p es) (calls_for p es) → calls_for p cs ≡ calls_for p es
        split true e = later_calls c (calls_for p cs) (calls_for p es) e
        split false e = e

pub any_arrival : AnyArrival
any_arrival cs ds = (reordered cs ds, λ h p. same_calls p h)
