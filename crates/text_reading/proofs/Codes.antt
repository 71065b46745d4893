-- Laws of seven values as a call: its code says which, and its spare values are 0. Assumes nothing.
use Prim.Native.Nat.{ℕ, zero, suc, ◌^◌, ◌≤◌, ◌<◌}
use mathlib.Core.Path.{◌≡◌, refl, sym, ap, ◌∙◌, subst}
use mathlib.Core.Bool.{Bool, true, false, cond, ◌&&◌, true≢false}
use mathlib.Core.List.{List, [], ◌∷◌}
use mathlib.Core.Logic.{◌⊎◌, inl, inr}
use native.Mathlib.Omega.{arith}
use lib.Dec.{eqb}
use lib.IntN.{ℤ, pos, negsuc}
use lib.ListN.{length, drop, get_or, replicate}
use mir.Syntax.{w32}
use mir.Val.{SFits, to_z, of_z}
use mir.ValLaws.{to_z-of_z}
use borrow.Author.Tests.{eqb-true, ne_eqb}
use Rattle.num_convert.specs.Casts.{IsI32}
use Rattle.text_reading.specs.Calls.{values}
use Rattle.text_reading.specs.Parts.{DecodedAs, all_zero, with_spare}
use Rattle.world.specs.declared.call.Call.{Call}
use Rattle.world.specs.declared.call.Call.TheVariants.{Join, Leave, Input, Step, Tune}
use Rattle.std.specs.declared.option.Option.{Option}
use Rattle.std.specs.declared.option.Option.TheVariants.{None, Some}

-- a number from its bits
pub from_bits : (z : ℤ) (n : ℕ) → IsI32 z → n < 2 ^ 31 → of_z w32 z ≡ n → z ≡ pos n
from_bits (pos m) n f h e = ap pos e
from_bits (negsuc m) n f h e = absurd (omega arith)

-- ---- values that are all 0
pub zero_first : (z : ℤ) (zs : List ℤ) → z ≡ pos 0 → all_zero (z ∷ zs) ≡ all_zero zs
unfolding all_zero
zero_first z zs e = ap (λ (x : ℤ). all_zero (x ∷ zs)) e

pub other_first : (z : ℤ) (zs : List ℤ) → (z ≡ pos 0 → ⊥) → all_zero (z ∷ zs) ≡ false
unfolding all_zero
other_first (pos n) zs h = ap (λ (t : Bool). t && all_zero zs) (ne_eqb n 0 (λ e. h (ap pos e)))
other_first (negsuc n) zs h = refl

zeros : (zs : List ℤ) → all_zero zs ≡ true → zs ≡ replicate (length zs) (pos 0)
unfolding all_zero
zeros [] e = refl
zeros (negsuc n ∷ zs) e = absurd (true≢false (sym e))
zeros (pos n ∷ zs) e = by (eqb n 0) refl e (zeros zs)
  where
    by : (t : Bool) → eqb n 0 ≡ t → (t && all_zero zs) ≡ true → (all_zero zs ≡ true → zs ≡ replicate (length zs) (pos 0)) → pos n ∷ zs ≡ pos 0 ∷ replicate (length zs) (pos 0)
    by true q e ih = let a = ap pos (eqb-true n 0 q) in let b = ih e in cc
    by false q e ih = absurd (true≢false (sym e))

-- ---- which call
-- how many values a code uses, itself included
abbrev pub used : ℕ → ℕ
used n = cond (eqb n 1) 4 (cond (eqb n 2) 2 (cond (eqb n 4) 1 (cond (eqb n 5) 3 7)))

pub code_first : (c : Call) → (n : ℕ) × (get_or (values c) 0 (pos 0) ≡ pos n) × (1 ≤ n) × (n ≤ 5) × (all_zero (drop (used n) (values c)) ≡ true)
unfolding all_zero
code_first (Join id x y) = (1, refl, omega arith, omega arith, refl)
code_first (Leave id) = (2, refl, omega arith, omega arith, refl)
code_first (Input id d x y j h) = (3, refl, omega arith, omega arith, refl)
code_first Step = (4, refl, omega arith, omega arith, refl)
code_first (Tune i v) = (5, refl, omega arith, omega arith, refl)

-- no call has spare values that are not 0, nor another code
spare_zero : (zs : List ℤ) (n : ℕ) → get_or zs 0 (pos 0) ≡ pos n → (c : Call) → values c ≡ zs → all_zero (drop (used n) zs) ≡ true
spare_zero zs n e c h =
    let k = code_first c in
    let m : k.0 ≡ n = let q : pos k.0 ≡ pos n = sym k.1 ∙ ap (λ (l : List ℤ). get_or l 0 (pos 0)) h ∙ e in cc in
    ap (λ (l : List ℤ). all_zero (drop (used n) l)) (sym h) ∙ ap (λ (i : ℕ). all_zero (drop (used i) (values c))) (sym m) ∙ k.4

pub no_code : (zs : List ℤ) → ((n : ℕ) → 1 ≤ n → n ≤ 5 → get_or zs 0 (pos 0) ≡ pos n → ⊥) → DecodedAs zs None
unfolding DecodedAs
no_code zs h = λ c e. let k = code_first c in h k.0 k.2 k.3 (ap (λ (l : List ℤ). get_or l 0 (pos 0)) (sym e) ∙ k.1)

-- with the spare values of its code
decided : (zs : List ℤ) (n : ℕ) (c : Call) → get_or zs 0 (pos 0) ≡ pos n → (all_zero (drop (used n) zs) ≡ true → values c ≡ zs) → DecodedAs zs (with_spare (drop (used n) zs) c)
unfolding DecodedAs with_spare
decided zs n c e h = by (all_zero (drop (used n) zs)) refl
  where
    by : (t : Bool) → all_zero (drop (used n) zs) ≡ t → DecodedAs zs (cond t (Some c) None)
    by true q = h q
    by false q = λ k f. true≢false (sym (spare_zero zs n e k f) ∙ q)

abbrev pub at : List ℤ → ℕ → ℤ
at zs k = get_or zs k (pos 0)

-- what holds of any seven values
seven : (P : List ℤ → Type 0) → ((a b c d e f g : ℤ) → P (a ∷ b ∷ c ∷ d ∷ e ∷ f ∷ g ∷ [])) → (zs : List ℤ) → length zs ≡ 7 → P zs
seven P p (a ∷ b ∷ c ∷ d ∷ e ∷ f ∷ g ∷ []) h = p a b c d e f g
seven P p [] h = absurd (omega arith)
seven P p (a ∷ []) h = absurd (omega arith)
seven P p (a ∷ b ∷ []) h = absurd (omega arith)
seven P p (a ∷ b ∷ c ∷ []) h = absurd (omega arith)
seven P p (a ∷ b ∷ c ∷ d ∷ []) h = absurd (omega arith)
seven P p (a ∷ b ∷ c ∷ d ∷ e ∷ []) h = absurd (omega arith)
seven P p (a ∷ b ∷ c ∷ d ∷ e ∷ f ∷ []) h = absurd (omega arith)
seven P p (a ∷ b ∷ c ∷ d ∷ e ∷ f ∷ g ∷ i ∷ zs) h = absurd (omega arith)

-- with the arguments at their places
pub is_join : (zs : List ℤ) → length zs ≡ 7 → at zs 0 ≡ pos 1 → DecodedAs zs (with_spare (drop 4 zs) (Join (at zs 1) (at zs 2) (at zs 3)))
is_join = seven _ λ z a b c d e f q. decided _ 1 (Join a b c) q (λ t. let s = zeros (d ∷ e ∷ f ∷ []) t in cc)

pub is_leave : (zs : List ℤ) → length zs ≡ 7 → at zs 0 ≡ pos 2 → DecodedAs zs (with_spare (drop 2 zs) (Leave (at zs 1)))
is_leave = seven _ λ z a b c d e f q. decided _ 2 (Leave a) q (λ t. let s = zeros (b ∷ c ∷ d ∷ e ∷ f ∷ []) t in cc)

pub is_input : (zs : List ℤ) → length zs ≡ 7 → at zs 0 ≡ pos 3 → DecodedAs zs (Some (Input (at zs 1) (at zs 2) (at zs 3) (at zs 4) (at zs 5) (at zs 6)))
unfolding DecodedAs
is_input = seven _ λ z a b c d e f q. cc

pub is_step : (zs : List ℤ) → length zs ≡ 7 → at zs 0 ≡ pos 4 → DecodedAs zs (with_spare (drop 1 zs) Step)
is_step = seven _ λ z a b c d e f q. decided _ 4 Step q (λ t. let s = zeros (a ∷ b ∷ c ∷ d ∷ e ∷ f ∷ []) t in cc)

pub is_tune : (zs : List ℤ) → length zs ≡ 7 → at zs 0 ≡ pos 5 → DecodedAs zs (with_spare (drop 3 zs) (Tune (at zs 1) (at zs 2)))
is_tune = seven _ λ z a b c d e f q. decided _ 5 (Tune a b) q (λ t. let s = zeros (c ∷ d ∷ e ∷ f ∷ []) t in cc)

-- seven values stand for a call or for none
decoded_code : (zs : List ℤ) → length zs ≡ 7 → (n : ℕ) → at zs 0 ≡ pos n → (d : Option Call) × DecodedAs zs d
decoded_code zs l zero e = (None, no_code zs (λ m a b q. let f : pos m ≡ pos 0 = sym q ∙ e in let k : m ≡ 0 = cc in omega arith))
decoded_code zs l (suc zero) e = (_, is_join zs l e)
decoded_code zs l (suc (suc zero)) e = (_, is_leave zs l e)
decoded_code zs l (suc (suc (suc zero))) e = (_, is_input zs l e)
decoded_code zs l (suc (suc (suc (suc zero)))) e = (_, is_step zs l e)
decoded_code zs l (suc (suc (suc (suc (suc zero))))) e = (_, is_tune zs l e)
decoded_code zs l (suc (suc (suc (suc (suc (suc n)))))) e =
    (None, no_code zs (λ m a b q. let f : pos m ≡ pos (suc (suc (suc (suc (suc (suc n)))))) = sym q ∙ e in let k : m ≡ suc (suc (suc (suc (suc (suc n))))) = cc in omega arith))

pub decoded_some : (zs : List ℤ) → length zs ≡ 7 → (d : Option Call) × DecodedAs zs d
decoded_some zs l = by (at zs 0) refl
  where
    by : (z : ℤ) → at zs 0 ≡ z → (d : Option Call) × DecodedAs zs d
    by (pos n) e = decoded_code zs l n e
    by (negsuc n) e = (None, no_code zs (λ m a b q. let f : pos m ≡ negsuc n = sym q ∙ e in let z : ◌≡◌ {A = ℕ} 0 1 = cc in omega arith))

-- ---- the bits of a call's values: its code, and 0 for each spare one
abbrev pub bits : List ℤ → ℕ → ℕ
bits zs k = of_z w32 (at zs k)

abbrev pub Shape : List ℤ → Type 0
Shape zs =
    ((bits zs 0 ≡ 1) × (bits zs 4 ≡ 0) × (bits zs 5 ≡ 0) × (bits zs 6 ≡ 0))
    ⊎ (((bits zs 0 ≡ 2) × (bits zs 2 ≡ 0) × (bits zs 3 ≡ 0) × (bits zs 4 ≡ 0) × (bits zs 5 ≡ 0) × (bits zs 6 ≡ 0))
    ⊎ ((bits zs 0 ≡ 3)
    ⊎ (((bits zs 0 ≡ 4) × (bits zs 1 ≡ 0) × (bits zs 2 ≡ 0) × (bits zs 3 ≡ 0) × (bits zs 4 ≡ 0) × (bits zs 5 ≡ 0) × (bits zs 6 ≡ 0))
    ⊎ ((bits zs 0 ≡ 5) × (bits zs 3 ≡ 0) × (bits zs 4 ≡ 0) × (bits zs 5 ≡ 0) × (bits zs 6 ≡ 0)))))

shaped : (c : Call) → Shape (values c)
shaped (Join id x y) = inl (refl, refl, refl, refl)
shaped (Leave id) = inr (inl (refl, refl, refl, refl, refl, refl))
shaped (Input id d x y j h) = inr (inr (inl refl))
shaped Step = inr (inr (inr (inl (refl, refl, refl, refl, refl, refl, refl))))
shaped (Tune i v) = inr (inr (inr (inr (refl, refl, refl, refl, refl))))

pub shape : (zs : List ℤ) (c : Call) → values c ≡ zs → Shape zs
shape zs c e = subst Shape e (shaped c)

-- and the call that has them
held : {z : ℤ} → SFits w32 z → to_z w32 (of_z w32 z) ≡ z
held {z} f = to_z-of_z w32 z f

value : {z : ℤ} → SFits w32 z → (m : ℕ) → of_z w32 z ≡ m → m < 2 ^ 31 → z ≡ pos m
value {z} f m e h = from_bits z m f.sfits h e

module _ (zs : List ℤ) (n : length zs ≡ 7) (f0 : SFits w32 (at zs 0)) (f1 : SFits w32 (at zs 1)) (f2 : SFits w32 (at zs 2)) (f3 : SFits w32 (at zs 3)) (f4 : SFits w32 (at zs 4)) (f5 : SFits w32 (at zs 5)) (f6 : SFits w32 (at zs 6)) where
  pub has_join : bits zs 0 ≡ 1 → bits zs 4 ≡ 0 → bits zs 5 ≡ 0 → bits zs 6 ≡ 0 → DecodedAs zs (Some (Join (to_z w32 (bits zs 1)) (to_z w32 (bits zs 2)) (to_z w32 (bits zs 3))))
  unfolding DecodedAs
  has_join q r s t = simp (held f1, held f2, held f3) (seven (λ (l : List ℤ). at l 0 ≡ pos 1 → at l 4 ≡ pos 0 → at l 5 ≡ pos 0 → at l 6 ≡ pos 0 → values (Join (at l 1) (at l 2) (at l 3)) ≡ l) (λ z a b c d e f q r s t. cc) zs n (value f0 1 q (omega arith)) (value f4 0 r (omega arith)) (value f5 0 s (omega arith)) (value f6 0 t (omega arith)))

  pub has_leave : bits zs 0 ≡ 2 → bits zs 2 ≡ 0 → bits zs 3 ≡ 0 → bits zs 4 ≡ 0 → bits zs 5 ≡ 0 → bits zs 6 ≡ 0 → DecodedAs zs (Some (Leave (to_z w32 (bits zs 1))))
  unfolding DecodedAs
  has_leave q r s t u v = simp (held f1) (seven (λ (l : List ℤ). at l 0 ≡ pos 2 → at l 2 ≡ pos 0 → at l 3 ≡ pos 0 → at l 4 ≡ pos 0 → at l 5 ≡ pos 0 → at l 6 ≡ pos 0 → values (Leave (at l 1)) ≡ l) (λ z a b c d e f q r s t u v. cc) zs n (value f0 2 q (omega arith)) (value f2 0 r (omega arith)) (value f3 0 s (omega arith)) (value f4 0 t (omega arith)) (value f5 0 u (omega arith)) (value f6 0 v (omega arith)))

  pub has_input : bits zs 0 ≡ 3 → DecodedAs zs (Some (Input (to_z w32 (bits zs 1)) (to_z w32 (bits zs 2)) (to_z w32 (bits zs 3)) (to_z w32 (bits zs 4)) (to_z w32 (bits zs 5)) (to_z w32 (bits zs 6))))
  unfolding DecodedAs
  has_input q = simp (held f1, held f2, held f3, held f4, held f5, held f6) (seven (λ (l : List ℤ). at l 0 ≡ pos 3 → values (Input (at l 1) (at l 2) (at l 3) (at l 4) (at l 5) (at l 6)) ≡ l) (λ z a b c d e f q. cc) zs n (value f0 3 q (omega arith)))

  pub has_step : bits zs 0 ≡ 4 → bits zs 1 ≡ 0 → bits zs 2 ≡ 0 → bits zs 3 ≡ 0 → bits zs 4 ≡ 0 → bits zs 5 ≡ 0 → bits zs 6 ≡ 0 → DecodedAs zs (Some Step)
  unfolding DecodedAs
  has_step q r s t u v w = seven (λ (l : List ℤ). at l 0 ≡ pos 4 → at l 1 ≡ pos 0 → at l 2 ≡ pos 0 → at l 3 ≡ pos 0 → at l 4 ≡ pos 0 → at l 5 ≡ pos 0 → at l 6 ≡ pos 0 → values Step ≡ l) (λ z a b c d e f q r s t u v w. cc) zs n (value f0 4 q (omega arith)) (value f1 0 r (omega arith)) (value f2 0 s (omega arith)) (value f3 0 t (omega arith)) (value f4 0 u (omega arith)) (value f5 0 v (omega arith)) (value f6 0 w (omega arith))

  pub has_tune : bits zs 0 ≡ 5 → bits zs 3 ≡ 0 → bits zs 4 ≡ 0 → bits zs 5 ≡ 0 → bits zs 6 ≡ 0 → DecodedAs zs (Some (Tune (to_z w32 (bits zs 1)) (to_z w32 (bits zs 2))))
  unfolding DecodedAs
  has_tune q r s t u = simp (held f1, held f2) (seven (λ (l : List ℤ). at l 0 ≡ pos 5 → at l 3 ≡ pos 0 → at l 4 ≡ pos 0 → at l 5 ≡ pos 0 → at l 6 ≡ pos 0 → values (Tune (at l 1) (at l 2)) ≡ l) (λ z a b c d e f q r s t u. cc) zs n (value f0 5 q (omega arith)) (value f3 0 r (omega arith)) (value f4 0 s (omega arith)) (value f5 0 t (omega arith)) (value f6 0 u (omega arith)))
