-- Laws of lines of values: a line read or written value by value. Assumes nothing.
use Prim.Native.Nat.{ℕ, suc, ◌+◌, ◌*◌, ◌-◌, ◌≤◌, ◌<◌}
use mathlib.Core.Path.{◌≡◌, refl, sym, ap, ◌∙◌, subst}
use mathlib.Core.Bool.{Bool, true, false, cond}
use mathlib.Core.List.{List, [], ◌∷◌, ◌++◌, append_assoc, append-nil, append_cancel_left}
use native.Mathlib.Nat.{add-zero}
use native.Mathlib.Omega.{arith}
use lib.Dec.{eqb}
use lib.IntN.{ℤ, pos}
use lib.ListN.{length, take, drop, get_or, length-append}
use lib.Seq.{length-take-le, split_at}
use Rattle.num_convert.specs.Casts.{IsI32}
use Rattle.text_decimal.specs.Decimal.{written}
use Rattle.text_decimal.specs.Lines.{end_byte, ended, line, All}
use Rattle.text_decimal.specs.Places.{Stands, Absent}
use Rattle.text_decimal.proofs.Digits.{short, long}
use Rattle.text_decimal.proofs.Places.{none, chain, follows}
use Rattle.text_decimal.proofs.Told.{value_unique}

-- values of which each is ended by a byte that depends on how many are still to come, r of them after these
abbrev pub front : (ℕ → ℕ) → ℕ → List ℤ → List ℕ
front stop r [] = []
front stop r (z ∷ zs) = ended (written z) (stop (length zs + r)) ++ front stop r zs

pub front_line : (zs : List ℤ) → front end_byte 0 zs ≡ line zs
front_line [] = refl
front_line (z ∷ zs) = simp (add-zero, front_line zs)

module _ (stop : ℕ → ℕ) where
  pub front_append : (r : ℕ) (ys zs : List ℤ) → front stop r (ys ++ zs) ≡ front stop (length zs + r) ys ++ front stop r zs
  front_append r [] zs = refl
  front_append r (y ∷ ys) zs =
      let l : length (ys ++ zs) + r ≡ length ys + (length zs + r) = omega (arith, length-append ys zs) in
      ap (λ (n : ℕ). ended (written y) (stop n) ++ front stop r (ys ++ zs)) l
      ∙ ap (λ (w : List ℕ). ended (written y) (stop (length ys + (length zs + r))) ++ w) (front_append r ys zs)
      ∙ sym (append_assoc (ended (written y) (stop (length ys + (length zs + r)))) (front stop (length zs + r) ys) (front stop r zs))

  -- one value more
  pub front_more : (r : ℕ) (zs : List ℤ) (z : ℤ) → front stop r (zs ++ (z ∷ [])) ≡ front stop (suc r) zs ++ ended (written z) (stop r)
  front_more r zs z =
      let one : length (z ∷ []) + r ≡ suc r = omega arith in
      let none : 0 + r ≡ r = omega arith in
      let last : ended (written z) (stop (0 + r)) ++ [] ≡ ended (written z) (stop r) = append-nil (ended (written z) (stop (0 + r))) ∙ ap (λ (k : ℕ). ended (written z) (stop k)) none in
      front_append r zs (z ∷ []) ∙ ap (λ (k : ℕ). front stop k zs ++ front stop r (z ∷ [])) one ∙ ap (λ (w : List ℕ). front stop (suc r) zs ++ w) last

  -- two to twelve bytes a value
  pub front_short : (r : ℕ) (zs : List ℤ) → length (front stop r zs) ≤ 12 * length zs
  front_short r [] = omega arith
  front_short r (z ∷ zs) = simp length-append (omega (arith, short z, front_short r zs))

  pub front_long : (r : ℕ) (zs : List ℤ) → 2 * length zs ≤ length (front stop r zs)
  front_long r [] = omega arith
  front_long r (z ∷ zs) = simp length-append (omega (arith, long z, front_long r zs))

  -- as many values that are written alike are the same
  module _ (low : (n : ℕ) → stop n < 48) where
    pub front-unique : (r : ℕ) (ys zs : List ℤ) (p q : List ℕ) → length ys ≡ length zs → All IsI32 ys → All IsI32 zs → front stop r ys ++ p ≡ front stop r zs ++ q → ys ≡ zs
    front-unique r [] [] p q l f g e = refl
    front-unique r [] (z ∷ zs) p q l f g e = absurd (omega arith)
    front-unique r (y ∷ ys) [] p q l f g e = absurd (omega arith)
    front-unique r (y ∷ ys) (z ∷ zs) p q l f g e =
        let n : length ys ≡ length zs = omega arith in
        let b : ℕ = stop (length ys + r) in
        let w : List ℕ = ended (written y) b in
        let v : List ℕ = ended (written z) (stop (length zs + r)) in
        let same : ended (written z) (stop (length zs + r)) ≡ ended (written z) b = ap (λ (k : ℕ). ended (written z) (stop (k + r))) (sym n) in
        let d : w ++ (front stop r ys ++ p) ≡ ended (written z) b ++ (front stop r zs ++ q) =
        sym (append_assoc w (front stop r ys) p) ∙ e ∙ append_assoc v (front stop r zs) q ∙ ap (λ (x : List ℕ). x ++ (front stop r zs ++ q)) same in
        let k = value_unique b y z (front stop r ys ++ p) (front stop r zs ++ q) (low (length ys + r)) f.0 g.0 d in
        let m = front-unique r ys zs p q n f.1 g.1 (
        append_cancel_left w (front stop r ys ++ p) (front stop r zs ++ q) (d ∙ ap (λ (x : ℤ). ended (written x) b ++ (front stop r zs ++ q)) (sym k))
        ) in
        cc

-- ---- a line
pub end_low : (n : ℕ) → end_byte n < 48
end_low n = by (eqb n 0)
  where
    by : (t : Bool) → cond t 10 32 < 48
    by true = omega arith
    by false = omega arith

pub line_unique : (ys zs : List ℤ) (p q : List ℕ) → length ys ≡ length zs → All IsI32 ys → All IsI32 zs → line ys ++ p ≡ line zs ++ q → ys ≡ zs
line_unique ys zs p q l f g e =
    front-unique end_byte end_low 0 ys zs p q l f g (ap (λ (w : List ℕ). w ++ p) (front_line ys) ∙ e ∙ ap (λ (w : List ℕ). w ++ q) (sym (front_line zs)))

pub line_long : (zs : List ℤ) → 2 * length zs ≤ length (line zs)
line_long zs = subst (λ (w : List ℕ). 2 * length zs ≤ length w) (front_line zs) (front_long end_byte 0 zs)

-- ---- P of every element
pub all_map : {A : Type 0} {P Q : A → Type 0} → ((x : A) → P x → Q x) → (xs : List A) → All P xs → All Q xs
all_map f [] a = tt
all_map f (x ∷ xs) a = (f x a.0, all_map f xs a.1)

pub all_append : {A : Type 0} (P : A → Type 0) (xs ys : List A) → All P xs → All P ys → All P (xs ++ ys)
all_append P [] ys a b = b
all_append P (x ∷ xs) ys a b = (a.0, all_append P xs ys a.1 b)

pub all-parts : {A : Type 0} (P : A → Type 0) (xs ys : List A) → All P (xs ++ ys) → All P xs × All P ys
all-parts P [] ys a = (tt, a)
all-parts P (x ∷ xs) ys a = let r = all-parts P xs ys a.1 in ((a.0, r.0), r.1)

-- ---- values read one by one

-- vs are the first of n values, which stand from `at` up to `place`
pub record Begun (stop : ℕ → ℕ) (n : ℕ) (vs : List ℤ) (s : List ℕ) (at place : ℕ) : Type 0 where
  pub stood : Stands (front stop (n - length vs) vs) s at place
  pub fits : All IsI32 vs
  pub room : length vs ≤ n

pub begun_none : (stop : ℕ → ℕ) (n : ℕ) (s : List ℕ) (at : ℕ) → Begun stop n [] s at at
begun_none stop n s at = record { stood = none s at; fits = tt; room = omega arith }

module _ {stop : ℕ → ℕ} {n : ℕ} {vs : List ℤ} {s : List ℕ} {at place : ℕ} (b : Begun stop n vs s at place) where
  pub begun_whole : length vs ≡ n → Stands (front stop 0 vs) s at place
  begun_whole l =
      let z : n - length vs ≡ 0 = omega arith in
      subst (λ (w : List ℕ). Stands w s at place) (ap (λ (r : ℕ). front stop r vs) z) b.stood

  module _ (h : length vs < n) where
    pub begun_more : (z : ℤ) (next : ℕ) → IsI32 z → Stands (ended (written z) (stop (n - (length vs + 1)))) s place next → Begun stop n (vs ++ (z ∷ [])) s at next
    begun_more z next i t =
        let r : ℕ = n - (length vs + 1) in
        let l : length (vs ++ (z ∷ [])) ≡ length vs + 1 = length-append vs (z ∷ []) in
        let more : suc r ≡ n - length vs = omega arith in
        let w : front stop (n - length vs) vs ++ ended (written z) (stop r) ≡ front stop (n - length (vs ++ (z ∷ []))) (vs ++ (z ∷ [])) =
        ap (λ (k : ℕ). front stop k vs ++ ended (written z) (stop r)) (sym more) ∙ sym (front_more stop r vs z) ∙ ap (λ (k : ℕ). front stop (n - k) (vs ++ (z ∷ []))) (sym l) in
        record { stood = subst (λ (u : List ℕ). Stands u s at next) w (chain b.stood t); fits = all_append IsI32 vs (z ∷ []) b.fits (i, tt); room = omega arith }

    -- where no value of a kind comes next, n such values are not there
    pub begun-not : ((m : ℕ) → stop m < 48) → (P : ℤ → Type 0) → ((z : ℤ) → P z → IsI32 z) → ((z : ℤ) → P z → Absent (ended (written z) (stop (n - (length vs + 1)))) s place) → (zs : List ℤ) → length zs ≡ n → All P zs → Absent (front stop 0 zs) s at
    begun-not low P i none zs l a = λ rest e. by (take (length vs) zs) (get_or zs (length vs) (pos 0)) (drop (suc (length vs)) zs) (split_at zs (length vs) (pos 0) (omega arith)) (length-take-le (length vs) zs (omega arith)) rest e
      where
        by : (us : List ℤ) (z : ℤ) (ts : List ℤ) → zs ≡ us ++ z ∷ ts → length us ≡ length vs → (rest : List ℕ) → drop at s ≡ front stop 0 zs ++ rest → ⊥
        by us z ts k m rest e =
            let c = all-parts P us (z ∷ ts) (subst (All P) k a) in
            let t : length ts ≡ n - (length vs + 1) = omega (arith, ap length k, length-append us (z ∷ ts)) in
            let more : length (z ∷ ts) + 0 ≡ n - length vs = omega arith in
            let last : length ts + 0 ≡ n - (length vs + 1) = omega arith in
            let w : List ℕ = ended (written z) (stop (n - (length vs + 1))) in
            let d : drop at s ≡ front stop (n - length vs) us ++ (w ++ (front stop 0 ts ++ rest)) =
            e
            ∙ ap (λ (x : List ℕ). x ++ rest) (
            ap (front stop 0) k ∙ front_append stop 0 us (z ∷ ts)
            ∙ ap (λ (x : ℕ). front stop x us ++ front stop 0 (z ∷ ts)) more
            ∙ ap (λ (x : ℕ). front stop (n - length vs) us ++ (ended (written z) (stop x) ++ front stop 0 ts)) last
            )
            ∙ append_assoc (front stop (n - length vs) us) (w ++ front stop 0 ts) rest
            ∙ ap (λ (x : List ℕ). front stop (n - length vs) us ++ x) (append_assoc w (front stop 0 ts) rest) in
            let same = front-unique stop low (n - length vs) vs us (drop place s) (w ++ (front stop 0 ts ++ rest)) (sym m) b.fits (all_map i us c.0) (sym b.stood.bytes ∙ d) in
            none z c.1.0 (front stop 0 ts ++ rest) (follows b.stood (w ++ (front stop 0 ts ++ rest)) (d ∙ ap (λ (x : List ℤ). front stop (n - length vs) x ++ (w ++ (front stop 0 ts ++ rest))) (sym same)))
