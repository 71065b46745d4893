-- Reading byte by byte finds exactly what is written. Assumes nothing.
use Prim.Native.Nat.{ℕ, zero, suc, ◌+◌, ◌-◌, ◌*◌, ◌/◌, ◌%◌, ◌^◌, ◌≤◌, ◌<◌}
use mathlib.Core.Path.{◌≡◌, refl, sym, ap, ◌∙◌, subst}
use mathlib.Core.Bool.{Bool, true, false, cond}
use mathlib.Core.List.{List, [], ◌∷◌, ◌++◌, append_assoc}
use native.Mathlib.Nat.{pow-suc}
use native.Mathlib.Omega.{arith}
use lib.Dec.{ltb, eqb}
use lib.ListN.{length, length-append}
use lib.IntN.{ℤ, pos, negsuc}
use borrow.Author.Tests.{lt-ltb, le-ltb, eq-eqb, ne_eqb, ltb-true, ltb-false, eqb-true, eqb-false}
use Rattle.num_convert.specs.Casts.{IsI32}
use Rattle.text_decimal.specs.Decimal.{digits, written}
use Rattle.text_decimal.proofs.Digits.{lone, last, one_more}
use Rattle.text_decimal.proofs.Scan.{more, scan_number, plus, minus, scan_value}
use Rattle.std.proofs.lemmas.Option.{some_pair_parts}
use Rattle.std.specs.declared.option.Option.{Option}
use Rattle.std.specs.declared.option.Option.TheVariants.{None, Some}

-- what is read past a test that refuses
past : {m e : ℕ} (t : Bool) (x : Option (ℕ × ℕ)) → cond t None x ≡ Some (m, e) → (t ≡ false) × (x ≡ Some (m, e))
past true x p = let z : ◌≡◌ {A = ℕ} 0 1 = cc in absurd (omega arith)
past false x p = (refl, p)

nonzero : (n : ℕ) → (n ≡ 0 → ⊥) → 0 < n
nonzero n h = omega arith

-- the number m is written where n was begun, and then stop
abbrev Sound : ℕ → ℕ → List ℕ → ℕ → Type 0
Sound stop n s m = (m ≤ 2147483648) × ((rest : List ℕ) × (digits 10 n ++ s ≡ digits 10 m ++ stop ∷ rest))

sound_more : (stop n at : ℕ) (s : List ℕ) (m e : ℕ) → n ≤ 2147483648 → more stop n at s ≡ Some (m, e) → Sound stop n s m
sound_more stop n at [] m e h p = let z : ◌≡◌ {A = ℕ} 0 1 = cc in absurd (omega arith)
sound_more stop n at (b ∷ s) m e h p = by (eqb b stop) refl p (λ i q. sound_more stop (n * 10 + (b - 48)) (at + 1) s m e i q)
  where
    by : (t : Bool)
        → eqb b stop ≡ t
        → cond t (Some (n, at + 1)) (cond (eqb n 0) None (cond (ltb b 48) None (cond (ltb 57 b) None (cond (ltb 2147483648 (n * 10 + (b - 48))) None (more stop (n * 10 + (b - 48)) (at + 1) s))))) ≡ Some (m, e)
        → (n * 10 + (b - 48) ≤ 2147483648 → more stop (n * 10 + (b - 48)) (at + 1) s ≡ Some (m, e) → Sound stop (n * 10 + (b - 48)) s m)
        → Sound stop n (b ∷ s) m
    by true t q ih = let k : n ≡ m = (some_pair_parts n m _ _ q).0 in (omega arith, (s, cc (eqb-true b stop t)))
    by false t q ih =
        let a = past (eqb n 0) _ q in
        let c = past (ltb b 48) _ a.1 in
        let d = past (ltb 57 b) _ c.1 in
        let f = past (ltb 2147483648 (n * 10 + (b - 48))) _ d.1 in
        let some = nonzero n (eqb-false n 0 a.0) in
        let low = ltb-false b 48 c.0 in
        let high = ltb-false 57 b d.0 in
        let fits = ltb-false 2147483648 (n * 10 + (b - 48)) f.0 in
        let r = ih fits f.1 in (
          r.0,
          (
            r.1.0,
            ap (λ (x : ℕ). digits 10 n ++ x ∷ s) (omega arith)
                ∙ sym (append_assoc (digits 10 n) ((48 + (b - 48)) ∷ []) s)
                ∙ ap (λ (l : List ℕ). l ++ s) (sym (one_more 8 n (b - 48) some (omega arith) (omega arith)))
                ∙ r.1.1,
          ),
        )

pub sound_number : (stop at : ℕ) (s : List ℕ) (m e : ℕ) → scan_number stop at s ≡ Some (m, e) → (m ≤ 2147483648) × ((rest : List ℕ) × (s ≡ digits 10 m ++ stop ∷ rest))
sound_number stop at [] m e p = let z : ◌≡◌ {A = ℕ} 0 1 = cc in absurd (omega arith)
sound_number stop at (b ∷ s) m e p =
    let c = past (ltb b 48) _ p in
    let d = past (ltb 57 b) _ c.1 in
    let low = ltb-false b 48 c.0 in
    let high = ltb-false 57 b d.0 in
    let r = sound_more stop (b - 48) (at + 1) s m e (omega arith) d.1 in
    (r.0, (r.1.0, ap (λ (x : ℕ). x ∷ s) (omega arith) ∙ ap (λ (l : List ℕ). l ++ s) (sym (lone 9 (b - 48) (omega arith))) ∙ r.1.1))

-- the digits of m, read from the first on, leave off with m
one : (k m stop at : ℕ) (rest : List ℕ) → m < 10 → scan_number stop at (digits (suc k) m ++ rest) ≡ more stop m (at + length (digits (suc k) m)) rest
one k m stop at rest h =
    let e : 48 + m - 48 ≡ m = omega arith in
    simp (lone k m h, le-ltb (48 + m) 48 (omega arith), le-ltb 57 (48 + m) (omega arith), e)

step : (m stop at : ℕ) (rest : List ℕ) → 10 ≤ m → m ≤ 2147483648 → stop < 48 → more stop (m / 10) at ((48 + m % 10) ∷ rest) ≡ more stop m (at + 1) rest
step m stop at rest h small low =
    let e : m / 10 * 10 + (48 + m % 10 - 48) ≡ m = omega arith in
    simp (ne_eqb (48 + m % 10) stop (λ q. omega arith), ne_eqb (m / 10) 0 (λ q. omega arith), le-ltb (48 + m % 10) 48 (omega arith), le-ltb 57 (48 + m % 10) (omega arith), e, le-ltb 2147483648 m small)

complete_digits : (k m stop at : ℕ) (rest : List ℕ) → m < 10 ^ suc k → m ≤ 2147483648 → stop < 48 → scan_number stop at (digits (suc k) m ++ rest) ≡ more stop m (at + length (digits (suc k) m)) rest
complete_digits zero m stop at rest h small low = one zero m stop at rest h
complete_digits (suc k) m stop at rest h small low =
    by (ltb m 10) refl (complete_digits k (m / 10) stop at ((48 + m % 10) ∷ rest) (omega (arith, pow-suc 10 (suc k))) (omega arith) low)
  where
    by : (t : Bool)
        → ltb m 10 ≡ t
        → scan_number stop at (digits (suc k) (m / 10) ++ (48 + m % 10) ∷ rest) ≡ more stop (m / 10) (at + length (digits (suc k) (m / 10))) ((48 + m % 10) ∷ rest)
        → scan_number stop at (digits (suc (suc k)) m ++ rest) ≡ more stop m (at + length (digits (suc (suc k)) m)) rest
    by true t ih = one (suc k) m stop at rest (ltb-true m 10 t)
    by false t ih =
        let ten = ltb-false m 10 t in
        let e = last (suc k) m ten in
        let l : at + length (digits (suc k) (m / 10)) + 1 ≡ at + length (digits (suc (suc k)) m) = omega (arith, ap length e, length-append (digits (suc k) (m / 10)) ((48 + m % 10) ∷ [])) in
        ap (λ (w : List ℕ). scan_number stop at (w ++ rest)) e
        ∙ ap (scan_number stop at) (append_assoc (digits (suc k) (m / 10)) ((48 + m % 10) ∷ []) rest)
        ∙ ih
        ∙ step m stop _ rest ten small low
        ∙ ap (λ (i : ℕ). more stop m i rest) l

pub complete_number : (m stop at : ℕ) (rest : List ℕ) → m ≤ 2147483648 → stop < 48 → scan_number stop at (digits 10 m ++ stop ∷ rest) ≡ Some (m, at + length (digits 10 m) + 1)
complete_number m stop at rest small low = complete_digits 9 m stop at (stop ∷ rest) (omega arith) small low ∙ simp (eq-eqb stop stop refl)

unsigned : (stop at : ℕ) (s : List ℕ) (n e : ℕ) → scan_number stop at s ≡ Some (n, e) → scan_value stop at s ≡ plus (Some (n, e))
unsigned stop at [] n e p = let z : ◌≡◌ {A = ℕ} 0 1 = cc in absurd (omega arith)
unsigned stop at (b ∷ s) n e p =
    let low = ltb-false b 48 (past (ltb b 48) _ p).0 in
    ap (λ (t : Bool). cond t (minus (scan_number stop (at + 1) s)) (plus (scan_number stop at (b ∷ s)))) (ne_eqb b 45 (λ q. omega arith)) ∙ ap plus p

-- what is written is read
pub complete_value : (z : ℤ) (stop at : ℕ) (rest : List ℕ) → IsI32 z → stop < 48 → scan_value stop at (written z ++ stop ∷ rest) ≡ Some (z, at + length (written z) + 1)
complete_value (pos n) stop at rest f low =
    unsigned stop at (digits 10 n ++ stop ∷ rest) n _ (complete_number n stop at rest (omega arith) low) ∙ simp (lt-ltb n 2147483648 f)
complete_value (negsuc n) stop at rest f low =
    ap minus (complete_number (suc n) stop (at + 1) rest f low)
    ∙ simp (ne_eqb (suc n) 0 (λ q. omega arith)) (ap2 n (at + 1 + length (digits 10 (suc n)) + 1) (omega arith) (omega arith))
  where
    ap2 : (n e : ℕ) {m f : ℕ} → m ≡ n → e ≡ f → ◌≡◌ {A = Option (ℤ × ℕ)} (Some (negsuc m, e)) (Some (negsuc n, f))
    ap2 n e p q = cc

-- what is read is written
abbrev Written : ℕ → List ℕ → ℤ → Type 0
Written stop s z = IsI32 z × ((rest : List ℕ) × (s ≡ written z ++ stop ∷ rest))

sound_plus : (s : List ℕ) (stop at : ℕ) (z : ℤ) (next : ℕ) (x : Option (ℕ × ℕ)) → scan_number stop at s ≡ x → plus x ≡ Some (z, next) → Written stop s z
sound_plus s stop at z next None q p = let z : ◌≡◌ {A = ℕ} 0 1 = cc in absurd (omega arith)
sound_plus s stop at z next (Some (n, e)) q p = by (ltb n 2147483648) refl p
  where
    by : (t : Bool) → ltb n 2147483648 ≡ t → cond {A = Option (ℤ × ℕ)} t (Some (pos n, e)) None ≡ Some (z, next) → Written stop s z
    by false t p = let z : ◌≡◌ {A = ℕ} 0 1 = cc in absurd (omega arith)
    by true t p = let k : pos n ≡ z = (some_pair_parts (pos n) z _ _ p).0 in subst (Written stop s) k (ltb-true n 2147483648 t, (sound_number stop at s n e q).1)

sound_minus : (s : List ℕ) (stop at : ℕ) (z : ℤ) (next : ℕ) (x : Option (ℕ × ℕ)) → scan_number stop at s ≡ x → minus x ≡ Some (z, next) → Written stop (45 ∷ s) z
sound_minus s stop at z next None q p = let z : ◌≡◌ {A = ℕ} 0 1 = cc in absurd (omega arith)
sound_minus s stop at z next (Some (zero, e)) q p = let z : ◌≡◌ {A = ℕ} 0 1 = cc in absurd (omega arith)
sound_minus s stop at z next (Some (suc n, e)) q p =
    let r = sound_number stop at s (suc n) e q in
    let i : suc n - 1 ≡ n = omega arith in
    let k : negsuc n ≡ z = (some_pair_parts (negsuc n) z _ _ (simp (ne_eqb (suc n) 0 (λ q. omega arith), i) at p)).0 in
    subst (Written stop (45 ∷ s)) k (r.0, (r.1.0, ap (λ (l : List ℕ). 45 ∷ l) r.1.1))

pub sound_value : (s : List ℕ) (stop at : ℕ) (z : ℤ) (next : ℕ) → scan_value stop at s ≡ Some (z, next) → Written stop s z
sound_value [] stop at z next p = let z : ◌≡◌ {A = ℕ} 0 1 = cc in absurd (omega arith)
sound_value (b ∷ s) stop at z next p = by (eqb b 45) refl p
  where
    by : (t : Bool) → eqb b 45 ≡ t → cond t (minus (scan_number stop (at + 1) s)) (plus (scan_number stop at (b ∷ s))) ≡ Some (z, next) → Written stop (b ∷ s) z
    by true t p = subst (λ (x : ℕ). Written stop (x ∷ s) z) (sym (eqb-true b 45 t)) (sound_minus s stop (at + 1) z next _ refl p)
    by false t p = sound_plus (b ∷ s) stop at z next _ refl p
