-- The later bytes of a number, byte by byte, and that what they say fits. Assumes nothing.
use Prim.Native.Nat.{ℕ, zero, suc, ◌+◌, ◌-◌, ◌*◌, ◌/◌, ◌%◌, ◌^◌, ◌≤◌, ◌<◌}
use mathlib.Core.Bool.{Bool, true, false, ◌||◌, ◌&&◌, true≢false}
use mathlib.Core.List.{List, [], ◌∷◌}
use mathlib.Core.Path.{◌≡◌, refl, sym, ap, ◌∙◌, subst}
use native.Mathlib.Omega.{arith}
use lib.Dec.{eqb, leb}
use borrow.Author.Tests.{lt-ltb, le-ltb, eqb-false, leb-false}
use Rattle.std.specs.Prelude.{Result, Ok, Err}
use Rattle.game_refusals.specs.declared.Refusal.{Refusal}
use Rattle.game_refusals.specs.declared.Refusal.TheVariants.{BytesEnd, BadBytes}
use Rattle.game_packed.specs.Unpacked.{IntRead, signed, is_wrong, later_read, int_read}

-- ---- what answers are not

pub ok_no_fault : {A : Type 0} {a : A} {fault : Refusal} → ◌≡◌ {A = Result A Refusal} (Ok a) (Err fault) → ⊥
ok_no_fault e = let q : ◌≡◌ {A = ℕ} 0 1 = cc in omega arith

pub same_fault : {A : Type 0} {fault other : Refusal} → ◌≡◌ {A = Result A Refusal} (Err fault) (Err other) → fault ≡ other
same_fault e = cc

pub same_read : {A : Type 0} {a b : A} {m n : ℕ} → ◌≡◌ {A = Result (A × ℕ) Refusal} (Ok (a, m)) (Ok (b, n)) → (a ≡ b) × (m ≡ n)
same_read {A} {a} {b} {m} {n} e =
    let p : ◌≡◌ {A = A × ℕ} (a, m) (b, n) = cc in
    (ap (λ (q : A × ℕ). q.0) p, ap (λ (q : A × ℕ). q.1) p)

pub wrong_no_end : BadBytes ≡ BytesEnd → ⊥
wrong_no_end e = let q : ◌≡◌ {A = ℕ} 0 1 = cc in omega arith

-- ---- one byte

pub later_ends : (negative : Bool) (k at v c : ℕ) → later_read negative k [] at v c ≡ Err BytesEnd
unfolding later_read
later_ends negative zero at v c = refl
later_ends negative (suc k) at v c = refl

module _ (negative : Bool) (s : List ℕ) (at v c : ℕ) where
  pub later_wrong : (k b : ℕ) → is_wrong k b ≡ true → later_read negative k (b ∷ s) at v c ≡ Err BadBytes
  unfolding later_read
  later_wrong zero b e = rw e
  later_wrong (suc k) b e = rw e

  pub later_last : (k b : ℕ) → is_wrong k b ≡ false → b < 128 → later_read negative k (b ∷ s) at v c ≡ Ok (signed negative (v + b * c), at + 1)
  unfolding later_read
  later_last zero b e h = rw e
  later_last (suc k) b e h = rw (e, lt-ltb b 128 h)

  pub later_more : (k b : ℕ) → is_wrong (suc k) b ≡ false → 128 ≤ b → later_read negative (suc k) (b ∷ s) at v c ≡ later_read negative k s (at + 1) (v + b % 128 * c) (c * 128)
  unfolding later_read
  later_more k b e h = rw (e, le-ltb b 128 h)

-- ---- what a byte is that is not wrong
or_false : (a b : Bool) → a || b ≡ false → (a ≡ false) × (b ≡ false)
or_false false false e = (refl, refl)
or_false false true e = absurd (true≢false e)
or_false true b e = absurd (true≢false e)

pub not_empty : (k b : ℕ) → is_wrong k b ≡ false → b ≡ 0 → ⊥
not_empty k b e = eqb-false b 0 (or_false (eqb b 0) (eqb k 0 && leb 16 b) e).0

pub fifth_small : (b : ℕ) → is_wrong 0 b ≡ false → b < 16
fifth_small b e = leb-false 16 b (or_false (eqb b 0) (leb 16 b) e).1

-- ---- how much a bit counts, where k bytes may follow
abbrev pub scale_of : ℕ → ℕ
scale_of zero = 134217728
scale_of (suc zero) = 1048576
scale_of (suc (suc zero)) = 8192
scale_of (suc (suc (suc k))) = 64

pub next_scale : (k : ℕ) → suc k ≤ 3 → scale_of (suc k) * 128 ≡ scale_of k
next_scale zero h = refl
next_scale (suc zero) h = refl
next_scale (suc (suc zero)) h = refl
next_scale (suc (suc (suc k))) h = absurd (omega arith)

-- what was read so far is below what the next bit counts, so the number fits
pub value_fits : (k b v : ℕ) → v < scale_of k → is_wrong k b ≡ false → b < 128 → v + b * scale_of k < 2 ^ 31
value_fits zero b v h e l = let f = fifth_small b e in omega arith
value_fits (suc zero) b v h e l = omega arith
value_fits (suc (suc zero)) b v h e l = omega arith
value_fits (suc (suc (suc k))) b v h e l = omega arith

pub next_value : (k b v : ℕ) → suc k ≤ 3 → v < scale_of (suc k) → v + b % 128 * scale_of (suc k) < scale_of k
next_value zero b v h l = omega arith
next_value (suc zero) b v h l = omega arith
next_value (suc (suc zero)) b v h l = omega arith
next_value (suc (suc (suc k))) b v h l = absurd (omega arith)

-- a byte after which more follows is not the fifth
pub not_fifth : (k b : ℕ) → is_wrong k b ≡ false → 128 ≤ b → 0 < k
not_fifth zero b e h = let f = fifth_small b e in absurd (omega arith)
not_fifth (suc k) b e h = omega arith

pub scale_small : (k : ℕ) → scale_of k ≤ 134217728
scale_small zero = omega arith
scale_small (suc zero) = omega arith
scale_small (suc (suc zero)) = omega arith
scale_small (suc (suc (suc k))) = omega arith

-- what is left after a byte after which more follows
module _ (negative : Bool) (s : List ℕ) (at v c : ℕ) {e : IntRead} where
  pub goes_on_lem : (k b : ℕ) → is_wrong k b ≡ false → 128 ≤ b → k ≤ 3 → c ≡ scale_of k → v < scale_of k → later_read negative k (b ∷ s) at v c ≡ e → (later_read negative (k - 1) s (at + 1) (v + b % 128 * c) (c * 128) ≡ e) × (k - 1 ≤ 3) × (c * 128 ≡ scale_of (k - 1)) × (v + b % 128 * c < scale_of (k - 1))
  goes_on_lem zero b w h l q i r = let f = fifth_small b w in absurd (omega arith)
  goes_on_lem (suc k) b w h l q i r =
      let one : k ≡ suc k - 1 = omega arith in
      subst (λ (j : ℕ). (later_read negative j s (at + 1) (v + b % 128 * c) (c * 128) ≡ e) × (j ≤ 3) × (c * 128 ≡ scale_of j) × (v + b % 128 * c < scale_of j)) one
      (sym (later_more negative s at v c k b w h) ∙ r, omega arith, ap (λ (x : ℕ). x * 128) q ∙ next_scale k l, subst (λ (x : ℕ). v + b % 128 * x < scale_of k) (sym q) (next_value k b v l i))

-- ---- the first byte
module _ (s : List ℕ) (at b : ℕ) where
  pub first_last : b < 128 → int_read (b ∷ s) at ≡ Ok (signed (eqb (b / 64 % 2) 1) (b % 64), at + 1)
  unfolding int_read
  first_last h = rw (lt-ltb b 128 h)

  pub first_more : 128 ≤ b → int_read (b ∷ s) at ≡ later_read (eqb (b / 64 % 2) 1) 3 s (at + 1) (b % 64) 64
  unfolding int_read
  first_more h = rw (le-ltb b 128 h)

pub none_there : (at : ℕ) → int_read [] at ≡ Err BytesEnd
unfolding int_read
none_there at = refl
