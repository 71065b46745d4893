-- The six that a step may press, against their order. Assumes nothing.
use Prim.Native.Nat.{ℕ, zero, suc, ◌<◌, ◌/◌, ◌%◌}
use mathlib.Core.Logic.{inl, inr}
use mathlib.Core.Path.{◌≡◌, refl, sym, ap, ◌∙◌}
use native.Mathlib.Decide.{dec_lt}
use native.Mathlib.Omega.{arith}
use lib.Dec.{T, ltb→lt, lt→ltb}
use lib.IntN.{ℤ, pos, pred_ℤ}
use lib.Signed.{lt_z, ◌<ℤ◌, lt_z_yes}
use Rattle.search_rule.specs.Ways.{IsDirection, IsJump, Lower}
use Rattle.search_rule.specs.Search.{choices, buttons_at}
use Rattle.search_rule.specs.declared.Buttons.{Buttons}

-- ---- lower is earlier among them

pred_lower : (a b : ℕ) → T (lt_z (pred_ℤ (pos a)) (pred_ℤ (pos b))) → a < b
pred_lower zero zero h = absurd (let l : 0 < 0 = ltb→lt 0 0 h in omega arith)
pred_lower zero (suc b) h = omega arith
pred_lower (suc a) zero h = absurd h
pred_lower (suc a) (suc b) h = let l : a < b = ltb→lt a b h in omega arith

pred_same : (a b : ℕ) → pred_ℤ (pos a) ≡ pred_ℤ (pos b) → a ≡ b
pred_same zero zero e = refl
pred_same zero (suc b) e = let z : ◌≡◌ {A = ℕ} 0 1 = cc in absurd (omega arith)
pred_same (suc a) zero e = let z : ◌≡◌ {A = ℕ} 0 1 = cc in absurd (omega arith)
pred_same (suc a) (suc b) e = let z : a ≡ b = cc in ap suc z

pub lower_below : (k j : ℕ) → Lower (buttons_at k) (buttons_at j) → k < j
unfolding buttons_at
lower_below k j (inl h) = let l : k / 2 < j / 2 = pred_lower (k / 2) (j / 2) h.lt in omega arith
lower_below k j (inr h) = let e : k / 2 ≡ j / 2 = pred_same (k / 2) (j / 2) h.0 in let l : k % 2 < j % 2 = ltb→lt (k % 2) (j % 2) h.1.lt in omega arith

lower_pred : (a b : ℕ) → a < b → pred_ℤ (pos a) <ℤ pred_ℤ (pos b)
lower_pred zero zero h = absurd (omega arith)
lower_pred zero (suc b) h = lt_z_yes tt
lower_pred (suc a) zero h = absurd (omega arith)
lower_pred (suc a) (suc b) h = lt_z_yes (lt→ltb a b (omega arith))

pub below_lower : (k j : ℕ) → k < j → Lower (buttons_at k) (buttons_at j)
unfolding buttons_at
below_lower k j h = go (dec_lt (k / 2) (j / 2))
  where
    go : Dec (k / 2 < j / 2) → Lower (buttons_at k) (buttons_at j)
    go (yes l) = inl (lower_pred (k / 2) (j / 2) l)
    go (no l) = let e : k / 2 ≡ j / 2 = omega arith in inr (ap (λ (a : ℕ). pred_ℤ (pos a)) e, lt_z_yes (lt→ltb (k % 2) (j % 2) (omega arith)))

-- ---- they are all

pub record Index (b : Buttons) : Type 0 where
  pub index : ℕ
  pub within : index < choices
  pub is : buttons_at index ≡ b

abbrev pressing : ℤ → ℤ → Buttons
pressing d j = record { direction = d; jump = j }

is_at_lem : (i : ℕ) (b : Buttons) → i < choices → (buttons_at i).direction ≡ b.direction → (buttons_at i).jump ≡ b.jump → Index b
is_at_lem i b h p q = record { index = i; within = h; is = ap (λ (d : ℤ). pressing d (buttons_at i).jump) p ∙ ap (pressing b.direction) q }

pub index_of : (b : Buttons) → IsDirection b.direction → IsJump b.jump → Index b
unfolding buttons_at
index_of b (inl p) (inl q) = is_at_lem 0 b (omega arith) (sym p) (sym q)
index_of b (inl p) (inr q) = is_at_lem 1 b (omega arith) (sym p) (sym q)
index_of b (inr (inl p)) (inl q) = is_at_lem 2 b (omega arith) (sym p) (sym q)
index_of b (inr (inl p)) (inr q) = is_at_lem 3 b (omega arith) (sym p) (sym q)
index_of b (inr (inr p)) (inl q) = is_at_lem 4 b (omega arith) (sym p) (sym q)
index_of b (inr (inr p)) (inr q) = is_at_lem 5 b (omega arith) (sym p) (sym q)

-- ---- and each may be pressed

pub is_direction : (i : ℕ) → i < choices → IsDirection (buttons_at i).direction
unfolding buttons_at
is_direction i h = go (i / 2) (omega arith)
  where
    go : (a : ℕ) → a < 3 → IsDirection (pred_ℤ (pos a))
    go zero l = inl refl
    go (suc zero) l = inr (inl refl)
    go (suc (suc zero)) l = inr (inr refl)
    go (suc (suc (suc a))) l = absurd (omega arith)

pub is_jump : (i : ℕ) → IsJump (buttons_at i).jump
unfolding buttons_at
is_jump i = go (i % 2) (omega arith)
  where
    go : (a : ℕ) → a < 2 → IsJump (pos a)
    go zero l = inl refl
    go (suc zero) l = inr refl
    go (suc (suc a)) l = absurd (omega arith)
