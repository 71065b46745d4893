-- Ways, and the order in which they are tried. Definitions only.
use Rattle.std.specs.Prelude.{ℕ, ◌≤◌, ◌<◌, List, [], ◌∷◌, ◌⊎◌, ◌≡◌, ℤ, pos, negsuc, length, ◌<ℤ◌}
use Rattle.search_rule.specs.declared.Buttons.{Buttons}

-- a list of what is pressed in each step
abbrev pub Way : Type 0
Way = List Buttons

-- ---- which there are

-- direction -1, 0 or 1
abbrev pub IsDirection : ℤ → Type 0
IsDirection z = (z ≡ negsuc 0) ⊎ ((z ≡ pos 0) ⊎ (z ≡ pos 1))

-- jump 0 or 1
abbrev pub IsJump : ℤ → Type 0
IsJump z = (z ≡ pos 0) ⊎ (z ≡ pos 1)

-- in every step
abbrev pub Pressed : Way → Type 0
Pressed [] = Unit {0}
Pressed (b ∷ u) = (IsDirection b.direction × IsJump b.jump) × Pressed u

-- how many steps the longest have
abbrev pub longest : ℕ
longest = 3

-- one, two or three steps
pub record IsWay (u : Way) : Type 0 where
  pub some : 1 ≤ length u
  pub few : length u ≤ longest
  pub pressed : Pressed u

-- ---- their order

-- the direction is lower; or it is the same, and the jump is
abbrev pub Lower : Buttons → Buttons → Type 0
Lower a b = (a.direction <ℤ b.direction) ⊎ ((a.direction ≡ b.direction) × (a.jump <ℤ b.jump))

-- in the earliest step in which they differ
abbrev pub Earlier : Way → Way → Type 0
Earlier [] v = ⊥
Earlier (a ∷ u) [] = ⊥
Earlier (a ∷ u) (b ∷ v) = Lower a b ⊎ ((a ≡ b) × Earlier u v)

-- the shorter first, then the earlier
abbrev pub Before : Way → Way → Type 0
Before u v = (length u < length v) ⊎ ((length u ≡ length v) × Earlier u v)
