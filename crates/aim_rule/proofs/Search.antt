-- What a search goes by: n is the angle where it fits and n + 1 does not. And the definition gives the largest that fits. Assumes nothing.
use mathlib.Core.Path.{◌≡◌}
use mathlib.Core.Bool.{true, false}
use Prim.Native.Nat.{ℕ, ◌+◌, ◌≤◌, ◌<◌}
use native.Mathlib.Numerals.{add-one}
use lib.IntN.{ℤ, pos, negsuc}
use mir.Syntax.{w64}
use mir.Val.{SFits, to_z, of_z}
use mir.Facts.{to_z-of_z}
use Rattle.aim_rule.specs.Angle.{fitting, upper_angle, Largest}
use Rattle.aim_rule.specs.Search.{Target}
use Rattle.aim_rule.proofs.Stretch.{fitting_stretch, zero_fits}
use Rattle.aim_rule.proofs.Largest.{largest_is, stretch_end}

-- a target as the machine holds it
pub held : {x y : ℤ} → SFits w64 x → SFits w64 y → Target x y → Target (to_z w64 (of_z w64 x)) (to_z w64 (of_z w64 y))
held f g t = rw (to_z-of_z f, to_z-of_z g) t

pub angle_end : (x y : ℤ) (n : ℕ) → Target x y → n ≤ 804 → fitting x y n ≡ true → (n < 804 → fitting x y (n + 1) ≡ false) → n ≡ upper_angle x y
unfolding upper_angle
angle_end x (pos y) n t h e f = stretch_end (fitting x (pos y)) 804 n (fitting_stretch x y) h e (λ l. rw add-one at (f l))
angle_end x (negsuc y) n t h e f = absurd t.up

pub first_fits : (x y : ℤ) → Target x y → fitting x y 0 ≡ true
first_fits x (pos y) t = zero_fits x y
first_fits x (negsuc y) t = absurd t.up

pub angle_largest : (x : ℤ) (y : ℕ) → Largest (fitting x (pos y)) 804 (upper_angle x (pos y))
unfolding upper_angle
angle_largest x y = largest_is (fitting x (pos y)) (zero_fits x y) 804
