-- The first turn of a player walk that touches a player at q. Definitions only.
use Rattle.std.specs.Prelude.{ℕ, ◌-◌, ◌≤◌, ◌<◌, ◌≡◌, Bool, true, false, not, Float}
use Rattle.num_vec2.specs.declared.vec2.{vec2}
use Rattle.map_lines.specs.Points.{point_at}
use Rattle.character_walk.specs.Touching.{touches}
use Rattle.character_aside.specs.Aside.{may_touch}

-- turn i touches nobody at q
abbrev pub Untouched : vec2 → vec2 → Float → vec2 → ℕ → Type 0
Untouched from to distance q i = touches (point_at from to distance i) q ≡ false

-- the last turn before n
abbrev pub last_before : ℕ → ℕ
last_before n = n - 1

-- of the turns from i up to n the first and the last have q to one side, in a coordinate
unfoldable pub is_aside_interval : vec2 → vec2 → Float → vec2 → ℕ → ℕ → Bool
is_aside_interval from to distance q i n = not (may_touch (point_at from to distance i) (point_at from to distance (last_before n)) q)

-- of the turns from first up to end, r is the first that touches q; end if none does
pub record FirstTouch (from to : vec2) (distance : Float) (q : vec2) (first end r : ℕ) : Type 0 where
  pub begun : first ≤ r
  pub within : r ≤ end
  pub before : (i : ℕ) → first ≤ i → i < r → Untouched from to distance q i
  pub met : r < end → touches (point_at from to distance r) q ≡ true
