use mathlib.Core.Bool.{Bool, true, false, not, true≢false}
use mathlib.Core.List.{List}
use mathlib.Core.Path.{◌≡◌, refl, sym, ap, ◌∙◌}
use Prim.Native.Nat.{ℕ, ◌+◌, ◌-◌, ◌≤◌}
use native.Mathlib.Omega.{arith}
use lib.Ieee.{Float}
use borrow.Author.Rules.{rules}
use borrow.Author.Tests.{not-true, not-false, ne_eqb}
use Rattle.num_vec2.specs.declared.vec2.{vec2}
use Rattle.character_meeting.specs.Meeting.{is_beyond}
use Rattle.character.specs.Among.{may_meet}
use Rattle.character.specs.Places.{place_at}
use Rattle.character.proofs.Scan.{Scanned, scan_first, scan_on}
use Rattle.character.proofs.rows.none_met.Given as goal

-- whether the seat k is near
abbrev pub near : List Float → List Float → vec2 → ℕ → Bool
near xs ys p k = not (is_beyond p (place_at xs ys k))

abbrev pub invariant-loop-k : goal.invariant-loop-k
invariant-loop-k l = (l.k-end ≡ l.j + 8) × (l.k ≤ l.k-end) × Scanned (near l.xs l.ys l.pos) l.j l.k l.any

abbrev pub decreases-loop-k : goal.decreases-loop-k
decreases-loop-k l = l.k-end - l.k
