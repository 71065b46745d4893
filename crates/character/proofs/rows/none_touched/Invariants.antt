use mathlib.Core.Bool.{Bool, true≢false}
use mathlib.Core.List.{List}
use mathlib.Core.Path.{◌≡◌, refl, sym, ap, ◌∙◌}
use Prim.Native.Nat.{ℕ, ◌+◌, ◌-◌, ◌≤◌}
use native.Mathlib.Omega.{arith}
use lib.Ieee.{Float}
use borrow.Author.Rules.{rules}
use borrow.Author.Tests.{not-true}
use Rattle.num_vec2.specs.declared.vec2.{vec2}
use Rattle.character_aside.specs.Aside.{may_touch}
use Rattle.character.specs.Places.{place_at}
use Rattle.character.proofs.Scan.{Scanned, scan_first, scan_on}
use Rattle.character.proofs.rows.none_touched.Given as goal

-- whether the seat k may be touched
abbrev pub touched : List Float → List Float → vec2 → vec2 → ℕ → Bool
touched xs ys from end k = may_touch from end (place_at xs ys k)

abbrev pub invariant-loop-k : goal.invariant-loop-k
invariant-loop-k l = (l.k-end ≡ l.j + 8) × (l.k ≤ l.k-end) × Scanned (touched l.xs l.ys l.from l.end) l.j l.k l.any

abbrev pub decreases-loop-k : goal.decreases-loop-k
decreases-loop-k l = l.k-end - l.k
