-- The numbers of players and of runs, as rows of the result. Assumes nothing.
use Prim.Native.Nat.{ℕ, ◌*◌}
use mathlib.Core.Bool.{Bool, true, false, cond}
use mathlib.Core.List.{[], ◌∷◌}
use mathlib.Core.Path.{◌≡◌, refl, ap}
use native.Mathlib.Omega.{arith}
use lib.IntN.{pos}
use lib.ListN.{length, replicate}
use Rattle.world_numbers.proofs.Rows.{each_long}
use Rattle.trial_rule.specs.Calls.{told_count, row_count, player_numbers, tried_numbers}
use Rattle.trial_rule.specs.declared.Player.{Player}
use Rattle.trial_rule.specs.declared.Tried.{Tried}

pub player_long : (p : Player) → length (player_numbers p) ≡ told_count
unfolding player_numbers
player_long p = go p.joined
  where
    go : (b : Bool) → length (cond b (pos 1 ∷ pos p.distance ∷ pos p.step ∷ []) (replicate told_count (pos 0))) ≡ told_count
    go true = refl
    go false = refl

pub tried_long : (n : ℕ) (r : Tried) → length r.players ≡ n → length (tried_numbers r) ≡ row_count n
unfolding tried_numbers
tried_long n r e = let q = each_long player_numbers told_count player_long r.players in omega (arith, q, ap (λ (k : ℕ). told_count * k) e)
