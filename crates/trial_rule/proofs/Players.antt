-- What a step's records leave of the player of one seat. Assumes nothing.
use Prim.Native.Nat.{ℕ, ◌<◌}
use mathlib.Core.Bool.{Bool, true, false, cond}
use mathlib.Core.List.{List}
use mathlib.Core.Path.{◌≡◌, refl, ◌∙◌, subst}
use native.Mathlib.Omega.{arith}
use lib.ListN.{length, set, length-set}
use lib.Seq.{get_or-set_same, get_or-set_other}
use Rattle.base_turns.specs.Turns.{Turn}
use Rattle.base_turns.proofs.Kept.{fold-kept}
use Rattle.base_turns.proofs.Loop.{always, run_always}
use Rattle.base_turns.proofs.Own.{On, run_own}
use Rattle.map_tiles.specs.declared.tiles.Sides.{Sides}
use Rattle.world.specs.Demand3.{record_at}
use Rattle.world.specs.declared.Published.{Published}
use Rattle.world.proofs.Seats.{by_test}
use Rattle.trial_rule.specs.Trial.{no_player, player_at, noted, note_turn, noted_all}
use Rattle.trial_rule.specs.declared.Player.{Player}

module _ (n : ℕ) (s : Sides) (k : ℕ) (rs : List Published) where
  abbrev Full : List Player → Type 0
  Full ps = length ps ≡ n

  turn_full : (j : ℕ) (ps : List Player) → Full ps → Full (note_turn s k rs j ps)
  turn_full j ps h = by_test Full (record_at rs j).present (λ e. length-set ps j _ ∙ h) (λ e. h)

  pub noted_full : (ps : List Player) → Full ps → Full (noted_all n s k rs ps)
  unfolding noted_all
  noted_full ps h = fold-kept (note_turn s k rs) Full turn_full n 0 ps h

  -- what the step makes of the player of j
  abbrev pub after : ℕ → Player → Player
  after j p = let r = record_at rs j in cond r.present (noted s k r.core.x r.core.y p) p

  module _ (j : ℕ) (h : j < n) where
    others : (i : ℕ) (ps : List Player) → Full ps → (j ≡ i → ⊥) → Full (note_turn s k rs i ps) × (player_at (note_turn s k rs i ps) j ≡ player_at ps j)
    others i ps f d = (turn_full i ps f, by_test (λ (qs : List Player). player_at qs j ≡ player_at ps j) (record_at rs i).present (λ e. get_or-set_other ps i j _ no_player d) (λ e. refl))

    own : (ps : List Player) → Full ps → Full (note_turn s k rs j ps) × (player_at (note_turn s k rs j ps) j ≡ after j (player_at ps j))
    own ps f = (turn_full j ps f, go (record_at rs j).present)
      where
        p : Player
        p = noted s k (record_at rs j).core.x (record_at rs j).core.y (player_at ps j)

        go : (b : Bool) → player_at (cond b (set ps j p) ps) j ≡ cond b p (player_at ps j)
        go true = get_or-set_same ps j p no_player (omega (arith, f))
        go false = refl

    pub noted-at : (ps : List Player) → Full ps → player_at (noted_all n s k rs ps) j ≡ after j (player_at ps j)
    unfolding noted_all
    noted-at ps f = subst (λ (a : Turn (List Player) ⊥). On (λ qs. player_at qs j ≡ after j (player_at ps j)) a) (run_always (note_turn s k rs) n 0 ps) (run_own (always (note_turn s k rs)) Full (λ qs. player_at qs j) (after j) j others own n h ps f)
