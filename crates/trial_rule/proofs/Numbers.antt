-- The numbers that a trial is lent and those that it tells, by their places. Assumes nothing.
use Prim.Native.Nat.{ℕ, zero, suc, ◌+◌, ◌*◌, ◌-◌, ◌<◌}
use mathlib.Core.Bool.{Bool, true, false, cond, true≢false}
use mathlib.Core.List.{List, [], ◌∷◌}
use mathlib.Core.Logic.{⊎_elim}
use mathlib.Core.Path.{◌≡◌, refl, sym, ap, ap₂, ◌∙◌, subst}
use native.Mathlib.Nat.{min-eq_left, min-eq_right, div-eq_of_eq-mul_right}
use native.Mathlib.Omega.{arith}
use lib.IntN.{ℤ, pos}
use lib.ListN.{length, drop, get_or, replicate}
use lib.Seq.{get_or-take, get_or-drop}
use Rattle.map_corners.specs.Tile.{clamp_to, tile_at}
use Rattle.game_records.specs.Numbers.{number_at}
use Rattle.world_numbers.specs.Encoding.{each}
use Rattle.trial_rule.specs.Trial.{Entrant, distance_to, Trying, no_player, player_at, tried, tuned_to}
use Rattle.trial_rule.specs.Calls.{entrants, tunings_in, player_numbers, tried_numbers}
use Rattle.trial_rule.specs.Laws.{row_of}
use Rattle.trial_rule.specs.Numbers.{entrant_of, Lent, EntrantsLent, Clamped, TargetsClamped, Apart, DistanceTiles, TellsPlayer, TellsRun, RowsGiveBack}
use Rattle.trial_rule.specs.declared.Player.{Player}
use Rattle.trial_rule.specs.declared.Tried.{Tried}
use Rattle.trial_rule.proofs.Rows.{player_long}
use Rattle.trial_rule.proofs.Tables.{row_at, run_full, same_start, rows_tell}

-- ---- what is lent

entrant_same : {a a' b b' c c' d d' e e' : ℤ} → a ≡ a' → b ≡ b' → c ≡ c' → d ≡ d' → e ≡ e' → ◌≡◌ {A = Entrant} (record { id = a; x = b; y = c; column = d; row = e }) (record { id = a'; x = b'; y = c'; column = d'; row = e' })
entrant_same p q r s t = rw (p, q, r, s, t)

-- behind three numbers, and behind two
behind_three : (a b c : ℤ) (l : List ℤ) (i j : ℕ) → j ≡ suc (suc (suc i)) → number_at l i ≡ number_at (a ∷ b ∷ c ∷ l) j
behind_three a b c l i j e = sym (ap (number_at (a ∷ b ∷ c ∷ l)) e)

behind_two : (a b : ℤ) (l : List ℤ) (i j : ℕ) → j ≡ suc (suc i) → number_at l i ≡ number_at (a ∷ b ∷ l) j
behind_two a b l i j e = sym (ap (number_at (a ∷ b ∷ l)) e)

-- one more in front
one_more : (id x y column row : ℤ) (joins targets : List ℤ) (p : ℕ) → Lent joins targets p (entrants joins targets) → Lent (id ∷ x ∷ y ∷ joins) (column ∷ row ∷ targets) (suc p) (entrants (id ∷ x ∷ y ∷ joins) (column ∷ row ∷ targets))
one_more id x y column row joins targets p rest = record { count = ap suc rest.count; each = each }
  where
    each : (k : ℕ) → k < suc p → (past : Entrant) → get_or (entrants (id ∷ x ∷ y ∷ joins) (column ∷ row ∷ targets)) k past ≡ entrant_of (id ∷ x ∷ y ∷ joins) (column ∷ row ∷ targets) k
    each zero l past = refl
    each (suc k) l past =
        rest.each k (omega arith) past
        ∙ entrant_same (behind_three id x y joins (3 * k) (3 * suc k) (omega arith)) (behind_three id x y joins (3 * k + 1) (3 * suc k + 1) (omega arith)) (behind_three id x y joins (3 * k + 2) (3 * suc k + 2) (omega arith)) (behind_two column row targets (2 * k) (2 * suc k) (omega arith)) (behind_two column row targets (2 * k + 1) (2 * suc k + 1) (omega arith))

lent : (players : ℕ) (joins targets : List ℤ) → length joins ≡ 3 * players → length targets ≡ 2 * players → Lent joins targets players (entrants joins targets)
lent zero [] targets h g = record { count = refl; each = λ k l. absurd (omega arith) }
lent zero (id ∷ joins) targets h g = absurd (omega (arith, h))
lent (suc p) (id ∷ x ∷ y ∷ joins) (column ∷ row ∷ targets) h g = one_more id x y column row joins targets p (lent p joins targets (omega (arith, h)) (omega (arith, g)))
lent (suc p) [] targets h g = absurd (omega (arith, h))
lent (suc p) (id ∷ []) targets h g = absurd (omega (arith, h))
lent (suc p) (id ∷ x ∷ []) targets h g = absurd (omega (arith, h))
lent (suc p) (id ∷ x ∷ y ∷ joins) [] h g = absurd (omega (arith, g))
lent (suc p) (id ∷ x ∷ y ∷ joins) (column ∷ []) h g = absurd (omega (arith, g))

pub entrants_lent : EntrantsLent
entrants_lent joins targets players h g = lent players joins targets h g

-- ---- targets and distances
clamped : (side : ℕ) (z : ℤ) → Clamped side z (clamp_to (side - 1) z)
clamped side z = record {
  below = λ i e. ap (clamp_to (side - 1)) e;
  inside = λ i e l. ap (clamp_to (side - 1)) e ∙ min-eq_left (omega arith);
  above = λ i e l. ap (clamp_to (side - 1)) e ∙ min-eq_right (omega arith);
}

pub targets_clamped : TargetsClamped
targets_clamped s e = (clamped s.width e.column, clamped s.height e.row)

apart : (a b d : ℕ) → Apart a b d → (a - b) + (b - a) ≡ d
apart a b d = ⊎_elim (λ e. omega arith) (λ e. omega arith)

pub distance_tiles : DistanceTiles
unfolding distance_to
distance_tiles s column row p columns rows f g = ap₂ ◌+◌ (apart (tile_at s.width p.x) column columns f) (apart (tile_at s.height p.y) row rows g)

-- ---- what is told

-- the number c of the seat j
seat_number : (r : Tried) (j c : ℕ) → j < length r.players → c < 3 → (i : ℕ) → i ≡ suc (3 * j + c) → number_at (tried_numbers r) i ≡ number_at (player_numbers (player_at r.players j)) c
unfolding tried_numbers
seat_number r j c l h i e =
    let ps = each player_numbers r.players in
    ap (number_at (pos r.steps ∷ ps)) e
    ∙ sym (get_or-take 3 (drop (3 * j) ps) c (pos 0) h ∙ get_or-drop (3 * j) ps c (pos 0))
    ∙ ap (λ (x : List ℤ). number_at x c) (row_at player_numbers 3 no_player r.players (λ k m. player_long (player_at r.players k)) j l)

tells_player : (r : Tried) (j : ℕ) → j < length r.players → TellsPlayer (tried_numbers r) j (player_at r.players j)
unfolding player_numbers
tells_player r j l = go (player_at r.players j).joined refl
  where
    p : Player
    p = player_at r.players j

    shown : (b : Bool) → p.joined ≡ b → (c : ℕ) → c < 3 → (i : ℕ) → i ≡ suc (3 * j + c) → number_at (tried_numbers r) i ≡ number_at (cond b (pos 1 ∷ pos p.distance ∷ pos p.step ∷ []) (replicate 3 (pos 0))) c
    shown b e c h i q = seat_number r j c l h i q ∙ ap (λ (b : Bool). number_at (cond b (pos 1 ∷ pos p.distance ∷ pos p.step ∷ []) (replicate 3 (pos 0))) c) e

    go : (b : Bool) → p.joined ≡ b → TellsPlayer (tried_numbers r) j p
    go true e = record {
      joined = λ f. (shown true e 0 (omega arith) (1 + 3 * j) (omega arith), shown true e 1 (omega arith) (1 + 3 * j + 1) (omega arith), shown true e 2 (omega arith) (1 + 3 * j + 2) (omega arith));
      nobody = λ f. absurd (true≢false (sym e ∙ f));
    }
    go false e = record {
      joined = λ f. absurd (true≢false (sym f ∙ e));
      nobody = λ f. (shown false e 0 (omega arith) (1 + 3 * j) (omega arith), shown false e 1 (omega arith) (1 + 3 * j + 1) (omega arith), shown false e 2 (omega arith) (1 + 3 * j + 2) (omega arith));
    }

tells_run : (n : ℕ) (r : Tried) → length r.players ≡ n → TellsRun n (tried_numbers r) r
unfolding tried_numbers
tells_run n r e = record { steps = refl; players = λ j l. tells_player r j (omega (arith, e)) }

pub rows_give_back : (n : ℕ) → RowsGiveBack n
rows_give_back n s ts joins targets tunings m result t tuned i z q e l =
    let a = rows_tell n s ts joins targets tunings (pos m) result z in
    let u : a.start ≡ t = same_start (sym a.accepted ∙ q) in
    let k : tunings_in tunings ≡ tuned = div-eq_of_eq-mul_right (omega arith) e in
    let r = tried n s ts m (tuned_to (row_of 19 i tunings) t) in
    subst (λ (row : List ℤ). TellsRun n row r)
    (sym (a.rows i (omega (arith, k, l)) ∙ ap (λ (v : Trying). tried_numbers (tried n s ts m (tuned_to (row_of 19 i tunings) v))) u))
    (tells_run n r (run_full n s ts joins targets tunings (pos m) result t q (row_of 19 i tunings)))
