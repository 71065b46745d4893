-- The smallest distance and the first step that reached it, by the records of a run's steps. Assumes nothing.
use Prim.Native.Nat.{ℕ, zero, suc, ◌≤◌, ◌<◌}
use mathlib.Core.Bool.{Bool, true, false, cond, true≢false}
use mathlib.Core.List.{List, ◌∷◌, ◌++◌}
use mathlib.Core.Logic.{⊎_elim}
use mathlib.Core.Path.{◌≡◌, refl, sym, ap, ap₂, ◌∙◌, subst}
use native.Mathlib.Omega.{arith}
use lib.Dec.{ltb}
use lib.IntN.{ℤ, pos}
use lib.ListN.{length, get_or-replicate}
use borrow.Author.Tests.{ltb-true, ltb-false}
use Rattle.map_corners.specs.Tile.{tile_at}
use Rattle.map_tiles.specs.declared.tiles.Sides.{Sides}
use Rattle.character.specs.Tick.{slot_at}
use Rattle.world.specs.Calls.{place_of, point_of}
use Rattle.world.specs.declared.Published.{Published}
use Rattle.world.specs.declared.call.Call.TheVariants.{Input}
use Rattle.world.proofs.Seats.{last_or_below}
use Rattle.world_numbers.specs.Encoding.{flag}
use Rattle.game_records.specs.Numbers.{same_number}
use Rattle.trial_rule.specs.Trial.{Entrant, target_column, target_row, distance_to, Trying, no_player, player_at, entered, noted, input_for, step_from, towards, tried, nobody_yet, tuned_to}
use Rattle.trial_rule.specs.Laws.{state_after, record_after, IsAfter, distance_of, input_of_trial, Smallest, TellsSmallest, TellsNobody, JumpsAfterStay}
use Rattle.trial_rule.specs.declared.Player.{Player}
use Rattle.trial_rule.proofs.Players.{after, noted-at}
use Rattle.trial_rule.proofs.Runs.{state_full, ended}
use Rattle.trial_rule.proofs.Joins.{all_sized, all_here, nobody_there}

module _ (n : ℕ) (s : Sides) (ts : List ℕ) (u : Trying) where
  -- the player of a seat after one step more
  next_player : length u.players ≡ n → (j : ℕ) → j < n → (k : ℕ) → player_at (state_after n s ts u (suc k)).players j ≡ after n s (suc k) (step_from n s ts (state_after n s ts u k)).records j (player_at (state_after n s ts u k).players j)
  next_player h j l k = noted-at n s (suc k) (step_from n s ts (state_after n s ts u k)).records j l (state_after n s ts u k).players (state_full n s ts u h k)

  module _ (e : Entrant) where
    abbrev Distance : ℕ → ℕ → Type 0
    Distance = IsAfter n s ts u e (distance_of s e)

    abbrev Across : ℕ → ℤ → Type 0
    Across = IsAfter n s ts u e (λ a b. a)

    -- what is kept of e after k steps
    record Kept (k : ℕ) (p : Player) : Type 0 where
      joined : p.joined ≡ true
      column : p.column ≡ target_column s e
      row : p.row ≡ target_row s e
      across : (x : ℤ) → Across k x → p.x ≡ x
      done : p.step ≤ k
      reached : Distance p.step p.distance
      first : (i d : ℕ) → i < p.step → Distance i d → p.distance < d
      least : (i d : ℕ) → i ≤ k → Distance i d → p.distance ≤ d

    started : Kept 0 (entered s e)
    unfolding entered
    started = record {
      joined = refl;
      column = refl;
      row = refl;
      across = λ x q. sym q;
      done = omega arith;
      reached = refl;
      first = λ i d l. absurd (omega arith);
      least = λ i d l q. none i d l q;
    }
      where
        none : (i d : ℕ) → i ≤ 0 → Distance i d → distance_of s e e.x e.y ≤ d
        none zero d l q = omega (arith, q)
        none (suc i) d l q = absurd (omega arith)

    module _ (k : ℕ) (p : Player) (h : Kept k p) where
      abbrev r : Published
      r = record_after n s ts u (place_of n e.id) k

      abbrev x : ℤ
      x = r.core.x

      abbrev y : ℤ
      y = r.core.y

      -- its distance in the next step
      abbrev new : ℕ
      new = distance_of s e x y

      new_is : distance_to s p.column p.row (point_of x y) ≡ new
      new_is = ap₂ (λ (a b : ℕ). distance_to s a b (point_of x y)) h.column h.row

      -- the steps so far, and the next
      each_step : (P : ℕ → ℕ → Type 0) → ((i d : ℕ) → i ≤ k → Distance i d → P i d) → ((d : ℕ) → Distance (suc k) d → P (suc k) d) → (i d : ℕ) → i ≤ suc k → Distance i d → P i d
      each_step P f g i d l q = ⊎_elim (λ z. subst (λ (j : ℕ). Distance j d → P j d) (sym z) (g d) q) (λ z. f i d (omega arith) q) (last_or_below i (suc k) (omega arith))

      -- no record: as before
      absent : r.present ≡ false → Kept (suc k) p
      absent b = record {
        joined = h.joined;
        column = h.column;
        row = h.row;
        across = λ z q. absurd (true≢false (sym q.0 ∙ b));
        done = omega (arith, h.done);
        reached = h.reached;
        first = h.first;
        least = each_step (λ i d. p.distance ≤ d) h.least (λ d q. absurd (true≢false (sym q.0 ∙ b)));
      }

      present : r.present ≡ true → Kept (suc k) (noted s (suc k) x y p)
      unfolding noted
      present b = go (ltb (distance_to s p.column p.row (point_of x y)) p.distance) refl
        where
          d₀ : ℕ
          d₀ = distance_to s p.column p.row (point_of x y)

          here : (d : ℕ) → Distance (suc k) d → d₀ ≡ d
          here d q = new_is ∙ sym q.1

          go : (c : Bool) → ltb d₀ p.distance ≡ c → Kept (suc k) (record { joined = p.joined; column = p.column; row = p.row; x = x; stayed = same_number p.x x; distance = cond c d₀ p.distance; step = cond c (suc k) p.step })
          go true c = let l = ltb-true d₀ p.distance c in record {
            joined = h.joined;
            column = h.column;
            row = h.row;
            across = λ z q. sym q.1;
            done = omega arith;
            reached = (b, new_is);
            first = λ i d m q. let o = h.least i d (omega arith) q in omega (arith, o, l);
            least = each_step (λ i d. d₀ ≤ d) (λ i d m q. let o = h.least i d m q in omega (arith, o, l)) (λ d q. let o = here d q in omega (arith, o));
          }
          go false c = let l = ltb-false d₀ p.distance c in record {
            joined = h.joined;
            column = h.column;
            row = h.row;
            across = λ z q. sym q.1;
            done = omega (arith, h.done);
            reached = h.reached;
            first = h.first;
            least = each_step (λ i d. p.distance ≤ d) h.least (λ d q. let o = here d q in omega (arith, o, l));
          }

      one_more : Kept (suc k) (after n s (suc k) (step_from n s ts (state_after n s ts u k)).records (place_of n e.id) p)
      one_more = go r.present refl
        where
          go : (b : Bool) → r.present ≡ b → Kept (suc k) (cond b (noted s (suc k) x y p) p)
          go true b = present b
          go false b = absent b

    module _ (full : length u.players ≡ n) (seat : place_of n e.id < n) (start : player_at u.players (place_of n e.id) ≡ entered s e) where
      abbrev me : ℕ → Player
      me k = player_at (state_after n s ts u k).players (place_of n e.id)

      kept : (k : ℕ) → Kept k (me k)
      kept zero = subst (Kept 0) (sym start) started
      kept (suc k) = subst (Kept (suc k)) (sym (next_player full (place_of n e.id) seat k)) (one_more k (me k) (kept k))

      smallest : (m : ℕ) → let r = tried n s ts m u in Smallest n s ts u e r (player_at r.players (place_of n e.id))
      smallest m =
          let r = tried n s ts m u in
          let g = ended n s ts u m in
          let h : Kept r.steps (player_at r.players (place_of n e.id)) = subst (λ (ps : List Player). Kept r.steps (player_at ps (place_of n e.id))) (sym g.players) (kept r.steps) in
          record { joined = h.joined; done = h.done; reached = h.reached; first = h.first; least = h.least }

      -- ---- the inputs
      with-jump : (k : ℕ) (z : ℤ) → flag (me k).stayed ≡ z → input_for s (state_after n s ts u k) (place_of n e.id) ≡ input_of_trial n s (state_after n s ts u k) e z
      with-jump k z q = ap₂ (λ (c : ℕ) (b : ℤ). Input (pos (place_of n e.id)) (towards (tile_at s.width (slot_at (state_after n s ts u k).world.slots (place_of n e.id)).character.pos.x) c) (pos 0) (pos 0) b (pos 0)) (kept k).column q

      first-jump : input_for s u (place_of n e.id) ≡ input_of_trial n s u e (pos 0)
      unfolding entered
      first-jump = with-jump 0 (pos 0) (ap (λ (p : Player). flag p.stayed) start)

      later-jump : (k : ℕ) (a b : ℤ) → Across k a → Across (suc k) b → input_for s (state_after n s ts u (suc k)) (place_of n e.id) ≡ input_of_trial n s (state_after n s ts u (suc k)) e (flag (same_number a b))
      unfolding noted
      later-jump k a b p q =
          with-jump (suc k) (flag (same_number a b)) (ap (λ (o : Player). flag o.stayed) (next_player full (place_of n e.id) seat k) ∙ rw q.0 (ap₂ (λ (v w : ℤ). flag (same_number v w)) ((kept k).across a p) (sym q.1)))

-- ---- the claims
pub tells_smallest : (n : ℕ) → TellsSmallest n
tells_smallest n s ts before later e t zs m q = let h = all_here n s ts before later e t q in smallest n s ts (tuned_to zs t) e (all_sized n s ts (before ++ (e ∷ later)) t q).players h.seat h.player m

pub jumps_after_stay : (n : ℕ) → JumpsAfterStay n
jumps_after_stay n s ts before later e t zs q =
    let h = all_here n s ts before later e t q in
    let f = (all_sized n s ts (before ++ (e ∷ later)) t q).players in
    (first-jump n s ts (tuned_to zs t) e f h.seat h.player, later-jump n s ts (tuned_to zs t) e f h.seat h.player)

-- nobody joins in a step
still_nobody : (n : ℕ) (s : Sides) (ts : List ℕ) (u : Trying) (j : ℕ) → j < n → length u.players ≡ n → (player_at u.players j).joined ≡ false → (k : ℕ) → (player_at (state_after n s ts u k).players j).joined ≡ false
unfolding noted
still_nobody n s ts u j l f h zero = h
still_nobody n s ts u j l f h (suc k) = ap (λ (p : Player). p.joined) (next_player n s ts u f j l k) ∙ go (record_after n s ts u j k).present (still_nobody n s ts u j l f h k)
  where
    p : Player
    p = player_at (state_after n s ts u k).players j

    go : (b : Bool) → p.joined ≡ false → (cond b (noted s (suc k) (record_after n s ts u j k).core.x (record_after n s ts u j k).core.y p) p).joined ≡ false
    go true q = q
    go false q = q

pub tells_nobody : (n : ℕ) → TellsNobody n
tells_nobody n s ts es t zs m j l q f =
    let r = tried n s ts m (tuned_to zs t) in
    let b = ap (λ (p : Player). p.joined) (nobody_there n s ts j es (nobody_yet n) t f q ∙ get_or-replicate n j no_player no_player l) in
    ap (λ (ps : List Player). (player_at ps j).joined) (ended n s ts (tuned_to zs t) m).players ∙ still_nobody n s ts (tuned_to zs t) j l (all_sized n s ts es t q).players b r.steps
