-- The turns of a search: what a first step comes to, by the tests that decide it. Assumes nothing.
use Prim.Native.Nat.{ℕ, zero, suc, ◌+◌, ◌-◌, ◌≤◌, ◌<◌}
use mathlib.Core.Bool.{Bool, true, false, cond}
use mathlib.Core.List.{List, [], ◌∷◌}
use mathlib.Core.Path.{◌≡◌, refl, sym, ap, ◌∙◌}
use native.Mathlib.Omega.{arith}
use lib.IntN.{ℤ, pos}
use lib.ListN.{length, set, replicate}
use Rattle.base_rows.specs.Put.{put}
use Rattle.base_rows.proofs.Puts.{put_none, put_one}
use Rattle.base_turns.specs.Turns.{stop, run}
use Rattle.base_turns.proofs.Loop.{Left, turn_on, turn_off, turn_end}
use Rattle.map_tiles.specs.declared.tiles.Sides.{Sides}
use Rattle.character.specs.Tick.{seats}
use Rattle.world.specs.Answered.{Stepped}
use Rattle.world.specs.declared.World.{World}
use Rattle.world_numbers.specs.Encoding.{each}
use Rattle.search_rule.specs.Ways.{longest}
use Rattle.search_rule.specs.Search.{step_with, arrives, goes_on, Found, nothing, choices, buttons_at, following, ending, going_on, first_among, first_way}
use Rattle.search_rule.specs.declared.Buttons.{Buttons}
use Rattle.search_rule.specs.declared.Goal.{Goal}
use Rattle.search_rule.proofs.Found.{found_long}
use Rattle.search_calls.specs.Numbers.{way_count, buttons_numbers, way_numbers, found_numbers, Wrote, found_in}
use Rattle.search_calls.proofs.Written.{put_front, found_no, found_yes}

module _ (s : Sides) (ts : List ℕ) (g : Goal) where
  -- what is found after the first step of a way with m before its last
  abbrev pub rest : ℕ → Stepped → Found
  rest zero = ending seats g
  rest (suc m) = going_on seats g (first_among seats s ts g m)

  abbrev pub turn : ℕ → World → ℕ → Unit {0} → Found
  turn m w i z = following (buttons_at i) (rest m (step_with seats s ts g w (buttons_at i)))

  pub first_turns : (m : ℕ) (w : World) → run (turn m w) choices 0 tt ≡ first_among seats s ts g m w
  unfolding first_among
  first_turns zero w = refl
  first_turns (suc m) w = refl

  module _ (l : List ℤ) (at : ℕ) (a : Stepped) where
    -- it is the last step
    pub tried-last : (m : ℕ) (b : Bool) → m ≡ 0 → b ≡ arrives seats g a → found_in l at (rest m a) ≡ record { found = b; way = l }
    unfolding each
    tried-last zero b e q = rw (← q) (go b)
      where
        go : (b : Bool) → found_in l at (cond b (stop []) nothing) ≡ record { found = b; way = l }
        go true = ap (λ (m : List ℤ). record { found = true; way = m }) (sym (put_none l at))
        go false = refl
    tried-last (suc m) b e q = absurd (omega arith)

    -- more follow
    pub tried-on : (m : ℕ) (w : World) (e : Wrote) → (m ≡ 0 → ⊥) → goes_on seats g a ≡ true → w ≡ a.world → found_in l at (first_among seats s ts g (m - 1) w) ≡ e → found_in l at (rest m a) ≡ e
    tried-on zero w e h q r f = absurd (h refl)
    tried-on (suc m) w e h q r f =
        let k : suc m - 1 ≡ m = omega arith in
        rw q (ap (λ (v : World). found_in l at (first_among seats s ts g m v)) (sym r) ∙ ap (λ (j : ℕ). found_in l at (first_among seats s ts g j w)) (sym k) ∙ f)

    -- it goes no further
    pub tried-off : (m : ℕ) → (m ≡ 0 → ⊥) → goes_on seats g a ≡ false → found_in l at (rest m a) ≡ record { found = false; way = l }
    tried-off zero h q = absurd (h refl)
    tried-off (suc m) h q = rw q

  -- ---- and what a turn of the loop leaves, after a try that has written l' for l

  module _ (m : ℕ) (w : World) (l l' : List ℤ) (at i : ℕ) (e : Found) (h : i < choices) (walk : Left (turn m w) choices i tt e) where
    abbrev found : Found
    found = rest m (step_with seats s ts g w (buttons_at i))

    pub goes_on_lem : found_in l (at + 2) found ≡ record { found = false; way = l' } → (l' ≡ l) × Left (turn m w) choices (i + 1) tt e
    goes_on_lem q = let r = found_no l (at + 2) found l' q in (r.1, turn_on walk h (ap (following (buttons_at i)) r.0))

    pub is-written : (b : Buttons) → b ≡ buttons_at i → found_in l (at + 2) found ≡ record { found = true; way = l' } → at + 2 ≤ length l → found_in l at e ≡ record { found = true; way = put l' at (buttons_numbers b) }
    unfolding each
    is-written b f q k =
        let r = found_yes l (at + 2) found l' q in
        ap (found_in l at) (turn_off walk h (ap (following (buttons_at i)) r.found))
        ∙ ap (λ (x : List ℤ). record { found = true; way = x }) (sym (ap (λ (c : Buttons). put l' at (buttons_numbers c)) f ∙ ap (λ (x : List ℤ). put x at (buttons_numbers (buttons_at i))) r.written ∙ put_front l at (buttons_numbers (buttons_at i)) (each buttons_numbers r.way) (at + 2) refl k))

  -- ---- the lengths in turn

  -- seven zeros
  abbrev pub zeros : List ℤ
  zeros = replicate way_count (pos 0)

  abbrev pub lengths : World → ℕ → Unit {0} → Found
  lengths w m z = first_among seats s ts g m w

  pub way_turns : (w : World) → run (lengths w) longest 0 tt ≡ first_way seats s ts g w
  unfolding first_way
  way_turns w = refl

  module _ (m : ℕ) (w : World) (e : Found) (walk : Left (lengths w) longest m tt e) where
    pub way-written : (l : List ℤ) → m < longest → found_in zeros 1 (first_among seats s ts g m w) ≡ record { found = true; way = l } → length l ≡ way_count → set l 0 (pos (suc m)) ≡ found_numbers e
    unfolding way_numbers
    way-written l h q k =
        let r = found_yes zeros 1 (first_among seats s ts g m w) l q in
        let n : length r.way ≡ suc m = found_long seats s ts g m w r.way r.found in
        put_one l 0 (pos (suc m)) (omega arith)
        ∙ ap (λ (x : List ℤ). put x 0 (pos (suc m) ∷ [])) r.written
        ∙ put_front zeros 0 (pos (suc m) ∷ []) (each buttons_numbers r.way) 1 refl (omega arith)
        ∙ ap (λ (j : ℕ). put zeros 0 (pos j ∷ each buttons_numbers r.way)) (sym n)
        ∙ ap found_numbers (sym (turn_off walk h r.found))

    pub none-longer : (l : List ℤ) → m < longest → found_in zeros 1 (first_among seats s ts g m w) ≡ record { found = false; way = l } → (l ≡ zeros) × Left (lengths w) longest (m + 1) tt e
    none-longer l h q = let r = found_no zeros 1 (first_among seats s ts g m w) l q in (r.1, turn_on walk h r.0)

    pub none_written : longest ≤ m → zeros ≡ found_numbers e
    unfolding way_numbers each put
    none_written h = ap found_numbers (sym (turn_end walk h))
