-- A way comes back from its numbers, and so does what a search tells. Assumes nothing.
use Prim.Native.Nat.{ℕ, zero, suc, ◌+◌, ◌*◌, ◌-◌, ◌≤◌, ◌<◌}
use mathlib.Core.List.{List, [], ◌∷◌, ◌++◌}
use mathlib.Core.Path.{◌≡◌, refl, ap, ◌∙◌}
use native.Mathlib.Omega.{arith}
use lib.IntN.{ℤ, pos}
use lib.ListN.{length, drop, replicate}
use lib.Seq.{drop_at}
use borrow.Author.Tests.{eq-eqb}
use Rattle.base_rows.specs.Put.{put}
use Rattle.base_turns.specs.Turns.{more, stop}
use Rattle.map_tiles.specs.Map.{is_map}
use Rattle.map_tiles.specs.declared.tiles.Sides.{Sides}
use Rattle.character.specs.Tick.{seats}
use Rattle.world.specs.Readers.{seated}
use Rattle.world.specs.declared.World.{World}
use Rattle.world.proofs.Seats.{by_test}
use Rattle.world_numbers.specs.Encoding.{world_count, each}
use Rattle.world_numbers.specs.Decoding.{each_in, decoding}
use Rattle.world_numbers.proofs.Rows.{each_long}
use Rattle.search_rule.specs.Ways.{Way}
use Rattle.search_rule.specs.Search.{Found, first_way, goal_of, SearchAnswer, Refused, NoWay, WayTo, answer_of, search_from, search}
use Rattle.search_rule.proofs.Laws.{search_reaches}
use Rattle.search_calls.specs.Numbers.{way_count, buttons_numbers, way_numbers, search_told, search_in}
use Rattle.told_numbers.specs.Ways.{buttons_in, way_of, WaysComeBack, ZerosBehind, way_answer, answer_in, SearchTold}
use Rattle.told_numbers.proofs.Seated.{Numbered, seated_numbered}
use Rattle.std.specs.Prelude.{Result, Ok, Err}
use Rattle.character.specs.declared.Slot.{Slot}
use Rattle.game_refusals.specs.declared.Refusal.{Refusal}

-- ---- a way
-- steps are read again, whatever stands behind them
steps_back : (u : Way) (l : List ℤ) → each_in buttons_in 2 (length u) (each buttons_numbers u ++ l) ≡ u
unfolding each_in each buttons_in
steps_back [] l = refl
steps_back (b ∷ u) l = ap (λ (v : Way). b ∷ v) (steps_back u l)

pub ways_come_back : WaysComeBack
unfolding way_of way_numbers put
ways_come_back u = steps_back u (drop (0 + suc (length (each buttons_numbers u))) (replicate way_count (pos 0)))

zeros_dropped : (n m : ℕ) → drop n (replicate m (pos 0)) ≡ replicate (m - n) (pos 0)
zeros_dropped zero m = ap (λ (k : ℕ). replicate k (pos 0)) {x = m} {y = m - 0} (omega arith)
zeros_dropped (suc n) zero = ap (λ (k : ℕ). replicate k (pos 0)) {x = 0} {y = 0 - suc n} (omega arith)
zeros_dropped (suc n) (suc m) = zeros_dropped n m ∙ ap (λ (k : ℕ). replicate k (pos 0)) {x = m - n} {y = suc m - suc n} (omega arith)

pub zeros_behind_lem : ZerosBehind
unfolding way_numbers put
zeros_behind_lem u =
    let n = 1 + 2 * length u in
    let w : List ℤ = pos (length u) ∷ each buttons_numbers u in
    let long : length w ≡ n = omega (arith, each_long buttons_numbers 2 (λ b. refl) u) in
    let same : 0 + length w ≡ n = omega arith in
    drop_at w (drop (0 + length w) (replicate way_count (pos 0))) n long ∙ ap (λ (k : ℕ). drop k (replicate way_count (pos 0))) same ∙ zeros_dropped n way_count

-- ---- a search
-- a refusal is never 0
abbrev Numbers : SearchAnswer → Type 0
Numbers (Refused k) = 0 < k
Numbers NoWay = Unit {0}
Numbers (WayTo u) = Unit {0}

module _ (n : ℕ) (s : Sides) (ts : List ℕ) (w : World) (id x y : ℤ) where
  found_numbers : (f : Found) → Numbers (answer_of f)
  found_numbers (more z) = tt
  found_numbers (stop u) = tt

  from_numbers : (z : Result Slot Refusal) → Numbered z → Numbers (search_from n s ts w id x y z)
  from_numbers (Err k) h = h
  from_numbers (Ok slot) h = found_numbers (first_way n s ts (goal_of id x y slot.input) w)

  search-numbers : Numbers (search n s ts w id x y)
  unfolding search
  search-numbers = by_test Numbers (is_map s ts) (λ e. from_numbers (seated n w id) (seated_numbered n w id)) (λ e. omega arith)

-- a way that is told has a step
some_steps : (u : Way) → 1 ≤ length u → way_answer u ≡ WayTo u
some_steps [] h = absurd (omega arith)
some_steps (b ∷ u) h = refl

answer_back : (out : List ℤ) (a : SearchAnswer) → Numbers a → ((u : Way) → a ≡ WayTo u → 1 ≤ length u) → let t = search_told out a in answer_in t.number t.numbers ≡ a
answer_back out (Refused zero) h f = absurd (omega arith)
answer_back out (Refused (suc k)) h f = refl
answer_back out NoWay h f = ap way_answer (ways_come_back [])
answer_back out (WayTo u) h f = ap way_answer (ways_come_back u) ∙ some_steps u (f u refl)

pub search-told : SearchTold
unfolding search_in
search-told s ts l id x y out h g =
    let w = decoding seats l in
    rw (eq-eqb (length l) world_count h, eq-eqb (length out) way_count g) (answer_back out (search seats s ts w id x y) (search-numbers seats s ts w id x y) (λ u e. ((search_reaches seats).shown s ts w id x y u e).way.some))
