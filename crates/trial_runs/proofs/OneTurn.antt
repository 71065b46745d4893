-- One turn of a run on numbers is the rule's on the world that they stand for. Assumes nothing.
use Prim.Native.Nat.{ℕ, suc, ◌+◌}
use mathlib.Core.List.{List}
use mathlib.Core.Path.{◌≡◌, sym, ap, ap₂, ◌∙◌, subst}
use native.Mathlib.Numerals.{add-one}
use native.Mathlib.Omega.{arith}
use lib.IntN.{ℤ}
use lib.ListN.{length}
use borrow.Author.Tests.{eq-eqb, ne_eqb}
use Rattle.base_rows.specs.Put.{put}
use Rattle.base_rows.proofs.Puts.{put_end}
use Rattle.base_turns.specs.Turns.{more, stop, run}
use Rattle.base_turns.proofs.Loop.{Left, turn_first}
use Rattle.game_tuning.specs.Tuning.{tuning_count}
use Rattle.map_tiles.specs.declared.tiles.Sides.{Sides}
use Rattle.character.specs.Tick.{seats}
use Rattle.world.specs.Step.{step}
use Rattle.world.specs.Answered.{Stepped}
use Rattle.world.specs.declared.World.{World}
use Rattle.world.specs.declared.call.Call.TheVariants.{Step}
use Rattle.world_solo.proofs.Seatless.{step_sized}
use Rattle.world_numbers.specs.Encoding.{world_count, records_count}
use Rattle.world_numbers.specs.Decoding.{decoding}
use Rattle.world_buffers.specs.Stepping.{StepBuffers, LeftByStep, step_in}
use Rattle.trial_rule.specs.Trial.{Trying, noted_all, step_from, try_turn, tuned_to}
use Rattle.trial_rule.specs.declared.Player.{Player}
use Rattle.trial_runs.specs.InPlace.{IsWorld, steered_all, RecordsOf}
use Rattle.trial_runs.proofs.Worlds.{world_long, Called, called, told_records, tuned_kept, tuned_world}
use Rattle.trial_runs.proofs.Steering.{steered_kept, steered_world}

-- what the numbers l and the players stand for
abbrev pub state : List ℤ → List Player → Trying
state l ps = record { world = decoding seats l; players = ps }

-- ---- the loop of a run

-- where it is after i steps: the world's numbers and the players, from a run that ends as the whole does
pub record Runs (s : Sides) (ts : List ℕ) (m : ℕ) (t : Trying) (i : ℕ) (l : List ℤ) (ps : List Player) : Type 0 where
  pub world : IsWorld l
  pub long : length l ≡ world_count
  pub left : Left (try_turn seats s ts) m i (state l ps) (run (try_turn seats s ts) m 0 t)

-- the start: the numbers of a world, and the tuning over them
pub started : (s : Sides) (ts : List ℕ) (m : ℕ) (d l zs : List ℤ) (ps : List Player) (e : List ℤ) → IsWorld l → length d ≡ world_count → length zs ≡ tuning_count → e ≡ put (put d 0 l) 0 zs → Runs s ts m (tuned_to zs (state l ps)) 0 e ps
started s ts m d l zs ps e h n k q =
    let c : 0 + length l ≡ length d = let g = world_long l h in omega (arith, g, n) in
    let p : e ≡ put l 0 zs = q ∙ ap (λ (x : List ℤ). put x 0 zs) (put_end d 0 l c) in
    let w : IsWorld e = subst IsWorld (sym p) (tuned_kept l zs h k) in
    let u : state e ps ≡ tuned_to zs (state l ps) = ap (λ (v : World). record { world = v; players = ps }) (ap (decoding seats) p ∙ tuned_world l zs h k) in
    record { world = w; long = world_long e w; left = subst (λ (t : Trying). Left (try_turn seats s ts) m 0 (state e ps) (run (try_turn seats s ts) m 0 t)) u turn_first }

-- ---- a turn
module _ (s : Sides) (ts : List ℕ) (l : List ℤ) (ps : List Player) (h : IsWorld l) (l₁ l₂ : List ℤ) (b d : StepBuffers) (k : ℕ)
    (steered : l₁ ≡ steered_all s ps l) (long : length b.records ≡ records_count) (wide : length b.removed ≡ seats)
    (told : step_in s ts l₁ b ≡ record { number = k; world = l₂; told = d }) where
  abbrev a : Stepped
  a = step_from seats s ts (state l ps)

  kept : IsWorld l₁
  kept = subst IsWorld (sym steered) (steered_kept s ts ps l h)

  step_is : step seats (decoding seats l₁) s ts ≡ a
  unfolding step_from
  step_is = ap (λ (w : World). step seats w s ts) (ap (decoding seats) steered ∙ steered_world s ts ps l h)

  by_call : Called s ts b l₁ Step
  by_call = called s ts b l₁ Step long wide kept

  number_is : a.number ≡ k
  number_is = sym (ap (λ (x : Stepped). x.number) step_is) ∙ sym by_call.number ∙ ap (λ (x : LeftByStep). x.number) told

  pub refused : (i : ℕ) → (k ≡ 0 → ⊥) → try_turn seats s ts i (state l ps) ≡ stop (record { steps = i; players = ps })
  refused i z = rw (ne_eqb a.number 0 (λ e. z (sym number_is ∙ e)))

  module _ (z : k ≡ 0) where
    pub stepped_kept : IsWorld l₂
    stepped_kept = subst IsWorld (ap (λ (x : LeftByStep). x.world) told) by_call.kept

    pub turned : (i : ℕ) (qs : List Player) → RecordsOf d.records (λ rs. qs ≡ noted_all seats s (i + 1) rs ps) → try_turn seats s ts i (state l ps) ≡ more (state l₂ qs)
    turned i qs f =
        let rs = (step seats (decoding seats l₁) s ts).records in
        let zero : a.number ≡ 0 = number_is ∙ z in
        let u = f rs (step_sized seats s ts (decoding seats l₁)) (told_records s ts l₁ b (record { number = k; world = l₂; told = d }) (world_long l₁ kept) long wide told (ap (λ (x : Stepped). x.number) step_is ∙ zero)) in
        let p : noted_all seats s (suc i) a.records ps ≡ qs = sym (u ∙ ap₂ (λ (j : ℕ) (x : Stepped). noted_all seats s j x.records ps) (add-one i) step_is) in
        let w : a.world ≡ decoding seats l₂ = sym (ap (decoding seats) (sym (ap (λ (x : LeftByStep). x.world) told)) ∙ by_call.world ∙ ap (λ (x : Stepped). x.world) step_is) in
        rw (eq-eqb a.number 0 zero) (ap₂ (λ (v : World) (us : List Player). more (record { world = v; players = us })) w p)
