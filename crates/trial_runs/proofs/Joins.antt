-- The joins of a trial on numbers, one after another: each is the rule's on the world that they stand for. Assumes nothing.
use Prim.Native.Nat.{ℕ, suc, ◌+◌, ◌*◌, ◌/◌, ◌≤◌, ◌<◌}
use mathlib.Core.List.{List, [], ◌∷◌}
use mathlib.Core.Path.{◌≡◌, refl, sym, ap, ap₂, ◌∙◌, subst}
use native.Mathlib.Nat.{div-add-mod'}
use native.Mathlib.Omega.{arith}
use lib.IntN.{ℤ, pos}
use lib.ListN.{length, drop, set, drop_of_length-le}
use lib.Seq.{drop-cons}
use borrow.Author.Tests.{eq-eqb, ne_eqb}
use Rattle.base_turns.specs.Turns.{Turn, more, stop, next}
use Rattle.std.specs.Prelude.{Ok, Err}
use Rattle.game_refusals.specs.Refusals.{number_of}
use Rattle.game_refusals.specs.declared.Refusal.{Refusal}
use Rattle.map_tiles.specs.declared.tiles.Sides.{Sides}
use Rattle.game_records.specs.Numbers.{number_at}
use Rattle.character.specs.Tick.{seats}
use Rattle.world.specs.Calls.{place_of, join}
use Rattle.world.specs.Answered.{Answer}
use Rattle.world.specs.declared.World.{World}
use Rattle.world.specs.declared.call.Call.TheVariants.{Join}
use Rattle.world.proofs.Outcomes.{Outcome, no, yes, Joins, join_outcome}
use Rattle.world_numbers.specs.Encoding.{world_count}
use Rattle.world_numbers.specs.Decoding.{decoding}
use Rattle.world_buffers.specs.Buffers.{LeftWorld, join_in}
use Rattle.trial_rule.specs.Trial.{Entrant, Trying, entered, enter, enter_all}
use Rattle.trial_rule.specs.Calls.{join_count, target_count, entrants}
use Rattle.trial_rule.specs.declared.Player.{Player}
use Rattle.trial_runs.specs.InPlace.{IsWorld, Enters}
use Rattle.trial_runs.proofs.Worlds.{world_long, Called, called_quietly, no_buffers}
use Rattle.trial_runs.proofs.OneTurn.{state}

-- ---- which join comes next

-- the i-th join with its target
abbrev pub entrant_at : List ℤ → List ℤ → ℕ → Entrant
entrant_at joins targets i = let at = join_count * i in let to = target_count * i in record { id = number_at joins at; x = number_at joins (at + 1); y = number_at joins (at + 2); column = number_at targets to; row = number_at targets (to + 1) }

two : (l : List ℤ) (at : ℕ) → at + 1 < length l → drop at l ≡ number_at l at ∷ number_at l (at + 1) ∷ drop (at + 2) l
two l at h =
    let e : suc at ≡ at + 1 = omega arith in
    let f : suc (at + 1) ≡ at + 2 = omega arith in
    drop-cons l at (pos 0) (omega arith) ∙ ap (λ (r : List ℤ). number_at l at ∷ r) (ap (λ (k : ℕ). drop k l) e ∙ drop-cons l (at + 1) (pos 0) h ∙ ap (λ (k : ℕ). number_at l (at + 1) ∷ drop k l) f)

three : (l : List ℤ) (at : ℕ) → at + 2 < length l → drop at l ≡ number_at l at ∷ number_at l (at + 1) ∷ number_at l (at + 2) ∷ drop (at + 3) l
three l at h =
    let e : suc (at + 2) ≡ at + 3 = omega arith in
    two l at (omega arith) ∙ ap (λ (r : List ℤ). number_at l at ∷ number_at l (at + 1) ∷ r) (drop-cons l (at + 2) (pos 0) h ∙ ap (λ (k : ℕ). number_at l (at + 2) ∷ drop k l) e)

-- how far i whole joins reach
pub join_within : (m i : ℕ) → i < m / join_count → join_count * i + 2 < m
join_within m i h = let d = div-add-mod' m join_count in omega (arith, d, h)

-- what is left from the i-th on
abbrev rest : List ℤ → List ℤ → ℕ → List Entrant
rest joins targets i = entrants (drop (join_count * i) joins) (drop (target_count * i) targets)

none_left : (joins : List ℤ) → entrants joins [] ≡ []
none_left [] = refl
none_left (id ∷ []) = refl
none_left (id ∷ x ∷ []) = refl
none_left (id ∷ x ∷ y ∷ joins) = refl

module _ (joins targets : List ℤ) (long : length targets ≡ target_count * (length joins / join_count)) (i : ℕ) where
  next_entrant : i < length joins / join_count → rest joins targets i ≡ entrant_at joins targets i ∷ rest joins targets (i + 1)
  next_entrant h =
      let a : join_count * (i + 1) ≡ join_count * i + 3 = omega arith in
      let b : target_count * (i + 1) ≡ target_count * i + 2 = omega arith in
      ap₂ entrants (three joins (join_count * i) (join_within (length joins) i h) ∙ ap (λ (k : ℕ). number_at joins (join_count * i) ∷ number_at joins (join_count * i + 1) ∷ number_at joins (join_count * i + 2) ∷ drop k joins) (sym a)) (two targets (target_count * i) (omega (arith, long, h)) ∙ ap (λ (k : ℕ). number_at targets (target_count * i) ∷ number_at targets (target_count * i + 1) ∷ drop k targets) (sym b))

  last_entrant : length joins / join_count ≤ i → rest joins targets i ≡ []
  last_entrant h = ap (entrants (drop (join_count * i) joins)) (drop_of_length-le targets {i = target_count * i} (omega (arith, long, h))) ∙ none_left (drop (join_count * i) joins)

-- ---- a join

pub joined_seat : (w : World) (s : Sides) (ts : List ℕ) (id x y : ℤ) → (join seats w s ts id x y).number ≡ 0 → place_of seats id < seats
joined_seat w s ts id x y z = go (join seats w s ts id x y) z (join_outcome seats w s ts id x y)
  where
    go : {u : World} (a : Answer) → a.number ≡ 0 → Outcome w u (Joins seats w s ts id x y) a → place_of seats id < seats
    go a q (no r e) = absurd (let f = ap (λ (b : Answer). b.number) e in omega (arith, q, f))
    go a q (yes f e) = f.seat

module _ (s : Sides) (ts : List ℕ) (l l₁ : List ℤ) (ps : List Player) (e : Entrant) (k : ℕ) (h : IsWorld l) (told : join_in s ts l e.id e.x e.y ≡ record { number = k; world = l₁ }) where
  by_call : Called s ts no_buffers l (Join e.id e.x e.y)
  by_call = called_quietly s ts l (Join e.id e.x e.y) h

  abbrev a : Answer
  a = join seats (decoding seats l) s ts e.id e.x e.y

  number_is : a.number ≡ k
  number_is = sym by_call.number ∙ ap (λ (x : LeftWorld). x.number) told

  refused : (k ≡ 0 → ⊥) → enter seats s ts e (state l ps) ≡ stop k
  unfolding enter
  refused z = rw (ne_eqb a.number 0 (λ q. z (sym number_is ∙ q))) (ap stop number_is)

  module _ (z : k ≡ 0) where
    pub seat_there : place_of seats e.id < seats
    seat_there = joined_seat (decoding seats l) s ts e.id e.x e.y (number_is ∙ z)

    kept : IsWorld l₁
    kept = subst IsWorld (ap (λ (x : LeftWorld). x.world) told) by_call.kept

    accepted : enter seats s ts e (state l ps) ≡ more (state l₁ (set ps (place_of seats e.id) (entered s e)))
    unfolding enter
    accepted = rw (eq-eqb a.number 0 (number_is ∙ z)) (ap (λ (w : World). more (record { world = w; players = set ps (place_of seats e.id) (entered s e) })) (sym (sym (ap (decoding seats) (ap (λ (x : LeftWorld). x.world) told)) ∙ by_call.world)))

-- ---- the loop

-- before the i-th join: what is left of them ends as all do, with e
pub record Entering (s : Sides) (ts : List ℕ) (joins targets : List ℤ) (e : Turn Trying ℕ) (i : ℕ) (l : List ℤ) (ps : List Player) : Type 0 where
  pub world : IsWorld l
  pub long : length l ≡ world_count
  pub left : enter_all seats s ts (rest joins targets i) (state l ps) ≡ e
  pub within : i ≤ length joins / join_count

module _ (s : Sides) (ts : List ℕ) (joins targets : List ℤ) where
  pub enter_first : (l : List ℤ) (ps qs : List Player) → IsWorld l → ps ≡ qs → Entering s ts joins targets (enter_all seats s ts (entrants joins targets) (state l qs)) 0 l ps
  enter_first l ps qs h e = record { world = h; long = world_long l h; left = ap (λ (us : List Player). enter_all seats s ts (entrants joins targets) (state l us)) e; within = omega arith }

  module _ (many : length targets ≡ target_count * (length joins / join_count)) (e : Turn Trying ℕ) (i : ℕ) (l : List ℤ) (ps : List Player) (h : Entering s ts joins targets e i l ps) where
    pub enter-end : length joins / join_count ≤ i → Enters e (Ok ps) l
    enter-end q =
        let f : e ≡ more (state l ps) = sym h.left ∙ ap (λ (es : List Entrant). enter_all seats s ts es (state l ps)) (last_entrant joins targets many i q) in
        subst (λ (x : Turn Trying ℕ). Enters x (Ok ps) l) (sym f) (h.world, refl)

    module _ (q : i < length joins / join_count) (l₁ : List ℤ) (k : ℕ) (told : join_in s ts l (entrant_at joins targets i).id (entrant_at joins targets i).x (entrant_at joins targets i).y ≡ record { number = k; world = l₁ }) where
      abbrev me : Entrant
      me = entrant_at joins targets i

      goes : e ≡ next (enter_all seats s ts (rest joins targets (i + 1))) (enter seats s ts me (state l ps))
      goes = sym h.left ∙ ap (λ (es : List Entrant). enter_all seats s ts es (state l ps)) (next_entrant joins targets many i q)

      pub enter-off : (refusal : Refusal) (m : List ℤ) → (k ≡ 0 → ⊥) → number_of refusal ≡ k → Enters e (Err refusal) m
      enter-off refusal m z p = subst (λ (x : Turn Trying ℕ). Enters x (Err refusal) m) (sym (goes ∙ ap (next (enter_all seats s ts (rest joins targets (i + 1)))) (refused s ts l l₁ ps me k h.world told z))) p

      pub enter-on : (qs : List Player) → k ≡ 0 → qs ≡ set ps (place_of seats me.id) (entered s me) → Entering s ts joins targets e (i + 1) l₁ qs
      enter-on qs z p =
          let w = kept s ts l l₁ ps me k h.world told z in
          record {
            world = w;
            long = world_long l₁ w;
            left = sym (goes ∙ ap (next (enter_all seats s ts (rest joins targets (i + 1)))) (accepted s ts l l₁ ps me k h.world told z ∙ ap (λ (us : List Player). more (state l₁ us)) (sym p)));
            within = omega arith;
          }
