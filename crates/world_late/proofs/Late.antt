-- Calls for different ids and tunings commute, and a later input or tuning replaces an earlier one, in every world and every list. Assumes nothing.
use Prim.Native.Nat.{ℕ}
use mathlib.Core.Bool.{true}
use mathlib.Core.List.{List, [], ◌∷◌, ◌++◌}
use mathlib.Core.Path.{◌≡◌, refl, sym, ap, ap₂, ◌∙◌, subst}
use lib.IntN.{ℤ}
use lib.ListN.{set}
use lib.Seq.{get_or-set_same, set-set, set_comm}
use Rattle.map_tiles.specs.declared.tiles.Sides.{Sides}
use Rattle.game_records.specs.declared.PlayerInput.{PlayerInput}
use Rattle.game_tuning.specs.Tuning.{tuning_count}
use Rattle.character.specs.Slot.{with_input}
use Rattle.character.specs.Tick.{slot_at, nowhere}
use Rattle.character.specs.declared.Slot.{Slot}
use Rattle.character_laws.proofs.Slots.{set_every}
use Rattle.world.specs.declared.call.Call.{Call}
use Rattle.world.specs.declared.call.Call.TheVariants.{Input, Tune}
use Rattle.world.specs.Calls.{place_of}
use Rattle.world.specs.Run.{input_of, without_records, ran, after, Told, told_by, told}
use Rattle.world.specs.Answered.{Stepped}
use Rattle.world.specs.declared.World.{World}
use Rattle.world.proofs.Outcomes.{outcome_facts, input_outcome, input_number, tune_number}
use Rattle.world.proofs.Seats.{present_within}
use Rattle.world_late.specs.Late.{seat, subject_of, MayExchange, CallFor, join, leave, input, WhatMayBeExchanged, MayReplace, inputs, tunes, Exchanged, CallsCommute, LaterReplaces, CallTold, calls_told, Reordered, same, exchange, behind, again, LateLists, StruckLists}
use Rattle.world_late.proofs.Changes.{left, Commuting, replacing}
use Rattle.world_late.proofs.Actions.{storing, act, actions_commute, action_tuned}
use Rattle.world_late.proofs.Subjects.{both_named, subjects-commute}
use Rattle.world_late.proofs.Calls.{AnySize, tuned, number_of, call_at, change, Makes, makes}

module _ (n : ℕ) (s : Sides) (ts : List ℕ) where
  -- a call that tells its number alone tells the same where that is the same
  tells : (c : Call) → Makes n s ts c → (w v : World) → (ran n s ts w c).number ≡ (ran n s ts v c).number → told_by (ran n s ts w c) ≡ told_by (ran n s ts v c)
  tells c m w v e = ap told_by (m.quiet w) ∙ ap (λ (k : ℕ). told_by (without_records n (record { number = k; world = w }))) e ∙ ap told_by (sym (m.quiet v))

  -- ---- exchanged
  exchanged : (w : World) (c d : Call) → Makes n s ts c → Makes n s ts d → Commuting (change n s ts c) (change n s ts d) w → Exchanged n s ts w c d
  exchanged w c d m k h = record {
    first = tells c m (ran n s ts w d).world w (ap (λ (v : World). (ran n s ts v c).number) (k.leaves w) ∙ h.first);
    second = tells d k (ran n s ts w c).world w (ap (λ (v : World). (ran n s ts v d).number) (m.leaves w) ∙ h.second);
    world = k.leaves (ran n s ts w c).world ∙ ap (left (change n s ts d)) (m.leaves w) ∙ h.state ∙ sym (m.leaves (ran n s ts w d).world ∙ ap (left (change n s ts c)) (k.leaves w));
  }

-- ---- which may be exchanged
for_seat : {id : ℤ} {c : Call} → CallFor id c → subject_of c ≡ seat id
for_seat join = refl
for_seat leave = refl
for_seat input = refl

pub what_may_be_exchanged : WhatMayBeExchanged
what_may_be_exchanged = record {
  ids = λ a b c d p q r. rw (for_seat p, for_seat q) r;
  indexes = λ a b y z r. r;
  tune_first = λ index z id c p. rw (for_seat p) tt;
  tune_last = λ index z id c p. rw (for_seat p) tt;
}

pub calls_commute : (n : ℕ) → CallsCommute n
calls_commute n s ts w c d h =
    let p = subject_of c in
    let q = subject_of d in
    let named = both_named p q h in
    exchanged n s ts w c d (makes n s ts c named.0) (makes n s ts d named.1)
    (subjects-commute n AnySize act tuned (number_of n s ts) (λ i j e f v u l k r. actions_commute i j e f v r) (λ k e i z v u l r. action_tuned k e v i z) (λ i j y z v r. ap (λ (l : List ℤ). record { slots = v.slots; tunings = l }) (set_comm v.tunings i j y z r)) c d p q (call_at n s ts c) (call_at n s ts d) h w)

-- ---- replaced
module _ (n : ℕ) (s : Sides) (ts : List ℕ) where
  replaced : (w : World) (c d : Call) → Makes n s ts c → Makes n s ts d
      → ((ran n s ts w c).number ≡ 0 → (change n s ts d).number ((change n s ts c).next w) ≡ (change n s ts d).number w) → ((ran n s ts w c).number ≡ 0 → (change n s ts d).next ((change n s ts c).next w) ≡ (change n s ts d).next w)
      → (ran n s ts (ran n s ts w c).world d).number ≡ 0 → ran n s ts (ran n s ts w c).world d ≡ ran n s ts w d
  replaced w c d m k p q z =
      let v = (ran n s ts w c).world in
      let e = replacing (change n s ts c) (change n s ts d) w p (λ i j. q i) (sym (ap (λ (u : World). (ran n s ts u d).number) (m.leaves w)) ∙ z) in
      k.quiet v
      ∙ ap₂ (λ (i : ℕ) (u : World). without_records n (record { number = i; world = u })) (ap (λ (u : World). (ran n s ts u d).number) (m.leaves w) ∙ e.0) (k.leaves v ∙ ap (left (change n s ts d)) (m.leaves w) ∙ e.1 ∙ sym (k.leaves w))
      ∙ sym (k.quiet w)

  -- an input at the seat of another
  module _ (w : World) (k : ℕ) (i : PlayerInput) where
    abbrev stored : World
    stored = act k (storing i) w

    stored-present : (slot_at stored.slots k).present ≡ (slot_at w.slots k).present
    stored-present = set_every (λ j x. x.present ≡ (slot_at w.slots j).present) w.slots k (with_input (slot_at w.slots k) i) nowhere (λ j. refl) refl k

    stored-again : (j : PlayerInput) → (slot_at w.slots k).present ≡ true → act k (storing j) stored ≡ act k (storing j) w
    stored-again j p =
        ap (λ (x : Slot). record { slots = set stored.slots k (with_input x j); tunings = w.tunings }) (get_or-set_same w.slots k (with_input (slot_at w.slots k) i) nowhere (present_within w.slots k p))
        ∙ ap (λ (us : List Slot). record { slots = us; tunings = w.tunings }) (set-set w.slots k (with_input (slot_at w.slots k) i) (with_input (slot_at w.slots k) j))

  replaces_at : (w : World) {c d : Call} → MayReplace c d → let v = (ran n s ts w c).world in (ran n s ts v d).number ≡ 0 → ran n s ts v d ≡ ran n s ts w d
  unfolding call_at
  replaces_at w (inputs {id} {d} {x} {y} {j} {h} {d'} {x'} {y'} {j'} {h'}) =
      let k = place_of n id in
      let i = input_of d x y j h in
      let i' = input_of d' x' y' j' h' in
      let c = Input id d x y j h in
      let e = Input id d' x' y' j' h' in
      replaced w c e (makes n s ts c tt) (makes n s ts e tt) (λ z. input_number n (act k (storing i) w) w id (stored-present w k i) i') (λ z. stored-again w k i i' (outcome_facts w _ _ (input_outcome n w id i) z).there)
  replaces_at w (tunes {index} {z} {z'}) =
      let c = Tune index z in
      let e = Tune index z' in
      let k = place_of tuning_count index in
      replaced w c e (makes n s ts c tt) (makes n s ts e tt) (λ q. tune_number (tuned k z w) w index z') (λ q. ap (λ (l : List ℤ). record { slots = w.slots; tunings = l }) (set-set w.tunings k z z'))

pub later_replaces : (n : ℕ) → LaterReplaces n
later_replaces n s ts w c d h = replaces_at n s ts w h

-- ---- lists
module _ (n : ℕ) (s : Sides) (ts : List ℕ) where
  abbrev Unchanged : World → List Call → List Call → Type 0
  Unchanged w cs ds = (after n s ts w cs ≡ after n s ts w ds) × Reordered (λ p. p.call) (calls_told n s ts w cs) (calls_told n s ts w ds)

  in_front : (w : World) (c d : Call) (cs : List Call) → MayExchange c d → Unchanged w (c ∷ d ∷ cs) (d ∷ c ∷ cs)
  in_front w c d cs h =
      let x = calls_commute n s ts w c d h in
      let first : CallTold = record { call = c; told = told_by (ran n s ts w c) } in
      let second : CallTold = record { call = d; told = told_by (ran n s ts (ran n s ts w c).world d) } in
      let rest = calls_told n s ts (after n s ts w (c ∷ d ∷ [])) cs in
      let other : second ∷ first ∷ rest ≡ calls_told n s ts w (d ∷ c ∷ cs) = λ i. record { call = d; told = x.second i } ∷ record { call = c; told = sym x.first i } ∷ calls_told n s ts (x.world i) cs in
      (ap (λ (u : World). after n s ts u cs) x.world, subst (Reordered (λ p. p.call) (first ∷ second ∷ rest)) other (exchange first second rest h))

  unchanged : (w : World) {cs ds : List Call} → Reordered (λ c. c) cs ds → Unchanged w cs ds
  unchanged w (same xs) = (refl, same (calls_told n s ts w xs))
  unchanged w (exchange c d cs h) = in_front w c d cs h
  unchanged w (behind c h) = let x = unchanged (ran n s ts w c).world h in (x.0, behind _ x.1)
  unchanged w (again h k) = let x = unchanged w h in let y = unchanged w k in (x.0 ∙ y.0, again x.1 y.1)

  after-append : (w : World) (cs ds : List Call) → after n s ts w (cs ++ ds) ≡ after n s ts (after n s ts w cs) ds
  after-append w [] ds = refl
  after-append w (c ∷ cs) ds = after-append (ran n s ts w c).world cs ds

  told-append : (w : World) (cs ds : List Call) → told n s ts w (cs ++ ds) ≡ told n s ts w cs ++ told n s ts (after n s ts w cs) ds
  told-append w [] ds = refl
  told-append w (c ∷ cs) ds = ap (λ (xs : List Told). told_by (ran n s ts w c) ∷ xs) (told-append (ran n s ts w c).world cs ds)

pub late_lists : (n : ℕ) → LateLists n
late_lists n s ts w cs ds h = unchanged n s ts w h

pub struck_lists : (n : ℕ) → StruckLists n
struck_lists n s ts w before c d rest h z =
    let v = after n s ts w before in
    let e : ran n s ts (ran n s ts v c).world d ≡ ran n s ts v d = later_replaces n s ts v c d h (sym (ap (λ (u : World). (ran n s ts u d).number) (after-append n s ts w before (c ∷ []))) ∙ z) in
    record {
      world = after-append n s ts w before (c ∷ d ∷ rest) ∙ ap (λ (a : Stepped). after n s ts a.world rest) e ∙ sym (after-append n s ts w before (d ∷ rest));
      whole = told-append n s ts w before (c ∷ d ∷ rest) ∙ ap (λ (a : Stepped). told n s ts w before ++ (told_by (ran n s ts v c) ∷ told_by a ∷ told n s ts a.world rest)) e;
      without = told-append n s ts w before (d ∷ rest);
    }
