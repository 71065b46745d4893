-- What the moves of a step keep and publish, with player collision 0. Assumes nothing.
use Prim.Native.Nat.{ℕ, suc, ◌+◌, ◌≤◌, ◌<◌}
use native.Mathlib.Omega.{arith}
use mathlib.Core.Logic.{⊎_elim}
use mathlib.Core.Bool.{Bool, true, false, cond, true≢false}
use mathlib.Core.List.{List}
use mathlib.Core.Path.{◌≡◌, refl, sym, ap, ◌∙◌, subst}
use lib.Dec.{T}
use lib.Ieee.{ne}
use lib.ListN.{length, set, length-set, length-replicate}
use Rattle.base_turns.specs.Turns.{Turn, more, stop, next, run}
use Rattle.base_turns.proofs.Kept.{Ends, run-kept}
use Rattle.base_turns.proofs.Last.{run_last}
use Rattle.num_convert.specs.Number.{c0}
use Rattle.num_order.proofs.Vectors.{FitsPair}
use Rattle.map_tiles.specs.Map.{is_map}
use Rattle.map_tiles.specs.declared.tiles.Sides.{Sides}
use Rattle.game_tuning.specs.declared.Tuning.{Tuning}
use Rattle.map_tiles.specs.Box.{Clear, character_box, on_deadly}
use Rattle.game_records.specs.declared.CharacterCore.{CharacterCore}
use Rattle.character.specs.Slot.{with_character}
use Rattle.character.specs.declared.Character.{Character}
use Rattle.character.specs.declared.Slot.{Slot}
use Rattle.character.specs.Tick.{slot_at, nowhere}
use Rattle.character_laws.specs.Faithful.{Faithful}
use Rattle.character.specs.Records.{to_net, from_net}
use Rattle.character_laws.specs.Representable.{Representable}
use Rattle.character_laws.proofs.Faithful.{core_faithful, core_clear, core_deadly}
use Rattle.character_laws.proofs.Slots.{set_every, set_others, replicate_every}
use Rattle.character_laws.proofs.Moved.{move_clear}
use Rattle.character_laws.proofs.FitsMove.{move_fits}
use Rattle.world.specs.Step.{Moving, unpublished, of_net, record_of, publish, move_in, move_turn, moving_from, move_all}
use Rattle.world.specs.Demand3.{left_in, FaithfulTo, record_at, left_on_deadly}
use Rattle.world.specs.declared.Published.{Published}
use Rattle.character_laws.proofs.Back.{record_of_lem}
use Rattle.world.proofs.Seats.{last_or_below, present_within, net_representable, Settling, move_turn_lem, nobody-moved}
use Rattle.world.proofs.Standing.{representable_fits, Standing, Stands}
use Rattle.std.specs.Prelude.{Result, Ok, Err}
use Rattle.game_refusals.specs.declared.Refusal.{Refusal}
use Rattle.game_refusals.specs.declared.Refusal.TheVariants.{TooFar}

-- ---- the record of a character
module _ (s : Sides) (ts : List ℕ) where
  -- what is read back of a record of c
  record Read (c : Character) (core : CharacterCore) : Type 0 where
    faithful : Faithful core c.pos c.vel
    representable : Representable (from_net core)
    clear : Clear s ts (from_net core).pos character_box
    deadly : on_deadly s ts (from_net core).pos ≡ on_deadly s ts c.pos

  read : (c : Character) (core : CharacterCore) → T (is_map s ts) → FitsPair c.pos → FitsPair c.vel → Clear s ts c.pos character_box → to_net c ≡ Ok core → Read c core
  read c core m p v h e =
      let i = (record_of_lem c core e).0 in
      record {
        faithful = subst (λ (k : CharacterCore). Faithful k c.pos c.vel) (sym i) (core_faithful c v.0 v.1);
        representable = net_representable c core e;
        clear = subst (λ (k : CharacterCore). Clear s ts (from_net k).pos character_box) (sym i) (core_clear s ts c m p.0 p.1 ∙ h);
        deadly = ap (λ (k : CharacterCore). on_deadly s ts (from_net k).pos) i ∙ core_deadly s ts c m p.0 p.1;
      }

-- the two ways of a turn are apart, and what goes on is one
stop_or_more : (k : ℕ) (a : Moving) → ◌≡◌ {A = Turn Moving ℕ} (stop k) (more a) → ⊥
stop_or_more k a e = let z : ◌≡◌ {A = ℕ} 0 1 = cc in omega arith

same_more : (a b : Moving) → ◌≡◌ {A = Turn Moving ℕ} (more a) (more b) → a ≡ b
same_more a b e = cc

-- ---- the moves so far

-- what the move leaves of j where the moves begin with ss
abbrev pub left_from : ℕ → Sides → List ℕ → Tuning → List Slot → ℕ → Result Character Refusal
left_from n s ts t ss j = left_in n s ts t j (run (move_turn n s ts t) j 0 (moving_from n ss))

module _ (n : ℕ) (s : Sides) (ts : List ℕ) (t : Tuning) (ss : List Slot) where
  -- the record of the id k: there where somebody is, and near to what the move left
  abbrev pub Told : ℕ → Published → Type 0
  Told k p = (p.present ≡ (slot_at ss k).present) × ((slot_at ss k).present ≡ true → FaithfulTo p.core (left_from n s ts t ss k))

  -- after i moves: every slot stands, and the records of those that have moved are told
  pub record Sofar (i : ℕ) (m : Moving) : Type 0 where
    pub reached : run (move_turn n s ts t) i 0 (moving_from n ss) ≡ more m
    pub settling : Settling n s ts t ss i m
    pub stands : Stands s ts m.slots
    pub size : length m.records ≡ n
    pub told : (k : ℕ) → k < i → Told k (record_at m.records k)
    pub spiked : (k : ℕ) → k < i → (slot_at ss k).present ≡ true → on_deadly s ts (slot_at m.slots k).character.pos ≡ left_on_deadly s ts (left_from n s ts t ss k)
    pub untold : (k : ℕ) → i ≤ k → (record_at m.records k).present ≡ false

module _ (n : ℕ) (s : Sides) (ts : List ℕ) (t : Tuning) (map : T (is_map s ts)) (off : ne t.player_collision c0 ≡ false) (ss : List Slot) where
  abbrev Upto : ℕ → Moving → Type 0
  Upto = Sofar n s ts t ss

  module _ (i : ℕ) (m : Moving) (h : Upto i m) where
    reaches : (m' : Moving) → move_turn n s ts t i m ≡ more m' → run (move_turn n s ts t) (suc i) 0 (moving_from n ss) ≡ more m'
    reaches m' e = run_last (move_turn n s ts t) i 0 (moving_from n ss) ∙ ap (next (move_turn n s ts t (i + 0))) h.reached ∙ ap (λ (j : ℕ). move_turn n s ts t j m) (omega arith) ∙ e

    settles : (m' : Moving) → move_turn n s ts t i m ≡ more m' → Settling n s ts t ss (suc i) m'
    settles m' e = subst (Ends (Settling n s ts t ss (suc i)) (λ k. 0 < k)) e (move_turn_lem n s ts t ss i m h.settling)

    same : (k : ℕ) → (slot_at m.slots k).present ≡ (slot_at ss k).present
    same = h.settling.same.present

    -- nobody there: as before
    absent : (slot_at m.slots i).present ≡ false → move_turn n s ts t i m ≡ more m → Upto (suc i) m
    absent p e = record {
      reached = reaches m e;
      settling = settles m e;
      stands = h.stands;
      size = h.size;
      told = λ k l. ⊎_elim (λ q. (h.untold k (omega (arith, q)) ∙ sym (nobody k q), λ r. absurd (true≢false (sym r ∙ nobody k q)))) (h.told k) (last_or_below k i l);
      spiked = λ k l. ⊎_elim (λ q. λ r. absurd (true≢false (sym r ∙ nobody k q))) (h.spiked k) (last_or_below k i l);
      untold = λ k l. h.untold k (omega arith);
    }
      where
        nobody : (k : ℕ) → k ≡ i → (slot_at ss k).present ≡ false
        nobody k q = rw q (sym (same i) ∙ p)

    -- somebody is there: its record is published
    module _ (l : i < n) (p : (slot_at m.slots i).present ≡ true) (c : Character) (core : CharacterCore) (q : move_in n s ts t m.slots i ≡ Ok c) (r : Read s ts c core) where
      abbrev after : Moving
      after = record { slots = set m.slots i (with_character (slot_at m.slots i) (from_net core)); records = set m.records i (record { present = true; core = core }) }

      abbrev new : Slot
      new = with_character (slot_at m.slots i) (from_net core)

      records-in : i < length m.records
      records-in = omega (arith, h.size)

      left_is : left_from n s ts t ss i ≡ Ok c
      left_is = ap (left_in n s ts t i) h.reached ∙ q

      standing : Standing s ts new
      standing = let f = representable_fits (from_net core) r.representable in record { clear = λ e. r.clear; pos-fits = λ e. f.0; vel-fits = f.1 }

      present : move_turn n s ts t i m ≡ more after → Upto (suc i) after
      present e = record {
        reached = reaches after e;
        settling = settles after e;
        stands = set_every (λ k. Standing s ts) m.slots i new nowhere h.stands standing;
        size = length-set m.records i (record { present = true; core = core }) ∙ h.size;
        told = set_others (λ j x. j < suc i → Told n s ts t ss j x) m.records i (record { present = true; core = core }) unpublished records-in (λ j d a. h.told j (omega arith)) (λ a. (sym p ∙ same i, λ e. subst (FaithfulTo core) (sym left_is) r.faithful));
        spiked = set_others (λ k x. k < suc i → (slot_at ss k).present ≡ true → on_deadly s ts x.character.pos ≡ left_on_deadly s ts (left_from n s ts t ss k)) m.slots i new nowhere (present_within m.slots i p) (λ k d a. h.spiked k (omega arith)) (λ a e. r.deadly ∙ ap (left_on_deadly s ts) (sym left_is));
        untold = λ k b. set_others (λ j x. i < j → x.present ≡ false) m.records i (record { present = true; core = core }) unpublished records-in (λ j d a. h.untold j (omega arith)) (λ a. absurd (omega arith)) k (omega arith);
      }

    reads : (slot_at m.slots i).present ≡ true → (c : Character) (core : CharacterCore) → move_in n s ts t m.slots i ≡ Ok c → to_net c ≡ Ok core → Read s ts c core
    reads p c core q w =
        let me = (slot_at m.slots i).character in
        let f = move_fits n me c i m.slots s ts t off ((h.stands i).pos-fits p) (h.stands i).vel-fits q in
        read s ts c core map f.0 f.1 (move_clear n me c i m.slots s ts t off ((h.stands i).clear p) q) w

    -- a turn that goes on, whoever is there
    turn : i < n → (m' : Moving) → move_turn n s ts t i m ≡ more m' → Upto (suc i) m'
    unfolding record_of
    turn l m' e = go (slot_at m.slots i).present refl e
      where
        named : (c : Character) (o : Result CharacterCore Refusal) → move_in n s ts t m.slots i ≡ Ok c → to_net c ≡ o → (slot_at m.slots i).present ≡ true → publish m i (of_net o) ≡ more m' → Upto (suc i) m'
        named c (Err e) q w p z = absurd (stop_or_more 10 m' z)
        named c (Ok core) q w p z = subst (Upto (suc i)) (same_more (after l p c core q (reads p c core q w)) m' z) (present l p c core q (reads p c core q w) (e ∙ sym z))

        recorded : (d : Result Character Refusal) → move_in n s ts t m.slots i ≡ d → (slot_at m.slots i).present ≡ true → publish m i (record_of d) ≡ more m' → Upto (suc i) m'
        recorded (Err e) q p z = absurd (stop_or_more 9 m' z)
        recorded (Ok c) q p z = named c (to_net c) q refl p z

        go : (b : Bool) → (slot_at m.slots i).present ≡ b → cond b (publish m i (record_of (move_in n s ts t m.slots i))) (more m) ≡ more m' → Upto (suc i) m'
        go true p z = recorded (move_in n s ts t m.slots i) refl p z
        go false p z = subst (Upto (suc i)) (same_more m m' z) (absent p (e ∙ sym z))

  step_sofar : (i : ℕ) (m : Moving) → (i ≤ n → Upto i m) → Ends (λ m'. suc i ≤ n → Upto (suc i) m') (λ k. Unit {0}) (move_turn n s ts t i m)
  step_sofar i m h = go (move_turn n s ts t i m) refl
    where
      go : (a : Turn Moving ℕ) → move_turn n s ts t i m ≡ a → Ends (λ m'. suc i ≤ n → Upto (suc i) m') (λ k. Unit {0}) a
      go (more m') e = λ l. turn i m (h (omega arith)) (omega arith) m' e
      go (stop k) e = tt

  start : Stands s ts ss → Upto 0 (moving_from n ss)
  unfolding run
  start h = record {
    reached = refl;
    settling = nobody-moved n s ts t ss;
    stands = h;
    size = length-replicate n unpublished;
    told = λ k l. absurd (none k l);
    spiked = λ k l. absurd (none k l);
    untold = λ k l. replicate_every (λ (p : Published). p.present ≡ false) n unpublished unpublished refl refl k;
  }
    where
      none : (k : ℕ) → k < 0 → ⊥
      none k l = omega arith

  all : (a : Turn Moving ℕ) → Ends (λ m. n + 0 ≤ n → Upto (n + 0) m) (λ k. Unit {0}) a → Ends (Upto n) (λ k. Unit {0}) a
  all (more m) f = subst (λ (j : ℕ). Upto j m) (omega arith) (f (omega arith))
  all (stop k) l = l

  -- after all moves
  pub moves_sofar : Stands s ts ss → Ends (Sofar n s ts t ss n) (λ k. Unit {0}) (move_all n ss s ts t)
  unfolding move_all
  moves_sofar h = all (run (move_turn n s ts t) n 0 (moving_from n ss)) (run-kept (move_turn n s ts t) (λ i m. i ≤ n → Upto i m) (λ k. Unit {0}) step_sofar n 0 (moving_from n ss) (λ l. start h))
