-- The calls but step, as changes of a world by what they are for. Assumes nothing.
use Prim.Native.Nat.{ℕ}
use mathlib.Core.List.{List}
use mathlib.Core.Path.{◌≡◌, refl}
use lib.IntN.{ℤ}
use Rattle.map_tiles.specs.declared.tiles.Sides.{Sides}
use Rattle.world.specs.declared.call.Call.{Call}
use Rattle.world.specs.declared.call.Call.TheVariants.{Join, Leave, Input, Step, Tune}
use Rattle.world.specs.World.{with_tuning}
use Rattle.world.specs.Calls.{point_of}
use Rattle.world.specs.Run.{input_of, without_records, ran}
use Rattle.world.specs.declared.World.{World}
use Rattle.world.proofs.Outcomes.{outcome_world, outcome_facts, join_outcome, leave_outcome, input_outcome, tune_outcome, join_number, leave_number, input_number, tune_number}
use Rattle.world_late.specs.Late.{subject_of}
use Rattle.world_late.proofs.Changes.{Change, left}
use Rattle.world_late.proofs.Actions.{joining, leaving, storing, act, else_present}
use Rattle.world_late.proofs.Subjects.{Named, At, change_at}

-- worlds have any size
abbrev pub AnySize : World → Type 0
AnySize w = Unit {0}

abbrev pub tuned : ℕ → ℤ → World → World
tuned i z w = with_tuning w i z

module _ (n : ℕ) (s : Sides) (ts : List ℕ) where
  abbrev pub number_of : Call → World → ℕ
  number_of c w = (ran n s ts w c).number

  abbrev pub AtIn : Call → Type 0
  AtIn c = At n AnySize act tuned number_of c (subject_of c)

  unfoldable pub call_at : (c : Call) → AtIn c
  call_at (Join id x y) = record {
    action = joining (point_of x y);
    elsewhere = λ j e w u l d. join_number n (act j e w) w id (else_present j e w _ d) s ts x y;
    untuned = λ i z w u l. join_number n (tuned i z w) w id refl s ts x y;
    fits = λ w z. tt;
    known = λ w z. (outcome_facts w _ _ (join_outcome n w s ts id x y) z).seat;
  }
  call_at (Leave id) = record {
    action = leaving;
    elsewhere = λ j e w u l d. leave_number n (act j e w) w id (else_present j e w _ d);
    untuned = λ i z w u l. leave_number n (tuned i z w) w id refl;
    fits = λ w z. tt;
    known = λ w z. (outcome_facts w _ _ (leave_outcome n w id) z).seat;
  }
  call_at (Input id d x y j h) = record {
    action = storing (input_of d x y j h);
    elsewhere = λ k e w u l q. input_number n (act k e w) w id (else_present k e w _ q) (input_of d x y j h);
    untuned = λ i z w u l. input_number n (tuned i z w) w id refl (input_of d x y j h);
    fits = λ w z. tt;
    known = λ w z. (outcome_facts w _ _ (input_outcome n w id (input_of d x y j h)) z).seat;
  }
  call_at (Tune index z) = record {
    value = z;
    anywhere = λ j e w u l. tune_number (act j e w) w index z;
    untuned = λ i y w u l. tune_number (tuned i y w) w index z;
    fits = λ w e. tt;
    known = λ w e. (outcome_facts w _ _ (tune_outcome w index z) e).index-known;
  }
  call_at Step = tt

  abbrev pub change : Call → Change World
  change c = change_at n AnySize act tuned number_of c (subject_of c) (call_at c)

  -- a call is its change, and tells nothing but its number
  pub record Makes (c : Call) : Type 0 where
    pub quiet : (w : World) → ran n s ts w c ≡ without_records n (record { number = (ran n s ts w c).number; world = (ran n s ts w c).world })
    pub leaves : (w : World) → (ran n s ts w c).world ≡ left (change c) w

  pub makes : (c : Call) → Named (subject_of c) → Makes c
  unfolding call_at
  makes (Join id x y) h = record { quiet = λ w. refl; leaves = λ w. outcome_world w _ _ (join_outcome n w s ts id x y) }
  makes (Leave id) h = record { quiet = λ w. refl; leaves = λ w. outcome_world w _ _ (leave_outcome n w id) }
  makes (Input id d x y j u) h = record { quiet = λ w. refl; leaves = λ w. outcome_world w _ _ (input_outcome n w id (input_of d x y j u)) }
  makes (Tune index z) h = record { quiet = λ w. refl; leaves = λ w. outcome_world w _ _ (tune_outcome w index z) }
  makes Step h = absurd h
