-- In which orders calls may arrive: every one that leaves each id and each index its own order, and all calls between the same steps. Definitions only; proofs/Arrival.antt proves it.
use Rattle.std.specs.Prelude.{Bool, true, false, cond, List, [], ◌∷◌, ◌≡◌}
use Rattle.std.proofs.Math.IntN.{ℤ_discrete}
use Rattle.world.specs.declared.call.Call.{Call}
use Rattle.world_late.specs.Late.{Subject, seat, tuning, everything, subject_of, Reordered}

abbrev pub is_yes : {P : Type 0} → Dec P → Bool
is_yes (yes h) = true
is_yes (no h) = false

-- whether a call for the second concerns the first: the same id, the same index, or everything
abbrev pub concerns : Subject → Subject → Bool
concerns p everything = true
concerns (seat a) (seat b) = is_yes (ℤ_discrete a b)
concerns (tuning a) (tuning b) = is_yes (ℤ_discrete a b)
concerns (seat a) (tuning b) = false
concerns (tuning a) (seat b) = false
concerns everything (seat b) = false
concerns everything (tuning b) = false

-- the calls of a list for p, and its steps
abbrev pub calls_for : Subject → List Call → List Call
calls_for p [] = []
calls_for p (c ∷ cs) = cond (concerns p (subject_of c)) (c ∷ calls_for p cs) (calls_for p cs)

-- exchanges of neighbours lead from one list to another exactly where each id's calls and each index's tunes come in the same order, between the same steps
abbrev pub AnyArrival : Type 0
AnyArrival = (cs ds : List Call) → (((p : Subject) → calls_for p cs ≡ calls_for p ds) → Reordered (λ c. c) cs ds) × (Reordered (λ c. c) cs ds → (p : Subject) → calls_for p cs ≡ calls_for p ds)
