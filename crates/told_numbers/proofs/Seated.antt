-- Nobody is refused with 0. Assumes nothing.
use Prim.Native.Nat.{ℕ, ◌<◌}
use native.Mathlib.Omega.{arith}
use lib.Dec.{ltb}
use lib.IntN.{ℤ}
use Rattle.character.specs.Tick.{slot_at}
use Rattle.world.specs.Calls.{place_of}
use Rattle.world.specs.Readers.{seated}
use Rattle.world.specs.declared.World.{World}
use Rattle.world.proofs.Seats.{by_test}
use Rattle.std.specs.Prelude.{Result, Ok, Err}
use Rattle.character.specs.declared.Slot.{Slot}
use Rattle.game_refusals.specs.Refusals.{number_of}
use Rattle.game_refusals.specs.declared.Refusal.{Refusal}

-- a refusal has a number
abbrev pub Numbered : Result Slot Refusal → Type 0
Numbered (Err e) = 0 < number_of e
Numbered (Ok x) = Unit {0}

pub seated_numbered : (n : ℕ) (w : World) (id : ℤ) → Numbered (seated n w id)
unfolding seated
seated_numbered n w id = let k = place_of n id in by_test Numbered (ltb k n) (λ e. by_test Numbered (slot_at w.slots k).present (λ f. tt) (λ f. omega arith)) (λ e. omega arith)
