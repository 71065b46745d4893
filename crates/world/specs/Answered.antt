-- What a call answers: a number, 0 where it is accepted, and the world after it. Definitions only.
use Rattle.std.specs.Prelude.{ℕ, List, Result}
use Rattle.game_refusals.specs.Refusals.{number_of_answer}
use Rattle.game_refusals.specs.declared.Refusal.{Refusal}
use Rattle.world.specs.declared.Published.{Published}
use Rattle.world.specs.declared.Removed.{Removed}
use Rattle.world.specs.declared.World.{World}

-- 0 and the next world, or a refusal's number and the world as it was
pub record Answer : Type 0 where
  pub number : ℕ
  pub world : World

-- what step answers: the records too, and who is removed after they are taken
pub record Stepped : Type 0 where
  pub number : ℕ
  pub world : World
  pub records : List Published
  pub removed : Removed

-- the Answer of a call made in place, where w is the world after it
abbrev pub answered : {A : Type 0} → World → Result A Refusal → Answer
answered w r = record { number = number_of_answer r; world = w }
