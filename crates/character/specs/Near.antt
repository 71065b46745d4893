-- The places that the player walk may touch: those of the other players, without the players a character's size or more to one side of the whole way. Definitions only.
use Rattle.std.specs.Prelude.{ℕ, ◌<◌, ◌≡◌, List, pos, Float}
use Rattle.std.specs.Float.{binary32}
use Rattle.std.specs.Float.Ieee.{div}
use Rattle.base_turns.specs.Turns.{run}
use Rattle.num_convert.specs.Convert.{i32_to_f32}
use Rattle.num_vec2.specs.Vec2.{vadd, vsub, vdistance, vmix}
use Rattle.num_vec2.specs.declared.vec2.{vec2}
use Rattle.character_walk.specs.Walking.{player_turns}
use Rattle.character_near.specs.Near.{near_turn}
use Rattle.character.specs.declared.Slot.{Slot}
use Rattle.character.specs.Walk.{slot_turn}

-- at every turn of a player walk whose way has this end the m places answer for the first j slots
pub record Asked (ss : List Slot) (id : ℕ) (from end : vec2) (j m : ℕ) (xs ys : List Float) : Type 0 where
  pub same : (to : vec2) → end ≡ vadd from (vsub to from) → (i : ℕ) (last : vec2) → i < player_turns (vdistance from to) →
      let fraction = div binary32 (i32_to_f32 (pos i)) (vdistance from to) in
      let p = vmix from to fraction in
      run (slot_turn ss id from to last fraction p) j 0 tt ≡ run (near_turn xs ys from to last fraction p) m 0 tt
