-- The floor mark, as one claim about a whole list of calls. Definitions only; proofs/Marks.antt proves it.
use Rattle.std.specs.Prelude.{ℕ, Bool, false, cond, ◌&&◌, List, [], ◌∷◌, ◌≡◌, eqb, ltb, ℤ}
use Rattle.num_vec2.specs.declared.vec2.{vec2}
use Rattle.game_refusals.specs.Refusals.{bad_id, not_present}
use Rattle.map_tiles.specs.declared.tiles.Sides.{Sides}
use Rattle.character_motion.specs.Controls.{grounded}
use Rattle.character.specs.Tick.{slot_at}
use Rattle.world.specs.declared.call.Call.{Call}
use Rattle.world.specs.declared.call.Call.TheVariants.{Join, Leave, Input, Step, Tune}
use Rattle.world.specs.World.{fresh}
use Rattle.world.specs.Calls.{place_of}
use Rattle.world.specs.Readers.{read_of}
use Rattle.world.specs.Run.{ran, after}
use Rattle.world.specs.Demand3.{present}
use Rattle.world.specs.declared.reading.Query.TheVariants as query
use Rattle.world.specs.ReadAnswer as reading
use Rattle.world.specs.Answered.{Stepped}
use Rattle.world.specs.declared.World.{World}

-- where an id stood when the last accepted step since its join began, if there was such a step
pub data LastStep : Type 0 where
  none : LastStep
  from : vec2 → LastStep

-- of the id k, after a call on w that answered a: an accepted join of k begins anew, an accepted step begins where k stands
abbrev pub last_step_after : ℕ → ℕ → World → Stepped → Call → LastStep → LastStep
last_step_after n k w a (Join id x y) last = cond (eqb (place_of n id) k && eqb a.number 0) none last
last_step_after n k w a (Leave id) last = last
last_step_after n k w a (Input id d x y j h) last = last
last_step_after n k w a (Tune index z) last = last
last_step_after n k w a Step last = cond (eqb a.number 0) (from (slot_at w.slots k).character.pos) last

-- after a list of calls
abbrev pub last_step : ℕ → Sides → List ℕ → ℕ → LastStep → World → List Call → LastStep
last_step n s ts k last w [] = last
last_step n s ts k last w (c ∷ cs) = last_step n s ts k (last_step_after n k w (ran n s ts w c) c last) (ran n s ts w c).world cs

-- what `grounded` says of it; false where there was none
abbrev pub grounded_then : Sides → List ℕ → LastStep → Bool
grounded_then s ts none = false
grounded_then s ts (from p) = grounded s ts p

-- after every list of calls from a fresh world of n slots, whatever the map and the id: 2 where the id has no slot, 8 where no accepted join has brought it or an accepted leave has taken it
abbrev pub MarksFollow : ℕ → Type 0
MarksFollow n = (s : Sides) (ts : List ℕ) (cs : List Call) (id : ℤ) →
    let k = place_of n id in
    read_of n (after n s ts (fresh n) cs) (query.FloorMark id)
    ≡ cond (ltb k n) (cond (present n s ts k false (fresh n) cs) (reading.FloorMark (grounded_then s ts (last_step n s ts k none (fresh n) cs))) (reading.Refused not_present)) (reading.Refused bad_id)
