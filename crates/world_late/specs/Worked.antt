-- What the claims leave out, worked: calls that may not be exchanged, and calls that replace nothing. Definitions only; proofs/Worked.antt computes them.
use Rattle.std.specs.Prelude.{ℕ, true, false, List, [], ◌∷◌, ◌++◌, map, ◌≡◌, ℤ, pos, negsuc, get_or}
use Rattle.game_tuning.specs.Tuning.{hook_hold}
use Rattle.character_hook.specs.Hook.{holds}
use Rattle.character_hook.specs.declared.hook.Hook.TheVariants.{Retracted}
use Rattle.character.specs.Records.{core_of}
use Rattle.character.specs.Tick.{slot_at}
use Rattle.character.specs.declared.Slot.{Slot}
use Rattle.world.specs.declared.call.Call.{Call}
use Rattle.world.specs.declared.call.Call.TheVariants.{Join, Leave, Input, Step, Tune}
use Rattle.world.specs.World.{fresh}
use Rattle.world.specs.Run.{after, Told, told}
use Rattle.world_solo.specs.Worked.{sides, tiles, hooking}
use Rattle.world_late.specs.Late.{MayReplace}

-- ---- one open tile, two seats

-- the slot of the id k after a list of calls
abbrev pub slot_after : ℕ → List Call → Slot
slot_after k cs = slot_at (after 2 sides tiles (fresh 2) cs).slots k

-- the number that each call answers
abbrev pub numbers : List Call → List ℕ
numbers cs = map (λ (t : Told). t.number) (told 2 sides tiles (fresh 2) cs)

-- where id 0 is then
abbrev pub x_after : List Call → ℤ
x_after cs = (core_of (slot_after 0 cs).character).x

abbrev pub y_after : List Call → ℤ
y_after cs = (core_of (slot_after 0 cs).character).y

abbrev pub tuning_after : ℕ → List Call → ℤ
tuning_after k cs = get_or (after 2 sides tiles (fresh 2) cs).tunings k (pos 0)

-- id 0 joins at (0, 0), and id 1 beside it
abbrev pub joined : Call
joined = Join (pos 0) (pos 0) (pos 0)

abbrev pub beside : Call
beside = Join (pos 1) (pos 10) (pos 0)

-- id 0 runs to the right, or stands
abbrev pub runs : Call
runs = Input (pos 0) (pos 1) (pos 0) (pos 0) (pos 0) (pos 0)

abbrev pub stands : Call
stands = Input (pos 0) (pos 0) (pos 0) (pos 0) (pos 0) (pos 0)

-- gravity goes to zero, the hook's hold to 30, and to 0, which is none
abbrev pub no_gravity : Call
no_gravity = Tune (pos 12) (pos 0)

abbrev pub short_hold : Call
short_hold = Tune (pos hook_hold) (pos 30)

abbrev pub no_hold : Call
no_hold = Tune (pos hook_hold) (pos 0)

-- id 1 hooks at id 0 and a step is taken, then come some calls; and it runs to the right, with its hook let go
abbrev pub grabs : List Call → List Call
grabs calls = joined ∷ hooking ++ (Step ∷ calls)

abbrev pub turns : Call
turns = Input (pos 1) (pos 1) (pos 0) (pos 0) (pos 0) (pos 0)

pub record Worked : Type 0 where
  -- a leave and an input of one id: the input is refused where it comes later
  pub input_leave : numbers (joined ∷ runs ∷ Leave (pos 0) ∷ []) ≡ 0 ∷ 0 ∷ 0 ∷ []
  pub leave_input : numbers (joined ∷ Leave (pos 0) ∷ runs ∷ []) ≡ 0 ∷ 0 ∷ 8 ∷ []
  -- a join and a leave of one id, a join and an input of one id
  pub join_leave : (slot_after 0 (joined ∷ Leave (pos 0) ∷ [])).present ≡ false
  pub leave_join : (slot_after 0 (Leave (pos 0) ∷ joined ∷ [])).present ≡ true
  pub join_input : numbers (joined ∷ runs ∷ []) ≡ 0 ∷ 0 ∷ []
  pub input_join : numbers (runs ∷ joined ∷ []) ≡ 8 ∷ 0 ∷ []
  -- a step and any other call: an input, a tune, a join, and a leave of somebody who is in the way
  pub input_step : x_after (joined ∷ runs ∷ Step ∷ []) ≡ pos 2
  pub step_input : x_after (joined ∷ Step ∷ runs ∷ []) ≡ pos 0
  pub tune_step : y_after (joined ∷ no_gravity ∷ Step ∷ []) ≡ pos 0
  pub step_tune : y_after (joined ∷ Step ∷ no_gravity ∷ []) ≡ pos 1
  pub join_step : y_after (joined ∷ Step ∷ []) ≡ pos 1
  pub step_join : y_after (Step ∷ joined ∷ []) ≡ pos 0
  pub leave_step : x_after (joined ∷ beside ∷ Leave (pos 1) ∷ Step ∷ []) ≡ pos 0
  pub step_leave : x_after (joined ∷ beside ∷ Step ∷ Leave (pos 1) ∷ []) ≡ negsuc 9
  -- the later input replaces the earlier, so in either order it is another one that counts
  pub replaced : MayReplace stands runs
  pub runs_last : (slot_after 0 (joined ∷ stands ∷ runs ∷ [])).input.direction ≡ pos 1
  pub stands_last : (slot_after 0 (joined ∷ runs ∷ stands ∷ [])).input.direction ≡ pos 0
  -- a later tune would replace an earlier one, but where it is refused it replaces nothing
  pub tuned : MayReplace short_hold no_hold
  pub refused_numbers : numbers (short_hold ∷ no_hold ∷ []) ≡ 0 ∷ 16 ∷ []
  pub refused_after : tuning_after hook_hold (short_hold ∷ no_hold ∷ []) ≡ pos 30
  pub refused_alone : tuning_after hook_hold (no_hold ∷ []) ≡ pos 60
  -- nor does an input that does not come right after
  pub step_between : x_after (joined ∷ runs ∷ Step ∷ stands ∷ []) ≡ pos 2
  pub step_before : x_after (joined ∷ Step ∷ stands ∷ []) ≡ pos 0
  -- id 1 holds id 0 after a step: a leave of id 0 and an input of id 1 let it go and are stored in either order
  pub held : holds (slot_after 1 (grabs [])).character.hook 0 ≡ true
  pub leave_first : (slot_after 1 (grabs (Leave (pos 0) ∷ turns ∷ []))).character.hook ≡ Retracted
  pub input_first : (slot_after 1 (grabs (turns ∷ Leave (pos 0) ∷ []))).character.hook ≡ Retracted
