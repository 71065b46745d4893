-- Calls and reads by the number of a role, on a world that is kept as the numbers of a buffer: 13 before all other refusals, and every number as it was.
-- Definitions only.
use Rattle.std.specs.Prelude.{cond, List, ℤ}
use Rattle.game_refusals.specs.Refusals.{not_allowed}
use Rattle.world.specs.declared.call.Call.{Call}
use Rattle.world.specs.declared.call.Call.TheVariants.{Step}
use Rattle.world.specs.declared.reading.Query.{Query}
use Rattle.role_rule.specs.Roles.{may_ask}
use Rattle.role_rule.specs.declared.Ask.TheVariants as ask
use Rattle.world_buffers.specs.Buffers.{LeftWorld, refused_in}
use Rattle.world_buffers.specs.Readers.{ReadTold, untold}
use Rattle.world_buffers.specs.Stepping.{StepBuffers, LeftByStep}
use Rattle.send_buffers.specs.Sends.{SenderBuffers, LeftBySend, LeftBySendStep}

-- a call that leaves `left` of the numbers l where it may be made
abbrev pub call_as : ℤ → Call → List ℤ → LeftWorld → LeftWorld
call_as role c l left = cond (may_ask role (ask.Call c)) left (refused_in l not_allowed)

-- a step, which is lent b to tell
abbrev pub step_as : ℤ → List ℤ → StepBuffers → LeftByStep → LeftByStep
step_as role l b left = cond (may_ask role (ask.Call Step)) left (record { number = not_allowed; world = l; told = b })

-- a read into a buffer that had the numbers `out`
abbrev pub read_in_as : ℤ → Query → List ℤ → ReadTold → ReadTold
read_in_as role q out told = cond (may_ask role (ask.Read q)) told (untold out not_allowed)

-- a search into a buffer that had the numbers `out`: it is made of steps, so it is allowed where a step is
abbrev pub search_as : ℤ → List ℤ → ReadTold → ReadTold
search_as role out told = cond (may_ask role (ask.Call Step)) told (untold out not_allowed)

-- a call beside a sender's buffers b
abbrev pub send_as : ℤ → Call → List ℤ → SenderBuffers → LeftBySend → LeftBySend
send_as role c l b left = cond (may_ask role (ask.Call c)) left (record { left = refused_in l not_allowed; sent = b })

-- a step beside them
abbrev pub send_step_as : ℤ → List ℤ → StepBuffers → SenderBuffers → LeftBySendStep → LeftBySendStep
send_step_as role l t b left = cond (may_ask role (ask.Call Step)) left (record { left = record { number = not_allowed; world = l; told = t }; sent = b })
