-- After every accepted step and its messages the screen shows what the step took. Definitions only; proofs/Shown.antt proves it.
use Rattle.std.specs.Prelude.{ℕ, ◌<◌, true, List, ◌∷◌, ◌≡◌}
use Rattle.map_tiles.specs.declared.tiles.Sides.{Sides}
use Rattle.character.specs.Tick.{slot_at}
use Rattle.world.specs.Demand3.{record_at}
use Rattle.world.specs.Run.{ran}
use Rattle.world.specs.Step.{step}
use Rattle.world.specs.declared.call.Call.{Call}
use Rattle.world.specs.declared.call.Call.TheVariants.{Step}
use Rattle.world.specs.declared.Published.{Published}
use Rattle.send_rule.specs.Send.{copy_at, receive_all}
use Rattle.send_rule.specs.Link.{Link, fresh_link, sent_on, called, EveryCall, in_order}
use Rattle.send_rule.specs.declared.Passed.TheVariants as passed
use Rattle.send_rule.specs.declared.Screen.{Screen}

-- the screen's record of the seat k, where it has one
abbrev pub shown : Screen → ℕ → Published
shown z k = record { present = (copy_at z.copies k).kept; core = (copy_at z.copies k).core }

-- the screen of l after the mark of an accepted step and its messages, before its removals
abbrev pub after_messages : ℕ → Sides → List ℕ → Link → Screen
after_messages n s ts l = receive_all n s ts l.screen (passed.Mark ∷ in_order n (sent_on n s ts l Step).passed)

-- an accepted step on l
pub record StepShown (n : ℕ) (s : Sides) (ts : List ℕ) (l : Link) : Type 0 where
  -- it took a record of each seat that was there when it was called
  pub taken : (k : ℕ) → k < n → (slot_at l.world.slots k).present ≡ true → (record_at (step n l.world s ts).records k).present ≡ true
  -- after its messages the screen has that record: of each seat that was there, so of each still present
  pub told : (k : ℕ) → k < n → (slot_at l.world.slots k).present ≡ true → shown (after_messages n s ts l) k ≡ record_at (step n l.world s ts).records k
  -- and after its removals: of each seat still present
  pub still : (k : ℕ) → k < n → (slot_at (called n s ts l Step).world.slots k).present ≡ true → shown (called n s ts l Step).screen k ≡ record_at (step n l.world s ts).records k

-- a call that is an accepted step
abbrev pub CallShown : ℕ → Sides → List ℕ → Link → Call → Type 0
CallShown n s ts l c = c ≡ Step → (ran n s ts l.world c).number ≡ 0 → StepShown n s ts l

-- every map and every list of calls from a fresh world of n slots
abbrev pub Shown : ℕ → Type 0
Shown n = (s : Sides) (ts : List ℕ) (cs : List Call) → EveryCall n s ts (CallShown n s ts) (fresh_link n) cs
