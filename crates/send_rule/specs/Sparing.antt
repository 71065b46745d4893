-- A message in four cases, and at no other time. Definitions only; proofs/Sparing.antt proves it.
use Rattle.std.specs.Prelude.{ℕ, ◌+◌, ◌<◌, Bool, true, false, cond, ◌&&◌, List, [], ◌∷◌, ◌≡◌, eqb}
use Rattle.map_tiles.specs.declared.tiles.Sides.{Sides}
use Rattle.character.specs.Tick.{slot_at}
use Rattle.world.specs.Calls.{place_of}
use Rattle.world.specs.Demand3.{record_at}
use Rattle.world.specs.Run.{ran}
use Rattle.world.specs.Step.{step}
use Rattle.world.specs.declared.call.Call.{Call}
use Rattle.world.specs.declared.call.Call.TheVariants.{Join, Leave, Input, Step, Tune}
use Rattle.send_rule.specs.Send.{copy_at, alone, step_copy}
use Rattle.send_rule.specs.Link.{Link, fresh_link, sent_on, called, messages}
use Rattle.send_rule.specs.declared.Passed.{Passed}
use Rattle.send_rule.specs.declared.Passed.TheVariants as passed

-- ---- along the list of calls

-- whether k has joined and no step was accepted since: b before a call that answered with a number
abbrev pub new_after : ℕ → ℕ → Bool → ℕ → Call → Bool
new_after n k b number (Join id x y) = cond (eqb (place_of n id) k && eqb number 0) true b
new_after n k b number (Leave id) = cond (eqb (place_of n id) k && eqb number 0) false b
new_after n k b number (Input id d x y j h) = b
new_after n k b number (Tune index z) = b
new_after n k b number Step = cond (eqb number 0) false b

-- one more than q, or none since a message of k in this step
abbrev pub or_none : ℕ → List Passed → ℕ
or_none q [] = q + 1
or_none q (p ∷ ps) = 0

-- how many steps were accepted since the last message of k: q before a call that answered with a number and passed ps along
abbrev pub since_after : ℕ → ℕ → ℕ → List Passed → Call → ℕ
since_after k q number ps (Join id x y) = q
since_after k q number ps (Leave id) = q
since_after k q number ps (Input id d x y j h) = q
since_after k q number ps (Tune index z) = q
since_after k q number ps Step = cond (eqb number 0) (or_none q (messages k ps)) q

-- ---- when there is a message

-- why an accepted step on l sends a message of k: the copy's record differs from the true one, the copy was refused with 9, it is the first accepted step after a join, or the 150th after the last message
pub data Surprise (n : ℕ) (s : Sides) (ts : List ℕ) (l : Link) (k : ℕ) (new : Bool) (since : ℕ) : Type 0 where
  differs : (copy_at l.copies k).kept ≡ true → ((step_copy n s ts l.world.tunings k (copy_at l.copies k)).core ≡ (record_at (step n l.world s ts).records k).core → ⊥) → Surprise n s ts l k new since
  refused : (copy_at l.copies k).kept ≡ true → (copy_at l.copies k).removed ≡ false → (alone n s ts l.world.tunings k (copy_at l.copies k)).number ≡ 9 → Surprise n s ts l k new since
  first : new ≡ true → Surprise n s ts l k new since
  long : since + 1 ≡ 150 → Surprise n s ts l k new since

-- an accepted step on l: one message of k, with the record that the step took and the input that it used, or none
pub record StepSparing (n : ℕ) (s : Sides) (ts : List ℕ) (l : Link) (k : ℕ) (new : Bool) (since : ℕ) : Type 0 where
  pub one : (slot_at l.world.slots k).present ≡ true → Surprise n s ts l k new since → messages k (sent_on n s ts l Step).passed ≡ passed.Message k (record_at (step n l.world s ts).records k).core (slot_at l.world.slots k).input ∷ []
  pub none : ((slot_at l.world.slots k).present ≡ true → Surprise n s ts l k new since → ⊥) → messages k (sent_on n s ts l Step).passed ≡ []

-- a call that is no accepted step has no message
pub record CallSparing (n : ℕ) (s : Sides) (ts : List ℕ) (l : Link) (k : ℕ) (new : Bool) (since : ℕ) (c : Call) : Type 0 where
  pub step : c ≡ Step → (ran n s ts l.world c).number ≡ 0 → StepSparing n s ts l k new since
  pub other : (c ≡ Step → (ran n s ts l.world c).number ≡ 0 → ⊥) → messages k (sent_on n s ts l c).passed ≡ []

-- every call of a list
abbrev pub CallsSparing : ℕ → Sides → List ℕ → ℕ → Bool → ℕ → Link → List Call → Type 0
CallsSparing n s ts k new since l [] = Unit {0}
CallsSparing n s ts k new since l (c ∷ cs) =
    CallSparing n s ts l k new since c
    × CallsSparing n s ts k (new_after n k new (ran n s ts l.world c).number c) (since_after k since (ran n s ts l.world c).number (sent_on n s ts l c).passed c) (called n s ts l c) cs

-- every seat, map and list of calls from a fresh world of n slots, where nobody has joined
abbrev pub Sparing : ℕ → Type 0
Sparing n = (s : Sides) (ts : List ℕ) (cs : List Call) (k : ℕ) → k < n → CallsSparing n s ts k false 0 (fresh_link n) cs
