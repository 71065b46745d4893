-- What a message leaves of a copy, and that whoever is alone, or goes as if it were, is sent nothing before the 150th step. Definitions only; proofs/Quiet.antt and QuietAmong.antt prove it.
use Rattle.std.specs.Prelude.{ℕ, ◌+◌, ◌<◌, true, false, cond, List, [], ◌∷◌, ◌≡◌, eqb}
use Rattle.game_records.specs.declared.CharacterCore.{CharacterCore}
use Rattle.game_records.specs.declared.PlayerInput.{PlayerInput}
use Rattle.map_tiles.specs.declared.tiles.Sides.{Sides}
use Rattle.character.specs.Tick.{slot_at}
use Rattle.world.specs.Demand3.{record_at}
use Rattle.world.specs.Run.{ran}
use Rattle.world.specs.Step.{step}
use Rattle.world.specs.declared.call.Call.{Call}
use Rattle.world.specs.declared.call.Call.TheVariants.{Join, Leave, Input, Step, Tune}
use Rattle.world.specs.Answered.{Stepped}
use Rattle.world.specs.declared.World.{World}
use Rattle.send_rule.specs.Send.{copy_at, alone}
use Rattle.send_rule.specs.Link.{Link, fresh_link, sent_on, called, EveryCall, messages}
use Rattle.send_rule.specs.Sparing.{since_after}
use Rattle.send_rule.specs.declared.Copy.{Copy}
use Rattle.send_rule.specs.declared.Passed.TheVariants as passed

-- ---- what a message leaves

-- a copy with the record and the input of a message, neither removed nor refused, and no step since
pub record AsSent (c : Copy) (sent : CharacterCore) (used : PlayerInput) : Type 0 where
  pub kept : c.kept ≡ true
  pub core : c.core ≡ sent
  pub input : c.input ≡ used
  pub stays : c.removed ≡ false
  pub unrefused : c.refused ≡ false
  pub steps : c.steps ≡ 0

-- the copies of k on both sides after a call on l with a message of it, where k is still present
abbrev pub CallRenews : ℕ → Sides → List ℕ → ℕ → Link → Call → Type 0
CallRenews n s ts k l c = (core : CharacterCore) (i : PlayerInput) → messages k (sent_on n s ts l c).passed ≡ passed.Message k core i ∷ [] → (slot_at (called n s ts l c).world.slots k).present ≡ true →
    AsSent (copy_at (called n s ts l c).copies k) core i × AsSent (copy_at (called n s ts l c).screen.copies k) core i

-- every seat, map and list of calls from a fresh world of n slots
abbrev pub Renews : ℕ → Type 0
Renews n = (s : Sides) (ts : List ℕ) (cs : List Call) (k : ℕ) → k < n → EveryCall n s ts (CallRenews n s ts k) (fresh_link n) cs

-- ---- whoever is alone is sent nothing

-- nobody but k is in w, and the stored input of k is i
pub record AloneWith (n : ℕ) (w : World) (k : ℕ) (i : PlayerInput) : Type 0 where
  pub there : (slot_at w.slots k).present ≡ true
  pub input : (slot_at w.slots k).input ≡ i
  pub nobody : (j : ℕ) → j < n → (j ≡ k → ⊥) → (slot_at w.slots j).present ≡ false

-- no call of the list has a message of k, but for the 150th accepted step after its last: q were accepted since then
abbrev pub QuietCalls : ℕ → Sides → List ℕ → ℕ → ℕ → Link → List Call → Type 0
QuietCalls n s ts k q l [] = Unit {0}
QuietCalls n s ts k q l (c ∷ cs) =
    ((q + 1 ≡ 150 → ⊥) → messages k (sent_on n s ts l c).passed ≡ [])
    × QuietCalls n s ts k (since_after k q (ran n s ts l.world c).number (sent_on n s ts l c).passed c) (called n s ts l c) cs

-- after a call on l with a message of k, for as long as k is alone with the same input, whatever is tuned
abbrev pub CallQuiet : ℕ → Sides → List ℕ → ℕ → Link → Call → Type 0
CallQuiet n s ts k l c = (i : PlayerInput) (cs : List Call) → AloneWith n l.world k i → (messages k (sent_on n s ts l c).passed ≡ [] → ⊥) →
    EveryCall n s ts (λ m d. AloneWith n m.world k i) (called n s ts l c) cs → QuietCalls n s ts k 0 (called n s ts l c) cs

-- every seat, map and list of calls from a fresh world of n slots
abbrev pub Quiet : ℕ → Type 0
Quiet n = (s : Sides) (ts : List ℕ) (cs : List Call) (k : ℕ) → k < n → EveryCall n s ts (CallQuiet n s ts k) (fresh_link n) cs

-- ---- nor is whoever goes as if it were alone

-- the record of k after a call that answered a: r before it
abbrev pub record_after : ℕ → CharacterCore → Stepped → Call → CharacterCore
record_after k r a (Join id x y) = r
record_after k r a (Leave id) = r
record_after k r a (Input id d x y j h) = r
record_after k r a (Tune index z) = r
record_after k r a Step = cond (eqb a.number 0) (record_at a.records k).core r

-- k is there, and an accepted step takes of it the record that the step of a world holding it alone takes, from the record r and the input i
pub record AsAlone (n : ℕ) (s : Sides) (ts : List ℕ) (k : ℕ) (r : CharacterCore) (i : PlayerInput) (l : Link) (c : Call) : Type 0 where
  pub there : (slot_at l.world.slots k).present ≡ true
  pub taken : c ≡ Step → (ran n s ts l.world c).number ≡ 0 → (d : Copy) → AsSent d r i →
      let a = alone n s ts l.world.tunings k d in (a.number ≡ 0) × ((record_at a.records k).core ≡ (record_at (step n l.world s ts).records k).core)

-- every call of a list
abbrev pub CallsAsAlone : ℕ → Sides → List ℕ → ℕ → CharacterCore → PlayerInput → Link → List Call → Type 0
CallsAsAlone n s ts k r i l [] = Unit {0}
CallsAsAlone n s ts k r i l (c ∷ cs) = AsAlone n s ts k r i l c × CallsAsAlone n s ts k (record_after k r (ran n s ts l.world c) c) i (called n s ts l c) cs

-- no message of k before the 150th accepted step after its last: q were accepted since then
abbrev pub QuietBefore : ℕ → Sides → List ℕ → ℕ → ℕ → Link → List Call → Type 0
QuietBefore n s ts k q l [] = Unit {0}
QuietBefore n s ts k q l (c ∷ cs) =
    (q + 1 ≡ 150 → ⊥) → (messages k (sent_on n s ts l c).passed ≡ [])
    × QuietBefore n s ts k (since_after k q (ran n s ts l.world c).number (sent_on n s ts l c).passed c) (called n s ts l c) cs

-- after a call on l with a message of k, for as long as others make no difference to its records
abbrev pub CallQuietAmong : ℕ → Sides → List ℕ → ℕ → Link → Call → Type 0
CallQuietAmong n s ts k l c = (core : CharacterCore) (i : PlayerInput) (cs : List Call) → messages k (sent_on n s ts l c).passed ≡ passed.Message k core i ∷ [] →
    CallsAsAlone n s ts k core i (called n s ts l c) cs → QuietBefore n s ts k 0 (called n s ts l c) cs

-- every seat, map and list of calls from a fresh world of n slots
abbrev pub QuietAmong : ℕ → Type 0
QuietAmong n = (s : Sides) (ts : List ℕ) (cs : List Call) (k : ℕ) → k < n → EveryCall n s ts (CallQuietAmong n s ts k) (fresh_link n) cs
