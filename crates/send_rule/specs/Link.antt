-- A server's world with its sender, linked to one screen, call after call; and the messages among what is passed along. Definitions only.
use Rattle.std.specs.Prelude.{ℕ, zero, suc, Bool, false, cond, List, [], ◌∷◌, ◌++◌, eqb}
use Rattle.map_tiles.specs.declared.tiles.Sides.{Sides}
use Rattle.world.specs.World.{fresh}
use Rattle.world.specs.Run.{ran}
use Rattle.world.specs.declared.call.Call.{Call}
use Rattle.world.specs.declared.World.{World}
use Rattle.send_rule.specs.Send.{Sent, send, receive_all, no_copies, fresh_screen}
use Rattle.send_rule.specs.declared.Copy.{Copy}
use Rattle.send_rule.specs.declared.Passed.{Passed}
use Rattle.send_rule.specs.declared.Passed.TheVariants as passed
use Rattle.send_rule.specs.declared.Screen.{Screen}

-- ---- every list of calls

-- the server's world, the sender's copies, and a screen to which all that is passed along arrives, in order
pub record Link : Type 0 where
  pub world : World
  pub copies : List Copy
  pub screen : Screen

-- a fresh world, with no copies yet and fresh tunings on both sides
abbrev pub fresh_link : ℕ → Link
fresh_link n = record { world = fresh n; copies = no_copies n; screen = fresh_screen n }

-- what a call passes along
abbrev pub sent_on : ℕ → Sides → List ℕ → Link → Call → Sent
sent_on n s ts l c = send n s ts l.world l.copies c

-- after a call, and after all that it passes along has arrived
abbrev pub called : ℕ → Sides → List ℕ → Link → Call → Link
called n s ts l c = record { world = (ran n s ts l.world c).world; copies = (sent_on n s ts l c).copies; screen = receive_all n s ts l.screen (sent_on n s ts l c).passed }

-- a claim of every call of a list
abbrev pub EveryCall : ℕ → Sides → List ℕ → (Link → Call → Type 0) → Link → List Call → Type 0
EveryCall n s ts P l [] = Unit {0}
EveryCall n s ts P l (c ∷ cs) = P l c × EveryCall n s ts P (called n s ts l c) cs

-- ---- the messages among what is passed along

-- a message of the seat k
abbrev pub is_message : ℕ → Passed → Bool
is_message k passed.Mark = false
is_message k (passed.Message j core i) = eqb j k
is_message k (passed.Removal j) = false
is_message k (passed.Leave j) = false
is_message k (passed.Tune j v) = false

-- those of the seat k
abbrev pub messages : ℕ → List Passed → List Passed
messages k [] = []
messages k (p ∷ ps) = cond (is_message k p) (p ∷ messages k ps) (messages k ps)

-- those of the seats below i, by rising id
abbrev pub in_order : ℕ → List Passed → List Passed
in_order zero ps = []
in_order (suc i) ps = in_order i ps ++ messages i ps
