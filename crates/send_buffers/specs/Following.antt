-- What a list of calls leaves in the buffers of a world, a sender and a screen that began fresh, where all that is passed along arrives. Definitions only;
-- proofs/Reached.antt proves it.
use Rattle.std.specs.Prelude.{ℕ, zero, suc, cond, List, [], ◌∷◌, ◌≡◌, eqb, ℤ, length, take, drop}
use Rattle.map_tiles.specs.declared.tiles.Sides.{Sides}
use Rattle.character.specs.Tick.{seats}
use Rattle.world.specs.declared.call.Call.{Call}
use Rattle.world.specs.declared.call.Call.TheVariants.{Join, Leave, Input, Step, Tune}
use Rattle.send_rule.specs.Link.{Link, fresh_link, called}
use Rattle.world_numbers.specs.Encoding.{records_count, encoding}
use Rattle.send_numbers.specs.Copies.{copies_encoding, screen_encoding}
use Rattle.send_numbers.specs.Passing.{passed_count}
use Rattle.world_buffers.specs.Buffers.{leave_in, tune_in}
use Rattle.world_buffers.specs.Stepping.{StepBuffers}
use Rattle.world_buffers.specs.Following.{left_by}
use Rattle.send_buffers.specs.Sends.{SenderBuffers, LeftBySend, LeftBySendStep, send_in, send_step_in}
use Rattle.send_buffers.specs.Screens.{LeftByReceive, receive_in}

-- ---- what arrives

-- after a thing was taken or refused: what is behind it goes to `rest`, or the screen stays
abbrev pub and_then : (List ℤ → List ℤ → List ℤ) → List ℤ → LeftByReceive → List ℤ
and_then rest ps r = cond (eqb r.number 0) (rest r.screen (drop r.used ps)) r.screen

-- the screen's buffer l after k turns at most, each of which takes the thing that the numbers begin with; one that is refused ends them
abbrev pub received_all : Sides → List ℕ → ℕ → ℕ → List ℤ → List ℤ → List ℤ
received_all s ts used zero l ps = l
received_all s ts used (suc k) l ps = and_then (received_all s ts used k) ps (receive_in s ts l ps used)

-- after a call that answered with a number and left b: where it was accepted, as many numbers arrive as it told
abbrev pub arrived : Sides → List ℕ → ℕ → ℕ → SenderBuffers → List ℤ → List ℤ
arrived s ts used number b l = let ps = take b.count b.passed in cond (eqb number 0) (received_all s ts used (length ps) l ps) l

-- ---- every list of calls

-- the buffers of a world, of a sender's copies and of a screen
pub record LinkNumbers : Type 0 where
  pub world : List ℤ
  pub sender : List ℤ
  pub screen : List ℤ

-- those of a link
abbrev pub link_numbers : Link → LinkNumbers
link_numbers l = record { world = encoding l.world; sender = copies_encoding l.copies; screen = screen_encoding l.screen }

-- what each call is lent besides: what a step tells in, a buffer for what is passed along, and places for how many numbers were written and taken
pub record Lent : Type 0 where
  pub told : StepBuffers
  pub passed : List ℤ
  pub count : ℕ
  pub used : ℕ

-- a sender's buffers
abbrev pub sender_lent : Lent → LinkNumbers → SenderBuffers
sender_lent b x = record { sender = x.sender; passed = b.passed; count = b.count }

-- after a leave or a tune
abbrev pub after_send : Sides → List ℕ → Lent → LinkNumbers → LeftBySend → LinkNumbers
after_send s ts b x r = record { world = r.left.world; sender = r.sent.sender; screen = arrived s ts b.used r.left.number r.sent x.screen }

-- after a step
abbrev pub after_step : Sides → List ℕ → Lent → LinkNumbers → LeftBySendStep → LinkNumbers
after_step s ts b x r = record { world = r.left.world; sender = r.sent.sender; screen = arrived s ts b.used r.left.number r.sent x.screen }

-- after a call: joins and inputs are calls on the world alone
abbrev pub link_left : Sides → List ℕ → Lent → LinkNumbers → Call → LinkNumbers
link_left s ts b x (Join id u v) = record { world = (left_by s ts b.told x.world (Join id u v)).world; sender = x.sender; screen = x.screen }
link_left s ts b x (Leave id) = after_send s ts b x (send_in (Leave id) (leave_in x.world id) x.world (sender_lent b x))
link_left s ts b x (Input id d u v j h) = record { world = (left_by s ts b.told x.world (Input id d u v j h)).world; sender = x.sender; screen = x.screen }
link_left s ts b x (Tune index z) = after_send s ts b x (send_in (Tune index z) (tune_in x.world index z) x.world (sender_lent b x))
link_left s ts b x Step = after_step s ts b x (send_step_in s ts x.world b.told (sender_lent b x))

-- after all calls of a list
abbrev pub link_left_all : Sides → List ℕ → Lent → LinkNumbers → List Call → LinkNumbers
link_left_all s ts b x [] = x
link_left_all s ts b x (c ∷ cs) = link_left_all s ts b (link_left s ts b x c) cs

-- the link after the same calls
abbrev pub called_all : ℕ → Sides → List ℕ → Link → List Call → Link
called_all n s ts l [] = l
called_all n s ts l (c ∷ cs) = called_all n s ts (called n s ts l c) cs

-- the numbers of a fresh link become those of the link that the theorems of send_rule speak of, whatever the map and the calls
abbrev pub LinkFollows : Type 0
LinkFollows = (s : Sides) (ts : List ℕ) (b : Lent) (cs : List Call) → length b.told.records ≡ records_count → length b.told.removed ≡ seats → length b.passed ≡ passed_count → link_left_all s ts b (link_numbers (fresh_link seats)) cs ≡ link_numbers (called_all seats s ts (fresh_link seats) cs)
