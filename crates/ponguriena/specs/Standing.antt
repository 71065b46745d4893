-- Calls and reads by the number of a role on a world's numbers, against those by the role on the world that they stand for. Definitions only;
-- proofs/Standing.antt proves it.
use Rattle.std.specs.Prelude.{ℕ, false, cond, List, [], ◌∷◌, ◌≡◌, ℤ, length}
use Rattle.game_refusals.specs.Refusals.{not_allowed}
use Rattle.num_convert.specs.Casts.{IsI32}
use Rattle.game_records.specs.Numbers.{number_at}
use Rattle.map_tiles.specs.declared.tiles.Sides.{Sides}
use Rattle.character.specs.Tick.{seats}
use Rattle.world.specs.World.{fresh}
use Rattle.world.specs.Run.{input_of, after}
use Rattle.world.specs.declared.call.Call.{Call}
use Rattle.world.specs.declared.call.Call.TheVariants.{Join, Leave, Input, Step, Tune}
use Rattle.world.specs.declared.reading.Query.{Query}
use Rattle.role_rule.specs.Roles.{allowed, role_number, may_ask, called_as}
use Rattle.role_rule.specs.Roles as roles
use Rattle.role_rule.specs.declared.Ask.{Ask}
use Rattle.role_rule.specs.declared.Ask.TheVariants as ask
use Rattle.role_rule.specs.declared.Role.{Role}
use Rattle.role_rule.specs.declared.Role.TheVariants.{Referee}
use Rattle.world_numbers.specs.Encoding.{world_count, records_count, encoding}
use Rattle.world_numbers.specs.Decoding.{decoding}
use Rattle.world_buffers.specs.Buffers.{LeftWorld, join_in, leave_in, input_in, tune_in}
use Rattle.world_buffers.specs.Readers.{ReadTold, untold, query_count, reading_told, read_in}
use Rattle.world_buffers.specs.Stepping.{StepBuffers, step_in}
use Rattle.world_buffers.specs.Following.{left_of}
use Rattle.send_rule.specs.Link.{fresh_link}
use Rattle.send_numbers.specs.Passing.{passed_count}
use Rattle.send_buffers.specs.Sends.{send_in, send_step_in}
use Rattle.send_buffers.specs.Following.{LinkNumbers, Lent, link_numbers, sender_lent, after_send, after_step, called_all}
use Rattle.ponguriena.specs.ByRole.{call_as, step_as, read_in_as, search_as, send_as, send_step_as}

-- ---- the number of a role

-- it may ask what the role may, and a number that is no role's nothing
pub record RoleNumbers : Type 0 where
  pub role : (r : Role) (a : Ask) → may_ask (role_number r) a ≡ allowed r a
  pub none : (z : ℤ) → ((r : Role) → z ≡ role_number r → ⊥) → (a : Ask) → may_ask z a ≡ false

-- ---- one call or read on any numbers

-- what a call leaves; b is what a step is lent to tell
abbrev pub left_as : Sides → List ℕ → StepBuffers → ℤ → List ℤ → Call → LeftWorld
left_as s ts b role l (Join id x y) = call_as role (Join id x y) l (join_in s ts l id x y)
left_as s ts b role l (Leave id) = call_as role (Leave id) l (leave_in l id)
left_as s ts b role l (Input id d x y j h) = call_as role (Input id d x y j h) l (input_in l id (input_of d x y j h))
left_as s ts b role l (Tune index z) = call_as role (Tune index z) l (tune_in l index z)
left_as s ts b role l Step = left_of (step_as role l b (step_in s ts l b))

-- the answer and the next world are those of the call by the role on the world that the numbers stand for
pub record StandsAs (s : Sides) (ts : List ℕ) (b : StepBuffers) (role : Role) (l : List ℤ) (c : Call) : Type 0 where
  pub number : (left_as s ts b (role_number role) l c).number ≡ (called_as seats role s ts (decoding seats l) c).number
  pub world : decoding seats (left_as s ts b (role_number role) l c).world ≡ (called_as seats role s ts (decoding seats l) c).world

-- whoever wrote the numbers
abbrev pub RoleCallsStand : Type 0
RoleCallsStand = (s : Sides) (ts : List ℕ) (b : StepBuffers) (role : Role) (l : List ℤ) (c : Call) → length l ≡ world_count → length b.records ≡ records_count → length b.removed ≡ seats → ((k : ℕ) → IsI32 (number_at l k)) → StandsAs s ts b role l c

-- a read tells the numbers of what the read by the role tells of that world
abbrev pub RoleReadsStand : Type 0
RoleReadsStand = (role : Role) (q : Query) (l out : List ℤ) → length l ≡ world_count → length out ≡ query_count q → read_in_as (role_number role) q out (read_in q l out) ≡ reading_told out (roles.read_as seats role (decoding seats l) q)

-- a search is the referee's alone: any other number is told 13, whatever else is asked, and the buffer is as it was
pub record RefereeSearches : Type 0 where
  pub referee : (out : List ℤ) (told : ReadTold) → search_as (role_number Referee) out told ≡ told
  pub others : (z : ℤ) → (z ≡ role_number Referee → ⊥) → (out : List ℤ) (told : ReadTold) → search_as z out told ≡ untold out not_allowed

-- ---- every list of calls on a fresh world

-- who calls, by number, and what
pub record RoleCall : Type 0 where
  pub role : ℤ
  pub call : Call

-- the world's buffer after all calls of a list
abbrev pub left_as_all : Sides → List ℕ → StepBuffers → List ℤ → List RoleCall → List ℤ
left_as_all s ts b l [] = l
left_as_all s ts b l (r ∷ rs) = left_as_all s ts b (left_as s ts b r.role l r.call).world rs

-- the calls of a list without those beyond their role
abbrev pub allowed_calls : List RoleCall → List Call
allowed_calls [] = []
allowed_calls (r ∷ rs) = cond (may_ask r.role (ask.Call r.call)) (r.call ∷ allowed_calls rs) (allowed_calls rs)

-- the numbers of a fresh world become those of the world after the allowed calls, whatever the map and the roles
abbrev pub RoleBufferFollows : Type 0
RoleBufferFollows = (s : Sides) (ts : List ℕ) (b : StepBuffers) (rs : List RoleCall) → length b.records ≡ records_count → length b.removed ≡ seats → left_as_all s ts b (encoding (fresh seats)) rs ≡ encoding (after seats s ts (fresh seats) (allowed_calls rs))

-- ---- the same beside a sender and a screen

-- the buffers of all three after a call; joins and inputs are calls on the world alone
abbrev pub link_left_as : Sides → List ℕ → Lent → ℤ → LinkNumbers → Call → LinkNumbers
link_left_as s ts b role x (Join id u v) = record { world = (left_as s ts b.told role x.world (Join id u v)).world; sender = x.sender; screen = x.screen }
link_left_as s ts b role x (Leave id) = after_send s ts b x (send_as role (Leave id) x.world (sender_lent b x) (send_in (Leave id) (leave_in x.world id) x.world (sender_lent b x)))
link_left_as s ts b role x (Input id d u v j h) = record { world = (left_as s ts b.told role x.world (Input id d u v j h)).world; sender = x.sender; screen = x.screen }
link_left_as s ts b role x (Tune index z) = after_send s ts b x (send_as role (Tune index z) x.world (sender_lent b x) (send_in (Tune index z) (tune_in x.world index z) x.world (sender_lent b x)))
link_left_as s ts b role x Step = after_step s ts b x (send_step_as role x.world b.told (sender_lent b x) (send_step_in s ts x.world b.told (sender_lent b x)))

-- after all calls of a list
abbrev pub link_left_as_all : Sides → List ℕ → Lent → LinkNumbers → List RoleCall → LinkNumbers
link_left_as_all s ts b x [] = x
link_left_as_all s ts b x (r ∷ rs) = link_left_as_all s ts b (link_left_as s ts b r.role x r.call) rs

-- the numbers of a fresh link become those of the link after the allowed calls
abbrev pub RoleLinkFollows : Type 0
RoleLinkFollows = (s : Sides) (ts : List ℕ) (b : Lent) (rs : List RoleCall) → length b.told.records ≡ records_count → length b.told.removed ≡ seats → length b.passed ≡ passed_count → link_left_as_all s ts b (link_numbers (fresh_link seats)) rs ≡ link_numbers (called_all seats s ts (fresh_link seats) (allowed_calls rs))

-- request 8 on numbers
pub record RolesStand : Type 0 where
  pub numbers : RoleNumbers
  pub calls : RoleCallsStand
  pub reads : RoleReadsStand
  pub follows : RoleBufferFollows
  pub links : RoleLinkFollows
  pub searches : RefereeSearches
