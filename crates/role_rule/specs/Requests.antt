-- What a call beyond its role counts for, as claims about whole lists of calls and reads from every world. Definitions only; proofs/Requests.antt proves them.
use Rattle.std.specs.Prelude.{ℕ, Bool, true, false, cond, List, [], ◌∷◌, map, ◌≡◌, ℤ, pos}
use Rattle.game_refusals.specs.Refusals.{not_allowed}
use Rattle.game_records.specs.declared.PlayerInput.{PlayerInput}
use Rattle.map_tiles.specs.declared.tiles.Sides.{Sides}
use Rattle.character.specs.Slot.{with_input}
use Rattle.character.specs.Tick.{slot_at}
use Rattle.world.specs.World.{with_slot}
use Rattle.world.specs.Readers.{read_of}
use Rattle.world.specs.Run.{after, Told, told_by, told}
use Rattle.world.specs.Step.{step_refused}
use Rattle.world.specs.declared.call.Call.{Call}
use Rattle.world.specs.declared.call.Call.TheVariants.{Input}
use Rattle.world.specs.declared.reading.Query.{Query}
use Rattle.world.specs.declared.reading.Query.TheVariants as query
use Rattle.world.specs.ReadAnswer.{ReadAnswer}
use Rattle.world.specs.ReadAnswer as reading
use Rattle.world.specs.declared.World.{World}
use Rattle.role_rule.specs.Roles.{allowed, called_as, read_as}
use Rattle.role_rule.specs.declared.Ask.{Ask}
use Rattle.role_rule.specs.declared.Ask.TheVariants as ask
use Rattle.role_rule.specs.declared.Role.{Role}
use Rattle.role_rule.specs.declared.Role.TheVariants.{Referee, Seat, Board}

-- ---- requests

-- who asks, and what
pub record Request : Type 0 where
  pub role : Role
  pub ask : Ask

-- all that is told: by a call its number, records and removed ids, by a read what was read
pub data Said : Type 0 where
  called : Told → Said
  read : ReadAnswer → Said

-- that, and the next world
pub record Reply : Type 0 where
  pub said : Said
  pub world : World

abbrev pub reply_to : ℕ → Sides → List ℕ → World → Role → Ask → Reply
reply_to n s ts w role (ask.Call c) = let a = called_as n role s ts w c in record { said = called (told_by a); world = a.world }
reply_to n s ts w role (ask.Read q) = record { said = read (read_as n role w q); world = w }

abbrev pub replied : ℕ → Sides → List ℕ → World → Request → Reply
replied n s ts w r = reply_to n s ts w r.role r.ask

-- each request gets the world that the one before it left
abbrev pub world_after : ℕ → Sides → List ℕ → World → List Request → World
world_after n s ts w [] = w
world_after n s ts w (r ∷ rs) = world_after n s ts (replied n s ts w r).world rs

-- what each is told, one after another
abbrev pub said_to : ℕ → Sides → List ℕ → World → List Request → List Said
said_to n s ts w [] = []
said_to n s ts w (r ∷ rs) = (replied n s ts w r).said ∷ said_to n s ts (replied n s ts w r).world rs

-- ---- beyond its role

abbrev pub is_allowed : Request → Bool
is_allowed r = allowed r.role r.ask

-- the list with the requests beyond their role struck out
abbrev pub struck_out : List Request → List Request
struck_out [] = []
struck_out (r ∷ rs) = cond (is_allowed r) (r ∷ struck_out rs) (struck_out rs)

-- what every other request is told, in the whole list
abbrev pub said_to_others : ℕ → Sides → List ℕ → World → List Request → List Said
said_to_others n s ts w [] = []
said_to_others n s ts w (r ∷ rs) = let rest = said_to_others n s ts (replied n s ts w r).world rs in cond (is_allowed r) ((replied n s ts w r).said ∷ rest) rest

-- 13, no records, nobody removed, nothing read
abbrev pub refused_as : ℕ → World → Ask → Reply
refused_as n w (ask.Call c) = record { said = called (told_by (step_refused n w not_allowed)); world = w }
refused_as n w (ask.Read q) = record { said = read (reading.Refused not_allowed); world = w }

-- ---- the claims

-- a request beyond its role is told 13, before all other refusals, and leaves the world as it was
abbrev pub BeyondRefused : ℕ → Type 0
BeyondRefused n = (s : Sides) (ts : List ℕ) (w : World) (role : Role) (a : Ask) → allowed role a ≡ false → reply_to n s ts w role a ≡ refused_as n w a

-- it counts for nothing: the world at the end and what every other request is told are those of the list with such requests struck out
pub record CountsForNothing (n : ℕ) : Type 0 where
  pub world : (s : Sides) (ts : List ℕ) (w : World) (rs : List Request) → world_after n s ts w rs ≡ world_after n s ts w (struck_out rs)
  pub said : (s : Sides) (ts : List ℕ) (w : World) (rs : List Request) → said_to_others n s ts w rs ≡ said_to n s ts w (struck_out rs)

-- w with another input stored at the seat k
abbrev pub with_stored : World → ℕ → PlayerInput → World
with_stored w k i = with_slot w k (with_input (slot_at w.slots k) i)

-- whatever a seat asks changes nothing but its own stored input: every other slot, field and tuning is equal
abbrev pub SeatsOwn : ℕ → Type 0
SeatsOwn n = (s : Sides) (ts : List ℕ) (w : World) (k : ℕ) (a : Ask) → let next = (reply_to n s ts w (Seat k) a).world in next ≡ with_stored w k (slot_at next.slots k).input

-- whatever a board asks changes nothing
abbrev pub BoardsNothing : ℕ → Type 0
BoardsNothing n = (s : Sides) (ts : List ℕ) (w : World) (a : Ask) → (reply_to n s ts w Board a).world ≡ w

-- the calls of a list, made by the referee
abbrev pub by_referee : List Call → List Request
by_referee [] = []
by_referee (c ∷ cs) = record { role = Referee; ask = ask.Call c } ∷ by_referee cs

-- the referee's list is the list without roles, answer by answer, and its reads tell what is there
pub record RefereeAsBefore (n : ℕ) : Type 0 where
  pub world : (s : Sides) (ts : List ℕ) (w : World) (cs : List Call) → world_after n s ts w (by_referee cs) ≡ after n s ts w cs
  pub said : (s : Sides) (ts : List ℕ) (w : World) (cs : List Call) → said_to n s ts w (by_referee cs) ≡ map called (told n s ts w cs)
  pub reads : (w : World) (q : Query) → read_as n Referee w q ≡ read_of n w q

-- what a role allows is answered as the referee is, so a role that may ask gets all of it
abbrev pub AllowedAsReferee : ℕ → Type 0
AllowedAsReferee n = (s : Sides) (ts : List ℕ) (w : World) (role : Role) (a : Ask) → allowed role a ≡ true → reply_to n s ts w role a ≡ reply_to n s ts w Referee a

-- an input for the id k, whatever it is
pub data InputFor (k : ℕ) : Ask → Type 0 where
  own_input : {d x y j h : ℤ} → InputFor k (ask.Call (Input (pos k) d x y j h))

-- a read of a record or of a floor mark, whoever's
pub data ShownRead : Ask → Type 0 where
  record_of : {id : ℤ} → ShownRead (ask.Read (query.Record id))
  mark_of : {id : ℤ} → ShownRead (ask.Read (query.FloorMark id))

-- a role may ask what is so, and nothing else
abbrev pub MayJust : Role → (Ask → Type 0) → Type 0
MayJust role so = (a : Ask) → (so a → allowed role a ≡ true) × (allowed role a ≡ true → so a)

-- the referee may ask everything
abbrev pub RefereeMay : Type 0
RefereeMay = (a : Ask) → allowed Referee a ≡ true

-- a seat may make input for its own id, whatever it is, and nothing else
abbrev pub SeatsMay : Type 0
SeatsMay = (k : ℕ) → MayJust (Seat k) (InputFor k)

-- a board may read records and floor marks, and nothing else
abbrev pub BoardsMay : Type 0
BoardsMay = MayJust Board ShownRead

-- request 8
pub record Roles (n : ℕ) : Type 0 where
  pub beyond : BeyondRefused n
  pub nothing : CountsForNothing n
  pub own : SeatsOwn n
  pub boards : BoardsNothing n
  pub referee_may : RefereeMay
  pub seats_may : SeatsMay
  pub boards_may : BoardsMay
  pub within : AllowedAsReferee n
  pub referee : RefereeAsBefore n
