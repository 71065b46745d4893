-- Who asks something of a world, what each may ask, and what is answered. Definitions only.
use Rattle.std.specs.Prelude.{ℕ, zero, suc, Bool, true, false, cond, List, eqb, ℤ, pos, negsuc}
use Rattle.game_refusals.specs.Refusals.{not_allowed}
use Rattle.map_tiles.specs.declared.tiles.Sides.{Sides}
use Rattle.world.specs.Readers.{read_of}
use Rattle.world.specs.Run.{ran}
use Rattle.world.specs.Step.{step_refused}
use Rattle.world.specs.declared.call.Call.{Call}
use Rattle.world.specs.declared.call.Call.TheVariants.{Join, Leave, Input, Step, Tune}
use Rattle.world.specs.declared.reading.Query.{Query}
use Rattle.world.specs.declared.reading.Query.TheVariants as query
use Rattle.world.specs.ReadAnswer.{ReadAnswer}
use Rattle.world.specs.ReadAnswer as reading
use Rattle.world.specs.Answered.{Stepped}
use Rattle.world.specs.declared.World.{World}
use Rattle.role_rule.specs.declared.Ask.{Ask}
use Rattle.role_rule.specs.declared.Ask.TheVariants as ask
use Rattle.role_rule.specs.declared.Role.{Role}
use Rattle.role_rule.specs.declared.Role.TheVariants.{Referee, Seat, Board}

-- ---- what each may ask

-- z is the id k
abbrev pub is_id : ℕ → ℤ → Bool
is_id k (pos j) = eqb j k
is_id k (negsuc j) = false

-- the one call of a seat: input for its own id
abbrev pub is_input_for : ℕ → Call → Bool
is_input_for k (Join id x y) = false
is_input_for k (Leave id) = false
is_input_for k (Input id d x y j h) = is_id k id
is_input_for k (Tune index z) = false
is_input_for k Step = false

-- what a board reads: records and floor marks
abbrev pub is_shown : Query → Bool
is_shown (query.Record id) = true
is_shown (query.FloorMark id) = true
is_shown (query.PlayerInput id) = false
is_shown (query.Tuning index) = false

-- the referee may ask everything, a seat its one call, a board what it reads
abbrev pub allowed : Role → Ask → Bool
allowed Referee a = true
allowed (Seat k) (ask.Call c) = is_input_for k c
allowed (Seat k) (ask.Read q) = false
allowed Board (ask.Call c) = false
allowed Board (ask.Read q) = is_shown q

-- ---- what is answered: 13 before all other refusals

-- a call by a role
abbrev pub called_as : ℕ → Role → Sides → List ℕ → World → Call → Stepped
called_as n role s ts w c = cond (allowed role (ask.Call c)) (ran n s ts w c) (step_refused n w not_allowed)

-- a read by a role
abbrev pub read_as : ℕ → Role → World → Query → ReadAnswer
read_as n role w q = cond (allowed role (ask.Read q)) (read_of n w q) (reading.Refused not_allowed)

-- ---- a role as one number

-- -1 is the referee, -2 a board, 0 and above a seat
abbrev pub role_number : Role → ℤ
role_number Referee = negsuc 0
role_number Board = negsuc 1
role_number (Seat k) = pos k

-- every other number is no role, and may ask nothing
unfoldable pub may_ask : ℤ → Ask → Bool
may_ask (pos k) a = allowed (Seat k) a
may_ask (negsuc zero) a = allowed Referee a
may_ask (negsuc (suc zero)) a = allowed Board a
may_ask (negsuc (suc (suc k))) a = false
