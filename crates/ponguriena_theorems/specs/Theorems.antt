-- The theorems that customers were given, for any number of seats, and what is shipped. Definitions only; proofs/Shipped.antt cites their proofs.
use Rattle.std.specs.Prelude.{ℕ, List, ◌≡◌, ℤ}
use Rattle.aim_rule.specs.Scan.{ReadsAQuarter, CountsReads}
use Rattle.game_packed.specs.Laws.{RoundTrip, ReadAsWritten, SizesHold, NoneBegins, ToldEnds, WorkedBytes}
use Rattle.game_packed.specs.Writing.{WritesRecords, LentReturn, LentLengths, WorkedRecord}
use Rattle.character.specs.Tick.{seats}
use Rattle.character_cases.specs.Holding.{Holding}
use Rattle.character_cases.specs.ProvedCases.{ProvedCases}
use Rattle.world.specs.Demand1.{Demand1}
use Rattle.world.specs.Answers.{Answers}
use Rattle.world.specs.Demand3.{Demand3}
use Rattle.world.specs.Marks.{MarksFollow}
use Rattle.world.specs.Leave.{LeaveReleases}
use Rattle.world.specs.Held.{HeldPresent}
use Rattle.world.specs.Deadly.{StepSpikes}
use Rattle.world.specs.Hold.{HookHold}
use Rattle.world.specs.Readings.{Readings}
use Rattle.world_solo.specs.Solo.{Solo}
use Rattle.trial_rule.specs.Laws.{RowsTell, Independent, CountsSteps, TellsSmallest, TellsNobody, JumpsAfterStay, RunsByCalls, GoesTowards, InputsStored}
use Rattle.trial_rule.specs.Limits.{TrialLimits}
use Rattle.trial_rule.specs.Answers.{AnswersOfTrials}
use Rattle.trial_rule.specs.Numbers.{EntrantsLent, TargetsClamped, DistanceTiles, RowsGiveBack}
use Rattle.world_late.specs.Arrival.{AnyArrival}
use Rattle.world_late.specs.Late.{WhatMayBeExchanged, CallsCommute, LaterReplaces, LateLists, StruckLists}
use Rattle.world_laws.specs.Spikes.{SpikesStopNothing}
use Rattle.world_laws.specs.Walks.{WalksRefused, StepNumbers}
use Rattle.world_laws.specs.Holding.{StepHolds}
use Rattle.world_laws.specs.Records.{RecordsMade, RecordShapes}
use Rattle.world_laws.specs.Start.{FreshWorld, JoinStarts, TuningsByIndex}
use Rattle.world_laws.specs.Reading.{RecordsRead}
use Rattle.world_laws.specs.Flight.{HooksEnd}
use Rattle.world_laws.specs.Order.{RisingIds}
use Rattle.send_rule.specs.Shown.{Shown}
use Rattle.send_rule.specs.Sparing.{Sparing}
use Rattle.send_rule.specs.Along.{Along}
use Rattle.send_rule.specs.Foreseen.{Foreseen, Stays}
use Rattle.send_rule.specs.Quiet.{Renews, Quiet, QuietAmong}
use Rattle.send_alone.specs.Alone.{CopiesAlone}
use Rattle.world_numbers.specs.Decoding.{ComesBack, AnyComesBack}
use Rattle.world_buffers.specs.Following.{CallsStand, RefusalsLeave, BufferFollows}
use Rattle.world_late_buffers.specs.LateNumbers.{NumbersCommute, NumbersReplaced, LateNumbers}
use Rattle.send_buffers.specs.Following.{LinkFollows}
use Rattle.told_numbers.specs.Records.{RecordsComeBack, StepTold}
use Rattle.told_numbers.specs.Ways.{WaysComeBack, ZerosBehind, SearchTold}
use Rattle.told_numbers.specs.Shown.{ShownTold, SendStepTold, ScreenTold, AbsentTold}
use Rattle.told_numbers.specs.Readings.{ReadingsTold}
use Rattle.told_numbers.specs.Refused.{ReadersLeave}
use Rattle.role_rule.specs.Requests.{Roles}
use Rattle.search_rule.specs.Laws.{Reaches}
use Rattle.ponguriena.specs.Standing.{RolesStand}
use Rattle.refusal_laws.specs.Stays.{EverythingStays}
use Rattle.map_totals.specs.Laws.{AreaNumbers, CountsSolid, ClearArea, ChangeWrites, ChangeFollows, ChangeReaches}
use Rattle.map_totals.specs.Integers.{CountsEntries, ChangeAdds}
use Rattle.session_laws.specs.Played.{WholeOutput, PlayEnds}

-- of a world of n seats
pub record Theorems (n : ℕ) : Type 0 where
  -- a refusal leaves the world as it was
  pub demand1 : Demand1 n
  -- which calls are refused, with the lowest number that fits, and that a refused call tells its number alone
  pub answers : Answers n
  -- a fresh world, and a joined character
  pub fresh_world : FreshWorld n
  pub joins : JoinStarts n
  -- a step answers 0, 1 or 9, and 9 exactly when a tick or a move in it does
  pub step_numbers : StepNumbers n
  -- clear boxes, records that come back, records that are near
  pub demand3 : Demand3 n
  -- the character that a record is made of, number by number
  pub made : RecordsMade n
  -- all that the session program writes for a text, and that it ends
  pub output : WholeOutput n
  pub ends : PlayEnds n
  -- a world comes back from its numbers
  pub back : ComesBack n
  pub any_back : AnyComesBack n
  -- request 2: the floor mark
  pub marks : MarksFollow n
  -- request 4: hooks on who left
  pub releases : LeaveReleases n
  pub held : HeldPresent n
  -- request 5: deadly tiles remove, and stop nothing
  pub spikes : StepSpikes n
  pub stop_nothing : SpikesStopNothing n
  -- request 6: screens that are sent surprises alone
  pub shown : Shown n
  pub sparing : Sparing n
  pub along : Along n
  pub foreseen : Foreseen n
  pub stays : Stays n
  pub renews : Renews n
  pub quiet : Quiet n
  pub quiet_among : QuietAmong n
  pub alone : CopiesAlone n
  -- request 8: a call or a read beyond its role counts for nothing
  pub roles : Roles n
  -- request 8: what a query is told, and when it is refused
  pub readings : Readings n
  -- request 10: solo heats
  pub solo : Solo n
  -- request 11: trials
  pub rows : RowsTell n
  pub independent : Independent n
  pub steps : CountsSteps n
  pub smallest : TellsSmallest n
  pub nobody : TellsNobody n
  pub jumps : JumpsAfterStay n
  pub trial_calls : RunsByCalls n
  pub inputs : InputsStored n
  pub trial_answers : AnswersOfTrials n
  pub rows_back : RowsGiveBack n
  -- request 12: the first way to a place
  pub ways : Reaches n
  -- request 13: the hook's hold, and what a step makes of a hook that holds somebody
  pub hold : HookHold n
  pub step_holds : StepHolds n
  -- request 14: calls that arrive late, two of them and in lists
  pub commute : CallsCommute n
  pub replace : LaterReplaces n
  pub late : LateLists n
  pub struck : StruckLists n

-- at the seats that there are; and that the numbers which C programs hold are those of the worlds and links that the theorems speak of
pub record Shipped : Type 0 where
  pub theorems : Theorems seats
  -- request 7: how many there are
  pub how_many : seats ≡ 64
  -- the cases that the customer wants proved
  pub cases : ProvedCases
  -- a walk is refused exactly from 65,537 turns on; ticks and moves by rising id; where a flying hook ends; the tunings by their index
  pub walks : WalksRefused
  pub rising : RisingIds
  pub hooks_end : HooksEnd
  pub tuning_index : (ts : List ℤ) → TuningsByIndex ts
  -- the range of each number of a record that is taken, told or sent; a record as a character
  pub shapes : RecordShapes seats
  pub records_read : RecordsRead
  -- on any numbers a call is the one by value on the world that they stand for, and a refused one leaves every number
  pub stand : CallsStand
  pub refusals : RefusalsLeave
  -- after every list of calls from a fresh world, and from a fresh link
  pub buffers : BufferFollows
  pub links : LinkFollows
  -- what is told in lent buffers comes back as what the world, the search and the screen say
  pub records_back : RecordsComeBack
  pub step_told : StepTold
  pub ways_back : WaysComeBack
  pub zeros_behind : ZerosBehind
  pub search_told : SearchTold
  pub shown_told : ShownTold
  pub send_step_told : SendStepTold
  pub screen_told : ScreenTold
  pub absent_told : AbsentTold
  pub readings_told : ReadingsTold
  pub readers_leave : ReadersLeave
  -- a refused function of the C interface leaves everything that it was lent
  pub everything_stays : EverythingStays
  -- calls and reads by the number of a role are those by the role
  pub by_role : RolesStand
  -- request 1: packed records come back, nothing else is read, and what is told where none is
  pub round_trip : RoundTrip
  pub accepted : ReadAsWritten
  pub sizes : SizesHold
  pub none_begins : NoneBegins
  pub told_ends : ToldEnds
  pub worked_bytes : WorkedBytes
  -- request 1: the writer's 75 bytes, records in lent buffers, and the order of the fifteen numbers
  pub written : WritesRecords
  pub lent_return : LentReturn
  pub lent_lengths : LentLengths
  pub worked_record : WorkedRecord
  -- request 3: how many entries a scan for an angle reads
  pub quarter : ReadsAQuarter
  pub reads : CountsReads
  -- request 9: what is refused, the solid tiles of an area by running totals, and the totals after a change
  pub area_numbers : AreaNumbers
  pub solids : CountsSolid
  pub clear : ClearArea
  pub writes : ChangeWrites
  pub follows : ChangeFollows
  pub reaches : ChangeReaches
  -- request 9: sums and differences of any totals' entries, over integers modulo 2^32
  pub entries : CountsEntries
  pub adds : ChangeAdds
  -- request 11: which way a player goes, how many tunings and steps a trial has, who is lent, its target on the map, and its distance
  pub towards : GoesTowards
  pub limits : TrialLimits
  pub entrants : EntrantsLent
  pub targets : TargetsClamped
  pub distances : DistanceTiles
  -- request 13: what a tick makes of a hook that holds somebody, whatever the hold
  pub holding : Holding
  -- request 14: which calls may be exchanged, the orders in which calls may arrive, and late calls on any numbers
  pub exchange : WhatMayBeExchanged
  pub arrival : AnyArrival
  pub numbers_commute : NumbersCommute
  pub numbers_replaced : NumbersReplaced
  pub late_numbers : LateNumbers
