-- Every theorem holds for any number of seats, so for those that there are. Assumes nothing.
use Prim.Native.Nat.{ℕ}
use native.Mathlib.Omega.{arith}
use mathlib.Core.Path.{refl}
use Rattle.aim_rule.proofs.Entries.{counts_reads, reads_a_quarter}
use Rattle.game_packed.proofs.Back.{round_trip_lem}
use Rattle.game_packed.proofs.Laws.{accepted, sizes_hold, none_begins_lem}
use Rattle.game_packed.proofs.Ends.{told_ends_lem, worked_bytes_lem}
use Rattle.game_packed.proofs.Writing.{writes_records, lent_return_lem, lent_lengths_lem, worked_record_lem}
use Rattle.character.specs.Tick.{seats}
use Rattle.character_cases.proofs.Holding.{holding}
use Rattle.character_cases.proofs.Proved.{proved_cases}
use Rattle.world.proofs.Demand1.{demand1}
use Rattle.world.proofs.Answers.{answers}
use Rattle.world.proofs.Demand3.{demand3}
use Rattle.world.proofs.Marks.{marks_follow}
use Rattle.world.proofs.Leave.{leave_releases}
use Rattle.world.proofs.Held.{held-present}
use Rattle.world.proofs.Deadly.{step_spikes}
use Rattle.world.proofs.Hold.{hook_hold_is}
use Rattle.world.proofs.Readings.{readings}
use Rattle.world_solo.proofs.Solo.{solo}
use Rattle.trial_rule.proofs.Tables.{rows_tell, independent}
use Rattle.trial_rule.proofs.Runs.{counts_steps}
use Rattle.trial_rule.proofs.Told.{tells_smallest, tells_nobody, jumps_after_stay}
use Rattle.trial_rule.proofs.ByCalls.{runs_by_calls}
use Rattle.trial_rule.proofs.Inputs.{goes_towards, inputs_stored}
use Rattle.trial_rule.proofs.Limits.{trial_limits}
use Rattle.trial_rule.proofs.Answers.{answers_of_trials}
use Rattle.trial_rule.proofs.Numbers.{entrants_lent, targets_clamped, distance_tiles, rows_give_back}
use Rattle.world_late.proofs.Arrival.{any_arrival}
use Rattle.world_late.proofs.Late.{what_may_be_exchanged, calls_commute, later_replaces, late_lists, struck_lists}
use Rattle.send_rule.proofs.Shown.{screen_shows}
use Rattle.send_rule.proofs.Sparing.{sender_spares}
use Rattle.send_rule.proofs.Along.{sender_passes}
use Rattle.world_laws.proofs.Spikes.{spikes_stop_nothing}
use Rattle.world_laws.proofs.Walks.{walks_refused}
use Rattle.world_laws.proofs.Steps.{step-numbers}
use Rattle.world_laws.proofs.Holding.{step-holds}
use Rattle.world_laws.proofs.Records.{records_made}
use Rattle.world_laws.proofs.Shape.{record_shapes}
use Rattle.world_laws.proofs.Start.{fresh_world_lem, join_starts, tunings_by_index}
use Rattle.world_laws.proofs.Reading.{records_read_lem}
use Rattle.world_laws.proofs.Flight.{hooks_end_lem}
use Rattle.world_laws.proofs.Order.{rising_ids}
use Rattle.send_rule.proofs.Foreseen.{copy_foresees, copy_stays}
use Rattle.send_rule.proofs.Quiet.{message_renews, alone_quiet}
use Rattle.send_rule.proofs.QuietAmong.{as_alone_quiet}
use Rattle.send_alone.proofs.Copies.{copies_alone_lem}
use Rattle.world_numbers.proofs.Encoded.{comes_back}
use Rattle.world_numbers.proofs.Any.{any_comes_back}
use Rattle.world_buffers.proofs.Stands.{calls_stand}
use Rattle.world_buffers.proofs.Refusals.{refusals_leave}
use Rattle.world_buffers.proofs.Reached.{buffer_follows}
use Rattle.world_late_buffers.proofs.LateNumbers.{numbers_commute_lem, numbers_replaced_lem, late_numbers_lem}
use Rattle.send_buffers.proofs.Reached.{link_follows}
use Rattle.told_numbers.proofs.Records.{records_come_back, step-told}
use Rattle.told_numbers.proofs.Ways.{ways_come_back, zeros_behind_lem, search-told}
use Rattle.told_numbers.proofs.Shown.{shown-told, send-step-told, screen_told_lem, absent_told_lem}
use Rattle.told_numbers.proofs.Readings.{readings_told_lem}
use Rattle.told_numbers.proofs.Refused.{readers_leave_lem}
use Rattle.role_rule.proofs.Requests.{roles_hold}
use Rattle.search_rule.proofs.Laws.{search_reaches}
use Rattle.ponguriena.proofs.Standing.{roles_stand}
use Rattle.refusal_laws.proofs.Stays.{everything_stays_lem}
use Rattle.map_totals.proofs.Numbers.{area_numbers_lem}
use Rattle.map_totals.proofs.Counts.{counts-solid, clear_area}
use Rattle.map_totals.proofs.Changes.{change_writes, change_follows, change_reaches}
use Rattle.map_totals.proofs.Integers.{counts_entries, change_adds}
use Rattle.session_laws.proofs.Whole.{whole_output}
use Rattle.session_laws.proofs.Ends.{play_ends}
use Rattle.ponguriena_theorems.specs.Theorems.{Theorems, Shipped}

pub all_theorems : (n : ℕ) → Theorems n
all_theorems n = record {
  demand1 = demand1 n;
  answers = answers n;
  fresh_world = fresh_world_lem n;
  joins = join_starts n;
  step_numbers = step-numbers n;
  demand3 = demand3 n;
  made = records_made n;
  output = whole_output n;
  ends = play_ends n;
  back = comes_back n;
  any_back = any_comes_back n;
  marks = marks_follow n;
  releases = leave_releases n;
  held = held-present n;
  spikes = step_spikes n;
  stop_nothing = spikes_stop_nothing n;
  shown = screen_shows n;
  sparing = sender_spares n;
  along = sender_passes n;
  foreseen = copy_foresees n;
  stays = copy_stays n;
  renews = message_renews n;
  quiet = alone_quiet n;
  quiet_among = as_alone_quiet n;
  alone = copies_alone_lem n;
  roles = roles_hold n;
  readings = readings n;
  solo = solo n;
  rows = rows_tell n;
  independent = independent n;
  steps = counts_steps n;
  smallest = tells_smallest n;
  nobody = tells_nobody n;
  jumps = jumps_after_stay n;
  trial_calls = runs_by_calls n;
  inputs = inputs_stored n;
  trial_answers = answers_of_trials n;
  rows_back = rows_give_back n;
  ways = search_reaches n;
  hold = hook_hold_is n;
  step_holds = step-holds n;
  commute = calls_commute n;
  replace = later_replaces n;
  late = late_lists n;
  struck = struck_lists n;
}

pub shipped : Shipped
shipped = record {
  theorems = all_theorems seats;
  how_many = refl;
  cases = proved_cases;
  walks = walks_refused;
  rising = rising_ids;
  hooks_end = hooks_end_lem;
  tuning_index = tunings_by_index;
  shapes = record_shapes seats (omega arith);
  records_read = records_read_lem;
  stand = calls_stand;
  refusals = refusals_leave;
  buffers = buffer_follows;
  links = link_follows;
  records_back = records_come_back;
  step_told = step-told;
  ways_back = ways_come_back;
  zeros_behind = zeros_behind_lem;
  search_told = search-told;
  shown_told = shown-told;
  send_step_told = send-step-told;
  screen_told = screen_told_lem;
  absent_told = absent_told_lem;
  readings_told = readings_told_lem;
  readers_leave = readers_leave_lem;
  everything_stays = everything_stays_lem;
  by_role = roles_stand;
  round_trip = round_trip_lem;
  accepted = accepted;
  sizes = sizes_hold;
  none_begins = none_begins_lem;
  told_ends = told_ends_lem;
  worked_bytes = worked_bytes_lem;
  written = writes_records;
  lent_return = lent_return_lem;
  lent_lengths = lent_lengths_lem;
  worked_record = worked_record_lem;
  quarter = reads_a_quarter;
  reads = counts_reads;
  area_numbers = area_numbers_lem;
  solids = counts-solid;
  clear = clear_area;
  writes = change_writes;
  follows = change_follows;
  reaches = change_reaches;
  entries = counts_entries;
  adds = change_adds;
  towards = goes_towards;
  limits = trial_limits;
  entrants = entrants_lent;
  targets = targets_clamped;
  distances = distance_tiles;
  holding = holding;
  exchange = what_may_be_exchanged;
  arrival = any_arrival;
  numbers_commute = numbers_commute_lem;
  numbers_replaced = numbers_replaced_lem;
  late_numbers = late_numbers_lem;
}
