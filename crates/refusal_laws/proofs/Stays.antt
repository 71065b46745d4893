-- A refused function of the C interface leaves everything that it was lent. Assumes nothing.
use Prim.Native.Nat.{ℕ}
use mathlib.Core.Bool.{Bool, true, false, cond, ◌&&◌}
use mathlib.Core.List.{List, []}
use mathlib.Core.Path.{◌≡◌, refl, ◌∙◌}
use lib.Dec.{eqb, ltb}
use lib.IntN.{ℤ, pos}
use lib.ListN.{length, set}
use borrow.Author.Tests.{ltb-true, eqb-true, eq-eqb}
use Rattle.std.specs.Prelude.{Ok, Err}
use Rattle.base_turns.specs.Turns.{Turn, more, stop}
use Rattle.base_turns.proofs.Tests.{both}
use Rattle.game_refusals.specs.Refusals.{bad_length}
use Rattle.game_packed.specs.Lent.{LeftPacked, LeftUnpacked, left_unpacked, pack_in, unpack_in}
use Rattle.game_packed.specs.Packed.{most_packed}
use Rattle.game_packed.specs.Unpacked.{Unpacked, unpacked}
use Rattle.game_records.specs.Numbers.{core_count}
use Rattle.game_tuning.specs.Tuning.{tuning_count, may_tune}
use Rattle.map_tiles.specs.Map.{sides_of, is_map, count}
use Rattle.map_tiles.specs.declared.tiles.Sides.{Sides}
use Rattle.map_totals.specs.Calls.{on_map, LeftTotals, LeftCount, LeftChange, is_area, is_totals, build_in, area_in, changed, change_in}
use Rattle.character.specs.Tick.{seats}
use Rattle.world.specs.Calls.{refused, accepted, place_of, if_present, vacate, leave, tune}
use Rattle.world.specs.Run.{input_of, ran}
use Rattle.world.specs.Step.{step}
use Rattle.world.specs.World.{with_tuning}
use Rattle.world.specs.declared.World.{World}
use Rattle.world.specs.declared.call.Call.{Call}
use Rattle.world.specs.declared.call.Call.TheVariants.{Join, Leave, Input, Step, Tune}
use Rattle.world.specs.declared.reading.Query.{Query}
use Rattle.world.proofs.Seats.{by_test}
use Rattle.role_rule.specs.Roles.{may_ask}
use Rattle.role_rule.specs.declared.Ask.TheVariants as ask
use Rattle.world_numbers.specs.Encoding.{world_count, records_count}
use Rattle.world_numbers.specs.Decoding.{decoding}
use Rattle.world_buffers.specs.Buffers.{has, LeftWorld, refused_in, accepted_in, is_there, fresh_in, join_in, leave_in, input_in, tune_in}
use Rattle.world_buffers.specs.Leaving.{vacate_in}
use Rattle.world_buffers.specs.Readers.{ReadTold, read_in}
use Rattle.world_buffers.specs.Stepping.{StepBuffers, LeftByStep, left_by_step, step_in}
use Rattle.world_buffers.proofs.Refusals.{refusals_leave}
use Rattle.world_buffers.proofs.Stands.{there}
use Rattle.send_rule.specs.Send.{no_copies, fresh_screen}
use Rattle.send_numbers.specs.Reading.{PassedRead, read_passed}
use Rattle.send_numbers.specs.Copies.{sender_count, screen_count, copies_encoding, screen_encoding}
use Rattle.std.specs.Prelude.{Ok, Err}
use Rattle.send_buffers.specs.Sends.{LeftIn, fresh_buffer, SenderBuffers, has_room, sent_for, passes, passed_in, LeftBySend, send_in, LeftBySendStep, send_step_in}
use Rattle.send_buffers.specs.Screens.{LeftByReceive, take_in, receive_in}
use Rattle.send_buffers.proofs.Kept.{sent_left}
use Rattle.search_calls.specs.Numbers.{search_in}
use Rattle.told_numbers.proofs.Refused.{readers_leave_lem}
use Rattle.trial_rule.specs.Calls.{are_whole, entrants, tuning_rows, trial_fault, LeftTrial, trial_left, trial_in}
use Rattle.trial_rule.specs.Trial.{trial}
use Rattle.trial_rule.specs.declared.Tried.{Tried}
use Rattle.ponguriena.specs.ByRole.{call_as, step_as, read_in_as, search_as, send_as, send_step_as}
use Rattle.refusal_laws.specs.Stays.{Refuses, EverythingStays}

-- ---- the calls on a world

-- what a step is lent, where a call is no step
nothing : StepBuffers
nothing = record { records = []; removed = []; count = 0 }

module _ (role : ℤ) (l : List ℤ) where
  abbrev Kept : LeftWorld → Type 0
  Kept a = Refuses a.number → a.world ≡ l

  called : (c : Call) (a : LeftWorld) → Kept a → Kept (call_as role c l a)
  called c a h = by_test Kept (may_ask role (ask.Call c)) (λ e. h) (λ e z. refl)

fresh_stays : (l : List ℤ) → let a = fresh_in l in Refuses a.number → a.world ≡ l
unfolding fresh_in
fresh_stays l = by_test (λ (a : LeftWorld). Refuses a.number → a.world ≡ l) (has world_count l) (λ e z. absurd (z refl)) (λ e z. refl)

step_stays : (role : ℤ) (s : Sides) (ts : List ℕ) (l : List ℤ) (t : StepBuffers) → let a = step_as role l t (step_in s ts l t) in Refuses a.number → (a.world ≡ l) × (a.told ≡ t)
step_stays role s ts l t = by_test (λ (a : LeftByStep). Refuses a.number → (a.world ≡ l) × (a.told ≡ t)) (may_ask role (ask.Call Step)) (λ e. refusals_leave s ts t l Step) (λ e z. (refl, refl))

-- ---- reads and the search
reads_stay : (role : ℤ) (q : Query) (l out : List ℤ) → let a = read_in_as role q out (read_in q l out) in Refuses a.number → a.numbers ≡ out
reads_stay role q l out = by_test (λ (a : ReadTold). Refuses a.number → a.numbers ≡ out) (may_ask role (ask.Read q)) (λ e. readers_leave_lem.reads q l out) (λ e z. refl)

search_stays : (role : ℤ) (s : Sides) (ts : List ℕ) (l : List ℤ) (id x y : ℤ) (out : List ℤ) → let a = search_as role out (search_in s ts l id x y out) in Refuses a.number → a.numbers ≡ out
search_stays role s ts l id x y out = by_test (λ (a : ReadTold). Refuses a.number → a.numbers ≡ out) (may_ask role (ask.Call Step)) (λ e. readers_leave_lem.searches s ts l id x y out) (λ e z. refl)

-- ---- sending
buffer_stays : (n : ℕ) (new l : List ℤ) → let a = fresh_buffer n new l in Refuses a.number → a.numbers ≡ l
unfolding fresh_buffer
buffer_stays n new l = by_test (λ (a : LeftIn). Refuses a.number → a.numbers ≡ l) (has n l) (λ e z. absurd (z refl)) (λ e z. refl)

-- on the numbers of a world a leave and a tune answer as on the world that they stand for
module _ (l : List ℤ) (long : length l ≡ world_count) where
  abbrev w : World
  w = decoding seats l

  leave_number : (id : ℤ) → (leave_in l id).number ≡ (leave seats w id).number
  unfolding leave_in leave
  leave_number id = rw (eq-eqb (length l) world_count long) (go (ltb k seats) refl)
    where
      k : ℕ
      k = place_of seats id

      on : (c : Bool) → (cond c (accepted_in (vacate_in l k)) (refused_in l 8)).number ≡ (cond c (accepted (vacate w k)) (refused w 8)).number
      on true = refl
      on false = refl

      go : (b : Bool) → ltb k seats ≡ b → (cond b (cond (is_there l k) (accepted_in (vacate_in l k)) (refused_in l 8)) (refused_in l 2)).number ≡ (cond b (if_present w k (vacate w k)) (refused w 2)).number
      go true e = rw (there l long k (ltb-true k seats e)) (on (is_there l k))
      go false e = refl

  tune_number : (index z : ℤ) → (tune_in l index z).number ≡ (tune w index z).number
  unfolding tune_in tune
  tune_number index z = rw (eq-eqb (length l) world_count long) (go (ltb k tuning_count) (may_tune k z))
    where
      k : ℕ
      k = place_of tuning_count index

      go : (b c : Bool) → (cond b (cond c (accepted_in (set l k z)) (refused_in l 16)) (refused_in l 3)).number ≡ (cond b (cond c (accepted (with_tuning w k z)) (refused w 16)) (refused w 3)).number
      go true true = refl
      go true false = refl
      go false c = refl

-- a call that leaves `left` without a sender
module _ (role : ℤ) (l : List ℤ) (b : SenderBuffers) where
  abbrev KeptBoth : LeftBySend → Type 0
  KeptBoth a = Refuses a.left.number → (a.left.world ≡ l) × (a.sent ≡ b)

  send_stays : (c : Call) (left : LeftWorld) → (Refuses left.number → left.world ≡ l) → (length l ≡ world_count → left.number ≡ (ran seats (sides_of 0 0) [] (decoding seats l) c).number) → KeptBoth (send_as role c l b (send_in c left l b))
  unfolding send_in passed_in
  send_stays c left h same = by_test KeptBoth (may_ask role (ask.Call c)) (λ e. go (passes l b) refl) (λ e z. (refl, refl))
    where
      go : (r : Bool) → passes l b ≡ r → KeptBoth (record { left = cond r left (refused_in l bad_length); sent = cond r (sent_for (sides_of 0 0) [] c l b) b })
      go true e z = (h z, sent_left b _ _ (λ q. z (same (eqb-true (length l) world_count (both (has world_count l) (has_room b) e).0) ∙ q)))
      go false e z = (refl, refl)

-- an accepted step of the world is one of its numbers
step_number : (s : Sides) (ts : List ℕ) (l : List ℤ) (t : StepBuffers) → has world_count l && has records_count t.records && has seats t.removed ≡ true → (step seats (decoding seats l) s ts).number ≡ 0 → (step_in s ts l t).number ≡ 0
unfolding step_in left_by_step
step_number s ts l t e z = rw (e, eq-eqb (step seats (decoding seats l) s ts).number 0 z)

send_step_stays : (role : ℤ) (s : Sides) (ts : List ℕ) (l : List ℤ) (t : StepBuffers) (b : SenderBuffers) → let a = send_step_as role l t b (send_step_in s ts l t b) in Refuses a.left.number → (a.left.world ≡ l) × (a.left.told ≡ t) × (a.sent ≡ b)
unfolding send_step_in
send_step_stays role s ts l t b = by_test KeptAll (may_ask role (ask.Call Step)) (λ e. by_test KeptAll (fits && has_room b) made (λ f z. (refl, refl, refl))) (λ e z. (refl, refl, refl))
  where
    KeptAll : LeftBySendStep → Type 0
    KeptAll a = Refuses a.left.number → (a.left.world ≡ l) × (a.left.told ≡ t) × (a.sent ≡ b)

    fits : Bool
    fits = has world_count l && has records_count t.records && has seats t.removed

    made : fits && has_room b ≡ true → KeptAll (record { left = step_in s ts l t; sent = sent_for s ts Step l b })
    made f z = let r = refusals_leave s ts t l Step z in (r.0, r.1, sent_left b _ _ (λ q. z (step_number s ts l t (both fits (has_room b) f).0 q)))

receive_stays : (s : Sides) (ts : List ℕ) (l ps : List ℤ) (used : ℕ) → let a = receive_in s ts l ps used in Refuses a.number → (a.screen ≡ l) × (a.used ≡ used)
unfolding receive_in take_in
receive_stays s ts l ps used = by_test KeptScreen (has screen_count l) (λ e. taken (read_passed seats ps)) (λ e z. (refl, refl))
  where
    KeptScreen : LeftByReceive → Type 0
    KeptScreen a = Refuses a.number → (a.screen ≡ l) × (a.used ≡ used)

    taken : (p : PassedRead) → KeptScreen (take_in s ts l used p)
    taken (Err refusal) z = (refl, refl)
    taken (Ok (p, k)) z = absurd (z refl)

-- ---- no world
pack_stays : (l : List ℤ) (bytes : List ℕ) (k : ℕ) → let a = pack_in l bytes k in Refuses a.number → (a.bytes ≡ bytes) × (a.count ≡ k)
unfolding pack_in
pack_stays l bytes k = by_test (λ (a : LeftPacked). Refuses a.number → (a.bytes ≡ bytes) × (a.count ≡ k)) (eqb (length l) core_count && eqb (length bytes) most_packed) (λ e z. absurd (z refl)) (λ e z. (refl, refl))

unpack_stays : (bytes : List ℕ) (l : List ℤ) (used : ℕ) → let a = unpack_in bytes l used in Refuses a.number → (a.numbers ≡ l) × (a.used ≡ used)
unfolding unpack_in
unpack_stays bytes l used = by_test KeptRecord (eqb (length l) core_count) (λ e. read (unpacked bytes)) (λ e z. (refl, refl))
  where
    KeptRecord : LeftUnpacked → Type 0
    KeptRecord a = Refuses a.number → (a.numbers ≡ l) × (a.used ≡ used)

    read : (u : Unpacked) → KeptRecord (left_unpacked l used u)
    read (Err fault) z = (refl, refl)
    read (Ok told) z = absurd (z refl)

-- refused with 1 or 14, or done
on_map_lem : {A : Type 0} (P : A → Type 0) (s : Sides) (ts : List ℕ) (fits : Bool) (refused : ℕ → A) (a : A) → ((k : ℕ) → P (refused k)) → P a → P (on_map s ts fits refused a)
on_map_lem P s ts fits refused a f h = by_test P (is_map s ts) (λ e. by_test P fits (λ g. h) (λ g. f 14)) (λ e. f 1)

build_stays : (s : Sides) (ts totals : List ℕ) → let a = build_in s ts totals in Refuses a.number → a.totals ≡ totals
unfolding build_in
build_stays s ts totals = on_map_lem (λ (a : LeftTotals). Refuses a.number → a.totals ≡ totals) s ts (is_totals s totals) (λ n. record { number = n; totals = totals }) _ (λ n z. refl) (λ z. absurd (z refl))

count_stays : (s : Sides) (ts totals : List ℕ) (left top columns rows : ℤ) (k : ℕ) → let a = area_in s ts totals left top columns rows k in Refuses a.number → a.count ≡ k
unfolding area_in
count_stays s ts totals left top columns rows k = on_map_lem (λ (a : LeftCount). Refuses a.number → a.count ≡ k) s ts (is_totals s totals && is_area s left top columns rows) (λ n. record { number = n; count = k }) _ (λ n z. refl) (λ z. absurd (z refl))

change_stays : (s : Sides) (ts totals : List ℕ) (column row : ℤ) (byte : ℕ) → let a = change_in s ts totals column row byte in Refuses a.number → (a.tiles ≡ ts) × (a.totals ≡ totals)
unfolding change_in changed
change_stays s ts totals column row byte = on_map_lem (λ (a : LeftChange). Refuses a.number → (a.tiles ≡ ts) × (a.totals ≡ totals)) s ts (is_totals s totals && is_area s column row (pos 1) (pos 1)) (λ n. record { number = n; tiles = ts; totals = totals }) _ (λ n z. (refl, refl)) (λ z. absurd (z refl))

trial_stays : (s : Sides) (ts : List ℕ) (joins targets tunings : List ℤ) (steps : ℤ) (result : List ℤ) → let a = trial_in seats s ts joins targets tunings steps result in Refuses a.number → a.result ≡ result
unfolding trial_in
trial_stays s ts joins targets tunings steps result =
    by_test KeptResult (are_whole seats (length joins) (length targets) (length tunings) (length result))
    (λ a. by_test KeptResult (is_map s ts) (λ b. by_test KeptResult (eqb (trial_fault tunings steps) 0) (λ c. ran-or-refused (trial seats s ts (entrants joins targets) (tuning_rows tunings) (count steps))) (λ c z. refl)) (λ b z. refl))
    (λ a z. refl)
  where
    KeptResult : LeftTrial → Type 0
    KeptResult a = Refuses a.number → a.result ≡ result

    ran-or-refused : (a : Turn (List Tried) ℕ) → KeptResult (trial_left result a)
    ran-or-refused (more rs) z = absurd (z refl)
    ran-or-refused (stop k) z = refl

pub everything_stays_lem : EverythingStays
everything_stays_lem = record {
  fresh = fresh_stays;
  join = λ role s ts l id x y. called role l (Join id x y) (join_in s ts l id x y) (λ z. (refusals_leave s ts nothing l (Join id x y) z).0);
  leave = λ role l id. called role l (Leave id) (leave_in l id) (λ z. (refusals_leave (sides_of 0 0) [] nothing l (Leave id) z).0);
  input = λ role l id direction x y jump hook. called role l (Input id direction x y jump hook) (input_in l id (input_of direction x y jump hook)) (λ z. (refusals_leave (sides_of 0 0) [] nothing l (Input id direction x y jump hook) z).0);
  tune = λ role l index z. called role l (Tune index z) (tune_in l index z) (λ q. (refusals_leave (sides_of 0 0) [] nothing l (Tune index z) q).0);
  step = step_stays;
  reads = reads_stay;
  search = search_stays;
  sender_fresh = buffer_stays sender_count (copies_encoding (no_copies seats));
  screen_fresh = buffer_stays screen_count (screen_encoding (fresh_screen seats));
  send_leave = λ role l id b. send_stays role l b (Leave id) (leave_in l id) (λ z. (refusals_leave (sides_of 0 0) [] nothing l (Leave id) z).0) (λ h. leave_number l h id);
  send_tune = λ role l index z b. send_stays role l b (Tune index z) (tune_in l index z) (λ q. (refusals_leave (sides_of 0 0) [] nothing l (Tune index z) q).0) (λ h. tune_number l h index z);
  send_step = send_step_stays;
  receive = receive_stays;
  shown = readers_leave_lem.screens;
  pack = pack_stays;
  unpack = unpack_stays;
  area_build = build_stays;
  area_count = count_stays;
  area_change = change_stays;
  trial = trial_stays;
}
