-- What is read of a screen's numbers is what the screen shows, and after an accepted step the records that it took. Assumes nothing.
use Prim.Native.Nat.{ℕ, ◌<◌}
use mathlib.Core.Bool.{Bool, true, false, cond, ◌&&◌, true≢false, and-true}
use mathlib.Core.List.{List, [], ◌∷◌, ◌++◌}
use mathlib.Core.Path.{◌≡◌, refl, sym, ap, ◌∙◌, subst}
use native.Mathlib.Omega.{arith}
use lib.Dec.{eqb}
use lib.IntN.{ℤ, pos}
use lib.ListN.{length}
use borrow.Author.Tests.{lt-ltb, eq-eqb, eqb-true, eqb-false}
use Rattle.base_turns.proofs.Tests.{either_way}
use Rattle.game_records.specs.Numbers.{core_count, core_numbers, core_in}
use Rattle.game_records.specs.declared.CharacterCore.{CharacterCore}
use Rattle.map_tiles.specs.declared.tiles.Sides.{Sides}
use Rattle.character.specs.Tick.{seats, slot_at}
use Rattle.character_laws.proofs.Slots.{replicate_every}
use Rattle.world.specs.Calls.{place_of}
use Rattle.world.specs.Demand3.{record_at, present_after}
use Rattle.world.specs.Removal.{ids_in, is_in}
use Rattle.world.specs.Run.{ran}
use Rattle.world.specs.Step.{step}
use Rattle.world.specs.declared.Published.{Published}
use Rattle.world.specs.declared.World.{World}
use Rattle.world.specs.declared.call.Call.{Call}
use Rattle.world.specs.declared.call.Call.TheVariants.{Step, Join, Leave, Input, Tune}
use Rattle.world.proofs.Demand1.{demand1}
use Rattle.world.proofs.Present.{step-present, present-next}
use Rattle.world.proofs.Seats.{by_test}
use Rattle.send_rule.specs.Send.{send, no_copy, copy_at, due, taken_at, step_copy}
use Rattle.send_rule.specs.Along.{renewed, copy_after, CallAlong}
use Rattle.send_rule.specs.Link.{Link, fresh_link, called, EveryCall, sent_on, messages}
use Rattle.send_rule.specs.Shown.{shown, StepShown, CallShown}
use Rattle.send_rule.specs.declared.Copy.{Copy}
use Rattle.send_rule.specs.declared.Passed.{Passed}
use Rattle.send_rule.specs.declared.Screen.{Screen}
use Rattle.send_rule.proofs.Along.{step-messages, sender_passes}
use Rattle.send_rule.proofs.Copies.{step_none}
use Rattle.send_rule.proofs.Linked.{Linked, linked_first, linked_next}
use Rattle.send_rule.proofs.Messages.{its_copy, message_of}
use Rattle.send_rule.proofs.Shown.{screen_shows}
use Rattle.world_numbers.specs.Encoding.{world_count, records_count}
use Rattle.world_numbers.specs.Decoding.{decoding}
use Rattle.world_numbers.proofs.Encoded.{decoding-encoding}
use Rattle.send_numbers.specs.Copies.{screen_count, screen_decoding}
use Rattle.send_numbers.specs.Passing.{passed_count}
use Rattle.world_buffers.specs.Buffers.{has}
use Rattle.world_buffers.specs.Readers.{ReadTold}
use Rattle.world_buffers.specs.Stepping.{StepBuffers, LeftByStep, step_in}
use Rattle.send_buffers.specs.Sends.{SenderBuffers, LeftBySendStep, has_room, send_step_in}
use Rattle.send_buffers.specs.Screens.{shown_in}
use Rattle.send_buffers.specs.Following.{LinkNumbers, Lent, link_numbers, sender_lent, link_left, link_left_all, called_all}
use Rattle.send_buffers.proofs.Fit.{Fit, received_fit, fit_back, fit_long, fresh_fit}
use Rattle.send_buffers.proofs.Reached.{link_follows}
use Rattle.send_buffers.proofs.Taken.{shown-no-seat, shown-none, shown-is}
use Rattle.told_numbers.specs.Records.{TellsStep}
use Rattle.told_numbers.specs.Shown.{TellsCore, ShownTold, TellsTaken, ScreenTold, SendStepTold, TellsAbsent, AbsentTold}
use Rattle.told_numbers.proofs.Records.{core_alone, accepted, step-told}

-- ---- on any numbers
record_told : (n : CharacterCore) (t : ReadTold) → t ≡ record { number = 0; numbers = core_numbers n } → TellsCore n t
record_told n t e = record { number = ap (λ (u : ReadTold). u.number) e; core = ap (λ (u : ReadTold). core_in u.numbers) e ∙ core_alone n }

pub shown-told : ShownTold
shown-told l id out h g =
    let k = place_of seats id in
    let z = screen_decoding seats l in
    record {
      there = λ q e. record_told (shown z k).core (shown_in l id out) (shown-is l id out h g k refl (core_numbers (shown z k).core) q e refl);
      absent = λ q e. shown-none l id out h g k refl q e;
      none = λ q. shown-no-seat l id out h g k refl q;
    }

-- ---- lists of calls
module _ (n : ℕ) (s : Sides) (ts : List ℕ) (P : Link → Call → Type 0) (c : Call) where
  -- what holds of every call holds of the last
  last_call : (cs : List Call) (l : Link) → EveryCall n s ts P l (cs ++ (c ∷ [])) → P (called_all n s ts l cs) c
  last_call [] l h = h.0
  last_call (d ∷ cs) l h = last_call cs (called n s ts l d) h.1

called_last : (n : ℕ) (s : Sides) (ts : List ℕ) (c : Call) (cs : List Call) (l : Link) → called_all n s ts l (cs ++ (c ∷ [])) ≡ called n s ts (called_all n s ts l cs) c
called_last n s ts c [] l = refl
called_last n s ts c (d ∷ cs) l = called_last n s ts c cs (called n s ts l d)

left_last : (s : Sides) (ts : List ℕ) (b : Lent) (c : Call) (cs : List Call) (x : LinkNumbers) → link_left_all s ts b x (cs ++ (c ∷ [])) ≡ link_left s ts b (link_left_all s ts b x cs) c
left_last s ts b c [] x = refl
left_last s ts b c (d ∷ cs) x = left_last s ts b c cs (link_left s ts b x d)

-- ---- a link that calls reach
module _ (s : Sides) (ts : List ℕ) where
  record Held (l : Link) : Type 0 where
    linked : Linked seats s ts l
    fit : Fit seats l.screen

  next-held : (l : Link) (c : Call) → Held l → Held (called seats s ts l c)
  next-held l c h = record { linked = linked_next seats s ts l c h.linked; fit = received_fit seats s ts (send seats s ts l.world l.copies c).passed l.screen h.fit }

  all_held : (cs : List Call) (l : Link) → Held l → Held (called_all seats s ts l cs)
  all_held [] l h = h
  all_held (c ∷ cs) l h = all_held cs (called seats s ts l c) (next-held l c h)

-- who is there after a step was there before it
before : (r b a : Bool) → a ≡ cond r false b → a ≡ true → b ≡ true
before true b a e f = absurd (true≢false (sym f ∙ e))
before false b a e f = sym e ∙ f

-- an accepted step through a sender is one on the world's numbers
module _ (s : Sides) (ts : List ℕ) (l : List ℤ) (t : StepBuffers) (b : SenderBuffers) where
  step_sent : (send_step_in s ts l t b).left.number ≡ 0 → (send_step_in s ts l t b).left ≡ step_in s ts l t
  unfolding send_step_in
  step_sent = by_test (λ (r : LeftBySendStep). r.left.number ≡ 0 → r.left ≡ step_in s ts l t) (has world_count l && has records_count t.records && has seats t.removed && has_room b) (λ e z. refl) (λ e z. absurd (omega arith))

  step-taken : (send_step_in s ts l t b).left.number ≡ 0 → (step seats (decoding seats l) s ts).number ≡ 0
  step-taken e = (accepted s ts l t (ap (λ (r : LeftByStep). r.number) (sym (step_sent e)) ∙ e)).number

pub send-step-told : SendStepTold
send-step-told s ts l t b e =
    let q = step_sent s ts l t b e in
    let w = decoding seats l in
    subst (λ (r : LeftByStep). TellsStep w (step seats w s ts) r.told) (sym q) (step-told s ts l t (ap (λ (r : LeftByStep). r.number) (sym q) ∙ e))

-- ---- nobody has a copy who isn't there
absent_join : (t b : Bool) → cond t true b ≡ false → b ≡ false
absent_join true b e = absurd (true≢false e)
absent_join false b e = e

absent_copy : (t b : Bool) (c : Copy) → (b ≡ false → c.kept ≡ false) → cond t false b ≡ false → (cond t no_copy c).kept ≡ false
absent_copy true b c f e = refl
absent_copy false b c f e = f e

module _ (n : ℕ) (s : Sides) (ts : List ℕ) where
  abbrev Absent : Link → Type 0
  Absent l = (k : ℕ) → k < n → (slot_at l.world.slots k).present ≡ false → (copy_at l.copies k).kept ≡ false

  module _ (l : Link) (h : Linked n s ts l) (f : Absent l) (k : ℕ) (q : k < n) where
    abbrev there : Bool
    there = (slot_at l.world.slots k).present

    abbrev copy : Copy
    copy = copy_at l.copies k

    -- no message of nobody
    step-absent : (step n l.world s ts).number ≡ 0 → there ≡ false → (renewed (messages k (sent_on n s ts l Step).passed) (step_copy n s ts l.world.tunings k copy)).kept ≡ false
    step-absent z e =
        let a = step n l.world s ts in
        let none : messages k (sent_on n s ts l Step).passed ≡ [] = step-messages n s ts l h z k q ∙ ap (λ (b : Bool). cond (b && due (its_copy n s ts l.world a l.copies k) (taken_at a k)) (message_of l.world a k ∷ []) []) e in
        ap (λ (ps : List Passed). (renewed ps (step_copy n s ts l.world.tunings k copy)).kept) none ∙ ap (λ (c : Copy). c.kept) (step_none n s ts l.world.tunings k copy (f k q e)) ∙ f k q e

    call-absent : (c : Call) → (ran n s ts l.world c).number ≡ 0 → present_after n k there (ran n s ts l.world c) c ≡ false → (copy_after n s ts l k (ran n s ts l.world c) copy c).kept ≡ false
    call-absent (Join id x y) z e = f k q (absent_join (eqb (place_of n id) k && eqb (ran n s ts l.world (Join id x y)).number 0) there e)
    call-absent (Leave id) z e = absent_copy (eqb (place_of n id) k) there copy (f k q) (sym (ap (λ (b : Bool). cond b false there) (ap (λ (b : Bool). eqb (place_of n id) k && b) (eq-eqb (ran n s ts l.world (Leave id)).number 0 z) ∙ and-true (eqb (place_of n id) k))) ∙ e)
    call-absent (Input id d x y j i) z e = f k q e
    call-absent (Tune index v) z e = f k q e
    call-absent Step z e = absent_copy (is_in k (ids_in (step n l.world s ts).removed)) there (renewed (messages k (sent_on n s ts l Step).passed) (step_copy n s ts l.world.tunings k copy)) (step-absent z) e

  next_absent : (l : Link) (c : Call) → Linked n s ts l → CallAlong n s ts l c → Absent l → Absent (called n s ts l c)
  next_absent l c h g f k q e =
      let m = (ran n s ts l.world c).number in
      either_way (eqb m 0)
      (λ t. let z = eqb-true m 0 t in ap (λ (d : Copy). d.kept) (g.copy z k q) ∙ call-absent l h f k q c z (sym (present-next n s ts l.world c h.settled k) ∙ e))
      (λ t. let z = eqb-false m 0 t in ap (λ (ds : List Copy). (copy_at ds k).kept) (g.kept z) ∙ f k q (ap (λ (w : World). (slot_at w.slots k).present) (sym (demand1 n s ts l.world c z)) ∙ e))

  all_absent : (cs : List Call) (l : Link) → Linked n s ts l → EveryCall n s ts (CallAlong n s ts) l cs → Absent l → Absent (called_all n s ts l cs)
  all_absent [] l h g f = f
  all_absent (c ∷ cs) l h g f = all_absent cs (called n s ts l c) (linked_next n s ts l c h) g.1 (next_absent l c h g.0 f)

  fresh_absent : Absent (fresh_link n)
  fresh_absent k q e = replicate_every (λ (c : Copy). c.kept ≡ false) n no_copy no_copy refl refl k

-- ---- the buffers of a link
module _ (s : Sides) (ts : List ℕ) (b : Lent) (cs : List Call) (out : List ℤ) (p : length b.told.records ≡ records_count) (q : length b.told.removed ≡ seats) (r : length b.passed ≡ passed_count) (g : length out ≡ core_count) where
  abbrev l : Link
  l = called_all seats s ts (fresh_link seats) cs

  abbrev m : Link
  m = called seats s ts l Step

  abbrev x : LinkNumbers
  x = link_left_all s ts b (link_numbers (fresh_link seats)) cs

  abbrev y : LinkNumbers
  y = link_left s ts b x Step

  x_is : x ≡ link_numbers l
  x_is = link_follows s ts b cs p q r

  y_is : y ≡ link_numbers m
  y_is = sym (left_last s ts b Step cs (link_numbers (fresh_link seats))) ∙ link_follows s ts b (cs ++ (Step ∷ [])) p q r ∙ ap link_numbers (called_last seats s ts Step cs (fresh_link seats))

  held : Held s ts l
  held = all_held s ts cs (fresh_link seats) (record { linked = linked_first seats s ts; fit = fresh_fit })

  after : Held s ts m
  after = next-held s ts l Step held

  world_is : decoding seats x.world ≡ l.world
  world_is = ap (λ (u : LinkNumbers). decoding seats u.world) x_is ∙ decoding-encoding seats l.world held.linked.settled

  next_is : decoding seats y.world ≡ m.world
  next_is = ap (λ (u : LinkNumbers). decoding seats u.world) y_is ∙ decoding-encoding seats m.world after.linked.settled

  screen_is : screen_decoding seats y.screen ≡ m.screen
  screen_is = ap (λ (u : LinkNumbers). screen_decoding seats u.screen) y_is ∙ fit_back m.screen after.fit

  screen_size : length y.screen ≡ screen_count
  screen_size = ap (λ (u : LinkNumbers). length u.screen) y_is ∙ fit_long m.screen after.fit

  taken-told : TellsTaken s ts b x out
  unfolding place_of
  taken-told e k h there =
      let w = l.world in
      let z = screen_decoding seats y.screen in
      let ok : (step seats w s ts).number ≡ 0 = ap (λ (v : World). (step seats v s ts).number) (sym world_is) ∙ step-taken s ts x.world b.told (sender_lent b x) e in
      let here : (slot_at m.world.slots k).present ≡ true = ap (λ (v : World). (slot_at v.slots k).present) (sym next_is) ∙ there in
      let was = before (is_in k (ids_in (step seats w s ts).removed)) (slot_at w.slots k).present (slot_at m.world.slots k).present (step-present seats s ts w held.linked.settled.seats k) here in
      let shows : StepShown seats s ts l = last_call seats s ts (CallShown seats s ts) Step cs (fresh_link seats) (screen_shows seats s ts (cs ++ (Step ∷ []))) refl ok in
      let own : shown z k ≡ record_at (step seats (decoding seats x.world) s ts).records k = ap (λ (v : Screen). shown v k) screen_is ∙ shows.still k h here ∙ ap (λ (v : World). record_at (step seats v s ts).records k) (sym world_is) in
      let kept : (shown z k).present ≡ true = ap (λ (v : Screen). (shown v k).present) screen_is ∙ ap (λ (u : Published). u.present) (shows.still k h here) ∙ shows.taken k h was in
      let place : k ≡ place_of seats (pos k) = rw (lt-ltb k seats h) in
      record_told (record_at (step seats (decoding seats x.world) s ts).records k).core (shown_in y.screen (pos k) out) (shown-is y.screen (pos k) out screen_size g k place (core_numbers (record_at (step seats (decoding seats x.world) s ts).records k).core) h kept (ap (λ (u : Published). core_numbers u.core) (sym own)))

  absence_told : TellsAbsent s ts b x out
  unfolding place_of
  absence_told k h e =
      let back : screen_decoding seats x.screen ≡ l.screen = ap (λ (u : LinkNumbers). screen_decoding seats u.screen) x_is ∙ fit_back l.screen held.fit in
      let size : length x.screen ≡ screen_count = ap (λ (u : LinkNumbers). length u.screen) x_is ∙ fit_long l.screen held.fit in
      let gone : (copy_at l.copies k).kept ≡ false = all_absent seats s ts cs (fresh_link seats) (linked_first seats s ts) (sender_passes seats s ts cs) (fresh_absent seats s ts) k h (ap (λ (v : World). (slot_at v.slots k).present) (sym world_is) ∙ e) in
      shown-none x.screen (pos k) out size g k (rw (lt-ltb k seats h)) h (ap (λ (v : Screen). (copy_at v.copies k).kept) (back ∙ held.linked.screen) ∙ gone)

pub screen_told_lem : ScreenTold
screen_told_lem = taken-told

pub absent_told_lem : AbsentTold
absent_told_lem = absence_told
