-- Send only surprises: what the sender passes along for each call on a world of n slots, and what a screen does with it. Definitions only.
use Rattle.std.specs.Prelude.{ℕ, ◌+◌, ◌-◌, ◌*◌, Bool, true, false, cond, not, ◌&&◌, ◌||◌, List, [], ◌∷◌, ◌++◌, map, eqb, ltb, ℤ, pos, length, get_or, take, set, replicate}
use Rattle.base_turns.specs.Turns.{fold}
use Rattle.game_refusals.specs.Refusals.{too_far}
use Rattle.game_records.specs.Numbers.{same_number, core_numbers}
use Rattle.game_records.specs.declared.CharacterCore.{CharacterCore}
use Rattle.game_records.specs.declared.PlayerInput.{PlayerInput}
use Rattle.game_tuning.specs.Tuning.{fresh_tunings, tuning_count}
use Rattle.map_tiles.specs.declared.tiles.Sides.{Sides}
use Rattle.character.specs.Records.{from_net}
use Rattle.character.specs.Slot.{no_input, empty_slot, joined_slot, with_character, with_input}
use Rattle.character.specs.Tick.{slot_at}
use Rattle.character.specs.declared.Slot.{Slot}
use Rattle.world.specs.Calls.{place_of}
use Rattle.world.specs.Demand3.{record_at}
use Rattle.world.specs.Removal.{ids_in, is_in}
use Rattle.world.specs.Run.{ran}
use Rattle.world.specs.Step.{no_core, step}
use Rattle.world.specs.declared.call.Call.{Call}
use Rattle.world.specs.declared.call.Call.TheVariants.{Join, Leave, Input, Step, Tune}
use Rattle.world.specs.Answered.{Stepped}
use Rattle.world.specs.declared.World.{World}
use Rattle.send_rule.specs.declared.Copy.{Copy}
use Rattle.send_rule.specs.declared.Passed.{Passed}
use Rattle.send_rule.specs.declared.Passed.TheVariants as passed
use Rattle.send_rule.specs.declared.Screen.{Screen}
use Rattle.send_rule.specs.declared.Item.{Item}
use Rattle.send_rule.specs.declared.Sending.{Sending}

-- ---- copies

-- no copy; also what an index past the end reads
abbrev pub no_copy : Copy
no_copy = record { kept = false; core = no_core; input = no_input; removed = false; refused = false; steps = 0 }

-- the copy of the seat k
abbrev pub copy_at : List Copy → ℕ → Copy
copy_at cs k = get_or cs k no_copy

-- made from a record and the input that the step used, on both sides
abbrev pub copy_of : CharacterCore → PlayerInput → Copy
copy_of core i = record { kept = true; core = core; input = i; removed = false; refused = false; steps = 0 }

-- the accepted step after a seat's last message that has a message whatever happens
abbrev pub most_steps : ℕ
most_steps = 150

-- one accepted step more, up to that one
abbrev pub counted : ℕ → ℕ
counted k = cond (ltb k most_steps) (k + 1) k

-- ---- a copy's step, in a world holding its seat alone

-- somebody with the copy's record and input
abbrev pub copy_slot : Copy → Slot
copy_slot c = let me = from_net c.core in with_input (with_character (joined_slot me.pos) me) c.input

-- the world of n slots that holds the seat k alone, as its copy has it
unfoldable pub small_world : ℕ → List ℤ → ℕ → Copy → World
small_world n tunings k c = record { slots = set (replicate n empty_slot) k (copy_slot c); tunings = tunings }

-- its step
unfoldable pub alone : ℕ → Sides → List ℕ → List ℤ → ℕ → Copy → Stepped
alone n s ts tunings k c = step n (small_world n tunings k c) s ts

-- the copy c with one accepted step more
abbrev pub with_step : Copy → CharacterCore → Bool → Bool → Copy
with_step c core removed refused = record { kept = true; core = core; input = c.input; removed = removed; refused = refused; steps = counted c.steps }

-- what that step leaves of the copy: the record that it took, or where it was refused the one before
abbrev pub stepped_to : ℕ → Copy → Stepped → Copy
stepped_to k c a =
    cond (eqb a.number 0)
    (with_step c (record_at a.records k).core (is_in k (ids_in a.removed)) false)
    (with_step c c.core false (eqb a.number too_far))

-- a copy that its own small world has removed stays with its last record
abbrev pub staying : Copy → Copy
staying c = with_step c c.core true false

-- a copy after an accepted step; where there is none, none
unfoldable pub step_copy : ℕ → Sides → List ℕ → List ℤ → ℕ → Copy → Copy
step_copy n s ts tunings k c = cond c.kept (cond c.removed (staying c) (stepped_to k c (alone n s ts tunings k c))) c

-- the copy of the seat k is stepped
abbrev pub step_turn : ℕ → Sides → List ℕ → List ℤ → ℕ → List Copy → List Copy
step_turn n s ts tunings k cs = set cs k (step_copy n s ts tunings k (copy_at cs k))

-- every copy is stepped, on both sides
unfoldable pub step_copies : ℕ → Sides → List ℕ → List ℤ → List Copy → List Copy
step_copies n s ts tunings cs = fold (step_turn n s ts tunings) n 0 cs

-- a leave or removal drops that seat's copy and touches no other, on both sides
abbrev pub dropped : List ℕ → List Copy → List Copy
dropped [] cs = cs
dropped (k ∷ ks) cs = dropped ks (set cs k no_copy)

-- ---- when a message is due

-- one by one
abbrev pub same_numbers : List ℤ → List ℤ → Bool
same_numbers [] [] = true
same_numbers (x ∷ xs) (y ∷ ys) = same_number x y && same_numbers xs ys
same_numbers [] (y ∷ ys) = false
same_numbers (x ∷ xs) [] = false

-- the same record: all fifteen numbers
unfoldable pub same_core : CharacterCore → CharacterCore → Bool
same_core a b = same_numbers (core_numbers a) (core_numbers b)

-- of a copy that this step has stepped, beside the true record: there is no copy, it was refused with 9, it is the 150th step, or the records differ
unfoldable pub due : Copy → CharacterCore → Bool
due c core = not c.kept || c.refused || eqb c.steps most_steps || not (same_core c.core core)

-- ---- the sender

-- its copies after a call, and what it passes along, in order
pub record Sent : Type 0 where
  pub copies : List Copy
  pub passed : List Passed

-- the record that a step took of the seat k, before removals
abbrev pub taken_at : Stepped → ℕ → CharacterCore
taken_at a k = (record_at a.records k).core

-- the input of k that a step on w used
abbrev pub used_at : World → ℕ → PlayerInput
used_at w k = (slot_at w.slots k).input

-- the message of k, which renews its copy, where somebody is there and it is due
abbrev pub send_turn : World → Stepped → ℕ → Sent → Sent
send_turn w a k m =
    cond ((slot_at w.slots k).present && due (copy_at m.copies k) (taken_at a k))
    (record { copies = set m.copies k (copy_of (taken_at a k) (used_at w k)); passed = m.passed ++ (passed.Message k (taken_at a k) (used_at w k) ∷ []) })
    m

-- for the accepted step a on w: a bare mark, then that step's messages by rising id
unfoldable pub send_messages : ℕ → Sides → List ℕ → World → Stepped → List Copy → Sent
send_messages n s ts w a cs = fold (send_turn w a) n 0 (record { copies = step_copies n s ts w.tunings cs; passed = passed.Mark ∷ [] })

-- then its removals
abbrev pub send_removals : List ℕ → Sent → Sent
send_removals ks m = record { copies = dropped ks m.copies; passed = m.passed ++ map passed.Removal ks }

-- nothing is passed along, and no copy changes
abbrev pub send_nothing : List Copy → Sent
send_nothing cs = record { copies = cs; passed = [] }

-- what an accepted call passes along; joins and inputs nothing
abbrev pub send_accepted : ℕ → Sides → List ℕ → World → List Copy → Call → Sent
send_accepted n s ts w cs (Join id x y) = send_nothing cs
send_accepted n s ts w cs (Leave id) = record { copies = dropped (place_of n id ∷ []) cs; passed = passed.Leave (place_of n id) ∷ [] }
send_accepted n s ts w cs (Input id d x y j h) = send_nothing cs
send_accepted n s ts w cs (Tune index z) = record { copies = cs; passed = passed.Tune (place_of tuning_count index) z ∷ [] }
send_accepted n s ts w cs Step = let a = step n w s ts in send_removals (ids_in a.removed) (send_messages n s ts w a cs)

-- what a call on w passes along; a refused one nothing
abbrev pub send : ℕ → Sides → List ℕ → World → List Copy → Call → Sent
send n s ts w cs c = cond (eqb (ran n s ts w c).number 0) (send_accepted n s ts w cs c) (send_nothing cs)

-- the most that one call passes along: a mark, and a message and a removal of each seat
abbrev pub most_passed : ℕ → ℕ
most_passed n = 1 + 2 * n

-- one thing passed along, in an array
abbrev pub item : Passed → Item
item p = record { passed = p }

-- things passed along in an array of n, with marks behind them
unfoldable pub filled : ℕ → List Passed → List Item
filled n ps = map item ps ++ replicate (n - length ps) (item passed.Mark)

-- the first k things of an array
abbrev pub first_among : ℕ → List Item → List Passed
first_among k is = map (λ i. i.passed) (take k is)

-- what is sent, with room for the most
abbrev pub sending_of : ℕ → Sent → Sending
sending_of n m = record { copies = m.copies; count = length m.passed; items = filled (most_passed n) m.passed }

-- ---- the screen

-- z with other copies
abbrev pub with_copies : Screen → List Copy → Screen
with_copies z cs = record { copies = cs; tunings = z.tunings }

-- on a mark it steps its own copies in the same manner, a message replaces one, a removal or leave drops one, a tuning is set
abbrev pub receive : ℕ → Sides → List ℕ → Screen → Passed → Screen
receive n s ts z passed.Mark = with_copies z (step_copies n s ts z.tunings z.copies)
receive n s ts z (passed.Message k core i) = with_copies z (set z.copies k (copy_of core i))
receive n s ts z (passed.Removal k) = with_copies z (dropped (k ∷ []) z.copies)
receive n s ts z (passed.Leave k) = with_copies z (dropped (k ∷ []) z.copies)
receive n s ts z (passed.Tune k v) = record { copies = z.copies; tunings = set z.tunings k v }

-- all that is passed along, in order
abbrev pub receive_all : ℕ → Sides → List ℕ → Screen → List Passed → Screen
receive_all n s ts z [] = z
receive_all n s ts z (p ∷ ps) = receive_all n s ts (receive n s ts z p) ps

-- ---- before any call

-- no copies yet
abbrev pub no_copies : ℕ → List Copy
no_copies n = replicate n no_copy

-- a screen with none, and fresh tunings
abbrev pub fresh_screen : ℕ → Screen
fresh_screen n = record { copies = no_copies n; tunings = fresh_tunings }
