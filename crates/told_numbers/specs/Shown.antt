-- What is read of a screen that is kept as numbers. Definitions only; proofs/Shown.antt proves it.
use Rattle.std.specs.Prelude.{ℕ, ◌≤◌, ◌<◌, true, false, List, ◌≡◌, ℤ, pos, length}
use Rattle.game_refusals.specs.Refusals.{bad_id, not_present}
use Rattle.game_records.specs.Numbers.{core_count, core_in}
use Rattle.game_records.specs.declared.CharacterCore.{CharacterCore}
use Rattle.map_tiles.specs.declared.tiles.Sides.{Sides}
use Rattle.character.specs.Tick.{seats, slot_at}
use Rattle.world.specs.Calls.{place_of}
use Rattle.world.specs.Demand3.{record_at}
use Rattle.world.specs.Step.{step}
use Rattle.world.specs.declared.call.Call.{Call}
use Rattle.world.specs.declared.call.Call.TheVariants.{Step}
use Rattle.send_rule.specs.Link.{fresh_link}
use Rattle.send_rule.specs.Shown.{shown}
use Rattle.send_rule.specs.declared.Screen.{Screen}
use Rattle.world_numbers.specs.Encoding.{records_count}
use Rattle.world_numbers.specs.Decoding.{decoding}
use Rattle.send_numbers.specs.Copies.{screen_count, screen_decoding}
use Rattle.send_numbers.specs.Passing.{passed_count}
use Rattle.world_buffers.specs.Readers.{ReadTold, untold}
use Rattle.world_buffers.specs.Stepping.{StepBuffers}
use Rattle.send_buffers.specs.Sends.{SenderBuffers, send_step_in}
use Rattle.send_buffers.specs.Screens.{shown_in}
use Rattle.send_buffers.specs.Following.{LinkNumbers, Lent, link_numbers, sender_lent, link_left, link_left_all}
use Rattle.told_numbers.specs.Records.{TellsStep}

-- t is accepted, and tells this record
pub record TellsCore (n : CharacterCore) (t : ReadTold) : Type 0 where
  pub number : t.number ≡ 0
  pub core : core_in t.numbers ≡ n

-- ---- on any numbers

-- what t tells of the seat k of the screen z: the record that it shows; 8 where it shows none, and 2 where there is no such seat, with the buffer as it was
pub record TellsShown (z : Screen) (k : ℕ) (out : List ℤ) (t : ReadTold) : Type 0 where
  pub there : k < seats → (shown z k).present ≡ true → TellsCore (shown z k).core t
  pub absent : k < seats → (shown z k).present ≡ false → t ≡ untold out not_present
  pub none : seats ≤ k → t ≡ untold out bad_id

-- of the screen that the numbers stand for
abbrev pub ShownTold : Type 0
ShownTold = (l : List ℤ) (id : ℤ) (out : List ℤ) → length l ≡ screen_count → length out ≡ core_count → TellsShown (screen_decoding seats l) (place_of seats id) out (shown_in l id out)

-- ---- a step through a sender

-- accepted, it tells what the step on the world's numbers tells
abbrev pub SendStepTold : Type 0
SendStepTold = (s : Sides) (ts : List ℕ) (l : List ℤ) (t : StepBuffers) (b : SenderBuffers) → let r = (send_step_in s ts l t b).left in r.number ≡ 0 → let w = decoding seats l in TellsStep w (step seats w s ts) r.told

-- on the buffers x: where the step was accepted, of everybody still there the screen tells the record that it took
abbrev pub TellsTaken : Sides → List ℕ → Lent → LinkNumbers → List ℤ → Type 0
TellsTaken s ts b x out =
    let y = link_left s ts b x Step in
    (send_step_in s ts x.world b.told (sender_lent b x)).left.number ≡ 0
    → (k : ℕ) → k < seats → (slot_at (decoding seats y.world).slots k).present ≡ true
    → TellsCore (record_at (step seats (decoding seats x.world) s ts).records k).core (shown_in y.screen (pos k) out)

-- P of the buffers after every list of calls from a fresh link, whatever the map, and of a buffer for a record
abbrev pub Everywhere : (Sides → List ℕ → Lent → LinkNumbers → List ℤ → Type 0) → Type 0
Everywhere P = (s : Sides) (ts : List ℕ) (b : Lent) (cs : List Call) (out : List ℤ) → length b.told.records ≡ records_count → length b.told.removed ≡ seats → length b.passed ≡ passed_count → length out ≡ core_count → P s ts b (link_left_all s ts b (link_numbers (fresh_link seats)) cs) out

abbrev pub ScreenTold : Type 0
ScreenTold = Everywhere TellsTaken

-- of nobody else: whoever isn't there is told as 8, after a step or any other call
abbrev pub TellsAbsent : Sides → List ℕ → Lent → LinkNumbers → List ℤ → Type 0
TellsAbsent s ts b x out = (k : ℕ) → k < seats → (slot_at (decoding seats x.world).slots k).present ≡ false → shown_in x.screen (pos k) out ≡ untold out not_present

abbrev pub AbsentTold : Type 0
AbsentTold = Everywhere TellsAbsent
