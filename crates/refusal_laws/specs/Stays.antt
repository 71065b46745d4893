-- A refused function of the C interface leaves every buffer and count that it was lent as it was, whatever their lengths and the role. Each line speaks of
-- the definition that the function's contract cites. Definitions only; proofs/Stays.antt proves it.
use Rattle.std.specs.Prelude.{ℕ, List, ◌≡◌, ℤ}
use Rattle.map_tiles.specs.declared.tiles.Sides.{Sides}
use Rattle.map_totals.specs.Calls.{build_in, area_in, change_in}
use Rattle.game_packed.specs.Lent.{pack_in, unpack_in}
use Rattle.character.specs.Tick.{seats}
use Rattle.world.specs.Run.{input_of}
use Rattle.world.specs.declared.call.Call.TheVariants.{Join, Leave, Input, Tune}
use Rattle.world.specs.declared.reading.Query.{Query}
use Rattle.world_buffers.specs.Buffers.{fresh_in, join_in, leave_in, input_in, tune_in}
use Rattle.world_buffers.specs.Readers.{read_in}
use Rattle.world_buffers.specs.Stepping.{StepBuffers, step_in}
use Rattle.send_rule.specs.Send.{no_copies, fresh_screen}
use Rattle.send_numbers.specs.Copies.{sender_count, screen_count, copies_encoding, screen_encoding}
use Rattle.send_buffers.specs.Sends.{SenderBuffers, fresh_buffer, send_in, send_step_in}
use Rattle.send_buffers.specs.Screens.{receive_in, shown_in}
use Rattle.search_calls.specs.Numbers.{search_in}
use Rattle.trial_rule.specs.Calls.{trial_in}
use Rattle.ponguriena.specs.ByRole.{call_as, step_as, read_in_as, search_as, send_as, send_step_as}

-- the number of a refusal
abbrev pub Refuses : ℕ → Type 0
Refuses k = k ≡ 0 → ⊥

-- the twenty-four functions that are lent something to write; the four readers are one line
pub record EverythingStays : Type 0 where
  -- functions on a world
  pub fresh : (l : List ℤ) → let a = fresh_in l in Refuses a.number → a.world ≡ l
  pub join : (role : ℤ) (s : Sides) (ts : List ℕ) (l : List ℤ) (id x y : ℤ) → let a = call_as role (Join id x y) l (join_in s ts l id x y) in Refuses a.number → a.world ≡ l
  pub leave : (role : ℤ) (l : List ℤ) (id : ℤ) → let a = call_as role (Leave id) l (leave_in l id) in Refuses a.number → a.world ≡ l
  pub input : (role : ℤ) (l : List ℤ) (id direction x y jump hook : ℤ) → let a = call_as role (Input id direction x y jump hook) l (input_in l id (input_of direction x y jump hook)) in Refuses a.number → a.world ≡ l
  pub tune : (role : ℤ) (l : List ℤ) (index z : ℤ) → let a = call_as role (Tune index z) l (tune_in l index z) in Refuses a.number → a.world ≡ l
  pub step : (role : ℤ) (s : Sides) (ts : List ℕ) (l : List ℤ) (t : StepBuffers) → let a = step_as role l t (step_in s ts l t) in Refuses a.number → (a.world ≡ l) × (a.told ≡ t)
  pub reads : (role : ℤ) (q : Query) (l out : List ℤ) → let a = read_in_as role q out (read_in q l out) in Refuses a.number → a.numbers ≡ out
  pub search : (role : ℤ) (s : Sides) (ts : List ℕ) (l : List ℤ) (id x y : ℤ) (out : List ℤ) → let a = search_as role out (search_in s ts l id x y out) in Refuses a.number → a.numbers ≡ out
  -- functions on a sender or a screen
  pub sender_fresh : (l : List ℤ) → let a = fresh_buffer sender_count (copies_encoding (no_copies seats)) l in Refuses a.number → a.numbers ≡ l
  pub screen_fresh : (l : List ℤ) → let a = fresh_buffer screen_count (screen_encoding (fresh_screen seats)) l in Refuses a.number → a.numbers ≡ l
  pub send_leave : (role : ℤ) (l : List ℤ) (id : ℤ) (b : SenderBuffers) → let a = send_as role (Leave id) l b (send_in (Leave id) (leave_in l id) l b) in Refuses a.left.number → (a.left.world ≡ l) × (a.sent ≡ b)
  pub send_tune : (role : ℤ) (l : List ℤ) (index z : ℤ) (b : SenderBuffers) → let a = send_as role (Tune index z) l b (send_in (Tune index z) (tune_in l index z) l b) in Refuses a.left.number → (a.left.world ≡ l) × (a.sent ≡ b)
  pub send_step : (role : ℤ) (s : Sides) (ts : List ℕ) (l : List ℤ) (t : StepBuffers) (b : SenderBuffers) → let a = send_step_as role l t b (send_step_in s ts l t b) in Refuses a.left.number → (a.left.world ≡ l) × (a.left.told ≡ t) × (a.sent ≡ b)
  pub receive : (s : Sides) (ts : List ℕ) (l passed : List ℤ) (used : ℕ) → let a = receive_in s ts l passed used in Refuses a.number → (a.screen ≡ l) × (a.used ≡ used)
  pub shown : (l : List ℤ) (id : ℤ) (out : List ℤ) → let a = shown_in l id out in Refuses a.number → a.numbers ≡ out
  -- functions without a world
  pub pack : (l : List ℤ) (bytes : List ℕ) (k : ℕ) → let a = pack_in l bytes k in Refuses a.number → (a.bytes ≡ bytes) × (a.count ≡ k)
  pub unpack : (bytes : List ℕ) (l : List ℤ) (used : ℕ) → let a = unpack_in bytes l used in Refuses a.number → (a.numbers ≡ l) × (a.used ≡ used)
  pub area_build : (s : Sides) (ts totals : List ℕ) → let a = build_in s ts totals in Refuses a.number → a.totals ≡ totals
  pub area_count : (s : Sides) (ts totals : List ℕ) (left top columns rows : ℤ) (k : ℕ) → let a = area_in s ts totals left top columns rows k in Refuses a.number → a.count ≡ k
  pub area_change : (s : Sides) (ts totals : List ℕ) (column row : ℤ) (byte : ℕ) → let a = change_in s ts totals column row byte in Refuses a.number → (a.tiles ≡ ts) × (a.totals ≡ totals)
  pub trial : (s : Sides) (ts : List ℕ) (joins targets tunings : List ℤ) (steps : ℤ) (result : List ℤ) → let a = trial_in seats s ts joins targets tunings steps result in Refuses a.number → a.result ≡ result
