-- A call or a read beyond its role counts for nothing, for every number of slots, every world and every list. Assumes nothing.
use Prim.Native.Nat.{ℕ, ◌<◌}
use native.Mathlib.Omega.{arith}
use mathlib.Core.Bool.{Bool, true, false, cond, true≢false}
use mathlib.Core.List.{List, [], ◌∷◌, map}
use mathlib.Core.Path.{◌≡◌, refl, sym, ap, ◌∙◌, subst}
use lib.Dec.{ltb}
use lib.IntN.{ℤ, pos, negsuc}
use lib.Seq.{set-get_or, get_or-set_same}
use borrow.Author.Tests.{eqb-true, eq-eqb}
use Rattle.game_refusals.specs.Refusals.{not_allowed}
use Rattle.game_records.specs.declared.PlayerInput.{PlayerInput}
use Rattle.map_tiles.specs.declared.tiles.Sides.{Sides}
use Rattle.character.specs.Slot.{with_input}
use Rattle.character.specs.Tick.{slot_at, nowhere}
use Rattle.character.specs.declared.Slot.{Slot}
use Rattle.world.specs.Calls.{place_of, input}
use Rattle.world.specs.Readers.{read_of}
use Rattle.world.specs.Run.{input_of, ran, after, told_by, told}
use Rattle.world.specs.Step.{step_refused}
use Rattle.world.specs.declared.call.Call.{Call}
use Rattle.world.specs.declared.call.Call.TheVariants.{Join, Leave, Input, Step, Tune}
use Rattle.world.specs.declared.reading.Query.TheVariants as query
use Rattle.world.specs.ReadAnswer as reading
use Rattle.world.specs.Answered.{Stepped}
use Rattle.world.specs.declared.World.{World}
use Rattle.world.proofs.Outcomes.{input_outcome, outcome_kept}
use Rattle.world.proofs.Seats.{present_within}
use Rattle.role_rule.specs.Roles.{is_id, allowed}
use Rattle.role_rule.specs.Requests.{Request, Said, called, read, Reply, reply_to, replied, world_after, said_to, is_allowed, struck_out, said_to_others, refused_as, with_stored, by_referee, InputFor, own_input, ShownRead, record_of, mark_of, Roles}
use Rattle.role_rule.specs.declared.Ask.{Ask}
use Rattle.role_rule.specs.declared.Ask.TheVariants as ask
use Rattle.role_rule.specs.declared.Role.{Role}
use Rattle.role_rule.specs.declared.Role.TheVariants.{Referee, Seat, Board}

module _ (n : ℕ) (s : Sides) (ts : List ℕ) where
  -- ---- beyond its role
  beyond : (w : World) (role : Role) (a : Ask) → allowed role a ≡ false → reply_to n s ts w role a ≡ refused_as n w a
  beyond w role (ask.Call c) e = ap (λ (b : Bool). let a = cond b (ran n s ts w c) (step_refused n w not_allowed) in record { said = called (told_by a); world = a.world }) e
  beyond w role (ask.Read q) e = ap (λ (b : Bool). record { said = read (cond b (read_of n w q) (reading.Refused not_allowed)); world = w }) e

  refused_world : (w : World) (a : Ask) → (refused_as n w a).world ≡ w
  refused_world w (ask.Call c) = refl
  refused_world w (ask.Read q) = refl

  beyond_world : (w : World) (r : Request) → is_allowed r ≡ false → (replied n s ts w r).world ≡ w
  beyond_world w r e = ap (λ (a : Reply). a.world) (beyond w r.role r.ask e) ∙ refused_world w r.ask

  within : (w : World) (role : Role) (a : Ask) → allowed role a ≡ true → reply_to n s ts w role a ≡ reply_to n s ts w Referee a
  within w role (ask.Call c) e = ap (λ (b : Bool). let a = cond b (ran n s ts w c) (step_refused n w not_allowed) in record { said = called (told_by a); world = a.world }) e
  within w role (ask.Read q) e = ap (λ (b : Bool). record { said = read (cond b (read_of n w q) (reading.Refused not_allowed)); world = w }) e

  -- ---- struck out
  world_struck : (rs : List Request) (w : World) → world_after n s ts w rs ≡ world_after n s ts w (struck_out rs)
  world_struck [] w = refl
  world_struck (r ∷ rs) w = go (is_allowed r) refl (world_struck rs)
    where
      go : (b : Bool) → is_allowed r ≡ b → ((u : World) → world_after n s ts u rs ≡ world_after n s ts u (struck_out rs)) → world_after n s ts (replied n s ts w r).world rs ≡ world_after n s ts w (cond b (r ∷ struck_out rs) (struck_out rs))
      go true e h = h (replied n s ts w r).world
      go false e h = ap (λ (u : World). world_after n s ts u rs) (beyond_world w r e) ∙ h w

  said_struck : (rs : List Request) (w : World) → said_to_others n s ts w rs ≡ said_to n s ts w (struck_out rs)
  said_struck [] w = refl
  said_struck (r ∷ rs) w = go (is_allowed r) refl (said_struck rs)
    where
      rest : List Said
      rest = said_to_others n s ts (replied n s ts w r).world rs

      go : (b : Bool) → is_allowed r ≡ b → ((u : World) → said_to_others n s ts u rs ≡ said_to n s ts u (struck_out rs)) → cond b ((replied n s ts w r).said ∷ rest) rest ≡ said_to n s ts w (cond b (r ∷ struck_out rs) (struck_out rs))
      go true e h = ap (λ (us : List Said). (replied n s ts w r).said ∷ us) (h (replied n s ts w r).world)
      go false e h = ap (λ (u : World). said_to_others n s ts u rs) (beyond_world w r e) ∙ h w

  -- ---- a seat
  abbrev Own : ℕ → World → World → Type 0
  Own k w u = u ≡ with_stored w k (slot_at u.slots k).input

  own_same : (k : ℕ) (w : World) → Own k w w
  own_same k w = sym (ap (λ (ss : List Slot). record { slots = ss; tunings = w.tunings }) (set-get_or w.slots k nowhere))

  -- somebody is there, so the input is stored
  own_stored : (k : ℕ) (w : World) (i : PlayerInput) → (slot_at w.slots k).present ≡ true → Own k w (with_stored w k i)
  own_stored k w i p = ap (with_stored w k) (sym (ap (λ (x : Slot). x.input) (get_or-set_same w.slots k (with_input (slot_at w.slots k) i) nowhere (present_within w.slots k p))))

  -- an id that has a slot is its place
  place_own : (k : ℕ) (id : ℤ) → is_id k id ≡ true → place_of n id < n → place_of n id ≡ k
  unfolding place_of
  place_own k (pos j) e l = go (ltb j n) l
    where
      go : (b : Bool) → cond b j n < n → cond b j n ≡ k
      go true q = eqb-true j k e
      go false q = absurd (omega arith)
  place_own k (negsuc j) e l = absurd (true≢false (sym e))

  input_own : (k : ℕ) (w : World) (id : ℤ) (i : PlayerInput) → is_id k id ≡ true → Own k w (input n w id i).world
  input_own k w id i e = outcome_kept (Own k w) w (with_stored w (place_of n id) i) (input n w id i) (input_outcome n w id i) (own_same k w) (λ f. subst (λ (j : ℕ). Own j w (with_stored w (place_of n id) i)) (place_own k id e f.seat) (own_stored (place_of n id) w i f.there))

  own_by : (k : ℕ) (w : World) (b : Bool) (a : Stepped) → (b ≡ true → Own k w a.world) → Own k w (cond b a (step_refused n w not_allowed)).world
  own_by k w true a h = h refl
  own_by k w false a h = own_same k w

  seat_own : (w : World) (k : ℕ) (a : Ask) → Own k w (reply_to n s ts w (Seat k) a).world
  seat_own w k (ask.Read q) = own_same k w
  seat_own w k (ask.Call (Join id x y)) = own_same k w
  seat_own w k (ask.Call (Leave id)) = own_same k w
  seat_own w k (ask.Call (Tune index z)) = own_same k w
  seat_own w k (ask.Call Step) = own_same k w
  seat_own w k (ask.Call (Input id d x y j h)) = own_by k w (is_id k id) (ran n s ts w (Input id d x y j h)) (input_own k w id (input_of d x y j h))

  -- ---- a board
  board_nothing : (w : World) (a : Ask) → (reply_to n s ts w Board a).world ≡ w
  board_nothing w (ask.Call c) = refl
  board_nothing w (ask.Read q) = refl

  -- ---- the referee
  referee_world : (cs : List Call) (w : World) → world_after n s ts w (by_referee cs) ≡ after n s ts w cs
  referee_world [] w = refl
  referee_world (c ∷ cs) w = referee_world cs (ran n s ts w c).world

  referee_said : (cs : List Call) (w : World) → said_to n s ts w (by_referee cs) ≡ map called (told n s ts w cs)
  referee_said [] w = refl
  referee_said (c ∷ cs) w = ap (λ (us : List Said). called (told_by (ran n s ts w c)) ∷ us) (referee_said cs (ran n s ts w c).world)

-- ---- what each may ask
seat_may : (k : ℕ) (a : Ask) → InputFor k a → allowed (Seat k) a ≡ true
seat_may k a own_input = eq-eqb k k refl

seat_no_more : (k : ℕ) (a : Ask) → allowed (Seat k) a ≡ true → InputFor k a
seat_no_more k (ask.Call (Input (pos i) d x y j h)) e = subst (λ (id : ℕ). InputFor k (ask.Call (Input (pos id) d x y j h))) (sym (eqb-true i k e)) own_input
seat_no_more k (ask.Call (Input (negsuc i) d x y j h)) e = absurd (true≢false (sym e))
seat_no_more k (ask.Call (Join id x y)) e = absurd (true≢false (sym e))
seat_no_more k (ask.Call (Leave id)) e = absurd (true≢false (sym e))
seat_no_more k (ask.Call (Tune index z)) e = absurd (true≢false (sym e))
seat_no_more k (ask.Call Step) e = absurd (true≢false (sym e))
seat_no_more k (ask.Read q) e = absurd (true≢false (sym e))

board_may : (a : Ask) → ShownRead a → allowed Board a ≡ true
board_may a record_of = refl
board_may a mark_of = refl

board_no_more : (a : Ask) → allowed Board a ≡ true → ShownRead a
board_no_more (ask.Call c) e = absurd (true≢false (sym e))
board_no_more (ask.Read (query.Record id)) e = record_of
board_no_more (ask.Read (query.FloorMark id)) e = mark_of
board_no_more (ask.Read (query.PlayerInput id)) e = absurd (true≢false (sym e))
board_no_more (ask.Read (query.Tuning index)) e = absurd (true≢false (sym e))

pub roles_hold : (n : ℕ) → Roles n
roles_hold n = record {
  beyond = λ s ts. beyond n s ts;
  nothing = record { world = λ s ts w rs. world_struck n s ts rs w; said = λ s ts w rs. said_struck n s ts rs w };
  own = λ s ts. seat_own n s ts;
  boards = λ s ts. board_nothing n s ts;
  referee_may = λ a. refl;
  seats_may = λ k a. (seat_may k a, seat_no_more k a);
  boards_may = λ a. (board_may a, board_no_more a);
  within = λ s ts. within n s ts;
  referee = record { world = λ s ts w cs. referee_world n s ts cs w; said = λ s ts w cs. referee_said n s ts cs w; reads = λ w q. refl };
}
