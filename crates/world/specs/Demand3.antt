-- Demand 3, as one claim about a whole list of calls. Definitions only; proofs/Demand3.antt proves it.
use Rattle.std.specs.Prelude.{ℕ, ◌<◌, Bool, true, false, cond, ◌&&◌, List, [], ◌∷◌, ◌≡◌, eqb, ℤ, pos, get_or}
use Rattle.std.specs.Float.{binary32}
use Rattle.std.specs.Float.Ieee.{add, sub}
use Rattle.base_turns.specs.Turns.{Turn, more, stop, next, run}
use Rattle.num_vec2.specs.Vec2.{vnew}
use Rattle.num_vec2.specs.declared.vec2.{vec2}
use Rattle.map_corners.specs.Tile.{c14}
use Rattle.map_tiles.specs.Box.{on_deadly}
use Rattle.map_tiles.specs.Map.{check_point, solid}
use Rattle.map_tiles.specs.declared.tiles.Sides.{Sides}
use Rattle.game_tuning.specs.Tuning.{tuning_of}
use Rattle.game_tuning.specs.declared.Tuning.{Tuning}
use Rattle.game_records.specs.declared.CharacterCore.{CharacterCore}
use Rattle.world.specs.declared.call.Call.{Call}
use Rattle.world.specs.declared.call.Call.TheVariants.{Join, Leave, Input, Step, Tune}
use Rattle.character.specs.Tick.{slot_at}
use Rattle.character_laws.specs.Faithful.{Faithful}
use Rattle.character.specs.Records.{quantize}
use Rattle.world.specs.World.{fresh}
use Rattle.game_tuning.specs.Tuning.{tuning_count, player_collision}
use Rattle.world.specs.Calls as calls
use Rattle.world.specs.Removal.{ids_in, is_in}
use Rattle.world.specs.Step.{Moving, unpublished, tick_all, move_in, move_turn, moving_from, step}
use Rattle.world.specs.Run.{ran, after}
use Rattle.world.specs.declared.Published.{Published}
use Rattle.world.specs.Answered.{Stepped}
use Rattle.world.specs.declared.World.{World}
use Rattle.std.specs.Prelude.{Result, Ok, Err}
use Rattle.character.specs.declared.Character.{Character}
use Rattle.game_refusals.specs.declared.Refusal.{Refusal}
use Rattle.game_refusals.specs.declared.Refusal.TheVariants.{TooFar}

-- ---- player collision zero whenever step is called

-- the value of the last accepted tune of index 16, z before any
abbrev pub collision_after : ℤ → Call → ℤ
collision_after z (Join id x y) = z
collision_after z (Leave id) = z
collision_after z (Input id d x y j h) = z
collision_after z (Tune index v) = cond (eqb (calls.place_of tuning_count index) player_collision) v z
collision_after z Step = z

abbrev pub CollisionOff : ℤ → List Call → Type 0
CollisionOff z [] = Unit {0}
CollisionOff z (c ∷ cs) = (c ≡ Step → z ≡ pos 0) × CollisionOff (collision_after z c) cs

-- ---- each character present

-- whether k is joined by an accepted join, with no accepted leave of that id since, nor removal in an accepted step: b before a call that answered a
abbrev pub present_after : ℕ → ℕ → Bool → Stepped → Call → Bool
present_after n k b a (Join id x y) = cond (eqb (calls.place_of n id) k && eqb a.number 0) true b
present_after n k b a (Leave id) = cond (eqb (calls.place_of n id) k && eqb a.number 0) false b
present_after n k b a (Input id d x y j h) = b
present_after n k b a (Tune index z) = b
present_after n k b a Step = cond (is_in k (ids_in a.removed)) false b

abbrev pub present : ℕ → Sides → List ℕ → ℕ → Bool → World → List Call → Bool
present n s ts k b w [] = b
present n s ts k b w (c ∷ cs) = present n s ts k (present_after n k b (ran n s ts w c) c) (ran n s ts w c).world cs

-- its position plus or minus 14 in each coordinate, in f32: none of the four is on a solid tile
pub record CornersClear (s : Sides) (ts : List ℕ) (p : vec2) : Type 0 where
  pub right_bottom : solid (check_point s ts (vnew (add binary32 p.x c14) (add binary32 p.y c14))) ≡ false
  pub left_top : solid (check_point s ts (vnew (sub binary32 p.x c14) (sub binary32 p.y c14))) ≡ false
  pub right_top : solid (check_point s ts (vnew (add binary32 p.x c14) (sub binary32 p.y c14))) ≡ false
  pub left_bottom : solid (check_point s ts (vnew (sub binary32 p.x c14) (add binary32 p.y c14))) ≡ false

-- ---- every accepted step

-- what `move_` gives the id j when its turn has come: those below it have moved and are quantized
abbrev pub left_in : ℕ → Sides → List ℕ → Tuning → ℕ → Turn Moving ℕ → Result Character Refusal
left_in n s ts t j (more m) = move_in n s ts t m.slots j
left_in n s ts t j (stop k) = Err TooFar

-- what the move left of j in a step on w
abbrev pub left : ℕ → World → Sides → List ℕ → ℕ → Result Character Refusal
left n w s ts j = let t = tuning_of w.tunings in left_in n s ts t j (next (λ ss. run (move_turn n s ts t) j 0 (moving_from n ss)) (tick_all n w.slots s ts t))

-- a record is within 1/2 and 1/512 of the position and velocity that the move left
abbrev pub FaithfulTo : CharacterCore → Result Character Refusal → Type 0
FaithfulTo core (Err e) = ⊥
FaithfulTo core (Ok c) = Faithful core c.pos c.vel

abbrev pub record_at : List Published → ℕ → Published
record_at rs j = get_or rs j unpublished

-- whether what a move left has a corner on a deadly tile
abbrev pub left_on_deadly : Sides → List ℕ → Result Character Refusal → Bool
left_on_deadly s ts (Err e) = false
left_on_deadly s ts (Ok c) = on_deadly s ts c.pos

-- one record for each id that is there when the step is called, the removed included; removed is who then has a corner on a deadly tile, which is who had it before quantizing
pub record StepFaithful (n : ℕ) (w : World) (s : Sides) (ts : List ℕ) (there : ℕ → Bool) : Type 0 where
  pub published : (j : ℕ) → j < n → (record_at (step n w s ts).records j).present ≡ there j
  pub faithful : (j : ℕ) → j < n → there j ≡ true → FaithfulTo (record_at (step n w s ts).records j).core (left n w s ts j)
  pub removed : (j : ℕ) → j < n → is_in j (ids_in (step n w s ts).removed) ≡ (there j && left_on_deadly s ts (left n w s ts j))

-- every accepted step of a list, where `there` says who is present before it
abbrev pub StepsFaithful : ℕ → Sides → List ℕ → (ℕ → Bool) → World → List Call → Type 0
StepsFaithful n s ts there w [] = Unit {0}
StepsFaithful n s ts there w (c ∷ cs) = (c ≡ Step → (ran n s ts w c).number ≡ 0 → StepFaithful n w s ts there) × StepsFaithful n s ts (λ k. present_after n k (there k) (ran n s ts w c) c) (ran n s ts w c).world cs

-- ---- the demand

-- after the list, and in every accepted step of it; the physics state that comes back from a record is the slot's character: the input and the floor mark are not of it
pub record Kept (n : ℕ) (s : Sides) (ts : List ℕ) (cs : List Call) : Type 0 where
  pub clear : (k : ℕ) → k < n → present n s ts k false (fresh n) cs ≡ true → CornersClear s ts (slot_at (after n s ts (fresh n) cs).slots k).character.pos
  pub back : (k : ℕ) → k < n → present n s ts k false (fresh n) cs ≡ true → quantize (slot_at (after n s ts (fresh n) cs).slots k).character ≡ Ok (slot_at (after n s ts (fresh n) cs).slots k).character
  pub steps : StepsFaithful n s ts (λ k. false) (fresh n) cs

-- every map and every list of calls from a fresh world of n slots, with player collision, 100 before any tune, zero whenever step is called
abbrev pub Demand3 : ℕ → Type 0
Demand3 n = (s : Sides) (ts : List ℕ) (cs : List Call) → CollisionOff (pos 100) cs → Kept n s ts cs
