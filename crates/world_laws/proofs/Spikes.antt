-- A deadly tile counts as an open one wherever a tile is asked for, but for removals. Assumes nothing.
use Prim.Native.Nat.{ℕ, zero, suc, ◌*◌, ◌+◌}
use mathlib.Core.Bool.{Bool, true, false, cond, ◌&&◌, true≢false}
use mathlib.Core.List.{List, []}
use mathlib.Core.Path.{◌≡◌, refl, sym, ap, ◌∙◌, fun_ext}
use lib.Dec.{eqb}
use lib.IntN.{ℤ, pos}
use lib.ListN.{get_or, length-map, get_or-map}
use lib.Ieee.{Float, binary32, div}
use borrow.Author.Tests.{eqb-true}
use Rattle.base_turns.specs.Turns.{Turn, more, stop, next, run, fold}
use Rattle.num_convert.specs.Convert.{i32_to_f32}
use Rattle.num_vec2.specs.Vec2.{vmix}
use Rattle.num_vec2.specs.declared.vec2.{vec2}
use Rattle.map_corners.specs.Tile.{tile_at}
use Rattle.map_tiles.specs.Box.{check_box, on_deadly}
use Rattle.map_tiles.specs.Map.{is_map, tile_of_byte, tile_in, check_point, solid, deadly}
use Rattle.map_tiles.specs.declared.tiles.Sides.{Sides}
use Rattle.map_tiles.specs.declared.point.Tile.{Tile}
use Rattle.map_tiles.specs.declared.point.Tile.TheVariants.{Open, Normal, Deadly, Unhookable}
use Rattle.map_lines.specs.Line.{or_hit, or_nothing, line_turn, line_hit, walk_line, check_line}
use Rattle.map_walks.specs.Move.{blocked, box_turn, box_turns_taken, walk_box, move_box}
use Rattle.map_walks.specs.declared.moves.Body.{Body}
use Rattle.game_refusals.specs.Refusals.{bad_map}
use Rattle.game_records.specs.declared.PlayerInput.{PlayerInput}
use Rattle.game_tuning.specs.Tuning.{tuning_of}
use Rattle.game_tuning.specs.declared.Tuning.{Tuning}
use Rattle.character_hook.specs.Flying.{flown}
use Rattle.character_hook.specs.declared.hook.Hook.{Hook}
use Rattle.character_motion.specs.Controls.{grounded}
use Rattle.character_walk.specs.Walking.{ramped_move}
use Rattle.character.specs.Tick.{slot_at, tick_at}
use Rattle.character.specs.Walk.{move_at}
use Rattle.character.specs.declared.Character.{Character}
use Rattle.character.specs.declared.Slot.{Slot}
use Rattle.world.specs.Calls.{join_at, join}
use Rattle.world.specs.Removal.{ids_of, dies, dying, ids_in}
use Rattle.world.specs.Run.{without_records}
use Rattle.world.specs.Step.{Moving, tick_all, moving_from, move_all, step_refused, step_answer, step_on, step}
use Rattle.world.specs.Answered.{Stepped}
use Rattle.world.specs.declared.World.{World}
use Rattle.world.proofs.Removal.{removed_every, listed_ids}
use Rattle.world_laws.specs.Spikes.{without_spikes, SpikesStopNothing}
use Rattle.std.specs.Prelude.{Option}

-- ---- tiles
-- a deadly tile as an open one
abbrev opened : Tile → Tile
opened Open = Open
opened Normal = Normal
opened Deadly = Open
opened Unhookable = Unhookable

byte_opened : (b : ℕ) → tile_of_byte (cond (eqb b 2) 0 b) ≡ opened (tile_of_byte b)
byte_opened b = go (eqb b 2) refl
  where
    rest : (x y : Bool) → cond x Normal (cond y Unhookable Open) ≡ opened (cond x Normal (cond y Unhookable Open))
    rest true y = refl
    rest false true = refl
    rest false false = refl

    go : (d : Bool) → eqb b 2 ≡ d → tile_of_byte (cond d 0 b) ≡ opened (tile_of_byte b)
    go true e = ap (λ (k : ℕ). opened (tile_of_byte k)) (sym (eqb-true b 2 e))
    go false e = rw e (rest (eqb b 1) (eqb b 3))

opened_solid : (x : Tile) → solid (opened x) ≡ solid x
opened_solid Open = refl
opened_solid Normal = refl
opened_solid Deadly = refl
opened_solid Unhookable = refl

opened_deadly : (x : Tile) → deadly (opened x) ≡ false
opened_deadly Open = refl
opened_deadly Normal = refl
opened_deadly Deadly = refl
opened_deadly Unhookable = refl

opened_hit : (p : vec2) (x : Tile) → or_hit p (opened x) ≡ or_hit p x
opened_hit p Open = refl
opened_hit p Normal = refl
opened_hit p Deadly = refl
opened_hit p Unhookable = refl

module _ (s : Sides) (ts : List ℕ) where
  abbrev us : List ℕ
  us = without_spikes ts

  map_same : is_map s us ≡ is_map s ts
  unfolding is_map without_spikes
  map_same = simp length-map

  tile_opened : (column row : ℕ) → tile_in s us column row ≡ opened (tile_in s ts column row)
  unfolding tile_in without_spikes
  tile_opened column row = let k = row * s.width + column in ap tile_of_byte (get_or-map (λ (b : ℕ). cond (eqb b 2) 0 b) ts k 0) ∙ byte_opened (get_or ts k 0)

  point_opened : (p : vec2) → check_point s us p ≡ opened (check_point s ts p)
  unfolding check_point
  point_opened p = tile_opened (tile_at s.width p.x) (tile_at s.height p.y)

  point_solid : (p : vec2) → solid (check_point s us p) ≡ solid (check_point s ts p)
  point_solid p = ap solid (point_opened p) ∙ opened_solid (check_point s ts p)

  point_safe : (p : vec2) → deadly (check_point s us p) ≡ false
  point_safe p = ap deadly (point_opened p) ∙ opened_deadly (check_point s ts p)

  box_same : (p box : vec2) → check_box s us p box ≡ check_box s ts p box
  unfolding check_box
  box_same p box = simp point_solid

  never_deadly : (p : vec2) → on_deadly s us p ≡ false
  unfolding on_deadly
  never_deadly p = simp point_safe

  ground_same : (p : vec2) → grounded s us p ≡ grounded s ts p
  unfolding grounded
  ground_same p = simp point_solid

  -- ---- walks
  line_turn_same : (from to : vec2) (dist : Float) (i : ℕ) (u : Unit {0}) → line_turn s us from to dist i u ≡ line_turn s ts from to dist i u
  unfolding line_turn
  line_turn_same from to dist i u = let p = vmix from to (div binary32 (i32_to_f32 (pos i)) dist) in ap (or_hit p) (point_opened p) ∙ opened_hit p (check_point s ts p)

  line_hit_same : (from to : vec2) (dist : Float) (n : ℕ) → line_hit s us from to dist n ≡ line_hit s ts from to dist n
  unfolding line_hit
  line_hit_same from to dist n = ap (λ (f : ℕ → Unit {0} → Turn (Unit {0}) (vec2 × Tile)). or_nothing (run f n 0 tt)) (fun_ext (λ i. fun_ext (line_turn_same from to dist i)))

  line_same : (from to : vec2) → walk_line s us from to ≡ walk_line s ts from to
  unfolding walk_line
  line_same from to = simp line_hit_same

  box_turn_same : (fraction : Float) (box : vec2) (b : Body) → box_turn s us fraction box b ≡ box_turn s ts fraction box b
  unfolding box_turn blocked
  box_turn_same fraction box b = simp box_same

  turns_same : (b : Body) (box : vec2) (n : ℕ) → box_turns_taken s us b box n ≡ box_turns_taken s ts b box n
  unfolding box_turns_taken
  turns_same b box n = ap (λ (f : Body → Body). fold (λ i. f) n 0 b) (fun_ext (box_turn_same _ box))

  box_walk_same : (p v box : vec2) → walk_box s us p v box ≡ walk_box s ts p v box
  unfolding walk_box
  box_walk_same p v box = simp turns_same

  flown_same : (h : Hook) (p : vec2) (t : Tuning) → flown h p s us t ≡ flown h p s ts t
  unfolding flown
  flown_same h p t = simp line_same

  -- ---- ticks and moves
  tick_same : (n : ℕ) (c : Character) (id : ℕ) (ss : List Slot) (i : PlayerInput) (t : Tuning) → tick_at n c id ss s us i t ≡ tick_at n c id ss s ts i t
  unfolding tick_at
  tick_same n c id ss i t = simp (ground_same, flown_same)

  ramped_same : (p v : vec2) (t : Tuning) → ramped_move s us p v t ≡ ramped_move s ts p v t
  unfolding ramped_move
  ramped_same p v t = simp box_walk_same

  move_same : (n : ℕ) (c : Character) (id : ℕ) (ss : List Slot) (t : Tuning) → move_at n c id ss s us t ≡ move_at n c id ss s ts t
  unfolding move_at
  move_same n c id ss t = simp ramped_same

  ticks_same : (n : ℕ) (ss : List Slot) (t : Tuning) → tick_all n ss s us t ≡ tick_all n ss s ts t
  unfolding tick_all
  ticks_same n ss t = ap (λ (f : ℕ → List Slot → Turn (List Slot) ℕ). run f n 0 ss) (fun_ext (λ j. fun_ext (λ vs. simp tick_same)))

  moves_same : (n : ℕ) (ss : List Slot) (t : Tuning) → move_all n ss s us t ≡ move_all n ss s ts t
  unfolding move_all
  moves_same n ss t = ap (λ (f : ℕ → Moving → Turn Moving ℕ). run f n 0 (moving_from n ss)) (fun_ext (λ j. fun_ext (λ m. simp move_same)))

  -- ---- a step
  nobody-dies : (n : ℕ) (ss : List Slot) → dying n s us ss ≡ []
  unfolding dying
  nobody-dies n ss = none n 0
    where
      safe : (x : Slot) → dies s us x ≡ false
      safe x = go x.present
        where
          go : (b : Bool) → (b && on_deadly s us x.character.pos) ≡ false
          go true = never_deadly x.character.pos
          go false = refl

      none : (m i : ℕ) → ids_of (λ j. dies s us (slot_at ss j)) m i ≡ []
      none zero i = refl
      none (suc m) i = rw (safe (slot_at ss i)) (none m (suc i))

  -- the answers of two steps that differ in who is removed
  record Agree (a b : Stepped) : Type 0 where
    number : a.number ≡ b.number
    records : a.records ≡ b.records
    mark : (k : ℕ) → (slot_at a.world.slots k).present ≡ true → (slot_at a.world.slots k).grounded ≡ (slot_at b.world.slots k).grounded
    nobody : ids_in b.removed ≡ []

  answer_same : (n : ℕ) (w : World) (a : Turn Moving ℕ) → Agree (step_answer n w s ts a) (step_answer n w s us a)
  answer_same n w (stop k) = record { number = refl; records = refl; mark = λ k p. refl; nobody = listed_ids n [] }
  answer_same n w (more m) = rw (nobody-dies n m.slots) (record {
    number = refl;
    records = refl;
    mark = removed_every (λ k x. x.present ≡ true → x.grounded ≡ (slot_at m.slots k).grounded) (λ k p. absurd (true≢false (sym p))) (λ j k x h. h) (dying n s ts m.slots) (record { slots = m.slots; tunings = w.tunings }) (λ k p. refl);
    nobody = listed_ids n [];
  })

  step_same : (n : ℕ) (w : World) → Agree (step n w s ts) (step n w s us)
  unfolding step step_on
  step_same n w = rw (map_same, ticks_same, fun_ext (λ ss. moves_same n ss (tuning_of w.tunings))) (go (is_map s ts))
    where
      turns : Turn Moving ℕ
      turns = next (λ ss. move_all n ss s ts (tuning_of w.tunings)) (tick_all n w.slots s ts (tuning_of w.tunings))

      go : (b : Bool) → Agree (cond b (step_answer n w s ts turns) (step_refused n w bad_map)) (cond b (step_answer n w s us turns) (step_refused n w bad_map))
      go true = answer_same n w turns
      go false = answer_same n w (stop bad_map)

  join_same : (n : ℕ) (w : World) (id x y : ℤ) → join n w s ts id x y ≡ join n w s us id x y
  unfolding join join_at
  join_same n w id x y = simp (map_same, box_same)

pub spikes_stop_nothing : (n : ℕ) → SpikesStopNothing n
unfolding check_line move_box
spikes_stop_nothing n = record {
  line = λ s ts from to. simp (map_same s ts, line_same s ts);
  box = λ s ts at vel box. simp (map_same s ts, box_walk_same s ts);
  join = λ s ts w id x y. ap (without_records n) (join_same s ts n w id x y);
  number = λ s ts w. (step_same s ts n w).number;
  records = λ s ts w. (step_same s ts n w).records;
  mark = λ s ts w. (step_same s ts n w).mark;
  nobody = λ s ts w. (step_same s ts n w).nobody;
}
