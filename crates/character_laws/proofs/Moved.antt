-- With player collision 0 a move is the box's walk alone, so a clear character stays clear. Assumes nothing.
use mathlib.Core.Path.{◌≡◌, refl, sym, ap, ◌∙◌, subst}
use mathlib.Core.Bool.{false}
use mathlib.Core.List.{List}
use Prim.Native.Nat.{ℕ}
use lib.Ieee.{Float, binary32, mul, ne}
use Rattle.num_convert.specs.Number.{c0}
use Rattle.num_vec2.specs.Vec2.{vnew, vlength}
use Rattle.num_vec2.specs.declared.vec2.{vec2}
use Rattle.map_tiles.specs.declared.tiles.Sides.{Sides}
use Rattle.game_tuning.specs.declared.Tuning.{Tuning}
use Rattle.map_tiles.specs.Box.{Clear, character_box}
use Rattle.num_ramp.specs.Ramp.{velocity_ramp}
use Rattle.map_walks.specs.declared.moves.Body.{Body}
use Rattle.map_walks.specs.Move.{walk_box}
use Rattle.map_walks.proofs.Clear.{walk_clear}
use Rattle.character_walk.specs.Walking.{c50, unramped, ramped_move}
use Rattle.character.specs.declared.Character.{Character}
use Rattle.character.specs.declared.Slot.{Slot}
use Rattle.character.specs.Walk.{moved_to, player_walk, after_box, move_at}
use Rattle.std.specs.Prelude.{Result, Ok, Err}
use Rattle.game_refusals.specs.declared.Refusal.{Refusal}

-- the character where the box has got to
abbrev pub with_box : Character → Result Body Refusal → Result Character Refusal
with_box c (Err e) = Err e
with_box c (Ok b) = Ok (moved_to c b.pos b.vel)

box_alone : (n : ℕ) (c : Character) (id : ℕ) (ss : List Slot) (t : Tuning) (m : Result Body Refusal) → ne t.player_collision c0 ≡ false → after_box n c id ss t m ≡ with_box c m
unfolding player_walk
box_alone n c id ss t (Err why) e = refl
box_alone n c id ss t (Ok b) e = rw e

pub move-alone : (n : ℕ) (c : Character) (id : ℕ) (ss : List Slot) (s : Sides) (ts : List ℕ) (t : Tuning) → ne t.player_collision c0 ≡ false → move_at n c id ss s ts t ≡ with_box c (ramped_move s ts c.pos c.vel t)
unfolding move_at
move-alone n c id ss s ts t e = box_alone n c id ss t (ramped_move s ts c.pos c.vel t) e

-- ---- a clear character stays clear
abbrev at : vec2 → Result Character Refusal → vec2
at p (Err e) = p
at p (Ok c) = c.pos

-- taking the ramp back moves nothing
unramped_clear : (s : Sides) (ts : List ℕ) (r : Float) (c : Character) (m : Result Body Refusal) → Clear s ts c.pos character_box → ((b : Body) → m ≡ Ok b → Clear s ts b.pos character_box) → Clear s ts (at c.pos (with_box c (unramped r m))) character_box
unramped_clear s ts r c (Err e) h k = h
unramped_clear s ts r c (Ok b) h k = k b refl

ramped_clear : (s : Sides) (ts : List ℕ) (c : Character) (t : Tuning) → Clear s ts c.pos character_box → Clear s ts (at c.pos (with_box c (ramped_move s ts c.pos c.vel t))) character_box
unfolding ramped_move
ramped_clear s ts c t h =
    let r = velocity_ramp (mul binary32 (vlength c.vel) c50) t.velramp_start t.velramp_range t.velramp_curvature in
    let v = vnew (mul binary32 c.vel.x r) c.vel.y in
    unramped_clear s ts r c (walk_box s ts c.pos v character_box) h (λ b e. walk_clear s ts character_box c.pos v b h e)

pub move_clear : (n : ℕ) (c d : Character) (id : ℕ) (ss : List Slot) (s : Sides) (ts : List ℕ) (t : Tuning) → ne t.player_collision c0 ≡ false → Clear s ts c.pos character_box → move_at n c id ss s ts t ≡ Ok d → Clear s ts d.pos character_box
move_clear n c d id ss s ts t e h q = subst (λ (p : vec2). Clear s ts p character_box) (ap (at c.pos) (sym (move-alone n c id ss s ts t e) ∙ q)) (ramped_clear s ts c t h)
