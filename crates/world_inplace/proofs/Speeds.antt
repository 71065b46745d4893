-- Velocities that are written: the bodies are then those of the slots after a pull, and after the own tick. Assumes nothing.
use Prim.Native.Nat.{ℕ, ◌<◌}
use mathlib.Core.Bool.{Bool, true, false, cond}
use mathlib.Core.List.{List}
use mathlib.Core.Path.{◌≡◌, refl, sym, ◌∙◌}
use lib.Dec.{eqb}
use lib.Ieee.{nan}
use lib.ListN.{length, get_or, set}
use lib.Seq.{get_or-set_same, get_or-set_other}
use borrow.Author.Tests.{eq-eqb, eqb-true, eqb-false}
use Rattle.num_vec2.specs.Vec2.{vdistance}
use Rattle.num_vec2.specs.declared.vec2.{vec2}
use Rattle.game_tuning.specs.declared.Tuning.{Tuning}
use Rattle.character_hook.specs.Hook.{id_of}
use Rattle.character_meeting.specs.Meeting.{drags, pull_on, pulled}
use Rattle.character_meeting.specs.declared.meeting.HookPull.{HookPull}
use Rattle.character.specs.Among.{held_seat, pull_at}
use Rattle.character.specs.Places.{place_at}
use Rattle.character.specs.Tick.{seats, nowhere, slot_at, after_pull, pulled_slot}
use Rattle.character.specs.declared.Character.{Character}
use Rattle.character.specs.declared.Slot.{Slot}
use Rattle.character_laws.proofs.Choices.{either}
use Rattle.world_ticks.proofs.Pulled.{pulled_there}
use Rattle.world_inplace.specs.Bodies.{Bodies, Embodied, BodiesOf, pulled_vel, left_at, speeds_after}
use Rattle.std.specs.Prelude.{Option, None}
use Rattle.std.specs.Prelude.{Some}

-- the velocity v at the seat j
abbrev pub with_speed_at : Bodies → ℕ → vec2 → Bodies
with_speed_at b j v = record { present = b.present; xs = b.xs; ys = b.ys; vxs = set b.vxs j v.x; vys = set b.vys j v.y }

-- x is s but for the velocity, which is v
pub record Speeded (s x : Slot) (v : vec2) : Type 0 where
  pub there : x.present ≡ s.present
  pub stands : x.character.pos ≡ s.character.pos
  pub moves : x.present ≡ true → v ≡ x.character.vel

module _ (n : ℕ) (ss : List Slot) (b : Bodies) (j : ℕ) (full : j < length ss) (x : j < length b.vxs) (y : j < length b.vys) (h : BodiesOf n ss b) where
  pub speed_set : (s : Slot) (v : vec2) → j < n → Speeded (slot_at ss j) s v → BodiesOf n (set ss j s) (with_speed_at b j v)
  speed_set s v m q k i = go (eqb k j) refl
    where
      own : Embodied s (get_or b.present j false) (place_at b.xs b.ys j) v
      own = record { placed = record { there = (h j m).placed.there ∙ sym q.there; stands = λ e. (h j m).placed.stands (sym q.there ∙ e) ∙ sym q.stands }; moves = q.moves }

      go : (e : Bool) → eqb k j ≡ e → Embodied (slot_at (set ss j s) k) (get_or b.present k false) (place_at b.xs b.ys k) (place_at (set b.vxs j v.x) (set b.vys j v.y) k)
      go true e = rw (eqb-true k j e) (rw (get_or-set_same ss j s nowhere full, get_or-set_same b.vxs j v.x nan x, get_or-set_same b.vys j v.y nan y) own)
      go false e =
          let other : (k ≡ j → ⊥) = eqb-false k j e in
          rw (get_or-set_other ss j k s nowhere other, get_or-set_other b.vxs j k v.x nan other, get_or-set_other b.vys j k v.y nan other) (h k i)

-- what a pull leaves of the slot s at the held seat, who has the velocity v
module _ (s : Slot) (v : vec2) (moves : s.present ≡ true → v ≡ s.character.vel) where
  abbrev Left : ℕ → Option HookPull → Type 0
  Left held k = Speeded s (pulled_slot s k held) (pulled_vel k v)

  pulled_slot_lem : (p : vec2) (own held : ℕ) (present : Bool) (q u : vec2) (t : Tuning) → Left held (pull_at p own held present q u t)
  unfolding pull_at pull_on pulled_slot pulled_vel
  pulled_slot_lem p own held present q u t = either (Left held) (eqb held own) nobody (either (Left held) present (either (Left held) (drags (vdistance p q) t) one nobody) nobody)
    where
      nobody : Left held None
      nobody = record { there = refl; stands = refl; moves = moves }

      one : Left held (Some (record { cid = id_of held; vel = pulled p q u (vdistance p q) t }))
      one = rw (eq-eqb held held refl) (record { there = refl; stands = refl; moves = λ e. refl })

-- a pull that is told from the bodies is the one that is told from the slot
pub pull-told : (s : Slot) (here : Bool) (q u p : vec2) (own held : ℕ) (t : Tuning) → Embodied s here q u → pull_at p own held here q u t ≡ pull_at p own held s.present s.character.pos s.character.vel t
unfolding pull_at
pull-told s here q u p own held t h = rw h.placed.there (go s.present refl)
  where
    go : (d : Bool) → s.present ≡ d → cond (eqb held own) None (cond d (pull_on p (id_of held) q u t) None) ≡ cond (eqb held own) None (cond d (pull_on p (id_of held) s.character.pos s.character.vel t) None)
    go true e = rw (h.placed.stands e, h.moves e) refl
    go false e = refl

-- the bodies after the pull of c's hook
module _ (n : ℕ) (ss : List Slot) (b : Bodies) (held : ℕ) (l : held < n) (full : held < length ss) (x : held < length b.vxs) (y : held < length b.vys) (h : BodiesOf n ss b) where
  pub pulled_bodies : (c : Character) (own : ℕ) (t : Tuning) → BodiesOf n (after_pull ss (pull_at c.pos own held (slot_at ss held).present (slot_at ss held).character.pos (slot_at ss held).character.vel t)) (with_speed_at b held (left_at b c own held t))
  unfolding left_at
  pulled_bodies c own t =
      let s = slot_at ss held in
      let v = place_at b.vxs b.vys held in
      let k = pull_at c.pos own held s.present s.character.pos s.character.vel t in
      let e : pull_at c.pos own held (get_or b.present held false) (place_at b.xs b.ys held) v t ≡ k = pull-told s (get_or b.present held false) (place_at b.xs b.ys held) v c.pos own held t (h held l) in
      let set_there = speed_set n ss b held full x y h (pulled_slot s k held) (pulled_vel k v) l (pulled_slot_lem s v (h held l).moves c.pos own held s.present s.character.pos s.character.vel t) in
      rw e (rw (pulled_there ss held c.pos own s.present s.character.pos s.character.vel t) at set_there)

-- written one after the other, as the code does
pub speeds_left : (b : Bodies) (c : Character) (own held : ℕ) (t : Tuning) (left : vec2) → held ≡ held_seat seats c.hook own → left ≡ left_at b c own held t → record { present = b.present; xs = b.xs; ys = b.ys; vxs = set (set b.vxs held left.x) own c.vel.x; vys = set (set b.vys held left.y) own c.vel.y } ≡ speeds_after b c own t
speeds_left b c own held t left e f = rw (f, e) refl
