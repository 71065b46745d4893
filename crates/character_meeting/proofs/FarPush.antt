-- Characters whose distance has a square of 1,225 or more do not push each other: its root is 35 or more. So a meeting changes nothing unless the hook holds the other. Assumes nothing.
use mathlib.Core.Path.{◌≡◌, refl, sym, subst}
use mathlib.Core.Bool.{Bool, true, false, cond}
use lib.Dec.{T}
use lib.Ieee.{Float, of_bits, fits, lt, eq, le, ne, round}
use Rattle.num_root.specs.Root.{root, root_of, isqrt}
use Rattle.num_convert.specs.Number.{c0}
use Rattle.num_vec2.specs.declared.vec2.{vec2}
use Rattle.num_vec2.specs.Vec2.{vdistance}
use Rattle.game_tuning.specs.declared.Tuning.{Tuning}
use Rattle.character_hook.specs.Hook.{on_grabbed, holds}
use Rattle.character_hook.specs.declared.hook.CharacterId.{CharacterId}
use Rattle.character_hook.specs.declared.hook.Hook.{Hook}
use Rattle.character_hook.specs.declared.hook.Hook.TheVariants.{Retracted, Idle, Flying, Grabbed, Attached, Retracting0, Retracting1, Retracting2}
use Rattle.character_walk.proofs.Far.{Rooted, far_from}
use Rattle.character_meeting.specs.Meeting.{c35, c1225, is_beyond, push, drag_if, meet}

rooted_1225 : Rooted c1225 c35
unfolding root root_of isqrt of_bits round fits le lt eq
rooted_1225 = record { root_is = refl; fitting = tt; above = tt; positive_root = tt }

pub far_push : (p v q : vec2) (collision : Float) → is_beyond p q ≡ true → v ≡ push p v q (vdistance p q) collision
unfolding push is_beyond
far_push p v q collision h = rw (far_from c1225 c35 rooted_1225 p q (subst T (sym h) tt)) (same (ne collision c0))
  where
    same : (b : Bool) → v ≡ cond b v v
    same true = refl
    same false = refl

-- the drag of a hook that does not hold the character cid
not_dragged : (p v q : vec2) (t : Tuning) (cid : CharacterId) (h : Hook) → holds h cid.0 ≡ false → v ≡ on_grabbed (drag_if p v q t cid) v h
unfolding holds
not_dragged p v q t cid Retracted k = refl
not_dragged p v q t cid Idle k = refl
not_dragged p v q t cid (Flying a d) k = refl
not_dragged p v q t cid (Grabbed hooked ticks) k = rw k
not_dragged p v q t cid (Attached a) k = refl
not_dragged p v q t cid (Retracting0 a) k = refl
not_dragged p v q t cid (Retracting1 a) k = refl
not_dragged p v q t cid (Retracting2 a) k = refl

-- a meeting with somebody who is far and not held
pub far_meet : (p v : vec2) (h : Hook) (q : vec2) (cid : CharacterId) (t : Tuning) → is_beyond p q ≡ true → holds h cid.0 ≡ false → v ≡ meet p v h q cid t
unfolding meet
far_meet p v h q cid t far free = rw (← far_push p v q t.player_collision far) (not_dragged p v q t cid h free)
