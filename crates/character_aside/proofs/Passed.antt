-- What the test of a way leaves out is 28 or more to one side of both of its ends, in a coordinate. Assumes nothing.
use mathlib.Core.Path.{◌≡◌}
use mathlib.Core.Logic.{◌⊎◌, inl, inr, ⊎_elim}
use mathlib.Core.Bool.{Bool, true, false, not, ◌&&◌, ◌||◌, true≢false}
use lib.Dec.{T}
use lib.Ieee.{Float, binary32, neg, sub, le}
use lib.Ieee.Fits.{and_l, and_r}
use mir.Facts.{or_yes}
use Rattle.game_constants.specs.Constants.{character_size}
use Rattle.num_vec2.specs.declared.vec2.{vec2}
use Rattle.character_walk.proofs.Apart.{Aside}
use Rattle.character_walk.proofs.Mixed.{Away, Beside, end}
use Rattle.character_aside.specs.Aside.{is_aside, may_touch}

both_or : (s u t v : Bool) → T ((s && u) || (t && v)) → (T s × T u) ⊎ (T t × T v)
both_or s u t v h = ⊎_elim (λ k. inl (and_l s u k, and_r s u k)) (λ k. inr (and_l t v k, and_r t v k)) (or_yes (s && u) (t && v) h)

aside : (a b q : Float) → T (is_aside a b q) → Aside a b q
unfolding is_aside
aside a b q h = both_or (le character_size (sub binary32 q a)) (le character_size (sub binary32 q b)) (le (sub binary32 q a) (neg character_size)) (le (sub binary32 q b) (neg character_size)) h

left : (b : Bool) → not b ≡ false → T b
left true h = tt
left false h = absurd (true≢false h)

-- a player who may not be touched between a and b is to one side of both
pub beside : (a b q : vec2) → may_touch a b q ≡ false → Beside a b q
unfolding may_touch
beside a b q h =
    let x = is_aside a.x b.x q.x in
    let y = is_aside a.y b.y q.y in
    ⊎_elim (λ k. inl (aside _ _ _ k)) (λ k. inr (aside _ _ _ k)) (or_yes x y (left (x || y) h))

pub left_out : (from to q : vec2) → may_touch from (end from to) q ≡ false → Away from to q
left_out from to q h = beside from (end from to) q h
