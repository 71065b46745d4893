-- A distance whose square is c or more is not below the root of c; so characters with a square of 784 or more do not touch. Assumes nothing.
use mathlib.Core.Path.{◌≡◌, refl, sym, ap, ◌∙◌, subst}
use mathlib.Core.Bool.{Bool, true, false, ◌&&◌}
use Prim.Native.Nat.{◌*◌}
use lib.Dec.{T}
use lib.IntN.{pos}
use lib.Ieee.{Float, nan, inf, fin, binary32, up, down, of_bits, fits, lt, eq, le, round}
use lib.Ieee.Positive.{positive, above_of_le, le→cross}
use lib.Ieee.Fits.{add-fits}
use borrow.Author.Tests.{le-ltb}
use Rattle.num_root.specs.Root.{root, root_of, isqrt}
use Rattle.num_root.proofs.Monotone.{root_mono}
use Rattle.num_convert.specs.Number.{c0}
use Rattle.game_constants.specs.Constants.{character_size}
use Rattle.num_vec2.specs.declared.vec2.{vec2}
use Rattle.num_vec2.specs.Vec2.{vsub, vdot, vlength, vdistance}
use Rattle.character_walk.specs.Touching.{touches}

not_below : (a r : Float) → T (positive a) → T (le a r) → lt r a ≡ false
unfolding le lt eq
not_below nan r p h = absurd p
not_below (inf s) r p h = absurd p
not_below (fin true m e) r p h = absurd p
not_below (fin false m e) nan p h = refl
not_below (fin false m e) (inf true) p h = absurd h
not_below (fin false m e) (inf false) p h = refl
not_below (fin false m e) (fin true n d) p h = absurd (above_of_le (fin false m e) (fin true n d) p h)
not_below (fin false m e) (fin false n d) p h = le-ltb (n * up d * down e) (m * up e * down d) (le→cross (fin false m e) (fin false n d) p (above_of_le (fin false m e) (fin false n d) p h) h)

both : (a b : Bool) → b ≡ false → false ≡ a && b
both true b e = sym e
both false b e = refl

-- ---- two characters by the square of their distance
abbrev pub square : vec2 → vec2 → Float
square p q = vdot (vsub q p) (vsub q p)

-- as the code finds it
pub square_is : (p q w : vec2) (s : Float) → w ≡ vsub q p → s ≡ vdot w w → s ≡ square p q
square_is p q w s e f = f ∙ ap (λ (v : vec2). vdot v v) e

pub distance_is : (p q : vec2) → root binary32 (square p q) ≡ vdistance p q
unfolding vdistance vlength vdot
distance_is p q = refl

square_fits : (p q : vec2) → T (fits binary32 (square p q))
unfolding vdot
square_fits p q = add-fits binary32 _ _

-- ---- a value and its root, by computing
pub record Rooted (c r : Float) : Type 0 where
  pub root_is : root binary32 c ≡ r
  pub fitting : T (fits binary32 c)
  pub above : T (le (fin false 0 (pos 0)) c)
  pub positive_root : T (positive r)

-- from the square c on the distance is not below the root of c
pub far_from : (c r : Float) → Rooted c r → (p q : vec2) → T (le c (square p q)) → lt (vdistance p q) r ≡ false
far_from c r k p q h =
    let below : T (le r (root binary32 (square p q))) = subst (λ (x : Float). T (le x (root binary32 (square p q)))) k.root_is (root_mono c (square p q) k.fitting (square_fits p q) k.above h) in
    not_below r (vdistance p q) k.positive_root (subst (λ (x : Float). T (le r x)) (distance_is p q) below)

abbrev pub c784 : Float
c784 = of_bits binary32 0x4444_0000

rooted_784 : Rooted c784 character_size
unfolding root root_of isqrt of_bits round fits le lt eq
rooted_784 = record { root_is = refl; fitting = tt; above = tt; positive_root = tt }

pub far_28 : (p q : vec2) → T (le c784 (square p q)) → lt (vdistance p q) character_size ≡ false
far_28 = far_from c784 character_size rooted_784

-- two whose distance is not below 28 do not touch
pub not_touching : (p q : vec2) → lt (vdistance p q) character_size ≡ false → false ≡ touches p q
unfolding touches
not_touching p q h = both (lt c0 (vdistance p q)) (lt (vdistance p q) character_size) h

pub far : (p q : vec2) → T (le c784 (square p q)) → false ≡ touches p q
far p q h = not_touching p q (far_28 p q h)
