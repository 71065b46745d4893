-- `vec2` of lib.rs: each operation rounds once, in the Rust's order. Definitions only.
use Rattle.std.specs.Prelude.{Float}
use Rattle.std.specs.Float.{binary32}
use Rattle.std.specs.Float.Ieee.{add, sub, mul, div}
use Rattle.num_root.specs.Root.{root}
use Rattle.num_vec2.specs.declared.vec2.{vec2}
use Rattle.num_convert.specs.Number.{c0, c1, clamp}

abbrev pub vnew : Float → Float → vec2
vnew x y = record { x = x; y = y }

unfoldable pub vadd : vec2 → vec2 → vec2
vadd a b = vnew (add binary32 a.x b.x) (add binary32 a.y b.y)

unfoldable pub vsub : vec2 → vec2 → vec2
vsub a b = vnew (sub binary32 a.x b.x) (sub binary32 a.y b.y)

unfoldable pub vmul : vec2 → Float → vec2
vmul a k = vnew (mul binary32 a.x k) (mul binary32 a.y k)

unfoldable pub vdiv : vec2 → Float → vec2
vdiv a k = vnew (div binary32 a.x k) (div binary32 a.y k)

unfoldable pub vlength : vec2 → Float
vlength a = root binary32 (add binary32 (mul binary32 a.x a.x) (mul binary32 a.y a.y))

-- a, times 1.0 over its length
unfoldable pub vnormalize : vec2 → vec2
vnormalize a = vmul a (div binary32 c1 (vlength a))

unfoldable pub vdistance : vec2 → vec2 → Float
vdistance a b = vlength (vsub b a)

unfoldable pub vdot : vec2 → vec2 → Float
vdot a b = add binary32 (mul binary32 a.x b.x) (mul binary32 a.y b.y)

-- a + (b - a) * v
unfoldable pub vmix : vec2 → vec2 → Float → vec2
vmix a b v = vadd a (vmul (vsub b a) v)

-- the point nearest to p on the line from a to b
unfoldable pub closest_point_on_line : vec2 → vec2 → vec2 → vec2
unfolding vnormalize
closest_point_on_line p a b =
    let line = vsub b a in
    let t = div binary32 (vdot (vnormalize line) (vsub p a)) (vlength line) in
    vmix a b (clamp t c0 c1)
