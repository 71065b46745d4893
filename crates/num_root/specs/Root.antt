-- Root: correctly rounded. `root` is the definition; `CorrectRoot` says what it is without an algorithm. Definitions only.
use Rattle.std.specs.Prelude.{ℕ, zero, suc, ◌+◌, ◌*◌, ◌/◌, ◌^◌, ◌<◌, Bool, true, false, cond, not, T, leb, ltb, Float}
use Rattle.std.specs.Float.{nan, inf, fin, Format}
use Rattle.std.specs.Float.Ieee.{low, up, down, size, round, lt, fits}
use Rattle.std.specs.Float.Ieee.Positive.{num, den}

-- r, or the next number where its square is no more than n
abbrev pub bump : ℕ → ℕ → ℕ
bump n r = cond (leb (suc r * suc r) n) (suc r) r

-- the whole part of the root of an n below 4 ^ k, a binary digit at a time
unfoldable pub isqrt_in : ℕ → ℕ → ℕ
isqrt_in zero n = 0
isqrt_in (suc k) n = bump n (isqrt_in k (n / 4) * 2)

-- the largest s with s * s ≤ n
unfoldable pub isqrt : ℕ → ℕ
unfolding isqrt_in
isqrt n = isqrt_in (size n) n

-- 1 where s is less than the root of v, and 0 where it is the root
abbrev pub short : ℕ → ℕ → ℕ
short s v = cond (ltb (s * s) v) 1 0

-- √v / d, rounded. Where √v lies between s and s + 1, s + 1/2 stands for it: the v that `root` hands over is so large that
-- each value of the format near the root, and each midpoint of two, is a whole number over d.
unfoldable pub root_of : Format → ℕ → ℕ → Float
root_of f v d = round f false (isqrt v * 2 + short (isqrt v) v) (d * 2)

-- the square root, rounded to the nearest value of the format
unfoldable pub root : Format → Float → Float
unfolding root_of
root f nan = nan
root f (inf s) = cond s nan (inf false)
root f (fin s zero e) = fin s zero e
root f (fin true (suc m) e) = nan
root f (fin false (suc m) e) = root_of f (suc m * up e * down e * (2 ^ low f * 2 ^ low f)) (down e * 2 ^ low f)

-- ---- what it is, with no algorithm

abbrev pub sq : ℕ → ℕ
sq a = a * a

-- r is strictly nearer to √x than y is: √x lies on r's side of their midpoint (r + y) / 2. There are no real numbers here:
-- √x < (r + y) / 2 is said as 4 * x < (r + y) * (r + y), with the denominators multiplied out.
abbrev pub Nearer : Float → Float → Float → Type 0
Nearer x r y =
    (T (lt r y) → num x * 4 * sq (den r * den y) < sq (num r * den y + num y * den r) * den x)
    × (T (lt y r) → sq (num r * den y + num y * den r) * den x < num x * 4 * sq (den r * den y))

-- finite, with the sign clear
abbrev pub unsigned : Float → Bool
unsigned nan = false
unsigned (inf s) = false
unsigned (fin s m e) = not s

-- r is the correctly rounded root of x: a value of the format, and strictly nearer to √x than every other one, so no tie is left to break
pub record CorrectRoot (f : Format) (x r : Float) : Type 0 where
  pub held : T (fits f r)
  pub finite : T (unsigned r)
  pub nearest : (y : Float) → T (fits f y) → T (unsigned y) → Nearer x r y
