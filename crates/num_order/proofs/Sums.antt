-- A sum grows with each summand, infinities included, as long as no sum is nan. Assumes nothing.
use mathlib.Core.Path.{◌≡◌, refl, ap₂}
use mathlib.Core.Bool.{Bool, true, false, not, cond}
use Prim.Native.Nat.{ℕ, ◌+◌, ◌-◌, ◌*◌, ◌≤◌, ◌<◌}
use native.Mathlib.Nat.{mul-pos, mul-le-mul_right, mul_assoc, mul_comm, mul_left_comm, add-mul}
use native.Mathlib.Omega.{arith}
use lib.Dec.{T, ltb, ltb→lt, nltb→le}
use lib.Ieee.{Float, nan, inf, fin, Format, up, down, round, sum, neg, add, sub, le, is_nan}
use lib.Ieee.Fits.{down_pos}
use lib.Ieee.Scale.{finite}
use lib.Ieee.Positive.{den, den_pos}
use Rattle.num_order.proofs.Signed.{AtMost, gain, le→at-most, loss, over, under}
use Rattle.num_order.proofs.Chain.{Number, least, most, neg_anti}
use Rattle.num_order.proofs.Places.{Placed, moved, placed_ordered, round_placed}

sum_placed : (f : Format) (s : Bool) (a : ℕ) (t : Bool) (b c : ℕ) → Placed f (sum f s a t b c) (gain s a + gain t b) (loss s a + loss t b) c
unfolding sum
sum_placed f true a true b c = round_placed f true (a + b) (0 + 0) (a + b) c (omega arith)
sum_placed f false a false b c = round_placed f false (a + b) (a + b) (0 + 0) c (omega arith)
sum_placed f false a true b c = go (ltb a b) (ltb→lt a b) (nltb→le a b)
  where
    go : (l : Bool) → (T l → a < b) → (T (not l) → b ≤ a) → Placed f (cond l (round f true (b - a) c) (round f false (a - b) c)) (a + 0) (0 + b) c
    go true h k = round_placed f true (b - a) (a + 0) (0 + b) c (omega (arith, h tt))
    go false h k = round_placed f false (a - b) (a + 0) (0 + b) c (omega (arith, k tt))
sum_placed f true a false b c = go (ltb a b) (ltb→lt a b) (nltb→le a b)
  where
    go : (l : Bool) → (T l → a < b) → (T (not l) → b ≤ a) → Placed f (cond l (round f false (b - a) c) (round f (ltb b a) (a - b) c)) (0 + b) (a + 0) c
    go true h k = round_placed f false (b - a) (0 + b) (a + 0) c (omega (arith, h tt))
    go false h k = more (ltb b a) (nltb→le b a)
      where
        more : (r : Bool) → (T (not r) → a ≤ b) → Placed f (round f r (a - b) c) (0 + b) (a + 0) c
        more true g = round_placed f true (a - b) (0 + b) (a + 0) c (omega (arith, k tt))
        more false g = round_placed f false (a - b) (0 + b) (a + 0) c (omega (arith, k tt, g tt))

gain_mul : (s : Bool) (a c : ℕ) → gain s (a * c) ≡ gain s a * c
gain_mul true a c = omega arith
gain_mul false a c = refl

loss_mul : (s : Bool) (a c : ℕ) → loss s (a * c) ≡ loss s a * c
loss_mul true a c = refl
loss_mul false a c = omega arith

pub add_placed : (f : Format) (x y : Float) → T (finite x) → T (finite y) → Placed f (add f x y) (over x * den y + over y * den x) (under x * den y + under y * den x) (den x * den y)
unfolding add
add_placed f nan y p q = absurd p
add_placed f (inf s) y p q = absurd p
add_placed f (fin s m e) nan p q = absurd q
add_placed f (fin s m e) (inf t) p q = absurd q
add_placed f (fin s m e) (fin t n d) p q =
    moved (sum_placed f s (m * up e * down d) t (n * up d * down e) (down e * down d))
    (ap₂ ◌+◌ (gain_mul s (m * up e) (down d)) (gain_mul t (n * up d) (down e))) (ap₂ ◌+◌ (loss_mul s (m * up e) (down d)) (loss_mul t (n * up d) (down e)))

-- ---- both summands grow
wider : (p n c p' n' c' q m d q' m' d' : ℕ) → p * c' + n' * c ≤ p' * c + n * c' → q * d' + m' * d ≤ q' * d + m * d'
    → (p * d + q * c) * (c' * d') + (n' * d' + m' * c') * (c * d) ≤ (p' * d' + q' * c') * (c * d) + (n * d + m * c) * (c' * d')
wider p n c p' n' c' q m d q' m' d' h k =
    simp (add-mul, mul_assoc, mul_comm, mul_left_comm)
    (omega (arith, simp (add-mul, mul_assoc, mul_comm) at (mul-le-mul_right (d * d') h), simp (add-mul, mul_assoc, mul_comm, mul_left_comm) at (mul-le-mul_right (c * c') k)))

grown : (f : Format) (x x' y y' : Float) → T (finite x) → T (finite x') → T (finite y) → T (finite y') → AtMost x x' → AtMost y y' → T (le (add f x y) (add f x' y'))
grown f x x' y y' p p' q q' h k =
    placed_ordered (add_placed f x y p q) (add_placed f x' y' p' q') (mul-pos (den_pos x) (den_pos y)) (mul-pos (den_pos x') (den_pos y'))
    (wider (over x) (under x) (den x) (over x') (under x') (den x') (over y) (under y) (den y) (over y') (under y') (den y') h k)

pub add_mono : (f : Format) (x x' y y' : Float) → T (le x x') → T (le y y') → Number (add f x y) → Number (add f x' y') → T (le (add f x y) (add f x' y'))
unfolding add le is_nan
add_mono f nan x' y y' h k a b = absurd h
add_mono f (inf true) x' nan y' h k a b = absurd k
add_mono f (inf true) x' (inf true) y' h k a b = least (add f x' y') b
add_mono f (inf true) x' (inf false) y' h k a b = absurd a
add_mono f (inf true) x' (fin t n d) y' h k a b = least (add f x' y') b
add_mono f (inf false) nan y y' h k a b = absurd h
add_mono f (inf false) (inf true) y y' h k a b = absurd h
add_mono f (inf false) (inf false) y nan h k a b = absurd b
add_mono f (inf false) (inf false) y (inf true) h k a b = absurd b
add_mono f (inf false) (inf false) y (inf false) h k a b = most (add f (inf false) y) a
add_mono f (inf false) (inf false) y (fin t n d) h k a b = most (add f (inf false) y) a
add_mono f (inf false) (fin t n d) y y' h k a b = absurd h
add_mono f (fin s m e) nan y y' h k a b = absurd h
add_mono f (fin s m e) (inf true) y y' h k a b = absurd h
add_mono f (fin s m e) (inf false) y nan h k a b = absurd b
add_mono f (fin s m e) (inf false) y (inf true) h k a b = absurd b
add_mono f (fin s m e) (inf false) y (inf false) h k a b = most (add f (fin s m e) y) a
add_mono f (fin s m e) (inf false) y (fin t n d) h k a b = most (add f (fin s m e) y) a
add_mono f (fin s m e) (fin s' m' e') nan y' h k a b = absurd k
add_mono f (fin s m e) (fin s' m' e') (inf true) y' h k a b = least (add f (fin s' m' e') y') b
add_mono f (fin s m e) (fin s' m' e') (inf false) nan h k a b = absurd k
add_mono f (fin s m e) (fin s' m' e') (inf false) (inf true) h k a b = absurd k
add_mono f (fin s m e) (fin s' m' e') (inf false) (inf false) h k a b = tt
add_mono f (fin s m e) (fin s' m' e') (inf false) (fin t n d) h k a b = absurd k
add_mono f (fin s m e) (fin s' m' e') (fin t n d) nan h k a b = absurd k
add_mono f (fin s m e) (fin s' m' e') (fin t n d) (inf true) h k a b = absurd k
add_mono f (fin s m e) (fin s' m' e') (fin t n d) (inf false) h k a b = most (add f (fin s m e) (fin t n d)) a
add_mono f (fin s m e) (fin s' m' e') (fin t n d) (fin t' n' d') h k a b =
    grown f (fin s m e) (fin s' m' e') (fin t n d) (fin t' n' d') tt tt tt tt (le→at-most (fin s m e) (fin s' m' e') tt tt h) (le→at-most (fin t n d) (fin t' n' d') tt tt k)

-- a difference falls as what is taken away grows
pub sub_mono : (f : Format) (x x' y y' : Float) → T (le x x') → T (le y' y) → Number (sub f x y) → Number (sub f x' y') → T (le (sub f x y) (sub f x' y'))
unfolding sub
sub_mono f x x' y y' h k a b = add_mono f x x' (neg y) (neg y') h (neg_anti y' y k) a b

-- the summands change places
swap : (p n c q m d : ℕ) → (p * d + q * c) * (d * c) + (m * c + n * d) * (c * d) ≤ (q * c + p * d) * (c * d) + (n * d + m * c) * (d * c)
swap p n c q m d = simp (add-mul, mul_assoc, mul_comm, mul_left_comm) (omega arith)

pub add_swap : (f : Format) (x y : Float) → Number (add f x y) → T (le (add f x y) (add f y x))
unfolding add le is_nan
add_swap f nan y a = absurd a
add_swap f (inf s) nan a = absurd a
add_swap f (inf true) (inf true) a = tt
add_swap f (inf true) (inf false) a = absurd a
add_swap f (inf false) (inf true) a = absurd a
add_swap f (inf false) (inf false) a = tt
add_swap f (inf true) (fin t n d) a = tt
add_swap f (inf false) (fin t n d) a = tt
add_swap f (fin s m e) nan a = absurd a
add_swap f (fin s m e) (inf true) a = tt
add_swap f (fin s m e) (inf false) a = tt
add_swap f (fin s m e) (fin t n d) a =
    placed_ordered (add_placed f (fin s m e) (fin t n d) tt tt) (add_placed f (fin t n d) (fin s m e) tt tt) (mul-pos (down_pos e) (down_pos d)) (mul-pos (down_pos d) (down_pos e))
    (swap (gain s (m * up e)) (loss s (m * up e)) (down e) (gain t (n * up d)) (loss t (n * up d)) (down d))
