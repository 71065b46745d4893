-- Which sums are nan: a nan among the summands makes one, and two numbers make none but for infinities of both signs. Assumes nothing.
use mathlib.Core.Path.{◌∙◌, ap, ◌≡◌, refl}
use mathlib.Core.Bool.{true, false, not}
use Prim.Native.Nat.{ℕ}
use lib.Dec.{T}
use lib.Ieee.{Float, nan, inf, fin, Format, round, neg, add, sub, mul, div, le, is_nan}
use lib.Ieee.Scale.{finite}
use Rattle.num_order.proofs.Chain.{Number, le_left, nought}
use Rattle.num_order.proofs.Places.{Placed}
use Rattle.num_order.proofs.Sums.{add_placed}

-- ---- a nan goes through
pub add_nan : (f : Format) (x : Float) → add f x nan ≡ nan
unfolding add
add_nan f nan = refl
add_nan f (inf s) = refl
add_nan f (fin s m e) = refl

pub mul_nan : (f : Format) (x : Float) → mul f x nan ≡ nan
unfolding mul
mul_nan f nan = refl
mul_nan f (inf s) = refl
mul_nan f (fin s m e) = refl

pub div_nan : (f : Format) (x : Float) → div f x nan ≡ nan
unfolding div
div_nan f nan = refl
div_nan f (inf s) = refl
div_nan f (fin s m e) = refl

pub sub_nan : (f : Format) (x y : Float) → y ≡ nan → sub f x y ≡ nan
unfolding sub neg
sub_nan f x y e = ap (λ (z : Float). add f x (neg z)) e ∙ add_nan f x

-- ---- the summands of what is no nan are none
pub summand : (f : Format) (x y : Float) → Number (add f x y) → Number x
unfolding add is_nan
summand f nan y a = a
summand f (inf s) y a = tt
summand f (fin s m e) y a = tt

pub minuend : (f : Format) (x y : Float) → Number (sub f x y) → Number x
unfolding sub
minuend f x y a = summand f x (neg y) a

pub second : (f : Format) (x y : Float) → Number (add f x y) → Number y
unfolding add is_nan
second f nan y a = absurd a
second f (inf s) nan a = a
second f (inf s) (inf t) a = tt
second f (inf s) (fin t n d) a = tt
second f (fin s m e) nan a = a
second f (fin s m e) (inf t) a = tt
second f (fin s m e) (fin t n d) a = tt

pub subtrahend : (f : Format) (x y : Float) → Number (sub f x y) → Number y
unfolding sub neg is_nan
subtrahend f x nan a = second f x nan a
subtrahend f x (inf t) a = tt
subtrahend f x (fin t n d) a = tt

-- a sum with a finite value is no nan, nor is one of two that are not below zero
pub placed_number : {f : Format} {z : Float} {p n c : ℕ} → Placed f z p n c → Number z
placed_number {f} {z} {p} {n} {c} h = le_left z (round f h.sign h.size c) h.from

pub add_number : (f : Format) (x y : Float) → Number x → T (finite y) → Number (add f x y)
unfolding add is_nan
add_number f nan y a q = a
add_number f (inf s) nan a q = q
add_number f (inf s) (inf t) a q = absurd q
add_number f (inf s) (fin t n d) a q = tt
add_number f (fin s m e) nan a q = q
add_number f (fin s m e) (inf t) a q = tt
add_number f (fin s m e) (fin t n d) a q = placed_number (add_placed f (fin s m e) (fin t n d) tt tt)

pub sub_number : (f : Format) (x y : Float) → Number x → T (finite y) → Number (sub f x y)
unfolding sub neg
sub_number f x nan a q = absurd q
sub_number f x (inf t) a q = absurd q
sub_number f x (fin t n d) a q = add_number f x (fin (not t) n d) a tt

pub above_number : (f : Format) (x y : Float) → T (le nought x) → T (le nought y) → Number (add f x y)
unfolding add le is_nan
above_number f nan y h k = absurd h
above_number f (inf true) y h k = absurd h
above_number f (inf false) nan h k = absurd k
above_number f (inf false) (inf true) h k = absurd k
above_number f (inf false) (inf false) h k = tt
above_number f (inf false) (fin t n d) h k = tt
above_number f (fin s m e) nan h k = absurd k
above_number f (fin s m e) (inf t) h k = tt
above_number f (fin s m e) (fin t n d) h k = placed_number (add_placed f (fin s m e) (fin t n d) tt tt)
