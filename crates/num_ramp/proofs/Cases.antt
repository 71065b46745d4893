-- Exponents at the ends: an infinite one counts as 16,777,215 parts, and to either zero every number is 1. Assumes nothing.
use Rattle.std.proofs.Common.{◌≡◌, Bool, refl}
use lib.Ieee.{Float, nan, inf, binary32, of_bits, lt, is_nan, mul}
use Rattle.num_convert.specs.Number.{c0, c1}
use Rattle.base_turns.specs.Turns.{fold}
use Rattle.num_ramp.specs.Power.{parts, squares, roots, powf}

pub record Cases : Type 0 where
  pub infinite : (s : Bool) → parts (inf s) ≡ 16777215
  pub not_anumber : (c : Float) → powf c nan ≡ nan
  pub zero : (c : Float) → powf c c0 ≡ c1
  pub minus_zero : (c : Float) → powf c (of_bits binary32 0x8000_0000) ≡ c1

pub cases : Cases
unfolding parts squares roots powf fold of_bits lt is_nan mul
cases = record { infinite = λ s. refl; not_anumber = λ c. refl; zero = λ c. refl; minus_zero = λ c. refl }
