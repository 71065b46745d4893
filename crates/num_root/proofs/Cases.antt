-- Proved case 1 of document 01, by computation. Assumes nothing.
use mathlib.Core.Path.{◌≡◌, refl}
use lib.Ieee.{binary32, of_bits, to_bits, round}
use Rattle.num_root.specs.Root.{root, root_of, isqrt}

pub least_root : to_bits binary32 (root binary32 (of_bits binary32 0x0000_0001)) ≡ 0x1a35_04f3
unfolding root root_of isqrt to_bits of_bits round
least_root = refl
