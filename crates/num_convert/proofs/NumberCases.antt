-- Proved case 7 of document 01: 7 plus 1 between -5 and 5 stays 7, and plus -1 it is 5. Assumes nothing.
use Rattle.std.proofs.Common.{◌≡◌, refl}
use lib.Ieee.{binary32, of_bits, add, lt}
use Rattle.num_convert.specs.Number.{clamp, saturated_add}

pub record Cases : Type 0 where
  pub stays : saturated_add (of_bits binary32 0xc0a0_0000) (of_bits binary32 0x40a0_0000) (of_bits binary32 0x40e0_0000) (of_bits binary32 0x3f80_0000) ≡ of_bits binary32 0x40e0_0000
  pub falls : saturated_add (of_bits binary32 0xc0a0_0000) (of_bits binary32 0x40a0_0000) (of_bits binary32 0x40e0_0000) (of_bits binary32 0xbf80_0000) ≡ of_bits binary32 0x40a0_0000

pub cases : Cases
unfolding saturated_add clamp of_bits add lt
cases = record { stays = refl; falls = refl }
