-- Proved case 9 of document 01: the angles of (1, 1), (-1, 0) and (0, -1). Assumes nothing.
use mathlib.Core.Path.{◌≡◌, refl}
use lib.IntN.{pos, negsuc}
use Rattle.aim_tables.specs.Tables.{cos_t, sin_t}
use Rattle.aim_rule.specs.Angle.{side, largest, upper_angle, net_angle}

pub record Cases : Type 0 where
  pub diagonal : net_angle (pos 1) (pos 1) ≡ pos 201
  pub left : net_angle (negsuc 0) (pos 0) ≡ pos 804
  pub up : net_angle (pos 0) (negsuc 0) ≡ negsuc 401

pub cases : Cases
unfolding cos_t sin_t side largest upper_angle net_angle
cases = record { diagonal = refl; left = refl; up = refl }
