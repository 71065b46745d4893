-- What a scan answers: the angle of a target, and how many entries it read. Definitions only.
use Rattle.std.specs.Prelude.{ℕ, ◌+◌, ◌-◌, cond, ℤ}
use Rattle.aim_rule.specs.Angle.{net_angle}
use Rattle.aim_rule.specs.Scan.{is_zero, upright_angle, first_entry, entries_read}
use Rattle.aim_scan.specs.declared.scan.Scan.{Scan}
use Rattle.aim_scan.specs.declared.scan.Found.{Found}

abbrev pub scanned : ℤ → ℤ → Scan
scanned x y = record { angle = net_angle x y; read = entries_read x y }

-- of a target that lies y up: the entry that it ends at
abbrev pub upright_scan : ℤ → ℕ → Found
upright_scan x y = record { n = upright_angle x y; read = cond (is_zero x y) 0 (first_entry x + 1 - upright_angle x y) }
