-- A record is near to its character, and the box that it tells of is clear, and on a deadly tile, where the character's is. Assumes nothing.
use mathlib.Core.List.{List}
use mathlib.Core.Path.{◌≡◌}
use Prim.Native.Nat.{ℕ}
use lib.Dec.{T}
use lib.Ieee.{binary32, fits}
use Rattle.character.specs.Records.{core_of, from_net}
use Rattle.character.specs.declared.Character.{Character}
use Rattle.character_laws.specs.Faithful.{Faithful}
use Rattle.map_tiles.proofs.Quantized.{quantized_clear, quantized_deadly}
use Rattle.map_tiles.specs.Box.{check_box, character_box, on_deadly, vquantize}
use Rattle.map_tiles.specs.Map.{is_map}
use Rattle.map_tiles.specs.declared.tiles.Sides.{Sides}
use Rattle.num_convert.proofs.Nearby.{round-near, 256ths_near}
use Rattle.num_convert.specs.Convert.{quantize}

pub core_faithful : (c : Character) → T (fits binary32 c.vel.x) → T (fits binary32 c.vel.y) → Faithful (core_of c) c.pos c.vel
unfolding core_of
core_faithful c fx fy = record {
  x = round-near c.pos.x;
  y = round-near c.pos.y;
  vel_x = 256ths_near c.vel.x fx;
  vel_y = 256ths_near c.vel.y fy;
}

pub core_clear : (s : Sides) (ts : List ℕ) (c : Character) → T (is_map s ts) → T (fits binary32 c.pos.x) → T (fits binary32 c.pos.y) → check_box s ts (from_net (core_of c)).pos character_box ≡ check_box s ts c.pos character_box
unfolding from_net core_of vquantize quantize
core_clear s ts c m fx fy = quantized_clear s ts c.pos m fx fy

pub core_deadly : (s : Sides) (ts : List ℕ) (c : Character) → T (is_map s ts) → T (fits binary32 c.pos.x) → T (fits binary32 c.pos.y) → on_deadly s ts (from_net (core_of c)).pos ≡ on_deadly s ts c.pos
unfolding from_net core_of vquantize quantize
core_deadly s ts c m fx fy = quantized_deadly s ts c.pos m fx fy
