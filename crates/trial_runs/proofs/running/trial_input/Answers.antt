use mathlib.Core.Path.{◌≡◌, ap, ◌∙◌}
use Prim.Native.Nat.{ℕ}
use lib.IntN.{ℤ, pos}
use mir.Syntax.{w32}
use mir.Facts.{to_z-of_z}
use Rattle.num_convert.specs.Convert.{i32_to_f32}
use Rattle.map_corners.specs.Tile.{tile_at}
use Rattle.map_tiles.specs.declared.tiles.Sides.{Sides}
use Rattle.map_tiles.proofs.Maps.{is_side_lem}
use Rattle.world.specs.Run.{input_of}
use Rattle.world_numbers.specs.Encoding.{flag}
use Rattle.trial_rule.specs.Trial.{towards}
use Rattle.trial_rule.specs.declared.Player.{Player}
use Rattle.trial_runs.specs.InPlace.{trial_input}
use borrow.Author.Rules.{rules}
use Rattle.trial_runs.proofs.running.trial_input.Goals as goal

made : (s : Sides) (p : Player) (x d j : ℤ) (own : ℕ) → own ≡ tile_at s.width (i32_to_f32 x) → d ≡ towards own p.column → j ≡ flag p.stayed → input_of d (pos 0) (pos 0) j (pos 0) ≡ trial_input s p x
unfolding trial_input
made s p x d j own e f g = rw (f, g, e)

pub tile_at-own-requires : goal.tile_at-own-requires
tile_at-own-requires c = (is_side_lem _ c.requires).0

pub returns : goal.returns
returns c =
    let t = c in
    made t.args.sides t.args.player t.args.x _ _ _ (c.tile_at-own.ensures.0 ∙ ap (tile_at t.args.sides.width) (c.i32_to_f32.ensures ∙ ap i32_to_f32 (to_z-of_z t.ranges.x))) (to_z-of_z {w = w32} (search rules) ∙ c.towards.ensures) (to_z-of_z {w = w32} (search rules) ∙ c.flag.ensures)
