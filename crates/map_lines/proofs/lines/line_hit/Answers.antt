use mathlib.Core.Path.{◌≡◌, refl, sym, ap}
use mathlib.Core.Bool.{true, false}
use Rattle.num_convert.specs.Convert.{i32_to_f32}
use Rattle.num_vec2.specs.declared.vec2.{vec2}
use Rattle.base_turns.specs.Turns.{more, stop}
use Rattle.base_turns.proofs.Loop.{turn_on, turn_off, turn_end}
use Rattle.map_tiles.specs.Map.{solid}
use Rattle.map_tiles.specs.declared.point.Tile.{Tile}
use Rattle.map_tiles.specs.declared.point.Tile.TheVariants.{Open, Normal, Deadly, Unhookable}
use Rattle.map_lines.proofs.Intervals.{passed}
use Rattle.map_lines.specs.Line.{or_hit, line_turn, or_nothing, line_hit}
use Rattle.map_lines.proofs.lines.line_hit.Goals as goal

or_hit_solid : (p : vec2) (t : Tile) → solid t ≡ true → or_hit p t ≡ stop (p, t)
or_hit_solid p Open h = cc
or_hit_solid p Normal h = refl
or_hit_solid p Deadly h = cc
or_hit_solid p Unhookable h = refl

or_hit_open : (p : vec2) (t : Tile) → solid t ≡ false → or_hit p t ≡ more tt
or_hit_open p Open h = refl
or_hit_open p Normal h = cc
or_hit_open p Deadly h = refl
or_hit_open p Unhookable h = cc

pub loop-i-init : goal.loop-i-init
loop-i-init c = passed _ _ _ _ _ _ _ c.open_turns-i.ensures.within c.open_turns-i.ensures.each_open

pub loop-i-preserved : goal.loop-i-preserved
unfolding line_turn i32_to_f32
loop-i-preserved c =
    turn_on c.loop-i.invariant c.loop-i-test.true
    (simp (← c.mix-point.ensures, ← c.check_point-tile.ensures) (or_hit_open _ _ (simp (← c.is_solid.ensures, c.if-is_solid.false))))

pub returns-then-is_solid : goal.returns-then-is_solid
unfolding line_hit line_turn i32_to_f32
returns-then-is_solid c =
    sym (ap or_nothing (turn_off c.loop-i.invariant c.loop-i-test.true
    (simp (← c.mix-point.ensures, ← c.check_point-tile.ensures) (or_hit_solid _ _ (simp (← c.is_solid.ensures, c.if-is_solid.true))))))

pub returns-after-loop-i : goal.returns-after-loop-i
unfolding line_hit
returns-after-loop-i c = sym (ap or_nothing (turn_end c.loop-i.invariant c.loop-i-test.false))
