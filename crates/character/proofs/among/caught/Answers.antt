use Rattle.character.specs.Tick.{caught}
use Rattle.character.proofs.among.caught.Goals as goal

pub returns-then-player_hooking : goal.returns-then-player_hooking
unfolding caught
returns-then-player_hooking c = λ ss places. simp (c.in-Along.is, c.if-player_hooking.true, ← c.nearest.ensures ss places, ← c.grab.ensures)

pub returns-in-Still : goal.returns-in-Still
unfolding caught
returns-in-Still c = λ ss places. simp c.in-Still.is

pub returns-else-player_hooking : goal.returns-else-player_hooking
unfolding caught
returns-else-player_hooking c = λ ss places. simp (c.in-Along.is, c.if-player_hooking.false)
