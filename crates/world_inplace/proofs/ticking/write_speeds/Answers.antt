use Prim.Native.Nat.{ℕ, ◌<◌}
use mathlib.Core.Path.{◌≡◌}
use native.Mathlib.Omega.{arith}
use Rattle.character.proofs.Held.{held_below}
use Rattle.character.specs.Tick.{seats}
use Rattle.character.specs.Among.{held_seat}
use Rattle.character_hook.specs.declared.hook.Hook.{Hook}
use Rattle.world_inplace.specs.Bodies.{Bodies, left_at}
use Rattle.world_inplace.proofs.Speeds.{speeds_left}
use borrow.Author.Rules.{rules}
use Rattle.world_inplace.proofs.ticking.write_speeds.Goals.{After-held_seat-held}
use Rattle.world_inplace.proofs.ticking.write_speeds.Goals as goal

-- somebody is held at a seat
below : (h id : ℕ) (hook : Hook) → h ≡ held_seat seats hook id → id < seats → h < seats
below h id hook e l = rw e (held_below seats id hook l)

pub offset_bounds-xs-held : goal.offset_bounds-xs-held
offset_bounds-xs-held c = let h = below _ _ _ c.held_seat-held.ensures c.requires in omega (arith, h)

pub bounds-xs-held : goal.bounds-xs-held
bounds-xs-held c = below _ _ _ c.held_seat-held.ensures c.requires

pub offset_bounds-ys-held : goal.offset_bounds-ys-held
offset_bounds-ys-held c = let h = below _ _ _ c.held_seat-held.ensures c.requires in omega (arith, h)

pub bounds-ys-held : goal.bounds-ys-held
bounds-ys-held c = below _ _ _ c.held_seat-held.ensures c.requires

pub offset_bounds-vxs-held : goal.offset_bounds-vxs-held
offset_bounds-vxs-held c = let h = below _ _ _ c.held_seat-held.ensures c.requires in omega (arith, h)

pub bounds-vxs-held : goal.bounds-vxs-held
bounds-vxs-held c = below _ _ _ c.held_seat-held.ensures c.requires

pub offset_bounds-vys-held : goal.offset_bounds-vys-held
offset_bounds-vys-held c = let h = below _ _ _ c.held_seat-held.ensures c.requires in omega (arith, h)

pub bounds-vys-held : goal.bounds-vys-held
bounds-vys-held c = below _ _ _ c.held_seat-held.ensures c.requires

pub bounds-present-held : goal.bounds-present-held
bounds-present-held c = below _ _ _ c.held_seat-held.ensures c.requires

pub pull_at-pull-requires : goal.pull_at-pull-requires
pull_at-pull-requires c = below _ _ _ c.held_seat-held.ensures c.requires

pub offset_bounds-vxs-held-2 : goal.offset_bounds-vxs-held-2
offset_bounds-vxs-held-2 c = let h = below _ _ _ c.held_seat-held.ensures c.requires in omega (arith, h)

pub bounds-vxs-held-2 : goal.bounds-vxs-held-2
bounds-vxs-held-2 c = below _ _ _ c.held_seat-held.ensures c.requires

pub offset_bounds-vys-held-2 : goal.offset_bounds-vys-held-2
offset_bounds-vys-held-2 c = let h = below _ _ _ c.held_seat-held.ensures c.requires in omega (arith, h)

pub bounds-vys-held-2 : goal.bounds-vys-held-2
bounds-vys-held-2 c = below _ _ _ c.held_seat-held.ensures c.requires

pub returns : goal.returns
unfolding left_at
returns c =
    let a = c.args in
    let b : Bodies = record { present = a.present.now; xs = a.xs.now; ys = a.ys.now; vxs = a.vxs.now; vys = a.vys.now } in
    let held = c.held_seat-held.result in
    let left : c.pulled_vel-left.result ≡ left_at b a.me a.id held a.tuning = simp (← c.new-place.ensures, ← c.new-vel.ensures, ← c.pull_at-pull.ensures, ← c.pulled_vel-left.ensures) in
    speeds_left b a.me a.id held a.tuning c.pulled_vel-left.result c.held_seat-held.ensures left
