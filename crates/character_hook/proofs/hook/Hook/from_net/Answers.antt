use mathlib.Core.Path.{◌∙◌, ap}
use lib.IntN.{ℤ}
use mir.Facts.{to_z-of_z}
use mir.Syntax.{w32}
use borrow.Author.Rules.{rules}
use Rattle.character_hook.proofs.States.{by_bits, no_state}
use Rattle.character_hook.specs.Hook.{attached_or_grabbed, hook_from_net}
use Rattle.character_hook.proofs.hook.Hook.from_net.Goals as goal

pub returns-in-0 : goal.returns-in-0
unfolding hook_from_net
returns-in-0 c = simp (by_bits _ _ c.ranges.hook_state c.in-0.in-0-own.keys1)

pub returns-in-4 : goal.returns-in-4
unfolding hook_from_net
returns-in-4 c = simp (by_bits _ _ c.ranges.hook_state c.in-4.in-4-own.keys2)

pub returns-in-5 : goal.returns-in-5
unfolding hook_from_net
returns-in-5 c =
    let s = c in
    rw (by_bits s.args.hook_state 5 s.ranges.hook_state c.in-5.in-5-own.keys3) (c.attached_or_grabbed.ensures ∙ ap (λ (z : ℤ). attached_or_grabbed s.args.pos z s.args.hook_tick) (to_z-of_z {w = w32} s.ranges.hooked_player))

pub returns-in-1 : goal.returns-in-1
unfolding hook_from_net
returns-in-1 c = simp (by_bits _ _ c.ranges.hook_state c.in-1.in-1-own.keys4)

pub returns-in-2 : goal.returns-in-2
unfolding hook_from_net
returns-in-2 c = simp (by_bits _ _ c.ranges.hook_state c.in-2.in-2-own.keys5)

pub returns-in-3 : goal.returns-in-3
unfolding hook_from_net
returns-in-3 c = simp (by_bits _ _ c.ranges.hook_state c.in-3.in-3-own.keys6)

pub returns-in_default : goal.returns-in_default
returns-in_default c = let r = c.in_default.in_default-own.rest in no_state _ _ _ _ _ r.0.0.0.0.0.1 r.0.0.1 r.0.1 r.1 r.0.0.0.0.1 r.0.0.0.1
