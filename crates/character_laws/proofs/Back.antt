-- Into a record and back: a representable character is unchanged, and only such. Assumes nothing.
use mathlib.Core.Bool.{Bool, true, false, cond}
use mathlib.Core.Path.{◌≡◌, refl, sym, ap, ◌∙◌}
use Prim.Native.Nat.{ℕ, ◌+◌, ◌≤◌, zero-le}
use native.Mathlib.Omega.{arith}
use lib.Dec.{leb, lit<}
use lib.Ieee.{Float, binary32, mul}
use lib.IntN.{pos}
use borrow.Author.Tests.{leb-true, le-leb}
use Rattle.num_convert.proofs.Back.{cast_back}
use Rattle.num_convert.specs.Casts.{cast_unsigned}
use Rattle.character.specs.declared.Character.{Character}
use Rattle.game_input.specs.Direction.{from_int, as_int, angle_to_net, angle_from_net}
use Rattle.game_input.specs.declared.direction.Angle.{Angle}
use Rattle.game_input.specs.declared.direction.MoveDirection.{MoveDirection}
use Rattle.game_input.specs.declared.direction.MoveDirection.TheVariants.{Left, None, Right}
use Rattle.num_convert.proofs.FromI32.{i32_whole, i32_256ths}
use Rattle.num_convert.specs.Convert.{c256, i32_to_f32, to256ths, from256ths}
use Rattle.character_hook.proofs.States.{held_somebody}
use Rattle.character_hook.specs.Hook.{net_state, net_pos, net_dir, tick_of, net_hooked_player, attached_or_grabbed, hook_from_net}
use Rattle.character_hook.specs.declared.hook.Hook.{Hook}
use Rattle.character_hook.specs.declared.hook.Hook.TheVariants.{Retracted, Idle, Flying, Grabbed, Attached, Retracting0, Retracting1, Retracting2}
use Rattle.character.specs.Records.{net_jumped, used_airjump_from_net, jumped_already_from_net, core_of, most_tick, to_net, from_net, back, quantize}
use Rattle.character_laws.specs.Representable.{OfI32, Pair, RepresentableHook, Representable}
use Rattle.game_records.specs.declared.CharacterCore.{CharacterCore}
use Rattle.num_vec2.specs.Vec2.{vnew}
use Rattle.num_vec2.specs.declared.vec2.{vec2}
use Rattle.num_convert.specs.Whole.{round_to_i32, trunc_to_i32}
use Rattle.std.specs.Prelude.{Ok, Err}
use Rattle.game_refusals.specs.declared.Refusal.TheVariants.{TickTooLarge}

-- ---- numbers
whole_back : (x : Float) → OfI32 i32_to_f32 x → i32_to_f32 (round_to_i32 x) ≡ x
whole_back x w = ap (λ (y : Float). i32_to_f32 (round_to_i32 y)) w.is ∙ i32_whole 1 w.number (lit< tt) w.in_i32 ∙ sym w.is

256ths_back : (x : Float) → OfI32 from256ths x → from256ths (to256ths x) ≡ x
unfolding to256ths
256ths_back x w = ap (λ (y : Float). from256ths (to256ths y)) w.is ∙ i32_256ths 1 w.number (lit< tt) w.in_i32 ∙ sym w.is

angle_back : (a : Angle) → OfI32 from256ths a.radians → angle_from_net (angle_to_net a) ≡ a
unfolding angle_to_net angle_from_net
angle_back a w = ap (λ (x : Float). record { radians = x }) (ap (λ (y : Float). from256ths (trunc_to_i32 (mul binary32 y c256))) w.is ∙ i32_256ths 0 w.number (lit< tt) w.in_i32 ∙ sym w.is)

pub direction_back : (d : MoveDirection) → from_int (as_int d) ≡ d
unfolding from_int as_int
direction_back Left = refl
direction_back None = refl
direction_back Right = refl

-- ---- pairs
wholes_back : (p : vec2) → Pair i32_to_f32 p → vnew (i32_to_f32 (round_to_i32 p.x)) (i32_to_f32 (round_to_i32 p.y)) ≡ p
wholes_back p w = rw (whole_back p.x w.0, whole_back p.y w.1)

256ths_pair_back : (p : vec2) → Pair from256ths p → vnew (from256ths (to256ths p.x)) (from256ths (to256ths p.y)) ≡ p
256ths_pair_back p w = rw (256ths_back p.x w.0, 256ths_back p.y w.1)

-- ---- the jump
pub used_back : (c : Character) → used_airjump_from_net (net_jumped c) ≡ c.used_airjump
unfolding used_airjump_from_net net_jumped cast_unsigned
used_back c = go c.used_airjump c.jumped_already
  where
    go : (u j : Bool) → used_airjump_from_net (pos (cond u 2 0 + cond j 1 0)) ≡ u
    go true true = refl
    go true false = refl
    go false true = refl
    go false false = refl

pub already_back : (c : Character) → jumped_already_from_net (net_jumped c) ≡ c.jumped_already
unfolding jumped_already_from_net net_jumped cast_unsigned
already_back c = go c.used_airjump c.jumped_already
  where
    go : (u j : Bool) → jumped_already_from_net (pos (cond u 2 0 + cond j 1 0)) ≡ j
    go true true = refl
    go true false = refl
    go false true = refl
    go false false = refl

-- ---- the hook
abbrev hook_back : Hook → Hook
hook_back h = hook_from_net (net_state h) (vnew (i32_to_f32 (round_to_i32 (net_pos h).x)) (i32_to_f32 (round_to_i32 (net_pos h).y))) (vnew (from256ths (to256ths (net_dir h).x)) (from256ths (to256ths (net_dir h).y))) (net_hooked_player h) (record { 0 = pos (tick_of h) })

hook_back_lem : (h : Hook) → RepresentableHook h → hook_back h ≡ h
unfolding hook_from_net attached_or_grabbed net_state net_pos net_dir net_hooked_player tick_of cast_unsigned
hook_back_lem Retracted w = refl
hook_back_lem Idle w = refl
hook_back_lem (Flying p d) w = rw (wholes_back p w.0, 256ths_pair_back d w.1)
hook_back_lem (Grabbed c t) w = rw (held_somebody c.0 w.0, cast_back c.0 (omega (arith, w.0)))
hook_back_lem (Attached p) w = ap Attached (wholes_back p w)
hook_back_lem (Retracting0 p) w = ap Retracting0 (wholes_back p w)
hook_back_lem (Retracting1 p) w = ap Retracting1 (wholes_back p w)
hook_back_lem (Retracting2 p) w = ap Retracting2 (wholes_back p w)

tick_fits : (h : Hook) → RepresentableHook h → tick_of h ≤ most_tick
unfolding tick_of
tick_fits Retracted w = zero-le
tick_fits Idle w = zero-le
tick_fits (Flying p d) w = zero-le
tick_fits (Grabbed c t) w = w.1
tick_fits (Attached p) w = zero-le
tick_fits (Retracting0 p) w = zero-le
tick_fits (Retracting1 p) w = zero-le
tick_fits (Retracting2 p) w = zero-le

-- ---- the character
pub from_core : (c : Character) → Representable c → from_net (core_of c) ≡ c
unfolding from_net core_of
from_core c w = rw (wholes_back c.pos w.pos, 256ths_pair_back c.vel w.vel, hook_back_lem c.hook w.hook, already_back c, used_back c, angle_back c.angle w.angle, direction_back c.move_direction)

pub to_core : (c : Character) → tick_of c.hook ≤ most_tick → to_net c ≡ Ok (core_of c)
unfolding to_net
to_core c h = rw (le-leb (tick_of c.hook) most_tick h)

-- the record of a character is its own, and its tick fits
pub record_of_lem : (c : Character) (core : CharacterCore) → to_net c ≡ Ok core → (core ≡ core_of c) × (tick_of c.hook ≤ most_tick)
unfolding to_net
record_of_lem c core = go (leb (tick_of c.hook) most_tick) refl
  where
    go : (b : Bool) → leb (tick_of c.hook) most_tick ≡ b → cond b (Ok (core_of c)) (Err TickTooLarge) ≡ Ok core → (core ≡ core_of c) × (tick_of c.hook ≤ most_tick)
    go true l q = (cc, leb-true (tick_of c.hook) most_tick l)
    go false l q = let z : ◌≡◌ {A = ℕ} 0 1 = cc in absurd (omega arith)

pub representable_back : (c : Character) → Representable c → quantize c ≡ Ok c
unfolding quantize
representable_back c w = ap back (to_core c (tick_fits c.hook w.hook)) ∙ ap Ok (from_core c w)
