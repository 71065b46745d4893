-- The record of what a record reads as is that record. Assumes nothing.
use mathlib.Core.Path.{◌≡◌, refl, sym, ap, ◌∙◌}
use Prim.Native.Nat.{ℕ, ◌-◌, ◌^◌, ◌≤◌, ◌<◌}
use native.Mathlib.Omega.{arith}
use lib.Dec.{lit<}
use lib.IntN.{pos}
use Rattle.num_convert.proofs.Again.{round_again, 256ths_again, whole_256ths_again}
use Rattle.num_convert.proofs.Back.{cast_back}
use Rattle.num_convert.specs.Casts.{cast_unsigned}
use Rattle.num_convert.specs.Convert.{i32_to_f32, to256ths, from256ths}
use Rattle.num_convert.specs.Whole.{round_to_i32}
use Rattle.num_vec2.specs.Vec2.{vnew}
use Rattle.game_input.specs.Direction.{angle_to_net, angle_from_net}
use Rattle.game_input.specs.declared.direction.Angle.{Angle}
use Rattle.game_records.specs.declared.CharacterCore.{CharacterCore}
use Rattle.character_hook.proofs.States.{held_somebody}
use Rattle.character_hook.specs.Hook.{net_state, net_pos, net_dir, tick_of, net_hooked_player, attached_or_grabbed, hook_from_net}
use Rattle.character_hook.specs.declared.hook.Hook.{Hook}
use Rattle.character_hook.specs.declared.hook.Hook.TheVariants.{Retracted, Idle, Flying, Grabbed, Attached, Retracting0, Retracting1, Retracting2}
use Rattle.character.specs.Records.{net_jumped, core_of, most_tick, to_net, from_net}
use Rattle.character.specs.declared.Character.{Character}
use Rattle.character_laws.proofs.Back.{used_back, already_back, direction_back, to_core}
use Rattle.character_laws.proofs.FitsHook.{FitsPlace}
use Rattle.num_order.proofs.Vectors.{FitsPair}
use Rattle.character_laws.proofs.Held.{Only}
use Rattle.std.specs.Prelude.{Ok}

-- no player that would read as nobody
abbrev pub Small : ℕ → Type 0
Small k = k < 2 ^ 32 - 1

-- ---- the parts
angle_again : (a : Angle) → angle_to_net (angle_from_net (angle_to_net a)) ≡ angle_to_net a
unfolding angle_to_net angle_from_net
angle_again a = whole_256ths_again 0 a.radians (lit< tt)

-- a hook as its record reads
abbrev hook_back : Hook → Hook
hook_back h = hook_from_net (net_state h) (vnew (i32_to_f32 (round_to_i32 (net_pos h).x)) (i32_to_f32 (round_to_i32 (net_pos h).y))) (vnew (from256ths (to256ths (net_dir h).x)) (from256ths (to256ths (net_dir h).y))) (net_hooked_player h) (record { 0 = pos (tick_of h) })

-- its numbers
record Same (g h : Hook) : Type 0 where
  player : net_hooked_player g ≡ net_hooked_player h
  state : net_state g ≡ net_state h
  ticks : tick_of g ≡ tick_of h
  x : round_to_i32 (net_pos g).x ≡ round_to_i32 (net_pos h).x
  y : round_to_i32 (net_pos g).y ≡ round_to_i32 (net_pos h).y
  dx : to256ths (net_dir g).x ≡ to256ths (net_dir h).x
  dy : to256ths (net_dir g).y ≡ to256ths (net_dir h).y

same_hook : (g h : Hook) → g ≡ h → Same g h
same_hook g h e = record { player = ap net_hooked_player e; state = ap net_state e; ticks = ap tick_of e; x = ap (λ (k : Hook). round_to_i32 (net_pos k).x) e; y = ap (λ (k : Hook). round_to_i32 (net_pos k).y) e; dx = ap (λ (k : Hook). to256ths (net_dir k).x) e; dy = ap (λ (k : Hook). to256ths (net_dir k).y) e }

hook_again : (h : Hook) → FitsPlace h → Only Small h → Same (hook_back h) h
unfolding hook_from_net attached_or_grabbed net_state net_pos net_dir net_hooked_player tick_of cast_unsigned
hook_again Retracted f o = same_hook Retracted Retracted refl
hook_again Idle f o = same_hook Idle Idle refl
hook_again (Flying p d) f o = record { player = refl; state = refl; ticks = refl; x = round_again p.x f.0; y = round_again p.y f.1; dx = 256ths_again d.x; dy = 256ths_again d.y }
hook_again (Grabbed c t) f o = same_hook (hook_back (Grabbed c t)) (Grabbed c t) (rw (held_somebody c.0 o, cast_back c.0 (omega (arith, o))))
hook_again (Attached p) f o = record { player = refl; state = refl; ticks = refl; x = round_again p.x f.0; y = round_again p.y f.1; dx = refl; dy = refl }
hook_again (Retracting0 p) f o = record { player = refl; state = refl; ticks = refl; x = round_again p.x f.0; y = round_again p.y f.1; dx = refl; dy = refl }
hook_again (Retracting1 p) f o = record { player = refl; state = refl; ticks = refl; x = round_again p.x f.0; y = round_again p.y f.1; dx = refl; dy = refl }
hook_again (Retracting2 p) f o = record { player = refl; state = refl; ticks = refl; x = round_again p.x f.0; y = round_again p.y f.1; dx = refl; dy = refl }

-- ---- the character
core_again : (c : Character) → FitsPair c.pos → FitsPlace c.hook → Only Small c.hook → core_of (from_net (core_of c)) ≡ core_of c
unfolding core_of from_net net_jumped
core_again c p f o =
    let h = hook_again c.hook f o in
    rw (round_again c.pos.x p.0, round_again c.pos.y p.1, 256ths_again c.vel.x, 256ths_again c.vel.y, angle_again c.angle, direction_back c.move_direction, used_back c, already_back c, h.player, h.state, h.ticks, h.x, h.y, h.dx, h.dy)

ticks_again : (c : Character) → FitsPlace c.hook → Only Small c.hook → tick_of (from_net (core_of c)).hook ≡ tick_of c.hook
unfolding core_of from_net
ticks_again c f o = (hook_again c.hook f o).ticks

pub net_again : (c : Character) (core : CharacterCore) → FitsPair c.pos → FitsPlace c.hook → Only Small c.hook → tick_of c.hook ≤ most_tick → core ≡ core_of c → to_net (from_net core) ≡ Ok core
net_again c core p f o t e = ap (λ (n : CharacterCore). to_net (from_net n)) e ∙ to_core (from_net (core_of c)) (let q = ticks_again c f o in omega arith) ∙ ap Ok (core_again c p f o ∙ sym e)
