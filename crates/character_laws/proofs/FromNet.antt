-- What a record makes is representable, but for those that hold somebody below zero; so quantizing twice is quantizing once. Assumes nothing.
use mathlib.Core.Bool.{Bool, true, false, cond, true≢false}
use mathlib.Core.Path.{◌≡◌, refl, sym, ap, ◌∙◌, subst}
use Prim.Native.Nat.{ℕ, zero, suc, ◌-◌, ◌^◌, ◌≤◌, ◌<◌, suc-le-suc}
use native.Mathlib.Nat.{le_of_suc-le-suc}
use native.Mathlib.Omega.{arith}
use lib.Dec.{T, lit<, leb, eqb, eqb→eq, leb→le}
use lib.Ieee.{of_int, of_bits, div}
use lib.IntN.{ℤ, pos, negsuc}
use lib.Signed.{non_neg}
use borrow.Author.Tests.{lt-leb}
use Rattle.num_convert.proofs.Back.{signed_in}
use Rattle.num_convert.specs.Casts.{cast_unsigned, IsI32}
use Rattle.character.specs.Character.{spawn}
use Rattle.character.specs.declared.Character.{Character}
use Rattle.game_input.specs.Direction.{angle_to_net, angle_from_net}
use Rattle.num_convert.specs.Convert.{i32_to_f32, to256ths, from256ths}
use Rattle.character_hook.specs.Hook.{id_of, nobody, net_hooked_player, tick_of, attached_or_grabbed, hook_from_net}
use Rattle.character_hook.specs.declared.hook.Hook.{Hook}
use Rattle.character_hook.specs.declared.hook.Hook.TheVariants.{Retracted, Idle, Flying, Grabbed, Attached, Retracting0, Retracting1, Retracting2}
use Rattle.num_convert.specs.Number.{c0}
use Rattle.character_laws.proofs.Back.{representable_back}
use Rattle.character.specs.Records.{core_of, most_tick, to_net, from_net, back, quantize}
use Rattle.character_laws.specs.Representable.{OfI32, Pair, RepresentableHook, Representable, AllI32, HeldBelowZero}
use Rattle.game_records.specs.declared.CharacterCore.{CharacterCore}
use Rattle.game_records.specs.declared.Tick.{Tick}
use Rattle.num_vec2.specs.Vec2.{vnew}
use Rattle.num_vec2.specs.declared.vec2.{vec2}
use Rattle.num_convert.proofs.Ranges.{whole_in}
use Rattle.std.specs.Prelude.{Result, Ok, Err}
use Rattle.game_refusals.specs.declared.Refusal.{Refusal}
use Rattle.game_refusals.specs.declared.Refusal.TheVariants.{TickTooLarge}

-- by the test of a `cond`
either : {A : Type 0} (b : Bool) (x y : A) (P : A → Type 0) → (T b → P x) → P y → P (cond b x y)
either true x y P p q = p tt
either false x y P p q = q

-- ---- the hook of a record
player_in : (z : ℤ) → IsI32 z → nobody z ≡ false → cast_unsigned z < 2 ^ 32 - 1
unfolding cast_unsigned
player_in (pos n) h e = omega arith
player_in (negsuc zero) h e = absurd (true≢false e)
player_in (negsuc (suc k)) h e = omega arith

ticks_in : (z : ℤ) → IsI32 z → ((k : ℕ) → z ≡ negsuc k → ⊥) → cast_unsigned z ≤ 2147483647
unfolding cast_unsigned
ticks_in (pos n) h e = le_of_suc-le-suc h
ticks_in (negsuc k) h e = absurd (e k refl)

module _ (p d : vec2) (player : ℤ) (t : Tick) (w : Pair i32_to_f32 p) (v : Pair from256ths d) (i : IsI32 player) (j : IsI32 t.0) where
  held_or_not : (nobody player ≡ false → (k : ℕ) → t.0 ≡ negsuc k → ⊥) → RepresentableHook (attached_or_grabbed p player t)
  unfolding attached_or_grabbed
  held_or_not e = go (nobody player) refl
    where
      go : (b : Bool) → nobody player ≡ b → RepresentableHook (cond b (Attached p) (Grabbed (id_of (cast_unsigned player)) (cast_unsigned t.0)))
      go true f = w
      go false f = (player_in player i f, ticks_in t.0 j (e f))

  hook_representable : (s : ℤ) → (s ≡ pos 5 → nobody player ≡ false → (k : ℕ) → t.0 ≡ negsuc k → ⊥) → RepresentableHook (hook_from_net s p d player t)
  unfolding hook_from_net
  hook_representable (negsuc k) e = tt
  hook_representable (pos n) e =
      let R = RepresentableHook in
      either (eqb n 0) Idle _ R (λ b. tt) (
      either (eqb n 1) (Retracting0 p) _ R (λ b. w) (
      either (eqb n 2) (Retracting1 p) _ R (λ b. w) (
      either (eqb n 3) (Retracting2 p) _ R (λ b. w) (
      either (eqb n 4) (Flying p d) _ R (λ b. (w, v)) (
      either (eqb n 5) (attached_or_grabbed p player t) Retracted R (λ b. held_or_not (e (ap pos (eqb→eq n 5 b)))) tt)))))

-- ---- the whole record
pub from_net_representable : (n : CharacterCore) → AllI32 n → (HeldBelowZero n → ⊥) → Representable (from_net n)
unfolding from_net angle_from_net
from_net_representable n a e =
    let p : Pair i32_to_f32 (vnew (i32_to_f32 n.hook_x) (i32_to_f32 n.hook_y)) = (record { number = n.hook_x; in_i32 = a.hook_x; is = refl }, record { number = n.hook_y; in_i32 = a.hook_y; is = refl }) in
    let d : Pair from256ths (vnew (from256ths n.hook_dx) (from256ths n.hook_dy)) = (record { number = n.hook_dx; in_i32 = a.hook_dx; is = refl }, record { number = n.hook_dy; in_i32 = a.hook_dy; is = refl }) in
    record {
      pos = (record { number = n.x; in_i32 = a.x; is = refl }, record { number = n.y; in_i32 = a.y; is = refl });
      vel = (record { number = n.vel_x; in_i32 = a.vel_x; is = refl }, record { number = n.vel_y; in_i32 = a.vel_y; is = refl });
      hook = hook_representable _ _ n.hooked_player n.hook_tick p d a.hooked_player a.hook_tick n.hook_state (λ s f k t. e (record { state = s; somebody = f; less = k; ticks = t }));
      angle = record { number = n.angle; in_i32 = a.angle; is = refl };
    }

-- but for those, which are refused
held_ticks : (n : CharacterCore) (e : HeldBelowZero n) → tick_of (from_net n).hook ≡ 2 ^ 32 - suc e.less
unfolding from_net hook_from_net attached_or_grabbed tick_of cast_unsigned
held_ticks n e = rw (e.state, e.somebody, e.ticks)

pub held_below_zero_refused : (n : CharacterCore) → AllI32 n → HeldBelowZero n → to_net (from_net n) ≡ (Err TickTooLarge)
unfolding to_net
held_below_zero_refused n a e = ap (λ (t : ℕ). cond (leb t most_tick) (Ok (core_of (from_net n))) (Err TickTooLarge)) (held_ticks n e) ∙ ap (λ (b : Bool). cond b (Ok (core_of (from_net n))) (Err TickTooLarge)) (lt-leb (2 ^ 32 - suc e.less) most_tick far)
  where
    far : most_tick < 2 ^ 32 - suc e.less
    far = let h = a.hook_tick in let g : e.less < 2 ^ 31 = subst IsI32 e.ticks h in omega (arith, g)

-- ---- a record of a character
player_i32 : (h : Hook) → IsI32 (net_hooked_player h)
unfolding net_hooked_player
player_i32 Retracted = lit< tt
player_i32 Idle = lit< tt
player_i32 (Flying p d) = lit< tt
player_i32 (Grabbed c t) = signed_in c.0
player_i32 (Attached p) = lit< tt
player_i32 (Retracting0 p) = lit< tt
player_i32 (Retracting1 p) = lit< tt
player_i32 (Retracting2 p) = lit< tt

core_i32 : (c : Character) → tick_of c.hook ≤ most_tick → AllI32 (core_of c)
unfolding core_of to256ths angle_to_net
core_i32 c h = record {
  x = whole_in 1 _;
  y = whole_in 1 _;
  vel_x = whole_in 1 _;
  vel_y = whole_in 1 _;
  angle = whole_in 0 _;
  hooked_player = player_i32 c.hook;
  hook_tick = suc-le-suc h;
  hook_x = whole_in 1 _;
  hook_y = whole_in 1 _;
  hook_dx = whole_in 1 _;
  hook_dy = whole_in 1 _;
}

core_not_below : (c : Character) → HeldBelowZero (core_of c) → ⊥
unfolding core_of
core_not_below c e = true≢false (ap non_neg e.ticks)

-- ---- what quantizing made is representable, and so quantizing again changes nothing
abbrev made : Result Character Refusal → Character → Character
made (Err e) d = d
made (Ok c) d = c

abbrev accepted : Result Character Refusal → Bool
accepted (Err e) = false
accepted (Ok c) = true

pub quantized_representable : (c d : Character) → quantize c ≡ Ok d → Representable d
unfolding quantize to_net
quantized_representable c d e = go (leb (tick_of c.hook) most_tick) (leb→le (tick_of c.hook) most_tick) e
  where
    go : (b : Bool) → (T b → tick_of c.hook ≤ most_tick) → back (cond b (Ok (core_of c)) (Err TickTooLarge)) ≡ Ok d → Representable d
    go true h f = subst Representable (ap (λ (q : Result Character Refusal). made q d) f) (from_net_representable (core_of c) (core_i32 c (h tt)) (core_not_below c))
    go false h f = absurd (true≢false (sym (ap accepted f)))

pub quantize_again : (c d : Character) → quantize c ≡ Ok d → quantize d ≡ Ok d
quantize_again c d e = representable_back d (quantized_representable c d e)

-- so the representable characters are just those that quantizing leaves as they are
pub back_representable : (c : Character) → quantize c ≡ Ok c → Representable c
back_representable c = quantized_representable c c

-- ---- a spawned character
zero_256ths : OfI32 from256ths c0
unfolding from256ths i32_to_f32 of_int of_bits div
zero_256ths = record { number = pos 0; in_i32 = lit< tt; is = refl }

pub spawn_representable : (x y : ℤ) → IsI32 x → IsI32 y → Representable (spawn (vnew (i32_to_f32 x) (i32_to_f32 y)))
unfolding spawn
spawn_representable x y h k = record {
  pos = (record { number = x; in_i32 = h; is = refl }, record { number = y; in_i32 = k; is = refl });
  vel = (zero_256ths, zero_256ths);
  hook = tt;
  angle = zero_256ths;
}
