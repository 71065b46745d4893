-- A record reads as document 01 says. Assumes nothing.
use Prim.Native.Nat.{ℕ, zero, suc, ◌≤◌, ◌<◌}
use native.Mathlib.Omega.{arith}
use mathlib.Core.Bool.{Bool, false, cond}
use mathlib.Core.Logic.{◌⊎◌, ⊎_elim}
use mathlib.Core.Path.{◌≡◌, refl, ap, ◌∙◌}
use denote.Floats.{is_true}
use lib.Dec.{eqb, leb}
use lib.IntN.{ℤ, pos, negsuc}
use lib.Signed.{◌≤ℤ◌}
use borrow.Author.Tests.{ne_eqb, leb-true}
use Rattle.num_convert.specs.Casts.{cast_unsigned}
use Rattle.num_convert.specs.Convert.{from256ths}
use Rattle.num_vec2.specs.declared.vec2.{vec2}
use Rattle.game_input.specs.Direction.{from_int, angle_from_net}
use Rattle.game_input.specs.declared.direction.MoveDirection.TheVariants.{Left, None, Right}
use Rattle.game_records.specs.declared.CharacterCore.{CharacterCore}
use Rattle.game_records.specs.declared.Tick.{Tick}
use Rattle.character_hook.specs.Hook.{id_of, nobody, attached_or_grabbed, hook_from_net}
use Rattle.character_hook.specs.declared.hook.Hook.{Hook}
use Rattle.character_hook.specs.declared.hook.Hook.TheVariants.{Retracted, Grabbed, Attached}
use Rattle.character.specs.Records.{used_airjump_from_net, jumped_already_from_net, from_net}
use Rattle.world_laws.specs.Reading.{hook_place, hook_dir, HookReads, RecordsRead}

-- ---- the direction
goes_left : (z : ℤ) → z ≤ℤ negsuc 0 → from_int z ≡ Left
unfolding from_int
goes_left (negsuc k) l = refl
goes_left (pos k) l = absurd l.le

goes_right : (z : ℤ) → pos 1 ≤ℤ z → from_int z ≡ Right
unfolding from_int
goes_right (negsuc k) l = absurd l.le
goes_right (pos zero) l = absurd l.le
goes_right (pos (suc k)) l = refl

-- ---- the hook
module _ (p d : vec2) (player : ℤ) (t : Tick) where
  held : (player ≡ negsuc 0 → ⊥) → attached_or_grabbed p player t ≡ Grabbed (id_of (cast_unsigned player)) (cast_unsigned t.0)
  unfolding attached_or_grabbed
  held f = ap (λ (b : Bool). cond b (Attached p) (Grabbed (id_of (cast_unsigned player)) (cast_unsigned t.0))) (somebody player f)
    where
      somebody : (z : ℤ) → (z ≡ negsuc 0 → ⊥) → nobody z ≡ false
      somebody (pos k) f = refl
      somebody (negsuc zero) f = absurd (f refl)
      somebody (negsuc (suc k)) f = ne_eqb (suc k) 0 (λ e. omega (arith, e))

  beyond : (z : ℤ) → (z ≤ℤ negsuc 1) ⊎ (pos 6 ≤ℤ z) → hook_from_net z p d player t ≡ Retracted
  unfolding hook_from_net
  beyond (negsuc k) h = refl
  beyond (pos k) h = ⊎_elim (λ l. absurd l.le) (λ l. let b : 6 ≤ k = leb-true 6 k (is_true (leb 6 k) l.le) in rw (other 0 b (omega arith), other 1 b (omega arith), other 2 b (omega arith), other 3 b (omega arith), other 4 b (omega arith), other 5 b (omega arith))) h
    where
      other : (m : ℕ) → 6 ≤ k → m < 6 → eqb k m ≡ false
      other m b l = ne_eqb k m (λ e. omega (arith, e))

stays : from_int (pos 0) ≡ None
unfolding from_int
stays = refl

hook_reads : (r : CharacterCore) → HookReads r (from_net r).hook
unfolding from_net from256ths hook_from_net attached_or_grabbed
hook_reads r =
    let p = hook_place r in
    let d = hook_dir r in
    let player = r.hooked_player in
    let t = r.hook_tick in
    let read : ℤ → Hook = λ z. hook_from_net z p d player t in
    record {
      retracted = λ e. ap read e;
      idle = λ e. ap read e;
      retracting0 = λ e. ap read e;
      retracting1 = λ e. ap read e;
      retracting2 = λ e. ap read e;
      flying = λ e. ap read e;
      attached = λ e n. ap read e ∙ ap (λ (z : ℤ). attached_or_grabbed p z t) n;
      grabbed = λ e n. ap read e ∙ held p d player t n;
      outside = beyond p d player t r.hook_state;
    }

pub records_read_lem : RecordsRead
unfolding from_net from256ths angle_from_net jumped_already_from_net used_airjump_from_net
records_read_lem r = record {
  position = refl;
  velocity = refl;
  radians = refl;
  left = goes_left r.direction;
  none = λ e. ap from_int e ∙ stays;
  right = goes_right r.direction;
  jumped_already = refl;
  used_airjump = refl;
  hook = hook_reads r;
}
