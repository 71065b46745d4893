-- A record's hook state and hooked player, by their bits, which is how the code tests them. Assumes nothing.
use mathlib.Core.Bool.{Bool, true, false, cond}
use mathlib.Core.Path.{◌≡◌, refl, sym, ap, ◌∙◌}
use Prim.Native.Nat.{ℕ, zero, suc, ◌-◌, ◌^◌, ◌<◌}
use native.Mathlib.Omega.{arith}
use lib.Dec.{ltb}
use lib.IntN.{ℤ, pos, negsuc}
use mir.Facts.{to_z-of_z}
use mir.Syntax.{w32}
use mir.Val.{SFits, to_z, of_z}
use borrow.Author.Tests.{ne_eqb}
use Rattle.character_hook.specs.Hook.{nobody, hook_from_net}
use Rattle.character_hook.specs.declared.hook.Hook.TheVariants.{Retracted}
use Rattle.game_records.specs.declared.Tick.{Tick}
use Rattle.num_convert.specs.Casts.{cast_signed}
use Rattle.num_vec2.specs.declared.vec2.{vec2}

-- the number that the bits k stand for
pub by_bits : (z : ℤ) (k : ℕ) → SFits w32 z → of_z w32 z ≡ k → z ≡ to_z w32 k
by_bits z k s e = sym (to_z-of_z s) ∙ ap (to_z w32) e

pub somebody : (z : ℤ) → (of_z w32 z ≡ 4294967295 → ⊥) → nobody z ≡ false
somebody (pos n) h = refl
somebody (negsuc zero) h = absurd (h refl)
somebody (negsuc (suc k)) h = ne_eqb (suc k) 0 suc≢zero
  where
    suc≢zero : suc k ≡ 0 → ⊥
    suc≢zero e = omega (arith, e)

pub no_state : (z : ℤ) (p d : vec2) (player : ℤ) (t : Tick) → (of_z w32 z ≡ 0 → ⊥) → (of_z w32 z ≡ 1 → ⊥) → (of_z w32 z ≡ 2 → ⊥) → (of_z w32 z ≡ 3 → ⊥) → (of_z w32 z ≡ 4 → ⊥) → (of_z w32 z ≡ 5 → ⊥) → Retracted ≡ hook_from_net z p d player t
unfolding hook_from_net
no_state (negsuc k) p d player t h0 h1 h2 h3 h4 h5 = refl
no_state (pos n) p d player t h0 h1 h2 h3 h4 h5 = simp (ne_eqb n 0 h0, ne_eqb n 1 h1, ne_eqb n 2 h2, ne_eqb n 3 h3, ne_eqb n 4 h4, ne_eqb n 5 h5)

-- every player but 4,294,967,295, whose bits are those of -1
pub held_somebody : (n : ℕ) → n < 2 ^ 32 - 1 → nobody (cast_signed n) ≡ false
unfolding cast_signed
held_somebody n h = go (ltb n (2 ^ 31))
  where
    go : (b : Bool) → nobody (cond b (pos n) (negsuc (2 ^ 32 - suc n))) ≡ false
    go true = refl
    go false = ne_eqb (2 ^ 32 - suc n) 0 not_last
      where
        not_last : 2 ^ 32 - suc n ≡ 0 → ⊥
        not_last e = omega arith
