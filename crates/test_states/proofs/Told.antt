-- A character is the one that its words tell, part by part. Assumes nothing.
use Prim.Native.Nat.{ℕ, ◌/◌, ◌%◌}
use mathlib.Core.Bool.{Bool, true, false}
use mathlib.Core.List.{List}
use mathlib.Core.Path.{◌≡◌, ap, ap₂, ◌∙◌}
use lib.Dec.{eqb}
use lib.Ieee.{binary32, of_bits}
use borrow.Author.Tests.{ne_eqb}
use Rattle.num_vec2.specs.Vec2.{vnew}
use Rattle.num_vec2.specs.declared.vec2.{vec2}
use Rattle.test_common.specs.Words.{word_at}
use Rattle.game_input.specs.declared.direction.MoveDirection.{MoveDirection}
use Rattle.game_input.specs.declared.direction.MoveDirection.TheVariants as direction
use Rattle.character_hook.specs.declared.hook.Hook.TheVariants.{Retracted, Idle, Flying, Grabbed, Attached, Retracting0, Retracting1, Retracting2}
use Rattle.character.specs.declared.Character.{Character}
use Rattle.test_states.specs.States.{jumps_of, direction_number, point_at, hook_in, direction_in, character_in}

-- a point of two words
pub point_in : {p : vec2} {a b k m : ℕ} → p ≡ vnew (of_bits binary32 a) (of_bits binary32 b) → a ≡ k → b ≡ m → p ≡ vnew (of_bits binary32 k) (of_bits binary32 m)
point_in e f g = e ∙ ap₂ (λ (x y : ℕ). vnew (of_bits binary32 x) (of_bits binary32 y)) f g

-- the case that the word 4 tells
module _ (ws : List ℕ) where
  pub retracted_in : word_at ws 4 ≡ 0 → hook_in ws ≡ Retracted
  unfolding hook_in
  retracted_in e = rw e

  pub idle_in : word_at ws 4 ≡ 1 → hook_in ws ≡ Idle
  unfolding hook_in
  idle_in e = rw e

  pub flying_in : word_at ws 4 ≡ 2 → hook_in ws ≡ Flying (point_at ws 5) (point_at ws 7)
  unfolding hook_in
  flying_in e = rw e

  pub grabbed_in : word_at ws 4 ≡ 3 → hook_in ws ≡ Grabbed (record { 0 = word_at ws 5 }) (word_at ws 6)
  unfolding hook_in
  grabbed_in e = rw e

  pub attached_in : word_at ws 4 ≡ 4 → hook_in ws ≡ Attached (point_at ws 5)
  unfolding hook_in
  attached_in e = rw e

  pub retracting0_in : word_at ws 4 ≡ 5 → hook_in ws ≡ Retracting0 (point_at ws 5)
  unfolding hook_in
  retracting0_in e = rw e

  pub retracting1_in : word_at ws 4 ≡ 6 → hook_in ws ≡ Retracting1 (point_at ws 5)
  unfolding hook_in
  retracting1_in e = rw e

  pub retracting2_in : word_at ws 4 ≡ 7 → hook_in ws ≡ Retracting2 (point_at ws 5)
  unfolding hook_in
  retracting2_in e = rw e

  -- any other number reads as the last case
  pub last_in : (k : ℕ) → word_at ws 4 ≡ k → (k ≡ 0 → ⊥) → (k ≡ 1 → ⊥) → (k ≡ 2 → ⊥) → (k ≡ 3 → ⊥) → (k ≡ 4 → ⊥) → (k ≡ 5 → ⊥) → (k ≡ 6 → ⊥) → hook_in ws ≡ Retracting2 (point_at ws 5)
  unfolding hook_in
  last_in k e h0 h1 h2 h3 h4 h5 h6 = rw e (simp (ne_eqb k 0 h0, ne_eqb k 1 h1, ne_eqb k 2 h2, ne_eqb k 3 h3, ne_eqb k 4 h4, ne_eqb k 5 h5, ne_eqb k 6 h6))

jumps_read : (jumped airjump : Bool) (k : ℕ) → jumps_of jumped airjump ≡ k → (jumped ≡ eqb (k % 2) 1) × (airjump ≡ eqb (k / 2) 1)
jumps_read true true k e = (ap (λ (n : ℕ). eqb (n % 2) 1) e, ap (λ (n : ℕ). eqb (n / 2) 1) e)
jumps_read true false k e = (ap (λ (n : ℕ). eqb (n % 2) 1) e, ap (λ (n : ℕ). eqb (n / 2) 1) e)
jumps_read false true k e = (ap (λ (n : ℕ). eqb (n % 2) 1) e, ap (λ (n : ℕ). eqb (n / 2) 1) e)
jumps_read false false k e = (ap (λ (n : ℕ). eqb (n % 2) 1) e, ap (λ (n : ℕ). eqb (n / 2) 1) e)

direction_read : (d : MoveDirection) (k : ℕ) → direction_number d ≡ k → d ≡ direction_in k
unfolding direction_in
direction_read direction.Left k e = ap direction_in e
direction_read direction.None k e = ap direction_in e
direction_read direction.Right k e = ap direction_in e

pub character_in_lem : (c : Character) (ws : List ℕ) → c.pos ≡ point_at ws 0 → c.vel ≡ point_at ws 2 → c.hook ≡ hook_in ws → jumps_of c.jumped_already c.used_airjump ≡ word_at ws 9 → c.angle.radians ≡ of_bits binary32 (word_at ws 10) → direction_number c.move_direction ≡ word_at ws 11 → c ≡ character_in ws
unfolding character_in
character_in_lem c ws p v h j a d =
    let k = jumps_read c.jumped_already c.used_airjump (word_at ws 9) j in
    let m = direction_read c.move_direction (word_at ws 11) d in
    λ i. record { pos = p i; vel = v i; hook = h i; jumped_already = k.0 i; used_airjump = k.1 i; angle = record { radians = a i }; move_direction = m i }
