-- The body of a seat, out of a world's numbers: as the seat that they stand for has it. Assumes nothing.
use Prim.Native.Nat.{ℕ, ◌+◌, ◌<◌}
use mathlib.Core.Bool.{Bool, true, false, true≢false}
use mathlib.Core.List.{List}
use mathlib.Core.Path.{◌≡◌, refl, sym, ap, ap₂, ◌∙◌}
use native.Mathlib.Omega.{arith}
use lib.IntN.{ℤ, pos}
use lib.ListN.{get_or, set, drop, length-set}
use lib.Seq.{get_or-drop, get_or-set_same, get_or-set_other}
use lib.Dec.{eqb}
use lib.Ieee.{nan}
use borrow.Author.Tests.{eqb-true, eqb-false}
use Rattle.num_convert.specs.Convert.{i32_to_f32, from256ths}
use Rattle.num_vec2.specs.Vec2.{vnew}
use Rattle.num_vec2.specs.declared.vec2.{vec2}
use Rattle.game_records.specs.Numbers.{number_at, core_in}
use Rattle.character.specs.Places.{place_at}
use Rattle.character.specs.Records.{from_net}
use Rattle.character.specs.Tick.{seats, slot_at}
use Rattle.character.specs.declared.Slot.{Slot}
use Rattle.world_numbers.specs.Decoding.{is_set, readable, seat_of}
use Rattle.world_inplace.specs.Bodies.{Bodies, Sized, Embodied, BodiesOf}

module _ (l : List ℤ) (at : ℕ) where
  -- a number of the record of the seat there
  number_in : (i : ℕ) → number_at (drop 1 (drop at l)) i ≡ number_at l (at + (1 + i))
  number_in i = get_or-drop 1 (drop at l) i (pos 0) ∙ get_or-drop at l (1 + i) (pos 0)

  pair : {A : Type 0} (f : ℤ → A) (make : A → A → vec2) (i q : ℕ) → q ≡ at + (1 + i) → make (f (number_at l q)) (f (number_at l (q + 1))) ≡ make (f (number_at (drop 1 (drop at l)) i)) (f (number_at (drop 1 (drop at l)) (i + 1)))
  pair f make i q e =
      let d : q + 1 ≡ at + (1 + (i + 1)) = omega arith in
      ap₂ make (ap f (ap (number_at l) e ∙ sym (number_in i))) (ap f (ap (number_at l) d ∙ sym (number_in (i + 1))))

  first : number_at (drop at l) 0 ≡ number_at l at
  first = get_or-drop at l 0 (pos 0) ∙ ap (number_at l) (let e : at + 0 ≡ at = omega arith in e)

  pub somebody : is_set (number_at l at) ≡ true → Embodied (seat_of (drop at l)) true (vnew (i32_to_f32 (number_at l (at + 2))) (i32_to_f32 (number_at l (at + 2 + 1)))) (vnew (from256ths (number_at l (at + 4))) (from256ths (number_at l (at + 4 + 1))))
  unfolding seat_of from_net readable core_in
  somebody e =
      let q : is_set (number_at (drop at l) 0) ≡ true = ap is_set first ∙ e in
      rw q (record { placed = record { there = refl; stands = λ z. pair i32_to_f32 vnew 1 (at + 2) (omega arith) }; moves = λ z. pair from256ths vnew 3 (at + 4) (omega arith) })

  pub nobody : is_set (number_at l at) ≡ false → (p v : vec2) → Embodied (seat_of (drop at l)) false p v
  unfolding seat_of
  nobody e p v =
      let q : is_set (number_at (drop at l) 0) ≡ false = ap is_set first ∙ e in
      rw q (record { placed = record { there = refl; stands = λ z. absurd (true≢false (sym z)) }; moves = λ z. absurd (true≢false (sym z)) })

-- ---- bodies that are noted one after another

-- one more body
abbrev pub noted : Bodies → ℕ → Bool → vec2 → vec2 → Bodies
noted b j here p v = record { present = set b.present j here; xs = set b.xs j p.x; ys = set b.ys j p.y; vxs = set b.vxs j v.x; vys = set b.vys j v.y }

pub sized_set : (b : Bodies) (j : ℕ) (here : Bool) (p v : vec2) → Sized b → Sized (noted b j here p v)
sized_set b j here p v h = record { present = length-set b.present j here ∙ h.present; xs = length-set b.xs j p.x ∙ h.xs; ys = length-set b.ys j p.y ∙ h.ys; vxs = length-set b.vxs j v.x ∙ h.vxs; vys = length-set b.vys j v.y ∙ h.vys }

pub bodies_more : (ss : List Slot) (b : Bodies) (j : ℕ) → j < seats → Sized b → (here : Bool) (p v : vec2) → Embodied (slot_at ss j) here p v → BodiesOf j ss b → BodiesOf (j + 1) ss (noted b j here p v)
bodies_more ss b j l z here p v q h k m = go (eqb k j) refl
  where
    go : (e : Bool) → eqb k j ≡ e → Embodied (slot_at ss k) (get_or (set b.present j here) k false) (place_at (set b.xs j p.x) (set b.ys j p.y) k) (place_at (set b.vxs j v.x) (set b.vys j v.y) k)
    go true e = rw (eqb-true k j e) (rw (get_or-set_same b.present j here false (omega (arith, z.present)), get_or-set_same b.xs j p.x nan (omega (arith, z.xs)), get_or-set_same b.ys j p.y nan (omega (arith, z.ys)), get_or-set_same b.vxs j v.x nan (omega (arith, z.vxs)), get_or-set_same b.vys j v.y nan (omega (arith, z.vys))) q)
    go false e =
        let other : (k ≡ j → ⊥) = eqb-false k j e in
        rw (get_or-set_other b.present j k here false other, get_or-set_other b.xs j k p.x nan other, get_or-set_other b.ys j k p.y nan other, get_or-set_other b.vxs j k v.x nan other, get_or-set_other b.vys j k v.y nan other) (h k (omega arith))
