-- A step of a way on numbers is the one of the world that they stand for. Assumes nothing.
use Prim.Native.Nat.{ℕ, ◌+◌, ◌*◌, ◌<◌}
use mathlib.Core.Bool.{Bool, true, false}
use mathlib.Core.List.{List}
use mathlib.Core.Path.{◌≡◌, refl, sym, ap, ◌∙◌, subst}
use native.Mathlib.Decide.{dec_lt}
use native.Mathlib.Omega.{arith}
use lib.Dec.{eqb, lit<}
use lib.IntN.{ℤ, pos}
use lib.ListN.{length, drop, get_or-eq_default}
use lib.Seq.{get_or-take, get_or-drop}
use borrow.Author.Tests.{eq-eqb, ne_eqb, eqb-true, eqb-false}
use mir.Syntax.{w32}
use mir.Val.{to_z, of_z}
use Rattle.num_convert.specs.Casts.{IsI32}
use Rattle.num_convert.proofs.Signed.{read}
use Rattle.game_records.specs.Numbers.{number_at, core_numbers, same_number}
use Rattle.map_tiles.specs.declared.tiles.Sides.{Sides}
use Rattle.character.specs.Tick.{seats, slot_at}
use Rattle.world.specs.Calls.{place_of, input}
use Rattle.world.specs.Demand3.{record_at}
use Rattle.world.specs.Settled.{Settled}
use Rattle.world.specs.Step.{unpublished, step}
use Rattle.world.specs.declared.Published.{Published}
use Rattle.world.specs.Answered.{Stepped}
use Rattle.world.specs.declared.World.{World}
use Rattle.world.specs.declared.call.Call.{Call}
use Rattle.world.specs.declared.call.Call.TheVariants.{Input, Step}
use Rattle.world.proofs.Settled.{answer-settled}
use Rattle.world_numbers.specs.Encoding.{record_count, world_count, records_count, record_numbers, records_encoding}
use Rattle.world_numbers.specs.Decoding.{is_set, decoding}
use Rattle.world_numbers.proofs.Encoded.{flag-back}
use Rattle.world_numbers.proofs.Rows.{record_long, each_long}
use Rattle.world_numbers.proofs.Written.{each_row}
use Rattle.world_buffers.specs.Buffers.{LeftWorld, is_there, input_in}
use Rattle.world_buffers.specs.Stepping.{StepBuffers, LeftByStep, left_by_step, step_in}
use Rattle.world_buffers.proofs.Stands.{there, stands}
use Rattle.game_records.proofs.Same.{number_self, number_differs}
use Rattle.search_rule.specs.Search.{input_of_way, step_with, is_at, arrives, goes_on}
use Rattle.search_rule.specs.declared.Buttons.{Buttons}
use Rattle.search_rule.specs.declared.Goal.{Goal}
use Rattle.search_calls.specs.Steps.{record_is_at, Took}
use Rattle.search_calls.specs.declared.stepping.StepOutcome.{StepOutcome}

-- ---- numbers that are known up to their end
pub every_i32 : (l : List ℤ) (k : ℕ) → (k < length l → IsI32 (number_at l k)) → IsI32 (number_at l k)
every_i32 l k h = go (dec_lt k (length l))
  where
    go : Dec (k < length l) → IsI32 (number_at l k)
    go (yes q) = h q
    go (no q) = subst IsI32 (sym (get_or-eq_default l (pos 0) (omega arith))) (lit< tt)

-- ---- the record of a seat among those of a step

pub same_bits : (x y : ℤ) → IsI32 x → IsI32 y → of_z w32 x ≡ of_z w32 y → x ≡ y
same_bits x y h k e = sym (read x h) ∙ ap (to_z w32) e ∙ read y k

-- two numbers are the same where their bits are
pub same_test : (x y : ℤ) → IsI32 x → IsI32 y → eqb (of_z w32 x) (of_z w32 y) ≡ same_number x y
same_test x y h k = go (eqb (of_z w32 x) (of_z w32 y)) refl
  where
    go : (b : Bool) → eqb (of_z w32 x) (of_z w32 y) ≡ b → b ≡ same_number x y
    go true e = sym (ap (λ (z : ℤ). same_number z y) (same_bits x y h k (eqb-true _ _ e)) ∙ number_self y)
    go false e = sym (number_differs x y (λ q. eqb-false _ _ e (ap (of_z w32) q)))

-- by the tests that decide it
module _ (rs : List ℤ) (k : ℕ) (g : Goal) where
  abbrev x : ℤ
  x = number_at rs (record_count * k + 2)

  abbrev y : ℤ
  y = number_at rs (record_count * k + 3)

  pub is_there_lem : is_set (number_at rs (record_count * k)) ≡ true → same_number x g.x ≡ true → same_number y g.y ≡ record_is_at rs k g
  unfolding record_is_at
  is_there_lem e p = rw (e, p) refl

  pub not_x : is_set (number_at rs (record_count * k)) ≡ true → same_number x g.x ≡ false → false ≡ record_is_at rs k g
  unfolding record_is_at
  not_x e p = rw (e, p) refl

  pub nobody : is_set (number_at rs (record_count * k)) ≡ false → false ≡ record_is_at rs k g
  unfolding record_is_at
  nobody e = rw e

module _ (rs : List Published) (k : ℕ) (h : k < length rs) where
  -- its numbers stand in a row
  number_in : (j : ℕ) → j < record_count → number_at (records_encoding rs) (record_count * k + j) ≡ number_at (record_numbers (record_at rs k)) j
  unfolding records_encoding
  number_in j l =
      let t = records_encoding rs in
      sym (get_or-drop (record_count * k) t j (pos 0))
      ∙ sym (get_or-take record_count (drop (record_count * k) t) j (pos 0) l)
      ∙ ap (λ (r : List ℤ). number_at r j) (each_row record_numbers record_count unpublished record_long rs k h)

  pub record_at_lem : (g : Goal) → record_is_at (records_encoding rs) k g ≡ is_at g (record_at rs k)
  unfolding record_is_at record_numbers core_numbers
  record_at_lem g =
      let p = record_at rs k in
      let first : number_at (records_encoding rs) (record_count * k) ≡ number_at (record_numbers p) 0 = ap (number_at (records_encoding rs)) (omega arith) ∙ number_in 0 (omega arith) in
      rw (first, number_in 2 (omega arith), number_in 3 (omega arith), flag-back p.present)

-- ---- an input, then a step

module _ (s : Sides) (ts : List ℕ) (g : Goal) (b : Buttons) (l : List ℤ) (long : length l ≡ world_count) (settled : Settled seats (decoding seats l)) where
  abbrev w : World
  w = decoding seats l

  abbrev a : Stepped
  a = step_with seats s ts g w b

  abbrev press : Call
  press = Input g.id b.direction g.target_x g.target_y b.jump (pos 0)

  -- the numbers m after the input, and what the step leaves of them and tells in the buffers d
  module _ (n : ℕ) (m : List ℤ) (e : input_in l g.id (input_of_way g b) ≡ record { number = n; world = m }) (long-m : length m ≡ world_count) (d : StepBuffers) (rows : length d.records ≡ records_count) (ids : length d.removed ≡ seats) where
    stored : decoding seats m ≡ (input seats w g.id (input_of_way g b)).world
    stored = ap (λ (x : LeftWorld). decoding seats x.world) (sym e) ∙ (stands s ts d l press long rows ids settled).world

    settled-m : Settled seats (decoding seats m)
    settled-m = subst (Settled seats) (sym stored) (answer-settled seats s ts w press settled)

    same_step : step seats (decoding seats m) s ts ≡ a
    unfolding step_with
    same_step = ap (λ (v : World). step seats v s ts) stored

    module _ (r : LeftByStep) (f : step_in s ts m d ≡ r) where
      pub number_is : r.number ≡ a.number
      number_is = ap (λ (x : LeftByStep). x.number) (sym f) ∙ (stands s ts d m Step long-m rows ids settled-m).number ∙ ap (λ (x : Stepped). x.number) same_step

      pub world_is : decoding seats r.world ≡ a.world
      world_is = ap (λ (x : LeftByStep). decoding seats x.world) (sym f) ∙ (stands s ts d m Step long-m rows ids settled-m).world ∙ ap (λ (x : Stepped). x.world) same_step

      pub records-are : a.number ≡ 0 → r.told.records ≡ records_encoding a.records
      unfolding step_in left_by_step
      records-are z =
          let v = decoding seats m in
          let y : (step seats v s ts).number ≡ 0 = ap (λ (x : Stepped). x.number) same_step ∙ z in
          let told : (step_in s ts m d).told.records ≡ records_encoding (step seats v s ts).records = rw (eq-eqb (length m) world_count long-m, eq-eqb (length d.records) records_count rows, eq-eqb (length d.removed) seats ids, eq-eqb (step seats v s ts).number 0 y) in
          ap (λ (x : LeftByStep). x.told.records) (sym f) ∙ told ∙ ap (λ (x : Stepped). records_encoding x.records) same_step

      module _ (long-r : length r.world ≡ world_count) (seat : place_of seats g.id < seats) where
        -- it isn't refused, and these are what is read of the numbers
        pub took : (t : StepOutcome) → r.number ≡ 0 → length r.told.records ≡ records_count → t.arrives ≡ record_is_at r.told.records (place_of seats g.id) g → t.goes_on ≡ is_there r.world (place_of seats g.id) → Took s ts g b l t r.world
        unfolding arrives goes_on records_encoding
        took t z rows-r p q =
            let k = place_of seats g.id in
            let y : a.number ≡ 0 = sym number_is ∙ z in
            let many : length (records_encoding a.records) ≡ records_count = ap length (sym (records-are y)) ∙ rows-r in
            let h : k < length a.records = omega (arith, seat, sym (each_long record_numbers record_count record_long a.records) ∙ many) in
            record {
              arrived = rw (eq-eqb a.number 0 y) (p ∙ ap (λ (x : List ℤ). record_is_at x k g) (records-are y) ∙ record_at_lem a.records k h g);
              going = rw (eq-eqb a.number 0 y) (q ∙ sym (there r.world long-r k seat) ∙ ap (λ (v : World). (slot_at v.slots k).present) world_is);
              world = world_is;
              size = long-r;
            }

        -- it is refused
        pub not-took : (t : StepOutcome) → (r.number ≡ 0 → ⊥) → t.arrives ≡ false → t.goes_on ≡ false → Took s ts g b l t r.world
        unfolding arrives goes_on
        not-took t z p q =
            let y : eqb a.number 0 ≡ false = ne_eqb a.number 0 (λ e. z (number_is ∙ e)) in
            record { arrived = rw (y, p); going = rw (y, q); world = world_is; size = long-r }
