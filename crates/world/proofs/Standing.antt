-- What every slot keeps through the ticks of a step: a clear box, and values of the format. Assumes nothing.
use Prim.Native.Nat.{ℕ}
use mathlib.Core.Bool.{true}
use mathlib.Core.List.{List}
use mathlib.Core.Path.{◌≡◌, sym, subst}
use lib.Dec.{T}
use lib.Ieee.{Float, binary32, fits}
use lib.IntN.{ℤ}
use lib.Ieee.Fits.{of_int-fits, div-fits}
use Rattle.base_turns.proofs.Kept.{Ends, run-kept}
use Rattle.num_convert.specs.Convert.{c256, i32_to_f32, from256ths}
use Rattle.num_vec2.specs.declared.vec2.{vec2}
use Rattle.num_order.proofs.Vectors.{FitsPair}
use Rattle.game_records.specs.declared.PlayerInput.{PlayerInput}
use Rattle.map_tiles.specs.declared.tiles.Sides.{Sides}
use Rattle.game_tuning.specs.Tuning.{tuning_of}
use Rattle.game_tuning.specs.declared.Tuning.{Tuning}
use Rattle.map_tiles.specs.Box.{Clear, character_box}
use Rattle.character.specs.declared.Character.{Character}
use Rattle.character.specs.declared.Slot.{Slot}
use Rattle.character.specs.Tick.{slot_at, nowhere, after_pull, tick_at}
use Rattle.character_laws.specs.Representable.{Pair, Representable}
use Rattle.character_laws.proofs.Slots.{set_every}
use Rattle.character_laws.proofs.Others.{Then, SameButVel, tick_pos, pulled_others}
use Rattle.character_laws.proofs.FitsTick.{FitsAfter, tick_fits, after_pull_fits}
use Rattle.world.specs.Step.{after_tick, tick_turn, tick_all}
use Rattle.world.proofs.Seats.{by_test}
use Rattle.std.specs.Prelude.{Result, Ok, Err}
use Rattle.character.specs.declared.tick.AfterTick.{AfterTick}
use Rattle.game_refusals.specs.declared.Refusal.{Refusal}

-- ---- values of the format
pub i32_fits : (z : ℤ) → T (fits binary32 (i32_to_f32 z))
unfolding i32_to_f32
i32_fits z = of_int-fits binary32 z

256ths_fits : (z : ℤ) → T (fits binary32 (from256ths z))
unfolding from256ths
256ths_fits z = div-fits binary32 (i32_to_f32 z) c256

pub pair_fits : (f : ℤ → Float) → ((z : ℤ) → T (fits binary32 (f z))) → (v : vec2) → Pair f v → FitsPair v
pair_fits f h v p = (subst (λ (x : Float). T (fits binary32 x)) (sym p.0.is) (h p.0.number), subst (λ (x : Float). T (fits binary32 x)) (sym p.1.is) (h p.1.number))

pub representable_fits : (c : Character) → Representable c → FitsPair c.pos × FitsPair c.vel
representable_fits c r = (pair_fits i32_to_f32 i32_fits c.pos r.pos, pair_fits from256ths 256ths_fits c.vel r.vel)

-- ---- a slot

module _ (s : Sides) (ts : List ℕ) where
  pub record Standing (x : Slot) : Type 0 where
    pub clear : x.present ≡ true → Clear s ts x.character.pos character_box
    pub pos-fits : x.present ≡ true → FitsPair x.character.pos
    pub vel-fits : FitsPair x.character.vel

  same_standing : (x y : Slot) → SameButVel x y → Standing x → FitsPair y.character.vel → Standing y
  same_standing x y e h f = subst Standing (sym e) (record { clear = h.clear; pos-fits = h.pos-fits; vel-fits = f })

  -- every slot stands
  abbrev pub Stands : List Slot → Type 0
  Stands us = (k : ℕ) → Standing (slot_at us k)

  -- ---- a tick, and all of them
  module _ (n : ℕ) (tunings : List ℤ) where
    turn-stands : (j : ℕ) (us : List Slot) → Stands us → Ends Stands (λ r. Unit {0}) (tick_turn n s ts (tuning_of tunings) j us)
    turn-stands j us h = by_test (Ends Stands (λ r. Unit {0})) (slot_at us j).present (λ p. ticks p (tick_at n c j us s ts i t) (tick_pos n c j us s ts i t) (tick_fits n c j us s ts i tunings (h j).vel-fits (λ m. (h m).vel-fits))) (λ p. h)
      where
        c : Character
        c = (slot_at us j).character

        i : PlayerInput
        i = (slot_at us j).input

        t : Tuning
        t = tuning_of tunings

        ticks : (slot_at us j).present ≡ true → (k : Result AfterTick Refusal) → Then (λ a. a.me.pos ≡ c.pos) k → Then FitsAfter k → Ends Stands (λ r. Unit {0}) (after_tick us j k)
        ticks p (Err e) stays fit = tt
        ticks p (Ok a) stays fit =
            let vs = after_pull us a.pull in
            let fits = after_pull_fits us a.pull (λ m. (h m).vel-fits) fit.1 in
            let others : Stands vs = λ m. same_standing (slot_at us m) (slot_at vs m) (pulled_others us a.pull m) (h m) (fits m) in
            set_every (λ m. Standing) vs j _ nowhere others
            (record {
              clear = λ q. subst (λ (v : vec2). Clear s ts v character_box) (sym stays) ((h j).clear p);
              pos-fits = λ q. subst FitsPair (sym stays) ((h j).pos-fits p);
              vel-fits = fit.0;
            })

    pub ticks-stand : (ss : List Slot) → Stands ss → Ends Stands (λ r. Unit {0}) (tick_all n ss s ts (tuning_of tunings))
    unfolding tick_all
    ticks-stand = run-kept (tick_turn n s ts (tuning_of tunings)) (λ i. Stands) (λ r. Unit {0}) turn-stands n 0
