-- What the step over lent slots leaves: the slots as they were where it is refused, and always the tunings. Assumes nothing.
use Prim.Native.Nat.{ℕ}
use mathlib.Core.Bool.{Bool, true, false, cond}
use mathlib.Core.List.{List}
use mathlib.Core.Path.{◌≡◌, refl, sym, ap}
use lib.IntN.{ℤ}
use Rattle.base_turns.specs.Turns.{Turn, more, stop, next}
use Rattle.map_tiles.specs.Map.{is_map}
use Rattle.map_tiles.specs.declared.tiles.Sides.{Sides}
use Rattle.game_tuning.specs.Tuning.{tuning_of}
use Rattle.world.specs.declared.call.Call.TheVariants.{Step}
use Rattle.character.specs.Tick.{seats}
use Rattle.world.specs.Removal.{dying}
use Rattle.world.specs.Step.{Moving, tick_all, move_all, step_refused, step_answer, step_on, step}
use Rattle.world.specs.declared.World.{World}
use Rattle.world.proofs.Demand1.{demand1}
use Rattle.world.proofs.Removal.{removed_kept}
use Rattle.world_lent.specs.Lent.{world_of, RefusalLeaves, TuningsStay}

pub refusal_leaves : RefusalLeaves
refusal_leaves ss ts s tiles h = ap (λ (w : World). w.slots) (demand1 seats s tiles (world_of ss ts) Step h)

answer_tunings : (n : ℕ) (w : World) (s : Sides) (tiles : List ℕ) (a : Turn Moving ℕ) → (step_answer n w s tiles a).world.tunings ≡ w.tunings
answer_tunings n w s tiles (more m) = removed_kept (λ v. v.tunings ≡ w.tunings) (λ v k h. h) (dying n s tiles m.slots) (record { slots = m.slots; tunings = w.tunings }) refl
answer_tunings n w s tiles (stop k) = refl

step_tunings : (n : ℕ) (w : World) (s : Sides) (tiles : List ℕ) → (step n w s tiles).world.tunings ≡ w.tunings
unfolding step step_on
step_tunings n w s tiles = go (is_map s tiles)
  where
    go : (b : Bool) → (cond b (step_on n w s tiles) (step_refused n w 1)).world.tunings ≡ w.tunings
    go true = let t = tuning_of w.tunings in answer_tunings n w s tiles (next (λ ss. move_all n ss s tiles t) (tick_all n w.slots s tiles t))
    go false = refl

pub tunings_stay : TuningsStay
tunings_stay ss ts s tiles = ap (λ (us : List ℤ). world_of (step seats (world_of ss ts) s tiles).world.slots us) (sym (step_tunings seats (world_of ss ts) s tiles))
