-- A refusal told by a call in place is the same by value, since that leaves the world as it was. Assumes nothing.
use Prim.Native.Nat.{ℕ}
use mathlib.Core.List.{List}
use mathlib.Core.Path.{◌≡◌, sym, ap, ◌∙◌}
use Rattle.game_refusals.specs.Refusals.{number_of}
use Rattle.game_refusals.specs.declared.Refusal.{Refusal}
use Rattle.map_tiles.specs.declared.tiles.Sides.{Sides}
use Rattle.world.proofs.Demand1.{demand1}
use Rattle.world.proofs.Numbered.{numbered}
use Rattle.world.specs.Answered.{Stepped}
use Rattle.world.specs.Run.{ran}
use Rattle.world.specs.Step.{step_refused}
use Rattle.world.specs.declared.World.{World}
use Rattle.world.specs.declared.call.Call.{Call}

module _ (n : ℕ) (s : Sides) (ts : List ℕ) (w v : World) (c : Call) (e : Refusal) (h : step_refused n v (number_of e) ≡ ran n s ts w c) where
  stays : v ≡ w
  stays = ap (λ (a : Stepped). a.world) h ∙ demand1 n s ts w c (λ z. numbered e (ap (λ (a : Stepped). a.number) h ∙ z))

  pub kept : step_refused n w (number_of e) ≡ ran n s ts w c
  kept = ap (λ (u : World). step_refused n u (number_of e)) (sym stays) ∙ h
