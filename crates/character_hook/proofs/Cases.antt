-- Proved case 8 of document 01: with the button pressed a hook stays as it is, with a hold of 60 tick 59 becomes 60, and 60 ends it; so does the largest tick. Assumes nothing.
use mathlib.Core.Path.{◌≡◌, refl}
use mathlib.Core.Bool.{true}
use lib.IntN.{pos}
use Rattle.game_tuning.specs.Tuning.{hold_of}
use Rattle.num_vec2.specs.declared.vec2.{vec2}
use Rattle.character_hook.specs.declared.hook.CharacterId.{CharacterId}
use Rattle.character_hook.specs.declared.hook.Hook.TheVariants.{Retracted, Grabbed}
use Rattle.character_hook.specs.Hooking.{fired, fire, hold}

pub record Cases (c : CharacterId) (p d : vec2) : Type 0 where
  pub tick_59 : hold (fire (Grabbed c 59) true p d) (pos 60) ≡ Grabbed c 60
  pub tick_60 : hold (fire (Grabbed c 60) true p d) (pos 60) ≡ Retracted
  pub largest : hold (fire (Grabbed c 4294967295) true p d) (pos 60) ≡ Retracted

pub cases : (c : CharacterId) (p d : vec2) → Cases c p d
unfolding hold hold_of fire fired
cases c p d = record { tick_59 = refl; tick_60 = refl; largest = refl }
