-- The hooks that a rule leaves as they are. Assumes nothing.
use mathlib.Core.Path.{◌≡◌, refl}
use mathlib.Core.List.{[], ◌∷◌}
use types.Run.{OneOf, miss}
use denote.Enum.Declared.{tag_of}
use Rattle.num_vec2.specs.declared.vec2.{vec2}
use Rattle.character_hook.specs.declared.hook.Hook.{Hook}
use Rattle.character_hook.specs.declared.hook.Hook.TheVariants.{Retracted, Idle, Flying, Grabbed, Attached, Retracting0, Retracting1, Retracting2}
use Rattle.character_hook.specs.contracts.hook.Hook as hook
use Rattle.character_hook.specs.Hooking.{fired, retract}

pub not_idle : (h : Hook) (p d : vec2) → OneOf (0 ∷ 2 ∷ 3 ∷ 4 ∷ 5 ∷ 6 ∷ 7 ∷ []) (tag_of hook.the_type h) → h ≡ fired h p d
unfolding fired
not_idle Retracted p d k = refl
not_idle Idle p d k = absurd (miss (0 ∷ 2 ∷ 3 ∷ 4 ∷ 5 ∷ 6 ∷ 7 ∷ []) 1 tt k)
not_idle (Flying a b) p d k = refl
not_idle (Grabbed c t) p d k = refl
not_idle (Attached a) p d k = refl
not_idle (Retracting0 a) p d k = refl
not_idle (Retracting1 a) p d k = refl
not_idle (Retracting2 a) p d k = refl

pub not_retracting : (h : Hook) → OneOf (0 ∷ 1 ∷ 2 ∷ 3 ∷ 4 ∷ []) (tag_of hook.the_type h) → h ≡ retract h
unfolding retract
not_retracting Retracted k = refl
not_retracting Idle k = refl
not_retracting (Flying p d) k = refl
not_retracting (Grabbed c t) k = refl
not_retracting (Attached p) k = refl
not_retracting (Retracting0 p) k = absurd (miss (0 ∷ 1 ∷ 2 ∷ 3 ∷ 4 ∷ []) 5 tt k)
not_retracting (Retracting1 p) k = absurd (miss (0 ∷ 1 ∷ 2 ∷ 3 ∷ 4 ∷ []) 6 tt k)
not_retracting (Retracting2 p) k = absurd (miss (0 ∷ 1 ∷ 2 ∷ 3 ∷ 4 ∷ []) 7 tt k)
