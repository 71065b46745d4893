-- A definition by cases of a hook, where the case is known or ruled out. Assumes nothing.
use mathlib.Core.List.{[], ◌∷◌}
use mathlib.Core.Path.{◌≡◌, refl}
use Prim.Native.Nat.{ℕ}
use types.Run.{OneOf, miss}
use denote.Enum.Declared.{tag_of}
use Rattle.character_hook.specs.contracts.hook.Hook.{the_type}
use Rattle.character_hook.specs.Hook.{on_flying, on_attached, on_grabbed}
use Rattle.character_hook.specs.declared.hook.CharacterId.{CharacterId}
use Rattle.character_hook.specs.declared.hook.Hook.{Hook}
use Rattle.character_hook.specs.declared.hook.Hook.TheVariants.{Retracted, Idle, Flying, Grabbed, Attached, Retracting0, Retracting1, Retracting2}
use Rattle.num_vec2.specs.declared.vec2.{vec2}

module _ {A : Type 0} (f : vec2 → vec2 → A) (e : A) where
  pub not_flying : (h : Hook) → OneOf (0 ∷ 1 ∷ 3 ∷ 4 ∷ 5 ∷ 6 ∷ 7 ∷ []) (tag_of the_type h) → on_flying f e h ≡ e
  not_flying Retracted k = refl
  not_flying Idle k = refl
  not_flying (Flying p d) k = absurd (miss (0 ∷ 1 ∷ 3 ∷ 4 ∷ 5 ∷ 6 ∷ 7 ∷ []) 2 tt k)
  not_flying (Grabbed c t) k = refl
  not_flying (Attached p) k = refl
  not_flying (Retracting0 p) k = refl
  not_flying (Retracting1 p) k = refl
  not_flying (Retracting2 p) k = refl

module _ {A : Type 0} (f : CharacterId → ℕ → A) (e : A) where
  pub not_grabbed : (h : Hook) → OneOf (0 ∷ 1 ∷ 2 ∷ 4 ∷ 5 ∷ 6 ∷ 7 ∷ []) (tag_of the_type h) → on_grabbed f e h ≡ e
  not_grabbed Retracted k = refl
  not_grabbed Idle k = refl
  not_grabbed (Flying p d) k = refl
  not_grabbed (Grabbed c t) k = absurd (miss (0 ∷ 1 ∷ 2 ∷ 4 ∷ 5 ∷ 6 ∷ 7 ∷ []) 3 tt k)
  not_grabbed (Attached p) k = refl
  not_grabbed (Retracting0 p) k = refl
  not_grabbed (Retracting1 p) k = refl
  not_grabbed (Retracting2 p) k = refl

module _ {A : Type 0} (f : vec2 → A) (e : A) where
  pub not_attached : (h : Hook) → OneOf (0 ∷ 1 ∷ 2 ∷ 3 ∷ 5 ∷ 6 ∷ 7 ∷ []) (tag_of the_type h) → on_attached f e h ≡ e
  not_attached Retracted k = refl
  not_attached Idle k = refl
  not_attached (Flying p d) k = refl
  not_attached (Grabbed c t) k = refl
  not_attached (Attached p) k = absurd (miss (0 ∷ 1 ∷ 2 ∷ 3 ∷ 5 ∷ 6 ∷ 7 ∷ []) 4 tt k)
  not_attached (Retracting0 p) k = refl
  not_attached (Retracting1 p) k = refl
  not_attached (Retracting2 p) k = refl
