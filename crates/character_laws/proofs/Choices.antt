-- A fact of what a test or a hook picks, from every way. Assumes nothing.
use mathlib.Core.Bool.{Bool, true, false, cond}
use Prim.Native.Nat.{ℕ}
use Rattle.num_vec2.specs.declared.vec2.{vec2}
use Rattle.character_hook.specs.Hook.{on_attached, on_grabbed}
use Rattle.character_hook.specs.declared.hook.CharacterId.{CharacterId}
use Rattle.character_hook.specs.declared.hook.Hook.{Hook}
use Rattle.character_hook.specs.declared.hook.Hook.TheVariants.{Retracted, Idle, Flying, Grabbed, Attached, Retracting0, Retracting1, Retracting2}

-- what both branches have, the choice has
pub either : {A : Type 0} (P : A → Type 0) (b : Bool) {x y : A} → P x → P y → P (cond b x y)
either P true h k = h
either P false h k = k

module _ {A : Type 0} (P : A → Type 0) (e : A) (k : P e) where
  pub on_attached_lem : (f : vec2 → A) (h : Hook) → ((q : vec2) → P (f q)) → P (on_attached f e h)
  on_attached_lem f Retracted g = k
  on_attached_lem f Idle g = k
  on_attached_lem f (Flying p d) g = k
  on_attached_lem f (Grabbed c t) g = k
  on_attached_lem f (Attached p) g = g p
  on_attached_lem f (Retracting0 p) g = k
  on_attached_lem f (Retracting1 p) g = k
  on_attached_lem f (Retracting2 p) g = k

  pub on_grabbed_lem : (f : CharacterId → ℕ → A) (h : Hook) → ((c : CharacterId) (t : ℕ) → P (f c t)) → P (on_grabbed f e h)
  on_grabbed_lem f Retracted g = k
  on_grabbed_lem f Idle g = k
  on_grabbed_lem f (Flying p d) g = k
  on_grabbed_lem f (Grabbed c t) g = g c t
  on_grabbed_lem f (Attached p) g = k
  on_grabbed_lem f (Retracting0 p) g = k
  on_grabbed_lem f (Retracting1 p) g = k
  on_grabbed_lem f (Retracting2 p) g = k
