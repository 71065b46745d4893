-- `Hook` of lib.rs, and what a record says of it. Definitions only.
use Rattle.std.specs.Prelude.{Bool, false, cond, ℕ, eqb, ℤ, pos, negsuc}
use Rattle.num_convert.specs.Casts.{cast_signed, cast_unsigned}
use Rattle.character_hook.specs.declared.hook.CharacterId.{CharacterId}
use Rattle.character_hook.specs.declared.hook.Hook.{Hook}
use Rattle.character_hook.specs.declared.hook.Hook.TheVariants.{Retracted, Idle, Flying, Grabbed, Attached, Retracting0, Retracting1, Retracting2}
use Rattle.num_convert.specs.Number.{c0}
use Rattle.game_records.specs.declared.Tick.{Tick}
use Rattle.num_vec2.specs.Vec2.{vnew}
use Rattle.num_vec2.specs.declared.vec2.{vec2}

-- the character in a slot
abbrev pub id_of : ℕ → CharacterId
id_of j = record { 0 = j }

-- the number of each state; Attached and Grabbed share one
unfoldable pub net_state : Hook → ℤ
net_state Retracted = negsuc 0
net_state Idle = pos 0
net_state (Flying p d) = pos 4
net_state (Attached p) = pos 5
net_state (Grabbed c t) = pos 5
net_state (Retracting0 p) = pos 1
net_state (Retracting1 p) = pos 2
net_state (Retracting2 p) = pos 3

-- where the hook is, (0, 0) where it is nowhere
unfoldable pub net_pos : Hook → vec2
net_pos Retracted = vnew c0 c0
net_pos Idle = vnew c0 c0
net_pos (Flying p d) = p
net_pos (Attached p) = p
net_pos (Grabbed c t) = vnew c0 c0
net_pos (Retracting0 p) = p
net_pos (Retracting1 p) = p
net_pos (Retracting2 p) = p

-- f of a Flying hook's position and direction, e of any other
abbrev pub on_flying {ℓ} : {A : Type ℓ} → (vec2 → vec2 → A) → A → Hook → A
on_flying f e Retracted = e
on_flying f e Idle = e
on_flying f e (Flying p d) = f p d
on_flying f e (Grabbed c t) = e
on_flying f e (Attached p) = e
on_flying f e (Retracting0 p) = e
on_flying f e (Retracting1 p) = e
on_flying f e (Retracting2 p) = e

-- f of where an Attached hook is, e of any other
abbrev pub on_attached {ℓ} : {A : Type ℓ} → (vec2 → A) → A → Hook → A
on_attached f e Retracted = e
on_attached f e Idle = e
on_attached f e (Flying p d) = e
on_attached f e (Grabbed c t) = e
on_attached f e (Attached p) = f p
on_attached f e (Retracting0 p) = e
on_attached f e (Retracting1 p) = e
on_attached f e (Retracting2 p) = e

-- f of who a Grabbed hook holds and for how long, e of any other
abbrev pub on_grabbed {ℓ} : {A : Type ℓ} → (CharacterId → ℕ → A) → A → Hook → A
on_grabbed f e Retracted = e
on_grabbed f e Idle = e
on_grabbed f e (Flying p d) = e
on_grabbed f e (Grabbed c t) = f c t
on_grabbed f e (Attached p) = e
on_grabbed f e (Retracting0 p) = e
on_grabbed f e (Retracting1 p) = e
on_grabbed f e (Retracting2 p) = e

-- where a Flying hook is bound
unfoldable pub net_dir : Hook → vec2
net_dir h = on_flying (λ p d. d) (vnew c0 c0) h

-- for how many ticks somebody is held
unfoldable pub tick_of : Hook → ℕ
tick_of h = on_grabbed (λ c t. t) 0 h

-- who is held, as the bits of an i32; -1 for nobody
unfoldable pub net_hooked_player : Hook → ℤ
net_hooked_player h = on_grabbed (λ c t. cast_signed c.0) (negsuc 0) h

-- a hooked player of -1 is nobody
abbrev pub nobody : ℤ → Bool
nobody (pos n) = false
nobody (negsuc k) = eqb k 0

-- whether it holds the character k
unfoldable pub holds : Hook → ℕ → Bool
holds h k = on_grabbed (λ c t. eqb c.0 k) false h

-- state 5 of a record: Attached where nobody is held, else the player's bits and the tick's as u32
unfoldable pub attached_or_grabbed : vec2 → ℤ → Tick → Hook
attached_or_grabbed p player t = cond (nobody player) (Attached p) (Grabbed (id_of (cast_unsigned player)) (cast_unsigned t.0))

-- a record's hook; a state outside -1 to 5 reads as Retracted
unfoldable pub hook_from_net : ℤ → vec2 → vec2 → ℤ → Tick → Hook
hook_from_net (negsuc k) p d player t = Retracted
hook_from_net (pos n) p d player t =
    cond (eqb n 0) Idle
    (cond (eqb n 1) (Retracting0 p)
    (cond (eqb n 2) (Retracting1 p)
    (cond (eqb n 3) (Retracting2 p)
    (cond (eqb n 4) (Flying p d)
    (cond (eqb n 5) (attached_or_grabbed p player t)
    Retracted)))))
