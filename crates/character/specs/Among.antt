-- A tick in two parts: what it leaves of its own character, for which places are enough, and whom its hook pulls. Definitions only.
use Rattle.std.specs.Prelude.{ℕ, Bool, true, cond, List, eqb, ltb}
use Rattle.num_vec2.specs.declared.vec2.{vec2}
use Rattle.character_hook.specs.Hook.{id_of, on_grabbed}
use Rattle.character_hook.specs.declared.hook.Hook.{Hook}
use Rattle.character_meeting.specs.Meeting.{is_beyond, pull_on}
use Rattle.character_meeting.specs.declared.meeting.HookPull.{HookPull}
use Rattle.game_tuning.specs.declared.Tuning.{Tuning}
use Rattle.character.specs.Tick.{pull_of}
use Rattle.character.specs.declared.Slot.{Slot}
use Rattle.character.specs.declared.tick.OwnTick.{OwnTick}
use Rattle.std.specs.Prelude.{Option, None, Result, Ok, Err}
use Rattle.character.specs.declared.tick.AfterTick.{AfterTick}
use Rattle.game_refusals.specs.declared.Refusal.{Refusal}

-- the seat of whom a hook holds; the own one where it holds nobody who has a seat
unfoldable pub held_seat : ℕ → Hook → ℕ → ℕ
held_seat n h own = on_grabbed (λ cid ticks. cond (ltb cid.0 n) cid.0 own) own h

-- whether a meeting with whoever is at q may change a velocity: near, or at the held seat
unfoldable pub may_meet : vec2 → vec2 → ℕ → ℕ → Bool
may_meet p q j held = cond (is_beyond p q) (eqb j held) true

-- what a hook does to whoever is at the held seat, if that is another and there: at q, with the velocity u
unfoldable pub pull_at : vec2 → ℕ → ℕ → Bool → vec2 → vec2 → Tuning → Option HookPull
pull_at p own held present q u t = cond (eqb held own) None (cond present (pull_on p (id_of held) q u t) None)

-- the whole tick: the own character with whom its hook pulls
abbrev pub with_pull : ℕ → List Slot → ℕ → Tuning → Result OwnTick Refusal → Result AfterTick Refusal
with_pull n ss id t (Err e) = Err e
with_pull n ss id t (Ok own) = Ok (record { me = own.me; pull = pull_of n ss id own.me.pos own.me.hook t; grounded = own.grounded })
