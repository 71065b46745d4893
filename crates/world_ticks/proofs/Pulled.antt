-- A pull that is written at the seat that a hook holds: the slots are those after the pull. Assumes nothing.
use mathlib.Core.Bool.{Bool}
use mathlib.Core.List.{List}
use mathlib.Core.Path.{◌≡◌, refl}
use Prim.Native.Nat.{ℕ}
use lib.Dec.{eqb}
use lib.ListN.{set}
use lib.Seq.{set-get_or}
use borrow.Author.Tests.{eq-eqb}
use Rattle.num_vec2.specs.Vec2.{vdistance}
use Rattle.num_vec2.specs.declared.vec2.{vec2}
use Rattle.game_tuning.specs.declared.Tuning.{Tuning}
use Rattle.character_hook.specs.Hook.{id_of}
use Rattle.character_meeting.specs.Meeting.{drags, pull_on, pulled}
use Rattle.character_meeting.specs.declared.meeting.HookPull.{HookPull}
use Rattle.character.specs.Among.{pull_at}
use Rattle.character.specs.Tick.{nowhere, slot_at, after_pull, pulled_slot}
use Rattle.character.specs.declared.Slot.{Slot}
use Rattle.character_laws.proofs.Choices.{either}
use Rattle.std.specs.Prelude.{Option, None}
use Rattle.std.specs.Prelude.{Some}

module _ (ss : List Slot) (held : ℕ) where
  -- written there, a pull leaves the slots after it
  abbrev Written : Option HookPull → Type 0
  Written k = set ss held (pulled_slot (slot_at ss held) k held) ≡ after_pull ss k

  pub pulled_there : (p : vec2) (own : ℕ) (present : Bool) (q u : vec2) (t : Tuning) → Written (pull_at p own held present q u t)
  unfolding pull_at pull_on pulled_slot after_pull
  pulled_there p own present q u t = either Written (eqb held own) nobody (either Written present (either Written (drags (vdistance p q) t) one nobody) nobody)
    where
      nobody : Written None
      nobody = set-get_or ss held nowhere

      one : Written (Some (record { cid = id_of held; vel = pulled p q u (vdistance p q) t }))
      one = rw (eq-eqb held held refl)
