-- What is passed along, in its place, and what becomes of each copy on both sides. Definitions only; proofs/Along.antt proves it.
use Rattle.std.specs.Prelude.{ℕ, ◌<◌, cond, List, [], ◌∷◌, ◌++◌, map, ◌≡◌, eqb}
use Rattle.game_tuning.specs.Tuning.{tuning_count}
use Rattle.map_tiles.specs.declared.tiles.Sides.{Sides}
use Rattle.world.specs.Calls.{place_of}
use Rattle.world.specs.Removal.{ids_in, is_in}
use Rattle.world.specs.Run.{ran}
use Rattle.world.specs.declared.call.Call.{Call}
use Rattle.world.specs.declared.call.Call.TheVariants.{Join, Leave, Input, Step, Tune}
use Rattle.world.specs.Answered.{Stepped}
use Rattle.send_rule.specs.Send.{no_copy, copy_at, copy_of, step_copy}
use Rattle.send_rule.specs.Link.{Link, fresh_link, sent_on, called, EveryCall, messages, in_order}
use Rattle.send_rule.specs.declared.Copy.{Copy}
use Rattle.send_rule.specs.declared.Passed.{Passed}
use Rattle.send_rule.specs.declared.Passed.TheVariants as passed

-- ---- what is passed along

-- ps is what an accepted call that answered a passes along: a step as a bare mark, then its messages by rising id, then its removals; leaves and tunings too, joins and inputs not
abbrev pub Passes : ℕ → Stepped → List Passed → Call → Type 0
Passes n a ps (Join id x y) = ps ≡ []
Passes n a ps (Leave id) = ps ≡ passed.Leave (place_of n id) ∷ []
Passes n a ps (Input id d x y j h) = ps ≡ []
Passes n a ps (Tune index z) = ps ≡ passed.Tune (place_of tuning_count index) z ∷ []
Passes n a ps Step = ps ≡ passed.Mark ∷ (in_order n ps ++ map passed.Removal (ids_in a.removed))

-- ---- what becomes of a copy

-- a message renews it
abbrev pub renewed : List Passed → Copy → Copy
renewed [] c = c
renewed (passed.Mark ∷ ps) c = renewed ps c
renewed (passed.Message k core i ∷ ps) c = copy_of core i
renewed (passed.Removal k ∷ ps) c = renewed ps c
renewed (passed.Leave k ∷ ps) c = renewed ps c
renewed (passed.Tune k v ∷ ps) c = renewed ps c

-- the copy c of the seat k after an accepted call on l that answered a: a leave or removal of k drops it, a step steps it and its message renews it
abbrev pub copy_after : ℕ → Sides → List ℕ → Link → ℕ → Stepped → Copy → Call → Copy
copy_after n s ts l k a c (Join id x y) = c
copy_after n s ts l k a c (Leave id) = cond (eqb (place_of n id) k) no_copy c
copy_after n s ts l k a c (Input id d x y j h) = c
copy_after n s ts l k a c (Tune index z) = c
copy_after n s ts l k a c Step = cond (is_in k (ids_in a.removed)) no_copy (renewed (messages k (sent_on n s ts l Step).passed) (step_copy n s ts l.world.tunings k c))

-- ---- every call

-- what is passed along for a call on l, and what it leaves of the copies
pub record CallAlong (n : ℕ) (s : Sides) (ts : List ℕ) (l : Link) (c : Call) : Type 0 where
  pub accepted : (ran n s ts l.world c).number ≡ 0 → Passes n (ran n s ts l.world c) (sent_on n s ts l c).passed c
  -- a refused call passes nothing along
  pub refused : ((ran n s ts l.world c).number ≡ 0 → ⊥) → (sent_on n s ts l c).passed ≡ []
  -- each seat's copy, touched by nothing of any other seat
  pub copy : (ran n s ts l.world c).number ≡ 0 → (k : ℕ) → k < n → copy_at (called n s ts l c).copies k ≡ copy_after n s ts l k (ran n s ts l.world c) (copy_at l.copies k) c
  pub kept : ((ran n s ts l.world c).number ≡ 0 → ⊥) → (called n s ts l c).copies ≡ l.copies
  -- on both sides: the screen's copies are the sender's, and its tunings the world's
  pub both : (called n s ts l c).screen.copies ≡ (called n s ts l c).copies
  pub tunings : (called n s ts l c).screen.tunings ≡ (called n s ts l c).world.tunings

-- every map and every list of calls from a fresh world of n slots
abbrev pub Along : ℕ → Type 0
Along n = (s : Sides) (ts : List ℕ) (cs : List Call) → EveryCall n s ts (CallAlong n s ts) (fresh_link n) cs
