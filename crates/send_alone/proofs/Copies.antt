-- A copy's step in its small world is the step of its seat alone. Assumes nothing.
use Prim.Native.Nat.{ℕ, zero, suc, ◌+◌, ◌≤◌, ◌<◌}
use native.Mathlib.Omega.{arith}
use mathlib.Core.Bool.{Bool, true, false, cond}
use mathlib.Core.List.{List}
use mathlib.Core.Path.{◌≡◌, refl, ap, ◌∙◌}
use lib.IntN.{ℤ}
use lib.ListN.{set}
use borrow.Author.Tests.{ne_eqb}
use Rattle.base_turns.specs.Turns.{fold}
use Rattle.game_tuning.specs.Tuning.{tuning_of}
use Rattle.game_tuning.specs.declared.Tuning.{Tuning}
use Rattle.game_records.specs.declared.CharacterCore.{CharacterCore}
use Rattle.game_records.specs.declared.PlayerInput.{PlayerInput}
use Rattle.map_tiles.specs.Map.{is_map}
use Rattle.map_tiles.specs.declared.tiles.Sides.{Sides}
use Rattle.character_hook.specs.Flying.{flown}
use Rattle.character_motion.specs.Controls.{grounded}
use Rattle.character.specs.Records.{from_net, to_net}
use Rattle.character.specs.Tick.{steer}
use Rattle.character.specs.declared.Character.{Character}
use Rattle.world.specs.Step.{of_net, record_of}
use Rattle.world.specs.Answered.{Stepped}
use Rattle.send_rule.specs.Send.{copy_at, alone, stepped_to, staying, step_copy, step_turn, step_copies}
use Rattle.send_rule.specs.declared.Copy.{Copy}
use Rattle.send_alone.specs.Alone.{flown_to, record_alone, step_alone, ToldAlone, after_alone, copy_alone, alone_turn, copies_alone, CopiesAlone}
use Rattle.send_alone.proofs.Alone.{steps_alone}
use Rattle.std.specs.Prelude.{Result, Ok, Err}
use Rattle.character_hook.specs.declared.hook.Hook.{Hook}
use Rattle.game_refusals.specs.declared.Refusal.{Refusal}
use Rattle.game_refusals.specs.declared.Refusal.TheVariants.{BadMap}
use Rattle.game_refusals.specs.Refusals.{number_of}

-- ---- a refusal has a number
abbrev Numbered : Result CharacterCore Refusal → Type 0
Numbered (Err r) = number_of r ≡ 0 → ⊥
Numbered (Ok core) = Unit {0}

net_numbered : (a : Result CharacterCore Refusal) → Numbered (of_net a)
net_numbered (Err e) = λ e. omega (arith, e)
net_numbered (Ok core) = tt

record_numbered : (m : Result Character Refusal) → Numbered (record_of m)
unfolding record_of
record_numbered (Err e) = λ e. omega (arith, e)
record_numbered (Ok c) = net_numbered (to_net c)

step_numbered : (s : Sides) (ts : List ℕ) (t : Tuning) (core : CharacterCore) (i : PlayerInput) → Numbered (step_alone s ts t core i)
unfolding step_alone
step_numbered s ts t core i =
    let c = from_net core in
    let d = steer c (grounded s ts c.pos) i t in
    let f = flown_to (flown d.hook c.pos s ts t) in
    chosen (is_map s ts) (record_alone s ts t d f) (flies d f)
  where
    flies : (c : Character) (f : Result Hook Refusal) → Numbered (record_alone s ts t c f)
    flies c (Err e) = λ e. omega (arith, e)
    flies c (Ok h) = record_numbered _

    chosen : (b : Bool) (r : Result CharacterCore Refusal) → Numbered r → Numbered (cond b r (Err BadMap))
    chosen true r n = n
    chosen false r n = λ e. omega (arith, e)

-- ---- a copy's step
tells : (s : Sides) (ts : List ℕ) (k : ℕ) (c : Copy) (a : Stepped) (r : Result CharacterCore Refusal) → ToldAlone s ts k a r → Numbered r → stepped_to k c a ≡ after_alone s ts c r
tells s ts k c a (Err q) e n = rw (e, ne_eqb (number_of q) 0 n)
tells s ts k c a (Ok core) (e, f, g) n = rw (e, f, g)

copy_alone_lem : (n : ℕ) (s : Sides) (ts : List ℕ) (tunings : List ℤ) (k : ℕ) (c : Copy) → k < n → step_copy n s ts tunings k c ≡ copy_alone s ts (tuning_of tunings) c
unfolding step_copy copy_alone
copy_alone_lem n s ts tunings k c l = ap (λ (d : Copy). cond c.kept (cond c.removed (staying c) d) c) (tells s ts k c (alone n s ts tunings k c) (step_alone s ts (tuning_of tunings) c.core c.input) (steps_alone n s ts tunings k c l) (step_numbered s ts (tuning_of tunings) c.core c.input))

module _ (n : ℕ) (s : Sides) (ts : List ℕ) (tunings : List ℤ) where
  turns_alone : (m i : ℕ) (cs : List Copy) → m + i ≤ n → fold (step_turn n s ts tunings) m i cs ≡ fold (alone_turn s ts (tuning_of tunings)) m i cs
  unfolding fold
  turns_alone zero i cs l = refl
  turns_alone (suc m) i cs l = ap (λ (c : Copy). fold (step_turn n s ts tunings) m (suc i) (set cs i c)) (copy_alone_lem n s ts tunings i (copy_at cs i) (omega arith)) ∙ turns_alone m (suc i) (alone_turn s ts (tuning_of tunings) i cs) (omega arith)

pub copies_alone_lem : (n : ℕ) → CopiesAlone n
unfolding step_copies copies_alone
copies_alone_lem n s ts tunings cs = turns_alone n s ts tunings n 0 cs (omega arith)

-- ---- a record is taken on a map alone
pub taken_on_map : (s : Sides) (ts : List ℕ) (t : Tuning) (core left : CharacterCore) (i : PlayerInput) → step_alone s ts t core i ≡ Ok left → is_map s ts ≡ true
unfolding step_alone
taken_on_map s ts t core left i = go (is_map s ts) _
  where
    go : (b : Bool) (r : Result CharacterCore Refusal) → cond b r (Err BadMap) ≡ Ok left → b ≡ true
    go true r e = refl
    go false r e = let z : ◌≡◌ {A = ℕ} 0 1 = cc in absurd (omega arith)
