use mathlib.Core.Bool.{Bool, true, false}
use mathlib.Core.List.{List}
use mathlib.Core.Logic.{⊎_elim}
use mathlib.Core.Path.{◌≡◌, sym, ap, ◌∙◌}
use Prim.Native.Nat.{ℕ, ◌-◌, ◌<◌}
use native.Mathlib.Omega.{arith}
use lib.Ieee.{Float}
use lib.ListN.{set}
use borrow.Author.Rules.{rules}
use Rattle.base_turns.proofs.Loop.{Left, turn_first, turn_on, turn_off, turn_end}
use Rattle.base_turns.specs.Turns.{more, stop}
use Rattle.map_tiles.specs.declared.tiles.Sides.{Sides}
use Rattle.game_tuning.specs.declared.Tuning.{Tuning}
use Rattle.character_meeting.specs.declared.meeting.HookPull.{HookPull}
use Rattle.character.proofs.Held.{held_below, pull-held}
use Rattle.character.specs.Among.{held_seat, pull_at, with_pull}
use Rattle.character.specs.Places.{PlacesOf}
use Rattle.character.specs.Tick.{seats, slot_at, pull_of, after_pull, pulled_slot, tick_at, ticked_slot}
use Rattle.character.specs.declared.Character.{Character}
use Rattle.character.specs.declared.Slot.{Slot}
use Rattle.character.specs.declared.tick.AfterTick.{AfterTick}
use Rattle.character.specs.declared.tick.OwnTick.{OwnTick}
use Rattle.character_laws.proofs.Places.{ticked-places}
use Rattle.world.specs.Step.{tick_turn, tick_all}
use Rattle.character.proofs.Refused.{tick_refused}
use Rattle.std.proofs.lemmas.Result.{err_from_is_err_and}
use Rattle.game_refusals.specs.Refusals.{number_of}
use Rattle.world_ticks.proofs.Pulled.{pulled_there}
use Rattle.world_ticks.proofs.ticking.tick_all.Goals.{After-held_seat-held}
use Rattle.world_ticks.proofs.ticking.tick_all.Goals.{then-slot+in_ok-own, else-slot}
use Rattle.world_ticks.proofs.ticking.tick_all.Goals as goal
use Rattle.std.specs.Prelude.{Option, Result, Ok, Err}
use Rattle.game_refusals.specs.declared.Refusal.{Refusal}
use Rattle.game_refusals.specs.declared.Refusal.TheVariants.{TooFar}

module _ (s : Sides) (ts : List ℕ) (t : Tuning) (j : ℕ) (ss : List Slot) (k : Result OwnTick Refusal) (e : with_pull seats ss j t k ≡ tick_at seats (slot_at ss j).character j ss s ts (slot_at ss j).input t) where
  -- a tick: the pull is written at the held seat, then what is left of the own slot
  pub record Ticks (us : List Slot) : Type 0 where
    pub own : OwnTick
    pub held : ℕ
    pub pull : Option HookPull
    pub other : Slot
    pub mine : Slot
    pub left : k ≡ Ok own
    pub seat : held ≡ held_seat seats own.me.hook j
    pub pulls : pull ≡ pull_at own.me.pos j held (slot_at ss held).present (slot_at ss held).character.pos (slot_at ss held).character.vel t
    pub pulled : other ≡ pulled_slot (slot_at ss held) pull held
    pub ticked : mine ≡ ticked_slot (slot_at (set ss held other) j) (record { me = own.me; pull = pull; grounded = own.grounded })
    pub slots : us ≡ set (set ss held other) j mine

  module _ (us : List Slot) (r : Ticks us) where
    abbrev after : AfterTick
    after = record { me = r.own.me; pull = r.pull; grounded = r.own.grounded }

    answer : tick_at seats (slot_at ss j).character j ss s ts (slot_at ss j).input t ≡ Ok after
    answer =
        let pull : r.pull ≡ pull_of seats ss j r.own.me.pos r.own.me.hook t = r.pulls ∙ rw r.seat (sym (pull-held seats j ss r.own.me.pos r.own.me.hook t)) in
        sym (rw pull (rw r.left at e))

    there : us ≡ set (after_pull ss r.pull) j (ticked_slot (slot_at (after_pull ss r.pull) j) after)
    there =
        let written : set ss r.held r.other ≡ after_pull ss r.pull = rw (r.pulled, r.pulls) (pulled_there ss r.held r.own.me.pos j _ _ _ t) in
        r.slots ∙ ap (set (set ss r.held r.other) j) r.ticked ∙ ap (λ (vs : List Slot). set vs j (ticked_slot (slot_at vs j) after)) written

    ticks : (slot_at ss j).present ≡ true → tick_turn seats s ts t j ss ≡ more us
    ticks p = simp (p, answer, there)

    stand : (ps : List Bool) (xs ys : List Float) → PlacesOf seats ss ps xs ys → PlacesOf seats us ps xs ys
    stand ps xs ys h = rw there (ticked-places seats ss ps xs ys h j s ts (slot_at ss j).input t after answer)

  -- a tick that is refused
  refuses : (r : Refusal) → (slot_at ss j).present ≡ true → k ≡ Err r → tick_turn seats s ts t j ss ≡ stop (number_of r)
  refuses r p z =
      let f = sym (rw z at e) in
      let far = tick_refused seats (slot_at ss j).character j ss s ts (slot_at ss j).input t r f in
      rw far (simp (p, f))

nobody : (s : Sides) (ts : List ℕ) (t : Tuning) (j : ℕ) (ss us : List Slot) → (slot_at ss j).present ≡ false → us ≡ ss → tick_turn seats s ts t j ss ≡ more us
nobody s ts t j ss us p q = simp (p, q)

pub loop-id-init : goal.loop-id-init
unfolding tick_all
loop-id-init c = (turn_first, c.places_of-places.ensures)

pub bounds-all-id : goal.bounds-all-id
bounds-all-id c = omega arith

pub returns-in_err-own : goal.returns-in_err-own
returns-in_err-own c =
    let l = c.loop-id in
    let a = c.args in
    let k = c.tick_among in
    let p = err_from_is_err_and c.from_residual.result c.from_residual.ensures.1 in
    rw (p.1, p.2) (turn_off l.invariant.0 c.loop-id-test.true (refuses a.sides a.tiles.now a.tuning l.id l.all k.result (k.ensures l.all l.invariant.1) _ c.if-slot.true c.in_err-own.was))

-- it holds somebody at a seat
below : (c : After-held_seat-held) → c.held_seat-held.result < seats
below c =
    let b = c in
    rw c.held_seat-held.ensures (held_below seats b.loop-id.id _ b.loop-id-test.true)

pub offset_bounds-all-held : goal.offset_bounds-all-held
offset_bounds-all-held c = let b = below c in omega (arith, b)

pub bounds-all-held : goal.bounds-all-held
bounds-all-held c = below c

pub pull_by-pull-requires : goal.pull_by-pull-requires
pull_by-pull-requires c = below (record { before = c.before.before; type_inv = record { tiles = c.type_inv.tiles } })

pub offset_bounds-all-held-then-slot : goal.offset_bounds-all-held-then-slot
offset_bounds-all-held-then-slot c = let b = below (record { before = c.before.before.before.before; type_inv = record { tiles = c.type_inv.tiles } }) in omega (arith, b)

pub bounds-all-held-then-slot : goal.bounds-all-held-then-slot
bounds-all-held-then-slot c = below (record { before = c.before.before.before.before; type_inv = record { tiles = c.type_inv.tiles } })

pub offset_bounds-all-id-then-slot : goal.offset_bounds-all-id-then-slot
offset_bounds-all-id-then-slot c = let h = c.loop-id-test.true in omega (arith, h)

pub bounds-all-id-then-slot : goal.bounds-all-id-then-slot
bounds-all-id-then-slot c = c.loop-id-test.true

pub offset_bounds-all-id-then-slot-2 : goal.offset_bounds-all-id-then-slot-2
offset_bounds-all-id-then-slot-2 c = let h = c.loop-id-test.true in omega (arith, h)

pub bounds-all-id-then-slot-2 : goal.bounds-all-id-then-slot-2
bounds-all-id-then-slot-2 c = c.loop-id-test.true

pub overflow_step-id : goal.overflow_step-id
overflow_step-id c = omega arith

pub loop-id-smaller : goal.loop-id-smaller
loop-id-smaller c = omega arith

pub loop-id-preserved : goal.loop-id-preserved
loop-id-preserved c =
    let l = c.loop-id in
    let a = c.args in
    let places = c.places_of-places.result in
    let h = c.loop-id-test.true in
    elim c.if-slot.branch [
      | then-slot+in_ok-own w ↦
          let e = w.tick_among.ensures l.all l.invariant.1 in
          let r : Ticks a.sides a.tiles.now a.tuning l.id l.all w.tick_among.result e c.if-slot.all = record { own = w.in_ok-own.own; held = w.held_seat-held.result; pull = w.pull_by-pull.result; other = w.pulled.result; mine = w.ticked.result; left = w.in_ok-own.was; seat = w.held_seat-held.ensures; pulls = w.pull_by-pull.ensures; pulled = w.pulled.ensures; ticked = w.ticked.ensures; slots = w.all-is } in
          (turn_on l.invariant.0 h (ticks a.sides a.tiles.now a.tuning l.id l.all w.tick_among.result e c.if-slot.all r w.if-slot.true), stand a.sides a.tiles.now a.tuning l.id l.all w.tick_among.result e c.if-slot.all r places.present places.xs places.ys l.invariant.1)
      | else-slot w ↦ (turn_on l.invariant.0 h (nobody a.sides a.tiles.now a.tuning l.id l.all c.if-slot.all w.if-slot.false w.all-is), rw w.all-is l.invariant.1)
    ]

pub returns : goal.returns
returns c = turn_end c.loop-id.invariant.0 c.loop-id-test.false
