use Prim.Native.Nat.{ℕ, ◌+◌, ◌-◌}
use mathlib.Core.Bool.{Bool, true, false}
use mathlib.Core.List.{List, [], ◌∷◌}
use mathlib.Core.Path.{◌≡◌, refl, sym, ap, ap₂, ◌∙◌, subst}
use native.Mathlib.Omega.{arith}
use lib.IntN.{ℤ}
use lib.ListN.{length}
use Rattle.num_convert.proofs.Signed.{read}
use Rattle.base_rows.specs.Put.{put}
use Rattle.base_turns.proofs.Loop.{Left, turn_first, turn_end}
use Rattle.map_tiles.specs.declared.tiles.Sides.{Sides}
use Rattle.character.specs.Tick.{seats}
use Rattle.world.specs.Settled.{Settled}
use Rattle.world_numbers.specs.Encoding.{world_count}
use Rattle.world_numbers.specs.Decoding.{decoding}
use Rattle.world_numbers.proofs.Any.{decoding_settled}
use Rattle.search_rule.specs.Search.{step_with, choices, buttons_at, first_among}
use Rattle.search_rule.specs.declared.Buttons.{Buttons}
use Rattle.search_rule.specs.declared.Goal.{Goal}
use Rattle.search_calls.specs.Numbers.{found_in}
use Rattle.search_calls.specs.Steps.{Copied, Took}
use Rattle.search_calls.specs.declared.stepping.StepOutcome.{StepOutcome}
use Rattle.search_calls.proofs.Turns.{rest, turn, first_turns, tried-last, tried-on, tried-off, goes_on_lem, is-written}
use Rattle.search_calls.proofs.searching.+first_of.Goals.{Joined-more-eq0, then-more-eq0, else-more-eq0+then-outcome, else-more-eq0+else-outcome}
use Rattle.search_calls.proofs.searching.+first_of.Goals as goal

-- what a try comes to, for the world's own numbers and the buttons by their place
took : {s : Sides} {ts : List ℕ} {g : Goal} {b d : Buttons} {l w : List ℤ} {r : StepOutcome} {m : List ℤ} → b ≡ d → Copied w l → Took s ts g b l r m → Took s ts g d w r m
took {s = s} {ts = ts} {g = g} {d = d} {l = l} {r = r} {m = m} e k h = subst (λ (x : List ℤ). Took s ts g d x r m) k.same (subst (λ (x : Buttons). Took s ts g x l r m) e h)

tried : (t : ℕ) (c : Joined-more-eq0 t) → let a = c.args in found_in a.way.now (a.at + 2) (rest a.sides a.tiles.now a.goal a.more (step_with seats a.sides a.tiles.now a.goal (decoding seats a.world.now) (buttons_at c.loop-i.i))) ≡ record { found = c.if-more-eq0.found; way = c.if-more-eq0.way' }
tried t c =
    let a = c.args in
    let s = step_with seats a.sides a.tiles.now a.goal (decoding seats a.world.now) (buttons_at c.loop-i.i) in
    let k = took c.buttons_at-buttons.ensures c.copy_world.ensures c.step_with-outcome.ensures in
    let l = a.way.now in
    let e = c.loop-i.invariant.0 in
    elim c.if-more-eq0.branch [
      | then-more-eq0 w ↦ rw (w.way'-is ∙ e, w.found-is) (tried-last a.sides a.tiles.now a.goal l (a.at + 2) s a.more c.step_with-outcome.result.arrives w.if-more-eq0.true k.arrived)
      | else-more-eq0+then-outcome w ↦ rw (w.way'-is, w.found-is) (tried-on a.sides a.tiles.now a.goal l (a.at + 2) s a.more _ _ w.if-more-eq0.false (sym k.going ∙ w.if-outcome.true) k.world (ap (λ (x : List ℤ). found_in x (a.at + 2) (first_among seats a.sides a.tiles.now a.goal (a.more - 1) (decoding seats c.step_with-outcome.new.world))) (sym e) ∙ w.first_of.ensures))
      | else-more-eq0+else-outcome w ↦ rw (w.way'-is ∙ e, w.found-is) (tried-off a.sides a.tiles.now a.goal l (a.at + 2) s a.more w.if-more-eq0.false (sym k.going ∙ w.if-outcome.false))
    ]

pub loop-i-init : goal.loop-i-init
loop-i-init t c =
    let a = c.args in
    let w = decoding seats a.world.now in
    (refl, refl, subst (Left (turn a.sides a.tiles.now a.goal a.more w) choices 0 tt) (first_turns a.sides a.tiles.now a.goal a.more w) turn_first)

pub step_with-outcome-requires : goal.step_with-outcome-requires
step_with-outcome-requires t c =
    let p = c.requires in
    let k = c.copy_world.ensures in
    let long : length c.copy_world.new.next ≡ world_count = ap length k.same ∙ p.0 in
    (long, subst (λ (l : List ℤ). Settled seats (decoding seats l)) (sym k.same) (decoding_settled seats c.args.world.now p.0 k.known), p.1)

pub first_of-requires : goal.first_of-requires
first_of-requires t c =
    let p = c.requires in
    let m = c.if-more-eq0.false in
    (omega (arith, c.decreases, m), (c.step_with-outcome.ensures.size, p.1, omega (arith, p.2, c.loop-i.auto.way, m)))

pub returns-then-found : goal.returns-then-found
returns-then-found t c =
    let a = c.args in
    let l = c.loop-i in
    let b = c.buttons_at-buttons.result in
    let w = c.if-more-eq0.way' in
    let row = c.struct_told-1.given in
    is-written a.sides a.tiles.now a.goal a.more (decoding seats a.world.now) a.way.now w a.at l.i _ c.loop-i-test.true l.invariant.2 b c.buttons_at-buttons.ensures (tried t (record { before = c.before.before.before.before.before.before.before; type_inv = record { tiles = c.type_inv.tiles } }) ∙ ap (λ (y : Bool). record { found = y; way = w }) c.if-found.true) (omega (arith, c.requires.2))
    ∙ ap (λ (m : List ℤ). record { found = true; way = m }) (sym (c.copy.ensures ∙ ap₂ (λ (d j : ℤ). put w a.at (d ∷ j ∷ [])) (read b.direction row.0.1) (read b.jump row.1.0.1)))

pub loop-i-preserved : goal.loop-i-preserved
loop-i-preserved t c =
    let a = c.args in
    let l = c.loop-i in
    let w = c.if-more-eq0.way' in
    let r = goes_on_lem a.sides a.tiles.now a.goal a.more (decoding seats a.world.now) a.way.now w a.at l.i _ c.loop-i-test.true l.invariant.2 (tried t (record { before = c.before.before; type_inv = record { tiles = c.type_inv.tiles } }) ∙ ap (λ (y : Bool). record { found = y; way = w }) c.if-found.false) in
    (r.0, c.step_with-outcome.ensures.size, r.1)

pub returns : goal.returns
returns t c =
    let a = c.args in
    let l = c.loop-i in
    ap (found_in a.way.now a.at) (turn_end l.invariant.2 c.loop-i-test.false) ∙ ap (λ (m : List ℤ). record { found = false; way = m }) (sym l.invariant.0)
