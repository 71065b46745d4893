use mathlib.Core.Bool.{Bool, true≢false}
use mathlib.Core.Path.{◌≡◌, sym, ap, ap₂, ◌∙◌}
use Prim.Native.Nat.{ℕ, ◌≤◌, ◌<◌}
use lib.Dec.{eqb}
use lib.IntN.{ℤ}
use mir.Syntax.{w32}
use mir.Val.{to_z, of_z}
use mir.Facts.{to_z-of_z}
use borrow.Author.Tests.{lt-ltb, le-ltb, eq-eqb, ne_eqb}
use Rattle.num_convert.proofs.Signed.{read}
use Rattle.map_tiles.specs.declared.tiles.Sides.{Sides}
use Rattle.world.specs.Calls.{point_of}
use Rattle.game_records.specs.Numbers.{same_number}
use Rattle.game_records.proofs.Same.{number_same, number_self}
use Rattle.base_turns.proofs.Tests.{either_way}
use Rattle.trial_rule.specs.Trial.{distance_to, noted}
use Rattle.trial_rule.specs.declared.Player.{Player}
use Rattle.trial_runs.proofs.players.noted.Goals as goal

-- the code compares the bits
same_bits : (z y : ℤ) → to_z w32 (of_z w32 z) ≡ z → to_z w32 (of_z w32 y) ≡ y → eqb (of_z w32 z) (of_z w32 y) ≡ same_number z y
same_bits z y h g =
    either_way (same_number z y)
    (λ e. eq-eqb _ _ (ap (of_z w32) (number_same z y e)) ∙ sym e)
    (λ e. ne_eqb (of_z w32 z) (of_z w32 y) (λ b. true≢false (sym (number_self z) ∙ ap (same_number z) (sym h ∙ ap (to_z w32) b ∙ g) ∙ e)) ∙ sym e)

module _ (s : Sides) (k : ℕ) (x y z : ℤ) (p : Player) (b : Bool) (d : ℕ) (i : z ≡ x) (j : b ≡ same_number p.x x) (m : d ≡ distance_to s p.column p.row (point_of x y)) where
  nearer : d < p.distance → record { joined = p.joined; column = p.column; row = p.row; x = z; stayed = b; distance = d; step = k } ≡ noted s k x y p
  unfolding noted
  nearer h = rw (i, j, ← m, lt-ltb d p.distance h)

  no_nearer : p.distance ≤ d → record { joined = p.joined; column = p.column; row = p.row; x = z; stayed = b; distance = p.distance; step = p.step } ≡ noted s k x y p
  unfolding noted
  no_nearer h = rw (i, j, ← m, le-ltb d p.distance h)

pub returns-then-away-player : goal.returns-then-away-player
returns-then-away-player c =
    let t = c in
    let a = t.args in
    let x = to_z-of_z t.ranges.x in
    nearer a.sides a.step a.x a.y _ a.player _ _ x (same_bits a.player.x a.x (read _ c.struct_told-1.given.1.1.1.0.1) x) (c.distance_to-away.ensures.0 ∙ ap₂ (λ (u v : ℤ). distance_to a.sides a.player.column a.player.row (point_of u v)) x (to_z-of_z t.ranges.y)) c.if-away-player.true

pub returns : goal.returns
returns c =
    let t = c in
    let a = t.args in
    let x = to_z-of_z t.ranges.x in
    no_nearer a.sides a.step a.x a.y _ a.player _ _ x (same_bits a.player.x a.x (read _ c.struct_told-1.given.1.1.1.0.1) x) (c.distance_to-away.ensures.0 ∙ ap₂ (λ (u v : ℤ). distance_to a.sides a.player.column a.player.row (point_of u v)) x (to_z-of_z t.ranges.y)) c.if-away-player.false
