use mathlib.Core.Path.{◌≡◌, refl, ap, ◌∙◌}
use Prim.Native.Nat.{ℕ, ◌+◌, ◌≤◌, ◌<◌, ◌^◌}
use native.Mathlib.Omega.{arith}
use lib.IntN.{ℤ, pos}
use mir.Syntax.{w32}
use mir.Val.{to_z, of_z}
use Rattle.num_convert.proofs.Signed.{read}
use Rattle.character.specs.Tick.{seats}
use Rattle.text_writing.proofs.Sizes.{put_as}
use Rattle.text_writing.specs.Answers.{told_bytes}
use Rattle.world.specs.Run.{ran, told_by}
use Rattle.world.specs.declared.World.{World}
use Rattle.session_run.specs.Session.{most_calls}
use Rattle.session_run.specs.Line.{goes_on, call}
use Rattle.session_run.proofs.session_lines.run_line.Goals as goal

small : (n : ℕ) → n ≤ most_calls + 1 → n < 2 ^ 31
small n h = omega arith

pub returns-in-Some : goal.returns-in-Some
returns-in-Some c =
    let s = c.args.session.now in
    let put = c.put_call in
    let number : to_z w32 (of_z w32 (pos s.call)) ≡ pos s.call = read (pos s.call) (small s.call c.requires.1) in
    call c.in-Some.line c.in-Some.past c.if-text-session.false c.in-Some.ensures
    (ap (λ (v : World). goes_on (s.call + 1) c.in-Some.past v put.result) put.ensures.0)
    (put_as (ap (λ (z : ℤ). told_bytes seats z (told_by (ran seats c.args.sides c.args.tiles.now s.world c.in-Some.line))) number) refl put.ensures.1)
