use native.Mathlib.Omega.{arith}
use Rattle.std.specs.Prelude.{Ok}
use Rattle.num_convert.proofs.Signed.{read}
use Rattle.character.specs.Tick.{seats}
use Rattle.world.specs.Step.{stepped_in}
use Rattle.send_calls.proofs.Accepted.{place_fits, sent_whole, lists-seats, step_sent}
use Rattle.send_calls.proofs.sender.send_accepted.Goals as goal

pub overflow_cast-left : goal.overflow_cast-left
overflow_cast-left c = let b = place_fits _ _ _ c.place_of-at.ensures in omega (arith, b)

pub send_removals-requires : goal.send_removals-requires
send_removals-requires c =
    let m = c.send_messages.ensures in
    (sent_whole _ _ m.0, m.1, lists-seats _ _ _ _ c.in-Step.is (stepped_in seats c.args.world (Ok c.args.told)) c.requires.0 c.requires.1)

pub overflow_cast-at : goal.overflow_cast-at
overflow_cast-at c = let b = place_fits _ _ _ c.place_of-at-in-Tune.ensures in omega (arith, b)

pub returns-in-Join : goal.returns-in-Join
returns-in-Join c = simp (c.in-Join.is, c.send_nothing.ensures)

pub returns-in-Leave : goal.returns-in-Leave
returns-in-Leave c =
    simp (c.in-Leave.is, c.send_one.ensures, c.with_copy.ensures, c.no_copy.ensures, c.place_of-at.ensures, read c.in-Leave.id c.in-Leave.known_told-1-own.given.0.1)

pub returns-in-Input : goal.returns-in-Input
returns-in-Input c = simp (c.in-Input.is, c.send_nothing-in-Input.ensures)

pub returns-in-Step : goal.returns-in-Step
returns-in-Step c = step_sent _ _ _ _ c.in-Step.is (stepped_in seats c.args.world (Ok c.args.told)) c.requires.0 c.requires.1 _ _ _ c.send_messages.ensures.0 c.send_removals.ensures

pub returns-in-Tune : goal.returns-in-Tune
returns-in-Tune c =
    simp (c.in-Tune.is, c.send_one-in-Tune.ensures, c.place_of-at-in-Tune.ensures, read c.in-Tune.index c.in-Tune.known_told-in-Tune-1-own.given.0.1, read c.in-Tune.value c.in-Tune.known_told-in-Tune-1-own.given.1.0.1)
