-- What is passed along as numbers arrives thing by thing. Assumes nothing.
use Prim.Native.Nat.{ℕ, zero, suc, ◌≤◌}
use mathlib.Core.Bool.{Bool, true, false}
use mathlib.Core.List.{List, [], ◌∷◌, ◌++◌}
use mathlib.Core.Path.{◌≡◌, refl, sym, ap, ◌∙◌}
use native.Mathlib.Omega.{arith}
use lib.Dec.{eqb}
use lib.IntN.{ℤ}
use lib.ListN.{length, length-append}
use lib.Seq.{drop_at}
use borrow.Author.Tests.{eqb-false}
use Rattle.base_rows.proofs.Puts.{take_put}
use Rattle.map_tiles.specs.declared.tiles.Sides.{Sides}
use Rattle.character.specs.Tick.{seats}
use Rattle.send_rule.specs.Send.{Sent, send_nothing, receive, receive_all}
use Rattle.send_rule.specs.declared.Copy.{Copy}
use Rattle.send_rule.specs.declared.Passed.{Passed}
use Rattle.send_rule.specs.declared.Screen.{Screen}
use Rattle.world_numbers.specs.Encoding.{each}
use Rattle.send_numbers.specs.Copies.{copies_encoding, screen_encoding}
use Rattle.send_numbers.specs.Passing.{passed_numbers, all_numbers}
use Rattle.send_numbers.specs.Reading.{Known, read_passed}
use Rattle.std.specs.Prelude.{Ok, Err}
use Rattle.game_refusals.specs.declared.Refusal.TheVariants.{BadLength}
use Rattle.send_numbers.proofs.PassedBack.{passed_comes_back, thing_long}
use Rattle.send_buffers.specs.Sends.{SenderBuffers, keep_sent}
use Rattle.send_buffers.specs.Screens.{receive_in}
use Rattle.send_buffers.specs.Following.{and_then, received_all, arrived}
use Rattle.send_buffers.proofs.Taken.{nothing-taken, thing-taken}
use Rattle.send_buffers.proofs.Fit.{Fit, fit_back, fit_long, receive_fit}
use Rattle.send_buffers.proofs.KnownIds.{AllKnown}

-- there are as many numbers as things, or more
things_fewer : (ps : List Passed) → length ps ≤ length (all_numbers ps)
unfolding each
things_fewer [] = omega arith
things_fewer (p ∷ ps) = let a = (thing_long p).0 in let b = things_fewer ps in let e = length-append (passed_numbers p) (all_numbers ps) in omega arith

module _ (s : Sides) (ts : List ℕ) (used : ℕ) where
  -- one thing, whatever stands behind it
  one_arrives : (z : Screen) (p : Passed) (rest : List ℤ) → Fit seats z → Known seats p → receive_in s ts (screen_encoding z) (passed_numbers p ++ rest) used ≡ record { number = 0; screen = screen_encoding (receive seats s ts z p); used = length (passed_numbers p) }
  one_arrives z p rest h k = thing-taken s ts (screen_encoding z) (passed_numbers p ++ rest) used (fit_long z h) (Ok (p, length (passed_numbers p))) (sym (passed_comes_back seats (omega arith) p rest k)) p (length (passed_numbers p)) (screen_encoding (receive seats s ts z p)) refl (ap (λ (y : Screen). screen_encoding (receive seats s ts y p)) (sym (fit_back z h)))

  none_arrives : (z : Screen) → Fit seats z → receive_in s ts (screen_encoding z) [] used ≡ record { number = 17; screen = screen_encoding z; used = used }
  unfolding read_passed
  none_arrives z h = nothing-taken s ts (screen_encoding z) [] used (fit_long z h) (Err BadLength) refl BadLength refl

  -- all of them
  all_arrive : (ps : List Passed) (k : ℕ) (z : Screen) → length ps ≤ k → Fit seats z → AllKnown seats ps → received_all s ts used k (screen_encoding z) (all_numbers ps) ≡ screen_encoding (receive_all seats s ts z ps)
  unfolding each
  all_arrive [] zero z l h a = refl
  all_arrive [] (suc k) z l h a = ap (and_then (received_all s ts used k) []) (none_arrives z h)
  all_arrive (p ∷ ps) zero z l h a = absurd (omega arith)
  all_arrive (p ∷ ps) (suc k) z l h a =
      ap (and_then (received_all s ts used k) (passed_numbers p ++ all_numbers ps)) (one_arrives z p (all_numbers ps) h a.0)
      ∙ ap (received_all s ts used k (screen_encoding (receive seats s ts z p))) (drop_at (passed_numbers p) (all_numbers ps) (length (passed_numbers p)) refl)
      ∙ all_arrive ps k (receive seats s ts z p) (omega arith) (receive_fit seats s ts z p h) a.1

  -- ---- after a call
  module _ (passed : List ℤ) (count : ℕ) (z : Screen) (cs : List Copy) (number : ℕ) (m : Sent) (nothing : (number ≡ 0 → ⊥) → m ≡ send_nothing cs) where
    abbrev sent : SenderBuffers
    sent = keep_sent (record { sender = copies_encoding cs; passed = passed; count = count }) number m

    pub sender-follows : sent.sender ≡ copies_encoding m.copies
    unfolding keep_sent
    sender-follows = go (eqb number 0) refl
      where
        go : (b : Bool) → eqb number 0 ≡ b → sent.sender ≡ copies_encoding m.copies
        go true e = rw e refl
        go false e = rw e (ap (λ (x : Sent). copies_encoding x.copies) (sym (nothing (eqb-false number 0 e))))

    pub screen-follows : Fit seats z → AllKnown seats m.passed → arrived s ts used number sent (screen_encoding z) ≡ screen_encoding (receive_all seats s ts z m.passed)
    unfolding keep_sent
    screen-follows h a = go (eqb number 0) refl
      where
        go : (b : Bool) → eqb number 0 ≡ b → arrived s ts used number sent (screen_encoding z) ≡ screen_encoding (receive_all seats s ts z m.passed)
        go true e =
            let ns : List ℤ = all_numbers m.passed in
            rw e (
            ap (λ (ps : List ℤ). received_all s ts used (length ps) (screen_encoding z) ps) (take_put passed 0 ns (length ns) (omega arith) (omega arith))
            ∙ all_arrive m.passed (length ns) z (things_fewer m.passed) h a
            )
        go false e = rw e (ap (λ (x : Sent). screen_encoding (receive_all seats s ts z x.passed)) (sym (nothing (eqb-false number 0 e))))
