-- A screen comes back from its numbers. Assumes nothing.
use Prim.Native.Nat.{ℕ, ◌+◌, ◌*◌}
use mathlib.Core.List.{List}
use mathlib.Core.Path.{◌≡◌, ap, ap₂, ◌∙◌}
use native.Mathlib.Omega.{arith}
use lib.IntN.{ℤ}
use lib.ListN.{length, drop, length-append, length-take}
use lib.Seq.{take_at, drop_at}
use Rattle.game_tuning.specs.Tuning.{tuning_count}
use Rattle.send_rule.specs.declared.Copy.{Copy}
use Rattle.send_rule.specs.declared.Screen.{Screen}
use Rattle.world_numbers.proofs.Any.{drop_i32}
use Rattle.send_numbers.specs.Copies.{copy_count, copies_encoding, copies_decoding, screen_encoding, screen_decoding, ScreenComesBack, AnyScreenComesBack}
use Rattle.send_numbers.proofs.CopiesBack.{copies_long, copies_come_back, decoded_long, decoded_fit}

pub screen_long : (z : Screen) → length (screen_encoding z) ≡ length z.tunings + copy_count * length z.copies
unfolding screen_encoding
screen_long z = length-append z.tunings (copies_encoding z.copies) ∙ ap (λ (n : ℕ). length z.tunings + n) (copies_long z.copies)

pub screen_comes_back : (n : ℕ) → ScreenComesBack n
unfolding screen_encoding screen_decoding
screen_comes_back n z e t h =
    let r : List ℤ = copies_encoding z.copies in
    ap₂ (λ (cs : List Copy) (ts : List ℤ). record { copies = cs; tunings = ts })
    (ap (copies_decoding n) (drop_at z.tunings r tuning_count t) ∙ copies_come_back n z.copies e h)
    (take_at z.tunings r tuning_count t)

pub any_screen_comes_back : (n : ℕ) → AnyScreenComesBack n
unfolding screen_decoding
any_screen_comes_back n l e h = screen_comes_back n (screen_decoding n l) (decoded_long n (drop tuning_count l)) (length-take tuning_count l ∙ omega arith) (decoded_fit n (drop tuning_count l) (drop_i32 tuning_count l h))
