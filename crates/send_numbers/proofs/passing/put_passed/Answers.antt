use Prim.Native.Nat.{ℕ, ◌+◌}
use mathlib.Core.List.{List, [], ◌∷◌}
use mathlib.Core.Path.{◌≡◌, refl, sym, ap, ap₂, ◌∙◌}
use lib.IntN.{ℤ, pos}
use lib.ListN.{length}
use Rattle.base_rows.specs.Put.{put}
use Rattle.num_convert.proofs.Signed.{read}
use Rattle.game_records.specs.Numbers.{core_numbers, input_numbers}
use Rattle.game_records.proofs.Bits.{again}
use Rattle.send_rule.specs.declared.Passed.{Passed}
use Rattle.send_numbers.specs.Passing.{message_numbers, passed_numbers}
use Rattle.send_numbers.proofs.passing.put_passed.Goals as goal

-- the numbers of a thing that was matched are the row that was put
put_row : (d e : List ℤ) (at m : ℕ) (p q : Passed) (row : List ℤ) → p ≡ q → e ≡ put d at row → row ≡ passed_numbers q → m ≡ length (passed_numbers q) → (e ≡ put d at (passed_numbers p)) × (at + m ≡ at + length (passed_numbers p))
put_row d e at m p q row h f g n = rw (h, ← g) (f, ap (λ (k : ℕ). at + k) (n ∙ ap length (sym g)))

pub returns-in-Mark : goal.returns-in-Mark
unfolding passed_numbers
returns-in-Mark c = put_row _ _ _ 1 _ _ _ c.in-Mark.is c.copy.ensures refl refl

pub returns-in-Message : goal.returns-in-Message
unfolding passed_numbers message_numbers core_numbers input_numbers
returns-in-Message c = put_row _ _ _ 22 _ _ _ c.in-Message.is c.copy-in-Message.ensures c.message_numbers-row.ensures refl

pub returns-in-Removal : goal.returns-in-Removal
unfolding passed_numbers
returns-in-Removal c =
    let t = c.cast_signed in
    put_row _ _ _ 2 _ _ _ c.in-Removal.is c.copy-in-Removal.ensures (ap (λ (z : ℤ). pos 2 ∷ z ∷ []) (again t.type_inv ∙ t.ensures)) refl

pub returns-in-Leave : goal.returns-in-Leave
unfolding passed_numbers
returns-in-Leave c =
    let t = c.cast_signed-in-Leave in
    put_row _ _ _ 2 _ _ _ c.in-Leave.is c.copy-in-Leave.ensures (ap (λ (z : ℤ). pos 3 ∷ z ∷ []) (again t.type_inv ∙ t.ensures)) refl

pub returns-in-Tune : goal.returns-in-Tune
unfolding passed_numbers
returns-in-Tune c =
    let t = c.cast_signed-in-Tune in
    put_row _ _ _ 3 _ _ _ c.in-Tune.is c.copy-in-Tune.ensures (ap₂ (λ (x y : ℤ). pos 4 ∷ x ∷ y ∷ []) (again t.type_inv ∙ t.ensures) (read c.in-Tune.value c.in-Tune.known_told-in-Tune-1-own.given.1.0.1)) refl
