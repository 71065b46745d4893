-- The laws of packed records hold. Assumes nothing.
use Prim.Native.Nat.{ℕ}
use mathlib.Core.List.{List, [], ◌∷◌, ◌++◌, append-nil}
use mathlib.Core.Path.{◌≡◌, refl, sym, ap, ◌∙◌, subst}
use native.Mathlib.Omega.{arith}
use lib.IntN.{pos}
use lib.ListN.{length, replicate, length-append}
use Rattle.std.specs.Prelude.{Ok}
use Rattle.game_records.specs.Numbers.{core_count, core_numbers, core_in}
use Rattle.game_records.proofs.Back.{core_numbers_back}
use Rattle.game_packed.specs.Packed.{ints_bytes, core_bytes}
use Rattle.game_packed.specs.Unpacked.{Unpacked, unpacked}
use Rattle.game_packed.specs.Laws.{AllI32, ReadAsWritten, SizesHold, NoneBegins}
use Rattle.game_packed.proofs.Back.{all_set, round_trip_lem}
use Rattle.game_packed.proofs.Later.{same_read}
use Rattle.game_packed.proofs.Sizes.{core_short}
use Rattle.game_packed.proofs.Sound.{ints_found}

pub accepted : ReadAsWritten
unfolding unpacked
accepted s bs n used e =
    let f = ints_found core_count 0 s bs 0 (replicate core_count (pos 0)) n used e in
    let is : core_numbers n ≡ f.zs = ap core_numbers (f.core ∙ ap core_in (all_set f.zs f.long ∙ append-nil f.zs)) ∙ core_numbers_back f.zs f.long in
    let same : ints_bytes f.zs ≡ core_bytes n = ap ints_bytes (sym is) in
    let place = f.place in
    (subst AllI32 (sym is) f.all, (f.t, f.bytes ∙ ap (λ (x : List ℕ). x ++ f.t) same, omega (arith, ap length same)))

pub sizes_hold : SizesHold
sizes_hold n = core_short n

pub empty : (t : List ℕ) → length t ≡ 0 → t ≡ []
empty [] h = refl
empty (x ∷ t) h = absurd (omega arith)

pub none_begins_lem : NoneBegins
none_begins_lem n m t a b e =
    let p : unpacked (core_bytes m ++ []) ≡ Ok (n, length (core_bytes n)) = ap unpacked (append-nil (core_bytes m) ∙ sym e) ∙ round_trip_lem n a t in
    let q : ◌≡◌ {A = Unpacked} (Ok (n, length (core_bytes n))) (Ok (m, length (core_bytes m))) = sym p ∙ round_trip_lem m b [] in
    let same = same_read q in
    let none : length t ≡ 0 = omega (arith, length-append (core_bytes n) t, ap length e, same.1) in
    (same.0, empty t none)
