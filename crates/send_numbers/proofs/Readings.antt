-- Which thing is read, by the tests that decide it. Assumes nothing.
use Prim.Native.Nat.{ℕ, ◌^◌, ◌≤◌, ◌<◌}
use mathlib.Core.Bool.{Bool, true, false, cond}
use mathlib.Core.List.{List}
use mathlib.Core.Path.{◌≡◌, refl, sym, ap, ◌∙◌}
use lib.IntN.{ℤ, pos}
use lib.ListN.{length}
use lib.Signed.{mag}
use mir.Syntax.{w32}
use mir.Val.{to_z, of_z}
use lib.Dec.{ltb}
use borrow.Author.Tests.{lt-ltb, le-ltb, ltb-false}
use Rattle.std.specs.Prelude.{Result, Ok, Err}
use Rattle.game_refusals.specs.declared.Refusal.{Refusal}
use Rattle.game_refusals.specs.declared.Refusal.TheVariants.{BadLength}
use Rattle.game_records.specs.Numbers.{same_number, number_at}
use Rattle.game_records.proofs.Bits.{again}
use Rattle.world.specs.Calls.{place_of}
use Rattle.send_rule.specs.declared.Passed.{Passed}
use Rattle.game_records.proofs.Same.{number_same, number_self}
use Rattle.base_turns.proofs.Tests.{either_way}
use Rattle.send_numbers.specs.Reading.{PassedRead, named, read_place, is_kind}

-- ---- a thing that names a place
module _ (m n : ℕ) (none : Refusal) (thing : ℕ → Passed) (l : List ℤ) where
  pub place_read : (k : ℕ) → m ≤ length l → k ≡ place_of n (number_at l 1) → k < n → read_place m n none thing l ≡ Ok (thing k, m)
  place_read k h p g = rw (le-ltb (length l) m h, ← p, lt-ltb k n g)

module _ (m n : ℕ) (none : Refusal) (l : List ℤ) where
  abbrev place : ℕ
  place = place_of n (number_at l 1)

  -- the thing is refused as its place is
  pub not_named : (thing : ℕ → Passed) (refusal : Refusal) → Err refusal ≡ named m n none l → Err refusal ≡ read_place m n none thing l
  not_named thing refusal h = go (ltb (length l) m) (ltb place n) h
    where
      go : (a b : Bool) → ◌≡◌ {A = Result ℕ Refusal} (Err refusal) (cond a (Err BadLength) (cond b (Ok place) (Err none))) → ◌≡◌ {A = PassedRead} (Err refusal) (cond a (Err BadLength) (cond b (Ok (thing place, m)) (Err none)))
      go true b e = let f : refusal ≡ BadLength = cc in rw f refl
      go false true e = absurd cc
      go false false e = let f : refusal ≡ none = cc in rw f refl

  -- and read where that is named
  pub is_named : (thing : ℕ → Passed) (k : ℕ) → Ok k ≡ named m n none l → (m ≤ length l) × (Ok (thing k, m) ≡ read_place m n none thing l)
  is_named thing k h = go (ltb (length l) m) (ltb place n) refl h
    where
      go : (a b : Bool) → ltb (length l) m ≡ a → ◌≡◌ {A = Result ℕ Refusal} (Ok k) (cond a (Err BadLength) (cond b (Ok place) (Err none))) → (m ≤ length l) × ◌≡◌ {A = PassedRead} (Ok (thing k, m)) (cond a (Err BadLength) (cond b (Ok (thing place, m)) (Err none)))
      go true b p e = absurd cc
      go false true p e = let f : k ≡ place = cc in (ltb-false (length l) m p, rw f refl)
      go false false p e = absurd cc

-- ---- its kind, by the bits of the first number
module _ (k : ℕ) (l : List ℤ) (h : mag (number_at l 0) < 2 ^ 31) where
  pub is_kind_lem : to_z w32 k ≡ pos k → of_z w32 (number_at l 0) ≡ k → is_kind k l ≡ true
  is_kind_lem e q = let z : number_at l 0 ≡ pos k = sym (again h) ∙ ap (to_z w32) q ∙ e in ap (λ (y : ℤ). same_number y (pos k)) z ∙ number_self (pos k)

  pub not_kind : of_z w32 (pos k) ≡ k → (of_z w32 (number_at l 0) ≡ k → ⊥) → is_kind k l ≡ false
  not_kind e q = either_way (is_kind k l) (λ s. absurd (q (ap (of_z w32) (number_same (number_at l 0) (pos k) s) ∙ e))) (λ s. s)
