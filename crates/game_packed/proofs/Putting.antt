-- The bytes of a number, put into a buffer one after another. Assumes nothing.
use Prim.Native.Nat.{ℕ, zero, suc, ◌+◌, ◌/◌, ◌%◌, ◌≤◌, ◌<◌}
use mathlib.Core.Bool.{Bool, true, false, cond}
use mathlib.Core.List.{List, [], ◌∷◌}
use mathlib.Core.Path.{◌≡◌, refl, sym, ap, ◌∙◌}
use native.Mathlib.Omega.{arith}
use lib.IntN.{ℤ, pos, negsuc}
use lib.Dec.{eqb}
use lib.ListN.{length, set, length-set}
use borrow.Author.Tests.{ne_eqb}
use Rattle.base_rows.specs.Put.{put}
use Rattle.base_rows.proofs.Puts.{put_cons, put_none}
use Rattle.game_packed.specs.Packed.{kept, sign_bit, more_bit, later_bytes, int_bytes}

-- what k later bytes can say is below this
abbrev pub room_of : ℕ → ℕ
room_of zero = 1
room_of (suc zero) = 16
room_of (suc (suc zero)) = 2048
room_of (suc (suc (suc zero))) = 262144
room_of (suc (suc (suc (suc k)))) = 33554432

pub next_room : (k m : ℕ) → m < room_of (suc k) → m / 128 < room_of k
next_room zero m h = omega arith
next_room (suc zero) m h = omega arith
next_room (suc (suc zero)) m h = omega arith
next_room (suc (suc (suc zero))) m h = omega arith
next_room (suc (suc (suc (suc k)))) m h = omega arith

-- one byte more, and none
pub later_more : (k m : ℕ) → (m ≡ 0 → ⊥) → later_bytes (suc k) m ≡ (m % 128 + more_bit (m / 128)) ∷ later_bytes k (m / 128)
unfolding later_bytes
later_more k m h = rw (ne_eqb m 0 h)

pub later_none : (k : ℕ) → later_bytes k 0 ≡ []
unfolding later_bytes
later_none zero = refl
later_none (suc k) = refl

pub more_small : (m : ℕ) → more_bit m ≤ 128
more_small m = go (eqb m 0)
  where
    go : (b : Bool) → cond b 0 128 ≤ 128
    go true = omega arith
    go false = omega arith

pub sign_small : (z : ℤ) → sign_bit z ≤ 64
sign_small (pos n) = omega arith
sign_small (negsuc n) = omega arith

-- what is left to put ends as the whole does: the buffer is `whole` then, and `end` the place past the bytes
pub record Putting (buf : List ℕ) (next left : ℕ) (whole : List ℕ) (end : ℕ) : Type 0 where
  pub most : ℕ
  pub rest : put buf next (later_bytes most left) ≡ whole
  pub place : next + length (later_bytes most left) ≡ end
  pub room : left < room_of most
  pub fits : next + most ≤ length buf

module _ {buf : List ℕ} {next left : ℕ} {whole : List ℕ} {end : ℕ} where
  -- there is room for a byte where anything is left
  pub put_fits : Putting buf next left whole end → (left ≡ 0 → ⊥) → next < length buf
  put_fits p h = go p.most p.room p.fits
    where
      go : (k : ℕ) → left < room_of k → next + k ≤ length buf → next < length buf
      go zero r f = absurd (h (omega arith))
      go (suc k) r f = omega arith

  pub put_byte : {more : ℕ} → Putting buf next left whole end → (left ≡ 0 → ⊥) → more ≡ more_bit (left / 128) → Putting (set buf next (left % 128 + more)) (next + 1) (left / 128) whole end
  put_byte p h s = rw s (go p.most p.rest p.place p.room p.fits)
    where
      go : (k : ℕ) → put buf next (later_bytes k left) ≡ whole → next + length (later_bytes k left) ≡ end → left < room_of k → next + k ≤ length buf → Putting (set buf next (left % 128 + more_bit (left / 128))) (next + 1) (left / 128) whole end
      go zero q e r f = absurd (h (omega arith))
      go (suc k) q e r f =
          let long : length (later_bytes (suc k) left) ≡ suc (length (later_bytes k (left / 128))) = ap length (later_more k left h) in
          record {
            most = k;
            rest = put_cons buf next _ (later_bytes k (left / 128)) (omega arith) ∙ ap (put buf next) (sym (later_more k left h)) ∙ q;
            place = omega arith;
            room = next_room k left r;
            fits = omega (arith, length-set buf next (left % 128 + more_bit (left / 128)));
          }

  -- where nothing is left, all is put
  pub put_all : Putting buf next left whole end → left ≡ 0 → (buf ≡ whole) × (next ≡ end)
  put_all p e =
      let none : later_bytes p.most left ≡ [] = ap (later_bytes p.most) e ∙ later_none p.most in
      let long : length (later_bytes p.most left) ≡ 0 = ap length none in
      let place = p.place in
      (put_none buf next ∙ ap (put buf next) (sym none) ∙ p.rest, omega arith)

-- the first byte and what follows it are the number's
pub first_put : (buf : List ℕ) (at : ℕ) (z : ℤ) {m sign more : ℕ} → at < length buf → m ≡ kept z → sign ≡ sign_bit z → more ≡ more_bit (m / 64) → (put (set buf at (m % 64 + sign + more)) (at + 1) (later_bytes 4 (m / 64)) ≡ put buf at (int_bytes z)) × (at + 1 + length (later_bytes 4 (m / 64)) ≡ at + length (int_bytes z))
unfolding int_bytes
first_put buf at z h k s b = rw (b, s, k) (put_cons buf at _ (later_bytes 4 (kept z / 64)) h, omega arith)
