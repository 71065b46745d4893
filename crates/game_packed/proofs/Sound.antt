-- What the reader accepts begins with what the writer makes of the record that it tells. Assumes nothing.
use Prim.Native.Nat.{ℕ, zero, suc, ◌+◌, ◌*◌, ◌/◌, ◌%◌, ◌^◌, ◌≤◌, ◌<◌}
use mathlib.Core.Bool.{Bool, true, false, cond}
use mathlib.Core.List.{List, [], ◌∷◌, ◌++◌, append_assoc}
use mathlib.Core.Path.{◌≡◌, refl, sym, ap, ap₂, ◌∙◌, subst}
use native.Mathlib.Numerals.{add-one}
use native.Mathlib.Omega.{arith}
use lib.Dec.{eqb, ltb}
use lib.IntN.{ℤ}
use lib.ListN.{length, drop, set, length-append}
use lib.Seq.{sets}
use borrow.Author.Tests.{eqb-true, eqb-false, ltb-true, ltb-false}
use Rattle.std.specs.Prelude.{Ok, Err}
use Rattle.num_convert.specs.Casts.{IsI32}
use Rattle.game_records.specs.Numbers.{core_in}
use Rattle.game_records.specs.declared.CharacterCore.{CharacterCore}
use Rattle.game_packed.specs.Packed.{kept, sign_bit, more_bit, later_bytes, most_later, int_bytes, ints_bytes}
use Rattle.game_packed.specs.Unpacked.{signed, is_wrong, later_read, int_read, on_read, ints_read, IntRead}
use Rattle.game_packed.specs.Laws.{AllBytes, AllI32}
use Rattle.game_packed.proofs.Later as reading
use Rattle.game_packed.proofs.Putting.{room_of, later_none}
use Rattle.game_packed.proofs.Putting as writing
use Rattle.game_packed.proofs.Back.{none_more, some_more, parts, past}

-- ---- later bytes

-- the later bytes of m stand at the start of s, and z and next are what they say
record LaterFound (negative : Bool) (k : ℕ) (s : List ℕ) (at v c : ℕ) (z : ℤ) (next : ℕ) : Type 0 where
  m : ℕ
  t : List ℕ
  some : m ≡ 0 → ⊥
  room : m < room_of (suc k)
  bytes : s ≡ later_bytes (suc k) m ++ t
  value : z ≡ signed negative (v + m * c)
  place : next ≡ at + length (later_bytes (suc k) m)

-- one byte is its own number
one_byte : (k b : ℕ) → (b ≡ 0 → ⊥) → b < 128 → later_bytes (suc k) b ≡ b ∷ []
one_byte k b h l =
    let none : b / 128 ≡ 0 = omega arith in
    let byte : b % 128 + more_bit (b / 128) ≡ b = omega (arith, none_more (b / 128) none) in
    writing.later_more k b h ∙ ap₂ (λ (x : ℕ) (s : List ℕ). x ∷ s) byte (ap (later_bytes k) none ∙ later_none k)

module _ (negative : Bool) (at v c : ℕ) {z : ℤ} {next : ℕ} where
  last_found : (k b : ℕ) (s : List ℕ) → is_wrong k b ≡ false → b < 128 → b < room_of (suc k) → ◌≡◌ {A = IntRead} (Ok (signed negative (v + b * c), at + 1)) (Ok (z, next)) → LaterFound negative k (b ∷ s) at v c z next
  last_found k b s w l r e =
      let some = reading.not_empty k b w in
      let one = one_byte k b some l in
      let same = reading.same_read e in
      let place : at + 1 ≡ next = same.1 in
      record { m = b; t = s; some = some; room = r; bytes = ap (λ (x : List ℕ). x ++ s) (sym one); value = sym same.0; place = omega (arith, ap length one) }

room_128 : (k b : ℕ) → b < 128 → b < room_of (suc (suc k))
room_128 zero b h = omega arith
room_128 (suc zero) b h = omega arith
room_128 (suc (suc k)) b h = omega arith

more_room : (k m d : ℕ) → suc k ≤ 3 → m < room_of (suc k) → d < 128 → d + m * 128 < room_of (suc (suc k))
more_room zero m d l r h = omega arith
more_room (suc zero) m d l r h = omega arith
more_room (suc (suc zero)) m d l r h = omega arith
more_room (suc (suc (suc k))) m d l r h = absurd (omega arith)

-- one byte before what was found
before_found : (negative : Bool) (k b : ℕ) (s : List ℕ) (at v c : ℕ) (z : ℤ) (next : ℕ) → suc k ≤ 3 → 128 ≤ b → b < 256 → LaterFound negative k s (at + 1) (v + b % 128 * c) (c * 128) z next → LaterFound negative (suc k) (b ∷ s) at v c z next
before_found negative k b s at v c z next l h u f =
    let n = f.m in
    let m = b % 128 + n * 128 in
    let high : m / 128 ≡ n = omega arith in
    let low : m % 128 ≡ b % 128 = omega arith in
    let some : m ≡ 0 → ⊥ = λ e. f.some (omega arith) in
    let more : more_bit (m / 128) ≡ 128 = some_more (m / 128) (λ e. f.some (sym high ∙ e)) in
    let byte : m % 128 + more_bit (m / 128) ≡ b = omega arith in
    let all : later_bytes (suc (suc k)) m ≡ b ∷ later_bytes (suc k) n = writing.later_more (suc k) m some ∙ ap₂ (λ (x y : ℕ). x ∷ later_bytes (suc k) y) byte high in
    let value : v + b % 128 * c + n * (c * 128) ≡ v + m * c = ap₂ (λ (x y : ℕ). v + x * c + y * (c * 128)) (sym low) (sym high) ∙ parts m v c in
    let place = f.place in
    record {
      m = m;
      t = f.t;
      some = some;
      room = more_room k n (b % 128) l f.room (omega arith);
      bytes = ap (λ (x : List ℕ). b ∷ x) f.bytes ∙ ap (λ (x : List ℕ). x ++ f.t) (sym all);
      value = f.value ∙ ap (signed negative) value;
      place = omega (arith, ap length all);
    }

later_found : (negative : Bool) (k : ℕ) → k ≤ 3 → (s : List ℕ) → AllBytes s → (at v c : ℕ) (z : ℤ) (next : ℕ) → later_read negative k s at v c ≡ Ok (z, next) → LaterFound negative k s at v c z next
later_found negative k l [] all at v c z next e = absurd (reading.ok_no_fault (sym e ∙ reading.later_ends negative k at v c))
later_found negative zero l (b ∷ s) all at v c z next e = go (is_wrong 0 b) refl
  where
    go : (w : Bool) → is_wrong 0 b ≡ w → LaterFound negative zero (b ∷ s) at v c z next
    go true q = absurd (reading.ok_no_fault (sym e ∙ reading.later_wrong negative s at v c 0 b q))
    go false q = let f = reading.fifth_small b q in last_found negative at v c 0 b s q (omega arith) f (sym (reading.later_last negative s at v c 0 b q (omega arith)) ∙ e)
later_found negative (suc k) l (b ∷ s) all at v c z next e = go (is_wrong (suc k) b) refl (ltb b 128) refl (later_found negative k (omega arith) s all.1 (at + 1) (v + b % 128 * c) (c * 128) z next)
  where
    go : (w : Bool) → is_wrong (suc k) b ≡ w → (d : Bool) → ltb b 128 ≡ d → (later_read negative k s (at + 1) (v + b % 128 * c) (c * 128) ≡ Ok (z, next) → LaterFound negative k s (at + 1) (v + b % 128 * c) (c * 128) z next) → LaterFound negative (suc k) (b ∷ s) at v c z next
    go true q d r ih = absurd (reading.ok_no_fault (sym e ∙ reading.later_wrong negative s at v c (suc k) b q))
    go false q true r ih = let h = ltb-true b 128 r in last_found negative at v c (suc k) b s q h (room_128 k b h) (sym (reading.later_last negative s at v c (suc k) b q h) ∙ e)
    go false q false r ih = let h = ltb-false b 128 r in before_found negative k b s at v c z next l h all.0 (ih (sym (reading.later_more negative s at v c k b q h) ∙ e))

-- ---- one number

-- what is kept of a signed number, and its sign
kept-signed : (negative : Bool) (m : ℕ) → kept (signed negative m) ≡ m
unfolding signed
kept-signed true m = refl
kept-signed false m = refl

sign_signed : (negative : Bool) (m : ℕ) → sign_bit (signed negative m) ≡ cond negative 64 0
unfolding signed
sign_signed true m = refl
sign_signed false m = refl

signed_i32 : (negative : Bool) (m : ℕ) → m < 2 ^ 31 → IsI32 (signed negative m)
unfolding signed
signed_i32 true m h = omega arith
signed_i32 false m h = h

-- bit 6
six_bit : (b : ℕ) → cond (eqb (b / 64 % 2) 1) 64 0 ≡ b / 64 % 2 * 64
six_bit b = go (eqb (b / 64 % 2) 1) refl
  where
    go : (d : Bool) → eqb (b / 64 % 2) 1 ≡ d → cond d 64 0 ≡ b / 64 % 2 * 64
    go true e = let f = eqb-true (b / 64 % 2) 1 e in omega arith
    go false e = let f = eqb-false (b / 64 % 2) 1 e in odd-none (b / 64 % 2) (omega arith) f
      where
        odd-none : (x : ℕ) → x < 2 → (x ≡ 1 → ⊥) → 0 ≡ x * 64
        odd-none zero h f = refl
        odd-none (suc zero) h f = absurd (f refl)
        odd-none (suc (suc x)) h f = absurd (omega arith)

pub record IntFound (s : List ℕ) (at : ℕ) (z : ℤ) (next : ℕ) : Type 0 where
  pub t : List ℕ
  pub in_i32 : IsI32 z
  pub bytes : s ≡ int_bytes z ++ t
  pub place : next ≡ at + length (int_bytes z)

-- the bytes of a number by its first byte and what is left of it
int_made : (b m : ℕ) (more : ℕ) → more ≡ more_bit m → b ≡ b % 64 + b / 64 % 2 * 64 + more → int_bytes (signed (eqb (b / 64 % 2) 1) (b % 64 + m * 64)) ≡ b ∷ later_bytes most_later m
unfolding int_bytes
int_made b m more q e =
    let negative = eqb (b / 64 % 2) 1 in
    let value = b % 64 + m * 64 in
    let k : kept (signed negative value) ≡ value = kept-signed negative value in
    let low : kept (signed negative value) % 64 ≡ b % 64 = omega arith in
    let high : kept (signed negative value) / 64 ≡ m = omega arith in
    let sign : sign_bit (signed negative value) ≡ b / 64 % 2 * 64 = sign_signed negative value ∙ six_bit b in
    let first : kept (signed negative value) % 64 + sign_bit (signed negative value) + more_bit (kept (signed negative value) / 64) ≡ b = omega (arith, ap more_bit high) in
    ap₂ (λ (x y : ℕ). x ∷ later_bytes most_later y) first high

pub int_found : (s : List ℕ) → AllBytes s → (at : ℕ) (z : ℤ) (next : ℕ) → int_read s at ≡ Ok (z, next) → IntFound s at z next
int_found [] all at z next e = absurd (reading.ok_no_fault (sym e ∙ reading.none_there at))
int_found (b ∷ s) all at z next e = go (ltb b 128) refl
  where
    negative : Bool
    negative = eqb (b / 64 % 2) 1

    go : (d : Bool) → ltb b 128 ≡ d → IntFound (b ∷ s) at z next
    go true r =
        let h = ltb-true b 128 r in
        let q : ◌≡◌ {A = IntRead} (Ok (signed (eqb (b / 64 % 2) 1) (b % 64), at + 1)) (Ok (z, next)) = sym (reading.first_last s at b h) ∙ e in
        let same : b % 64 ≡ b % 64 + 0 * 64 = omega arith in
        let is : signed (eqb (b / 64 % 2) 1) (b % 64) ≡ z = (reading.same_read q).0 in
        let place : at + 1 ≡ next = (reading.same_read q).1 in
        let made : int_bytes z ≡ b ∷ later_bytes most_later 0 = ap int_bytes (sym is ∙ ap (signed (eqb (b / 64 % 2) 1)) same) ∙ int_made b 0 0 refl (omega arith) in
        let one : int_bytes z ≡ b ∷ [] = made ∙ ap (λ (x : List ℕ). b ∷ x) (later_none most_later) in
        record { t = s; in_i32 = subst IsI32 is (signed_i32 _ (b % 64) (omega arith)); bytes = ap (λ (x : List ℕ). x ++ s) (sym one); place = omega (arith, ap length one) }
    go false r =
        let h = ltb-false b 128 r in
        let f = later_found (eqb (b / 64 % 2) 1) 3 (omega arith) s all.1 (at + 1) (b % 64) 64 z next (sym (reading.first_more s at b h) ∙ e) in
        let u = all.0 in
        let room = f.room in
        let made : int_bytes z ≡ b ∷ later_bytes most_later f.m = ap int_bytes f.value ∙ int_made b f.m 128 (sym (some_more f.m f.some)) (omega arith) in
        let place = f.place in
        record { t = f.t; in_i32 = subst IsI32 (sym f.value) (signed_i32 _ (b % 64 + f.m * 64) (omega arith)); bytes = ap (λ (x : List ℕ). b ∷ x) f.bytes ∙ ap (λ (x : List ℕ). x ++ f.t) (sym made); place = omega (arith, ap length made) }

-- ---- a record

pub drop_bytes : (n : ℕ) (s : List ℕ) → AllBytes s → AllBytes (drop n s)
drop_bytes zero s all = all
drop_bytes (suc n) [] all = tt
drop_bytes (suc n) (b ∷ s) all = drop_bytes n s all.1

pub record IntsFound (k i : ℕ) (s : List ℕ) (at : ℕ) (ns : List ℤ) (n : CharacterCore) (used : ℕ) : Type 0 where
  pub zs : List ℤ
  pub t : List ℕ
  pub long : length zs ≡ k
  pub all : AllI32 zs
  pub bytes : drop at s ≡ ints_bytes zs ++ t
  pub core : n ≡ core_in (sets ns i zs)
  pub place : used ≡ at + length (ints_bytes zs)

pub ints_found : (k i : ℕ) (s : List ℕ) → AllBytes s → (at : ℕ) (ns : List ℤ) (n : CharacterCore) (used : ℕ) → ints_read k i s at ns ≡ Ok (n, used) → IntsFound k i s at ns n used
unfolding ints_read ints_bytes
ints_found zero i s bs at ns n used e =
    let core : core_in ns ≡ n = (reading.same_read e).0 in
    let place : at ≡ used = (reading.same_read e).1 in
    record { zs = []; t = drop at s; long = refl; all = tt; bytes = refl; core = sym core; place = omega arith }
ints_found (suc k) i s bs at ns n used e = go (int_read (drop at s) at) refl e (λ z next. ints_found k (i + 1) s bs next (set ns i z) n used)
  where
    go : (r : IntRead) → int_read (drop at s) at ≡ r → on_read (λ z next. ints_read k (i + 1) s next (set ns i z)) r ≡ Ok (n, used) → ((z : ℤ) (next : ℕ) → ints_read k (i + 1) s next (set ns i z) ≡ Ok (n, used) → IntsFound k (i + 1) s next (set ns i z) n used) → IntsFound (suc k) i s at ns n used
    go (Err fault) q h ih = absurd (reading.ok_no_fault (sym h))
    go (Ok (z, next)) q h ih =
        let f = int_found (drop at s) (drop_bytes at s bs) at z next q in
        let g = ih z next h in
        let there : drop next s ≡ f.t = ap (λ (j : ℕ). drop j s) f.place ∙ past s at (int_bytes z) f.t f.bytes in
        let place = g.place in
        let first = f.place in
        record {
          zs = z ∷ g.zs;
          t = g.t;
          long = ap suc g.long;
          all = (f.in_i32, g.all);
          bytes = f.bytes ∙ ap (λ (x : List ℕ). int_bytes z ++ x) (sym there ∙ g.bytes) ∙ sym (append_assoc (int_bytes z) (ints_bytes g.zs) g.t);
          core = g.core ∙ ap (λ (j : ℕ). core_in (sets (set ns i z) j g.zs)) (add-one i);
          place = omega (arith, length-append (int_bytes z) (ints_bytes g.zs));
        }
