-- A loop that removes or lists who dies: its list grows by the id of its turn, in the array and in the world. Assumes nothing.
use Prim.Native.Nat.{ℕ, zero, suc, ◌+◌, ◌-◌, ◌≤◌, ◌<◌}
use native.Mathlib.Numerals.{add-one}
use native.Mathlib.Nat.{sub-zero, lt_of_lt_of_le}
use native.Mathlib.Omega.{arith}
use mathlib.Core.Bool.{Bool, true, false, cond}
use mathlib.Core.List.{List, [], ◌∷◌, ◌++◌, map, append-nil}
use mathlib.Core.Path.{◌≡◌, refl, sym, ap, ap₂, ◌∙◌, subst}
use lib.Dec.{lit≤}
use lib.IntN.{ℤ, pos}
use lib.ListN.{length, set, replicate, length-append, length-map}
use lib.Seq.{set_at, append_snoc}
use mir.Facts.{to_z_pos}
use mir.Syntax.{w32}
use mir.Val.{to_z}
use Rattle.character.specs.Tick.{seats}
use Rattle.world.specs.Calls.{vacate}
use Rattle.world.specs.Removal.{ids_of, remove_all, listed}
use Rattle.world.specs.declared.Removed.{Removed}
use Rattle.world.specs.declared.World.{World}

-- an id as an i32
pub as_i32 : (j : ℕ) → j < seats → to_z w32 j ≡ pos j
as_i32 j l = to_z_pos w32 (lt_of_lt_of_le l (lit≤ tt))

module _ (f : ℕ → Bool) where
  -- one turn more
  ids_last : (n i : ℕ) → ids_of f (suc n) i ≡ ids_of f n i ++ cond (f (n + i)) ((n + i) ∷ []) []
  ids_last zero i = let e : i ≡ 0 + i = omega arith in ap (λ (j : ℕ). cond (f j) (j ∷ []) []) e
  ids_last (suc n) i = let e : n + suc i ≡ suc n + i = omega arith in go (f i) (ids_last n (suc i) ∙ ap (λ (j : ℕ). ids_of f n (suc i) ++ cond (f j) (j ∷ []) []) e)
    where
      go : (b : Bool) → ids_of f (suc n) (suc i) ≡ ids_of f n (suc i) ++ cond (f (suc n + i)) ((suc n + i) ∷ []) [] → cond b (i ∷ ids_of f (suc n) (suc i)) (ids_of f (suc n) (suc i)) ≡ cond b (i ∷ ids_of f n (suc i)) (ids_of f n (suc i)) ++ cond (f (suc n + i)) ((suc n + i) ∷ []) []
      go true rest = ap (λ (l : List ℕ). i ∷ l) rest
      go false rest = rest

  first_last : (n : ℕ) (b : Bool) → f n ≡ b → ids_of f (n + 1) 0 ≡ ids_of f n 0 ++ cond b (n ∷ []) []
  first_last n b e = let z : n + 0 ≡ n = omega arith in ap (λ (m : ℕ). ids_of f m 0) (add-one n) ∙ ids_last n 0 ∙ ap (λ (m : ℕ). ids_of f n 0 ++ cond (f m) (m ∷ []) []) z ∙ ap (λ (c : Bool). ids_of f n 0 ++ cond c (n ∷ []) []) e

  pub ids_more : (n : ℕ) → f n ≡ true → ids_of f (n + 1) 0 ≡ ids_of f n 0 ++ (n ∷ [])
  ids_more n e = first_last n true e

  pub ids_same : (n : ℕ) → f n ≡ false → ids_of f (n + 1) 0 ≡ ids_of f n 0
  ids_same n e = first_last n false e ∙ append-nil (ids_of f n 0)

  -- at most one id a turn
  pub ids_fit : (n i : ℕ) → length (ids_of f n i) ≤ n
  ids_fit zero i = omega arith
  ids_fit (suc n) i = go (f i) (ids_fit n (suc i))
    where
      go : (b : Bool) → length (ids_of f n (suc i)) ≤ n → length (cond b (i ∷ ids_of f n (suc i)) (ids_of f n (suc i))) ≤ suc n
      go true h = omega (arith, h)
      go false h = omega (arith, h)

pub removed_last : (l : List ℕ) (w : World) (k : ℕ) → remove_all w (l ++ (k ∷ [])) ≡ vacate (remove_all w l) k
removed_last [] w k = refl
removed_last (j ∷ l) w k = removed_last l (vacate w j) k

map_last : (l : List ℕ) (k : ℕ) → map pos (l ++ (k ∷ [])) ≡ map pos l ++ (pos k ∷ [])
map_last [] k = refl
map_last (j ∷ l) k = ap (λ (m : List ℤ). pos j ∷ m) (map_last l k)

module _ (n : ℕ) (l : List ℕ) (k : ℕ) (h : length l < n) where
  abbrev zeros : ℕ → List ℤ
  zeros m = replicate m (pos 0)

  room : zeros (n - length l) ≡ pos 0 ∷ zeros (n - suc (length l))
  room = let e : n - length l ≡ suc (n - suc (length l)) = omega arith in ap zeros e

  longer : length (l ++ (k ∷ [])) ≡ suc (length l)
  longer = length-append l (k ∷ []) ∙ omega arith

  count_last : length l + 1 ≡ length (l ++ (k ∷ []))
  count_last = add-one (length l) ∙ sym longer

  ids_set : set (listed n l).ids (length l) (pos k) ≡ (listed n (l ++ (k ∷ []))).ids
  ids_set =
      ap (λ (r : List ℤ). set (map pos l ++ r) (length l) (pos k)) room
      ∙ set_at (map pos l) (pos 0) (zeros (n - suc (length l))) (pos k) (length l) (length-map l pos)
      ∙ sym (append_snoc (map pos l) (pos k) (zeros (n - suc (length l))))
      ∙ ap (λ (m : List ℤ). m ++ zeros (n - suc (length l))) (sym (map_last l k))
      ∙ ap (λ (m : ℕ). map pos (l ++ (k ∷ [])) ++ zeros (n - m)) (sym longer)

-- ---- the ids that are listed one after another

-- after j of n turns the ids and their count are those of whom f is true
pub record Listing (f : ℕ → Bool) (n j : ℕ) (ids : List ℤ) (count : ℕ) : Type 0 where
  pub within : j ≤ n
  pub ids_are : ids ≡ (listed n (ids_of f j 0)).ids
  pub count_is : count ≡ length (ids_of f j 0)

pub none_listed : (f : ℕ → Bool) (n : ℕ) → Listing f n 0 (replicate n (pos 0)) 0
none_listed f n = record { within = omega arith; ids_are = ap (λ (m : ℕ). replicate m (pos 0)) (sym (sub-zero n)); count_is = refl }

module _ (f : ℕ → Bool) (n j : ℕ) (ids : List ℤ) (count : ℕ) (h : Listing f n j ids count) where
  pub listed_now : ◌≡◌ {A = Removed} (record { count = count; ids = ids }) (listed n (ids_of f j 0))
  listed_now = ap₂ (λ (c : ℕ) (is : List ℤ). record { count = c; ids = is }) h.count_is h.ids_are

  module _ (l : j < n) where
    pub listing-fits : count < n
    listing-fits = let q = ids_fit f j 0 in omega (arith, h.count_is, q)

    pub listing-more : (is : List ℤ) (c : ℕ) → f j ≡ true → is ≡ set ids count (pos j) → c ≡ count + 1 → Listing f n (j + 1) is c
    listing-more is c d g k =
        let more = sym (ids_more f j d) in
        let room : length (ids_of f j 0) < n = subst (λ (m : ℕ). m < n) h.count_is listing-fits in
        record {
          within = omega arith;
          ids_are = g ∙ rw (h.ids_are, h.count_is) (ids_set n (ids_of f j 0) j room) ∙ ap (λ (m : List ℕ). (listed n m).ids) more;
          count_is = k ∙ ap (λ (m : ℕ). m + 1) h.count_is ∙ count_last n (ids_of f j 0) j room ∙ ap length more;
        }

    pub listing-same : (is : List ℤ) (c : ℕ) → f j ≡ false → is ≡ ids → c ≡ count → Listing f n (j + 1) is c
    listing-same is c d g k =
        let same = sym (ids_same f j d) in
        record {
          within = omega arith;
          ids_are = g ∙ h.ids_are ∙ ap (λ (m : List ℕ). (listed n m).ids) same;
          count_is = k ∙ h.count_is ∙ ap length same;
        }
