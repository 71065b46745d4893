-- The number of each of the three calls, as the customer says it. Assumes nothing.
use Prim.Native.Nat.{ℕ, ◌+◌, ◌*◌}
use mathlib.Core.Bool.{Bool, true, false, ◌&&◌}
use mathlib.Core.List.{List}
use mathlib.Core.Path.{◌≡◌, refl}
use denote.Floats.{passes, is_true}
use borrow.Author.Tests.{eq-eqb}
use lib.Dec.{T, leb, eqb, leb-zero}
use lib.Ieee.Fits.{and_i, and_l, and_r}
use lib.IntN.{ℤ, pos, negsuc}
use lib.ListN.{length}
use lib.Signed.{le_z_yes}
use Rattle.map_tiles.specs.declared.tiles.Sides.{Sides}
use Rattle.map_totals.specs.Calls.{is_span, is_area, is_totals, on_map, LeftTotals, build_in, LeftCount, area_in, LeftChange, changed, change_in}
use Rattle.map_totals.specs.Laws.{WithinSide, Numbered, AreaNumbers}
use Rattle.map_totals.proofs.Areas.{is_totals_lem}

-- ---- the tests, as they are meant

within_side : (first n : ℤ) (side : ℕ) → T (is_span first n side) → WithinSide first n side
unfolding is_span
within_side (pos first) (pos n) side t = record { starts = le_z_yes (passes (leb 0 first) (leb-zero first)); some = le_z_yes (and_l (leb 1 n) (leb (first + n) side) t); ends = le_z_yes (and_r (leb 1 n) (leb (first + n) side) t) }
within_side (pos first) (negsuc n) side t = absurd t
within_side (negsuc first) n side t = absurd t

side_within : (first n : ℤ) (side : ℕ) → WithinSide first n side → T (is_span first n side)
unfolding is_span
side_within (pos first) (pos n) side w = and_i (leb 1 n) (leb (first + n) side) w.some.le w.ends.le
side_within (pos first) (negsuc n) side w = absurd w.some.le
side_within (negsuc first) n side w = absurd w.starts.le

module _ (s : Sides) (t : List ℕ) where
  pub totals_are : length t ≡ s.width * s.height → T (is_totals s t)
  unfolding is_totals
  totals_are e = passes (eqb (length t) (s.width * s.height)) (eq-eqb (length t) (s.width * s.height) e)

  module _ (left top columns rows : ℤ) where
    abbrev Fits : Type 0
    Fits = (length t ≡ s.width * s.height) × WithinSide left columns s.width × WithinSide top rows s.height

    fits-so : T (is_totals s t && is_area s left top columns rows) → Fits
    unfolding is_area
    fits-so h =
        let area = and_r (is_totals s t) (is_area s left top columns rows) h in
        let across = is_span left columns s.width in
        let down = is_span top rows s.height in (
          is_totals_lem s t (and_l (is_totals s t) (is_area s left top columns rows) h),
          within_side left columns s.width (and_l across down area),
          within_side top rows s.height (and_r across down area),
        )

    pub so-fits : Fits → T (is_totals s t && is_area s left top columns rows)
    unfolding is_area
    so-fits h = and_i (is_totals s t) (is_area s left top columns rows) (totals_are h.0) (and_i (is_span left columns s.width) (is_span top rows s.height) (side_within left columns s.width h.1) (side_within top rows s.height h.2))

-- ---- the numbers

no_fit : {P : Type 0} (b : Bool) → (T b → P) → (P → ⊥) → b ≡ false
no_fit true so n = absurd (n (so tt))
no_fit false so n = refl

numbered : {A : Type 0} (s : Sides) (ts : List ℕ) (b : Bool) (P : Type 0) (number : A → ℕ) (refused : ℕ → A) (a : A) → (T b → P) → (P → T b) → ((n : ℕ) → number (refused n) ≡ n) → number a ≡ 0 → Numbered s ts P (number (on_map s ts b refused a))
numbered s ts b P number refused a so os r z = record {
  no_map = λ e. rw e (r 1);
  unfit = λ e n. rw (e, no_fit b so n) (r 14);
  fit = λ e p. rw (e, is_true b (os p)) z;
}

pub area_numbers_lem : AreaNumbers
unfolding build_in area_in change_in changed
area_numbers_lem = record {
  build = λ s ts t. numbered s ts (is_totals s t) (length t ≡ s.width * s.height) (λ (a : LeftTotals). a.number) (λ n. record { number = n; totals = t }) _ (is_totals_lem s t) (totals_are s t) (λ n. refl) refl;
  area = λ s ts t left top columns rows k. numbered s ts (is_totals s t && is_area s left top columns rows) (Fits s t left top columns rows) (λ (a : LeftCount). a.number) (λ n. record { number = n; count = k }) _ (fits-so s t left top columns rows) (so-fits s t left top columns rows) (λ n. refl) refl;
  change = λ s ts t column row byte. numbered s ts (is_totals s t && is_area s column row (pos 1) (pos 1)) (Fits s t column row (pos 1) (pos 1)) (λ (a : LeftChange). a.number) (λ n. record { number = n; tiles = ts; totals = t }) _ (fits-so s t column row (pos 1) (pos 1)) (so-fits s t column row (pos 1) (pos 1)) (λ n. refl) refl;
}
