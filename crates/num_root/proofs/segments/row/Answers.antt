use Rattle.std.proofs.Common.{◌≡◌, ℕ, ◌^◌, ◌<◌, ◌≤◌, Bool, true, ◌&&◌, List, [], length, arith, refl}
use Rattle.std.specs.List.{slice_index, list_all, slice_index_or}
use lib.Dec.{leb, ltb}
use Rattle.std.proofs.lemmas.Bool.Decides.{nat_tests}
use Rattle.std.proofs.lemmas.List.Elements.{All-get_or}
use Rattle.std.proofs.lemmas.List.Sums.{AllPass-from_list_all}
use Rattle.num_root.specs.Segments.{IsRow}
use Rattle.num_root.specs.declared.segments.TheConstants.{ROWS}
use Rattle.num_root.proofs.segments.row.Goals as goal

-- the bounds of a row as a test
within : ℕ → ℕ → ℕ → ℕ → Bool
within a b c d = leb (2 ^ 31) a && (ltb a (2 ^ 32) && (ltb b (2 ^ 27) && (leb (2 ^ 18) c && (ltb c (2 ^ 21) && ltb d (2 ^ 16)))))

bounds : (a b c d : ℕ) → within a b c d ≡ true → (2 ^ 31 ≤ a) × (a < 2 ^ 32) × (b < 2 ^ 27) × (2 ^ 18 ≤ c) × (c < 2 ^ 21) × (d < 2 ^ 16)
unfolding within
bounds a b c d h = grind (arith, nat_tests)

is_row : List ℕ → Bool
is_row r = within (slice_index r 0) (slice_index r 1) (slice_index r 2) (slice_index r 3)

row_of : (rs : List (List ℕ)) (k : ℕ) (d : List ℕ) → list_all is_row rs ≡ true → k < length rs → IsRow (slice_index_or rs k d)
unfolding within is_row
row_of rs k d all h = bounds _ _ _ _ (All-get_or (λ r. is_row r ≡ true) rs k d h (AllPass-from_list_all is_row rs all))

pub returns : goal.returns
unfolding within is_row
returns c = row_of ROWS c.args.k [] refl c.requires
