-- The power stand-in of document 01. Definitions only.
use Rattle.std.specs.Prelude.{ℕ, ◌+◌, ◌-◌, ◌*◌, ◌/◌, ◌%◌, ◌^◌, min, Bool, cond, ◌==◌, is_nan, Float}
use Rattle.std.specs.Float.{nan, inf, fin, binary32}
use Rattle.std.specs.Float.Ieee.{up, down, mul, div, lt}
use Rattle.num_root.specs.Root.{root}
use Rattle.num_convert.specs.Number.{c0, c1}
use Rattle.base_turns.specs.Turns.{fold}

-- k: |e| × 65,536 truncated to a whole number, at most 16,777,215
unfoldable pub parts : Float → ℕ
parts nan = 0
parts (inf s) = 16777215
parts (fin s m e) = min (m * up e * 65536 / down e) 16777215

-- bit i of k is set
abbrev pub bit : ℕ → ℕ → Bool
bit k i = k / 2 ^ i % 2 == 1

-- for (p, q), i = 0 to 7: if bit 16 + i of k is set, p = p × q; then q = q × q
abbrev pub square_turn : ℕ → ℕ → Float × Float → Float × Float
square_turn k i s = (cond (bit k (16 + i)) (mul binary32 s.0 s.1) s.0, mul binary32 s.1 s.1)

unfoldable pub squares : Float → ℕ → Float
squares c k = (fold (square_turn k) 8 0 (c1, c)).0

-- for (p, r), i = 15 − j, so from 15 down to 0: r = root(r); if bit i of k is set, p = p × r
abbrev pub root_turn : ℕ → ℕ → Float × Float → Float × Float
root_turn k j s = (cond (bit k (15 - j)) (mul binary32 s.0 (root binary32 s.1)) s.0, root binary32 s.1)

unfoldable pub roots : Float → ℕ → Float → Float
roots c k p = (fold (root_turn k) 16 0 (p, c)).0

-- not-a-number where e is one; else p, or 1 / p where e < 0
unfoldable pub powf : Float → Float → Float
powf c e =
    let p = roots c (parts e) (squares c (parts e)) in
    cond (is_nan e) nan (cond (lt e c0) (div binary32 c1 p) p)
