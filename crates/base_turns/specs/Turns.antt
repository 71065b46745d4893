-- A counted walk that may stop early. Definitions only; the laws are in `proofs/`.
use Rattle.std.specs.Prelude.{ℕ, zero, suc}

-- what a turn does: it goes on with a state, or stops the walk with an answer
pub data Turn (S R : Type 0) : Type 0 where
  more : S → Turn S R
  stop : R → Turn S R

-- k from the state that a turn goes on with; an answer stays
abbrev pub next : {S T R : Type 0} → (S → Turn T R) → Turn S R → Turn T R
next k (more s) = k s
next k (stop r) = stop r

-- at most n turns of f from the state s, the first with the index i, up to the first that stops
unfoldable pub run : {S R : Type 0} → (ℕ → S → Turn S R) → ℕ → ℕ → S → Turn S R
run f zero i s = more s
run f (suc n) i s = next (run f n (suc i)) (f i s)

-- n turns of an f that never stops
unfoldable pub fold : {S : Type 0} → (ℕ → S → S) → ℕ → ℕ → S → S
fold f zero i s = s
fold f (suc n) i s = fold f n (suc i) (f i s)
