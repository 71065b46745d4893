-- Texts and what they stand for: the input that document 01 shows, that input without its last byte, and no bytes. Assumes nothing.
use Prim.Native.Nat.{ℕ}
use mathlib.Core.Path.{◌≡◌, refl, ap}
use mathlib.Core.List.{List, [], ◌∷◌, ◌++◌}
use native.Mathlib.Omega.{arith}
use lib.IntN.{pos}
use lib.ListN.{length, replicate, length-append}
use Rattle.text_decimal.specs.Decimal.{digits}
use Rattle.text_reading.specs.Calls.{call_bytes}
use Rattle.world.specs.declared.call.Call.TheVariants.{Join, Step}
use Rattle.text_reading.proofs.Calls.{call_long}
use Rattle.text_map.specs.Map.{tile_bytes, map_bytes}
use Rattle.session_laws.specs.Session.{ended, fault, Text, no_map, session, calls_bytes, StandsFor, due_call}

-- the map, the names and the first call, line by line
abbrev begun : List ℕ
begun =
    (119 ∷ 105 ∷ 100 ∷ 116 ∷ 104 ∷ 32 ∷ 104 ∷ 101 ∷ 105 ∷ 103 ∷ 104 ∷ 116 ∷ 10 ∷ [])
    ++ (51 ∷ 32 ∷ 51 ∷ 10 ∷ [])
    ++ (116 ∷ 105 ∷ 108 ∷ 101 ∷ 115 ∷ 10 ∷ [])
    ++ (48 ∷ 32 ∷ 48 ∷ 32 ∷ 48 ∷ 10 ∷ [])
    ++ (48 ∷ 32 ∷ 48 ∷ 32 ∷ 48 ∷ 10 ∷ [])
    ++ (48 ∷ 32 ∷ 48 ∷ 32 ∷ 48 ∷ 10 ∷ [])
    ++ (99 ∷ 97 ∷ 108 ∷ 108 ∷ 32 ∷ 97 ∷ 32 ∷ 98 ∷ 32 ∷ 99 ∷ 32 ∷ 100 ∷ 32 ∷ 101 ∷ 32 ∷ 102 ∷ 10 ∷ [])
    ++ (49 ∷ 32 ∷ 48 ∷ 32 ∷ 52 ∷ 56 ∷ 32 ∷ 52 ∷ 56 ∷ 32 ∷ 48 ∷ 32 ∷ 48 ∷ 32 ∷ 48 ∷ 10 ∷ [])

-- the second call, up to its end
abbrev step : List ℕ
step = 52 ∷ 32 ∷ 48 ∷ 32 ∷ 48 ∷ 32 ∷ 48 ∷ 32 ∷ 48 ∷ 32 ∷ 48 ∷ 32 ∷ 48 ∷ []

pub example_stands : StandsFor (begun ++ (step ++ (10 ∷ []))) (session 3 3 (replicate 9 0) (Join (pos 0) (pos 48) (pos 48) ∷ Step ∷ []) ended)
unfolding digits call_bytes tile_bytes map_bytes calls_bytes StandsFor
example_stands = (
  omega arith,
  record { width = omega arith; height = omega arith; count = refl; tiles = omega arith },
  omega arith,
  ([], refl, refl),
)

-- a last line without byte 10 is at fault, at call 2
abbrev broken : Text
broken = session 3 3 (replicate 9 0) (Join (pos 0) (pos 48) (pos 48) ∷ []) fault

pub broken_stands : StandsFor (begun ++ step) broken × (due_call broken ≡ 2)
unfolding digits call_bytes tile_bytes map_bytes calls_bytes StandsFor
broken_stands = (
  (
    omega arith,
    record { width = omega arith; height = omega arith; count = refl; tiles = omega arith },
    omega arith,
    (step, refl, (λ e. omega (arith, ap length e), λ c i rest e. omega (arith, call_long c, length-append (call_bytes c) rest, ap length e))),
  ),
  refl,
)

-- so are no bytes, at call 1
pub empty_stands : StandsFor [] no_map × (due_call no_map ≡ 1)
unfolding map_bytes StandsFor
empty_stands = (λ short w h ts m rest e. let z : ◌≡◌ {A = ℕ} 0 1 = cc in omega arith, refl)
