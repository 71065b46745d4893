-- Every text stands for something. Assumes nothing.
use Prim.Native.Nat.{ℕ, zero, suc, ◌+◌, ◌≤◌, ◌<◌}
use mathlib.Core.Path.{◌≡◌, refl}
use mathlib.Core.Bool.{Bool, true, false}
use mathlib.Core.List.{List, [], ◌∷◌, ◌++◌}
use native.Mathlib.Omega.{arith}
use lib.Dec.{leb}
use lib.ListN.{length}
use borrow.Author.Tests.{leb-true, leb-false}
use Rattle.text_reading.specs.Calls.{CallAt}
use Rattle.world.specs.declared.call.Call.{Call}
use Rattle.text_reading.proofs.EveryCall.{call_some}
use Rattle.text_map.specs.Reading.{MapAt}
use Rattle.text_map.specs.declared.map_text.MapPart.{MapPart}
use Rattle.text_map.proofs.EveryMap.{map_some}
use Rattle.session_laws.specs.Session.{ended, fault, Text, no_map, session, StandsFor, Passed}
use Rattle.session_laws.proofs.Reading.{no_map_lem, passed_map, passed_call, passed_end, passed_fault, call_within}
use Rattle.std.specs.declared.option.Option.{Option}
use Rattle.std.specs.declared.option.Option.TheVariants.{None, Some}

-- with at most k bytes left
from_here : (k : ℕ) {s : List ℕ} {w h : ℕ} {ts : List ℕ} (cs : List Call) (at : ℕ) → Passed s w h ts cs at → length s ≤ at + k → (t : Text) × StandsFor s t
from_here zero {s} {w} {h} {ts} cs at p l = (session w h ts cs ended, passed_end p (omega arith))
from_here (suc k) {s} {w} {h} {ts} cs at p l = let r = call_some s at in by (leb (length s) at) refl r.0 r.1 (λ c next q m. from_here k (cs ++ (c ∷ [])) next q m)
  where
    line : at < length s → (r : Option (Call × ℕ)) → CallAt s at r → ((c : Call) (next : ℕ) → Passed s w h ts (cs ++ (c ∷ [])) next → length s ≤ next + k → (t : Text) × StandsFor s t) → (t : Text) × StandsFor s t
    line m (Some (c, next)) r ih = let b = call_within s at c next refl r in ih c next (passed_call p c next refl r) (omega arith)
    line m None r ih = (session w h ts cs fault, passed_fault p m refl r)

    by : (q : Bool) → leb (length s) at ≡ q → (r : Option (Call × ℕ)) → CallAt s at r → ((c : Call) (next : ℕ) → Passed s w h ts (cs ++ (c ∷ [])) next → length s ≤ next + k → (t : Text) × StandsFor s t) → (t : Text) × StandsFor s t
    by true e r x ih = (session w h ts cs ended, passed_end p (leb-true (length s) at e))
    by false e r x ih = line (leb-false (length s) at e) r x ih

pub text_some : (s : List ℕ) → (t : Text) × StandsFor s t
text_some s = let m = map_some s in by m.0 m.1.0 m.1.1
  where
    by : (d : List ℕ) (r : Option MapPart) → MapAt s d r → (t : Text) × StandsFor s t
    by d (Some p) r = from_here (length s) [] p.next (passed_map s d p refl r) (omega arith)
    by d None r = (no_map, no_map_lem s d refl r)
