-- Reading call by call, from the place where the map ends, finds what the text stands for. Assumes nothing.
use Prim.Native.Nat.{ℕ, ◌*◌, ◌≤◌, ◌<◌}
use mathlib.Core.Path.{◌≡◌, sym, ap, ◌∙◌, subst}
use mathlib.Core.List.{List, [], ◌∷◌, ◌++◌, append_assoc, append-nil}
use native.Mathlib.Omega.{arith}
use lib.ListN.{length, take, drop, length-append, length-drop, drop_of_length-le}
use Rattle.text_decimal.specs.Places.{Stands}
use Rattle.text_decimal.proofs.Lines.{all_append}
use Rattle.text_decimal.proofs.Places.{chain, within}
use Rattle.text_reading.specs.Calls.{IsCall, call_bytes, CallAt}
use Rattle.world.specs.declared.call.Call.{Call}
use Rattle.text_reading.proofs.Calls.{call_read, call_fault, call_long}
use Rattle.text_map.specs.Map.{map_bytes}
use Rattle.text_map.specs.Reading.{MapAt}
use Rattle.text_map.specs.declared.map_text.MapPart.{MapPart}
use Rattle.text_map.proofs.Maps.{map_read, map_fault}
use Rattle.session_laws.specs.Session.{ended, fault, no_map, session, calls_bytes, StandsFor, Passed}
use Rattle.std.specs.declared.option.Option.{Option}
use Rattle.std.specs.declared.option.Option.TheVariants.{None, Some}

-- the map part
pub no_map_lem : (s d : List ℕ) {r : Option MapPart} → r ≡ None → MapAt s d r → StandsFor s no_map
unfolding StandsFor
no_map_lem s d e h = λ short w g ts m rest q. map_fault s d e h short w g ts m rest q

pub passed_map : (s d : List ℕ) (p : MapPart) {r : Option MapPart} → r ≡ Some p → MapAt s d r → Passed s p.width p.height (take (p.width * p.height) d) [] p.next
unfolding calls_bytes
passed_map s d p e m =
    let k = map_read s d p e m in
    record { fits = k.0; map = k.1; calls = tt; stood = subst (λ (x : List ℕ). Stands x s 0 p.next) (sym (append-nil (map_bytes p.width p.height (take (p.width * p.height) d)))) k.2 }

calls_more : (cs : List Call) (c : Call) → calls_bytes (cs ++ (c ∷ [])) ≡ calls_bytes cs ++ call_bytes c
unfolding calls_bytes
calls_more [] c = append-nil (call_bytes c)
calls_more (b ∷ cs) c = ap (λ (x : List ℕ). call_bytes b ++ x) (calls_more cs c) ∙ sym (append_assoc (call_bytes b) (calls_bytes cs) (call_bytes c))

calls_long : (cs : List Call) → 14 * length cs ≤ length (calls_bytes cs)
unfolding calls_bytes
calls_long [] = omega arith
calls_long (c ∷ cs) = simp length-append (omega (arith, call_long c, calls_long cs))

module _ {s : List ℕ} {w h : ℕ} {ts : List ℕ} {cs : List Call} {at : ℕ} (p : Passed s w h ts cs at) where
  rest_is : s ≡ map_bytes w h ts ++ (calls_bytes cs ++ drop at s)
  rest_is = p.stood.bytes ∙ append_assoc (map_bytes w h ts) (calls_bytes cs) (drop at s)

  -- one call more
  pub passed_call : (c : Call) (next : ℕ) {r : Option (Call × ℕ)} → r ≡ Some (c, next) → CallAt s at r → Passed s w h ts (cs ++ (c ∷ [])) next
  passed_call c next e k =
      let r = call_read s at c next e k in
      let w' = append_assoc (map_bytes w h ts) (calls_bytes cs) (call_bytes c) ∙ ap (λ (x : List ℕ). map_bytes w h ts ++ x) (sym (calls_more cs c)) in
      record { fits = p.fits; map = p.map; calls = all_append IsCall cs (c ∷ []) p.calls (r.0, tt); stood = subst (λ (x : List ℕ). Stands x s 0 next) w' (chain p.stood r.1) }

  -- nothing is left
  pub passed_end : length s ≤ at → StandsFor s (session w h ts cs ended)
  unfolding StandsFor
  passed_end l = (p.fits, p.map, p.calls, (drop at s, rest_is, drop_of_length-le s l))

  -- text at fault
  pub passed_fault : at < length s → {r : Option (Call × ℕ)} → r ≡ None → CallAt s at r → StandsFor s (session w h ts cs fault)
  unfolding StandsFor
  passed_fault l e k = (p.fits, p.map, p.calls, (drop at s, rest_is, (λ q. omega (arith, ap length q, length-drop at s), λ c i rest q. call_fault s at e k c i rest q)))

  -- the calls are few: 14 bytes each at least
  pub passed_few : 14 * length cs ≤ at
  passed_few = let q = p.stood.place in omega (arith, calls_long cs, length-append (map_bytes w h ts) (calls_bytes cs))

-- a call line ends within the text
pub call_within : (s : List ℕ) (at : ℕ) (c : Call) (next : ℕ) {r : Option (Call × ℕ)} → r ≡ Some (c, next) → CallAt s at r → (at < next) × (next ≤ length s)
call_within s at c next e k = within (call_read s at c next e k).1 (omega (arith, call_long c))
