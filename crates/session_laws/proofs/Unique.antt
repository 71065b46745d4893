-- A text stands for one thing only. Assumes nothing.
use Prim.Native.Nat.{ℕ}
use mathlib.Core.Path.{◌≡◌, refl, sym, ap, ◌∙◌, subst}
use mathlib.Core.List.{List, [], ◌∷◌, ◌++◌, append_assoc, append_cancel_left}
use native.Mathlib.Omega.{arith}
use lib.ListN.{length, length-append}
use Rattle.text_decimal.specs.Lines.{All}
use Rattle.text_reading.specs.Calls.{IsCall, call_bytes}
use Rattle.world.specs.declared.call.Call.{Call}
use Rattle.text_reading.proofs.Calls.{call_unique, call_long}
use Rattle.text_map.specs.Map.{map_bytes}
use Rattle.text_map.proofs.Maps.{map_unique}
use Rattle.session_laws.specs.Session.{End, ended, fault, Text, no_map, session, calls_bytes, Ends, StandsFor}

-- a call line is not where nothing is left, nor where text is at fault
no_call : (e : End) (s : List ℕ) → Ends e s → (c : Call) → IsCall c → (rest : List ℕ) → s ≡ call_bytes c ++ rest → ⊥
no_call ended s h c i rest q = omega (arith, call_long c, length-append (call_bytes c) rest, ap length (sym h ∙ q))
no_call fault s h c i rest q = h.1 c i rest q

ends_unique : (e f : End) (s : List ℕ) → Ends e s → Ends f s → e ≡ f
ends_unique ended ended s h k = refl
ends_unique ended fault s h k = absurd (k.0 h)
ends_unique fault ended s h k = absurd (h.0 k)
ends_unique fault fault s h k = refl

calls_unique : (cs ds : List Call) (e f : End) (r q : List ℕ) → All IsCall cs → All IsCall ds → Ends e r → Ends f q → calls_bytes cs ++ r ≡ calls_bytes ds ++ q → (cs ≡ ds) × (e ≡ f)
unfolding calls_bytes
calls_unique [] [] e f r q a b h k p = (refl, ends_unique e f q (subst (Ends e) p h) k)
calls_unique [] (d ∷ ds) e f r q a b h k p = absurd (no_call e r h d b.0 (calls_bytes ds ++ q) (p ∙ append_assoc (call_bytes d) (calls_bytes ds) q))
calls_unique (c ∷ cs) [] e f r q a b h k p = absurd (no_call f q k c a.0 (calls_bytes cs ++ r) (sym p ∙ append_assoc (call_bytes c) (calls_bytes cs) r))
calls_unique (c ∷ cs) (d ∷ ds) e f r q a b h k p =
    let m = sym (append_assoc (call_bytes c) (calls_bytes cs) r) ∙ p ∙ append_assoc (call_bytes d) (calls_bytes ds) q in
    let first = call_unique c d (calls_bytes cs ++ r) (calls_bytes ds ++ q) a.0 b.0 m in
    let others = calls_unique cs ds e f r q a.1 b.1 h k (append_cancel_left (call_bytes c) (calls_bytes cs ++ r) (calls_bytes ds ++ q) (m ∙ ap (λ (x : Call). call_bytes x ++ (calls_bytes ds ++ q)) (sym first))) in
    (cc, others.1)

pub text_unique : (s : List ℕ) (t u : Text) → StandsFor s t → StandsFor s u → t ≡ u
unfolding StandsFor
text_unique s no_map no_map a b = refl
text_unique s no_map (session w h ts cs e) a b = absurd (a b.0 w h ts b.1 (calls_bytes cs ++ b.3.0) b.3.1)
text_unique s (session w h ts cs e) no_map a b = absurd (b a.0 w h ts a.1 (calls_bytes cs ++ a.3.0) a.3.1)
text_unique s (session w h ts cs e) (session v g us ds f) a b =
    let p : List ℕ = calls_bytes cs ++ a.3.0 in
    let q : List ℕ = calls_bytes ds ++ b.3.0 in
    let m = sym a.3.1 ∙ b.3.1 in
    let k = map_unique w h v g ts us p q a.1 b.1 m in
    let k0 = k.0 in
    let k1 = k.1 in
    let k2 = k.2 in
    let same : map_bytes v g us ≡ map_bytes w h ts = cc in
    let c = calls_unique cs ds e f a.3.0 b.3.0 a.2 b.2 a.3.2 b.3.2 (append_cancel_left (map_bytes w h ts) p q (m ∙ ap (λ (x : List ℕ). x ++ q) same)) in
    let c0 = c.0 in
    let c1 = c.1 in
    cc
