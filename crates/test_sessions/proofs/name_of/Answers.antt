-- What is ASCII is UTF-8.
use Rattle.std.proofs.Common.{Result, Ok, Err, refl, MatchResult, IsOk}
use Rattle.std.proofs.lemmas.Str.{IsUtf8-from_ascii}
use Rattle.test_sessions.proofs.name_of.Goals as goal

not_err : {T E : Type 0} (r : Result T E) (P : T → Type 0) (Q : E → Type 0) → MatchResult r P Q → ((e : E) → Q e → ⊥) → IsOk r
not_err (Ok x) P Q m none = refl
not_err (Err e) P Q m none = absurd (none e m)

pub unwrap-requires : goal.unwrap-requires
unwrap-requires c = not_err c.from_utf8.result _ _ c.from_utf8.ensures.cases (λ _ q. q.0 (IsUtf8-from_ascii _ c.requires))
