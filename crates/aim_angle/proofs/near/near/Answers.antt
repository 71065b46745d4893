use Rattle.std.proofs.Common.{◌≡◌, ◌*◌, ◌/◌, ◌%◌, ◌^◌, ◌≤◌, ℤ, nat_abs, sym, ◌∙◌, subst, arith, to_z-of_z, w64, SFits, to_z, of_z, rules}
use Rattle.aim_tables.specs.Rules.{cos_at, sin_at, apart}
use Rattle.aim_tables.proofs.Rules.{small}
use Rattle.aim_angle.specs.declared.near.Point.{Point}
use Rattle.aim_angle.specs.Near.{turned}
use Rattle.aim_angle.proofs.Close.{close}
use Rattle.aim_angle.proofs.near.near.Goals as goal

-- an entry that was read is the table's
same : {z e : ℤ} → SFits w64 z → z ≡ e → to_z w64 (of_z w64 z) ≡ e
same f p = to_z-of_z f ∙ p

entry : {z e : ℤ} → SFits w64 z → z ≡ e → nat_abs e ≤ 2 ^ 30 → nat_abs (to_z w64 (of_z w64 z)) ≤ 2 ^ 30
entry f p h = rw (same f p) h

turned_same : {c s d t c' s' d' t' : ℤ} → c ≡ c' → s ≡ s' → d ≡ d' → t ≡ t' → turned c s d t ≡ turned c' s' d' t'
turned_same p q r u = cc

pub turned-requires : goal.turned-requires
turned-requires c =
    let n = c.args.n in
    let a = small (32 * (n / 32)) (omega arith) in
    let d = small (n % 32) (omega arith) in
    let p = c.coarse-c.ensures in
    let q = c.fine-d.ensures in
    (entry (search rules) p.0 a.0, entry (search rules) p.1 a.1, entry (search rules) q.0 d.0, entry (search rules) q.1 d.1)

pub returns : goal.returns
returns c =
    let n = c.args.n in
    let p = c.coarse-c.ensures in
    let q = c.fine-d.ensures in
    let e = c.turned.ensures ∙ turned_same (same (search rules) p.0) (same (search rules) p.1) (same (search rules) q.0) (same (search rules) q.1) in
    subst (λ (p : Point). (apart p.c (cos_at n) ≤ 2) × (apart p.s (sin_at n) ≤ 2)) (sym e) (close n c.requires)
