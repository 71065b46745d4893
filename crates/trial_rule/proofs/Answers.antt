-- The number that a trial answers, exactly and in its order. Assumes nothing.
use Prim.Native.Nat.{ℕ, zero, suc, ◌+◌, ◌*◌, ◌/◌, ◌%◌, ◌≤◌, ◌<◌}
use mathlib.Core.Bool.{Bool, true, false, cond, ◌&&◌, true≢false}
use mathlib.Core.List.{List, [], ◌∷◌, ◌++◌, map}
use mathlib.Core.Path.{◌≡◌, refl, sym, ap, ap₂, ◌∙◌, subst}
use native.Mathlib.Nat.{div-eq_of_eq-mul_right, mul-mod_right, div-add-mod}
use native.Mathlib.Omega.{arith}
use lib.Dec.{eqb, ltb}
use lib.IntN.{ℤ, pos}
use lib.ListN.{length, take, drop, set, get_or, length-map, get_or-map}
use lib.Seq.{take-suc, get_or-take, get_or-drop}
use borrow.Author.Tests.{eqb-true, eqb-false, eq-eqb, ltb-true, ltb-false}
use Rattle.base_turns.specs.Turns.{Turn, more, stop, next}
use Rattle.base_turns.proofs.Tests.{either_way, both}
use Rattle.game_refusals.specs.Refusals.{bad_map, bad_trial, bad_hold, bad_length}
use Rattle.game_tuning.specs.Tuning.{tuning_count, is_hold}
use Rattle.map_tiles.specs.Map.{is_map, count}
use Rattle.map_tiles.specs.declared.tiles.Sides.{Sides}
use Rattle.world.specs.World.{fresh}
use Rattle.world.specs.Answers.{IsMap}
use Rattle.world.specs.Calls.{place_of, join}
use Rattle.world.specs.Run.{ran, after}
use Rattle.world.specs.Answered.{Answer}
use Rattle.world.specs.declared.World.{World}
use Rattle.world.specs.declared.call.Call.{Call}
use Rattle.world.specs.declared.call.Call.TheVariants.{Join}
use Rattle.world.proofs.Answers.{map_is, is_no_map}
use Rattle.world.proofs.Hold.{hook_hold_is}
use Rattle.world_numbers.proofs.RowsIn.{row_in, rows_long}
use Rattle.trial_rule.specs.Trial.{Entrant, Trying, entered, tried, enter, enter_all, nobody_yet, tuned_to, trial}
use Rattle.trial_rule.specs.Calls.{are_whole, entrants, tunings_in, tuning_rows, is_trial, has_hold, have_holds, trial_fault, LeftTrial, trial_left, trial_in}
use Rattle.trial_rule.specs.Laws.{joins_of}
use Rattle.trial_rule.specs.Answers.{Whole, Within, Holds, join_of, joins_before, join_number, FirstRefused, TrialAnswers, AnswersOfTrials}
use Rattle.trial_rule.specs.Answers as why
use Rattle.trial_rule.specs.Numbers.{Lent}
use Rattle.trial_rule.proofs.Limits.{trial_limits}
use Rattle.trial_rule.proofs.Numbers.{entrants_lent}

-- a test that is not passed
failed : (b : Bool) → (b ≡ true → ⊥) → b ≡ false
failed true h = absurd (h refl)
failed false h = refl

-- ---- 17
module _ (n : ℕ) (joins targets tunings result : List ℤ) where
  abbrev whole_test : Bool
  whole_test = are_whole n (length joins) (length targets) (length tunings) (length result)

  whole_is : whole_test ≡ true → Whole n joins targets tunings result
  unfolding are_whole
  whole_is e =
      let j = eqb (length joins % 3) 0 in
      let t = eqb (length targets) (2 * (length joins / 3)) in
      let u = eqb (length tunings % 19) 0 in
      let p = both (j && t && u) (eqb (length result) ((1 + 3 * n) * (length tunings / 19))) e in
      let q = both (j && t) u p.0 in
      let r = both j t q.0 in
      let a = eqb-true (length joins % 3) 0 r.0 in
      let b = eqb-true (length tunings % 19) 0 q.1 in
      record {
        players = length joins / 3;
        tuned = length tunings / 19;
        joined = omega (arith, div-add-mod (length joins) 3, a);
        aimed = eqb-true (length targets) (2 * (length joins / 3)) r.1;
        held = omega (arith, div-add-mod (length tunings) 19, b);
        told = eqb-true (length result) ((1 + 3 * n) * (length tunings / 19)) p.1;
      }

  tuned_is : (f : Whole n joins targets tunings result) → tunings_in tunings ≡ f.tuned
  tuned_is f = div-eq_of_eq-mul_right (omega arith) f.held

  is_whole : Whole n joins targets tunings result → whole_test ≡ true
  unfolding are_whole
  is_whole f =
      let p : length joins / 3 ≡ f.players = div-eq_of_eq-mul_right (omega arith) f.joined in
      let a : length joins % 3 ≡ 0 = ap (λ (k : ℕ). k % 3) f.joined ∙ mul-mod_right 3 f.players in
      let b : length tunings % 19 ≡ 0 = ap (λ (k : ℕ). k % 19) f.held ∙ mul-mod_right 19 f.tuned in
      rw (eq-eqb (length joins % 3) 0 a, eq-eqb (length targets) (2 * (length joins / 3)) (f.aimed ∙ ap (λ (k : ℕ). 2 * k) (sym p)), eq-eqb (length tunings % 19) 0 b, eq-eqb (length result) ((1 + 3 * n) * (length tunings / 19)) (f.told ∙ ap (λ (k : ℕ). (1 + 3 * n) * k) (sym (tuned_is f))))

-- ---- 15
module _ (tuned : ℕ) (steps : ℤ) where
  within_is : is_trial tuned steps ≡ true → Within tuned steps
  within_is e = let f = (trial_limits tuned steps).0 e in record { least = f.0; most = f.1; forward = f.2; short = f.3 }

  is_within : Within tuned steps → is_trial tuned steps ≡ true
  is_within f = (trial_limits tuned steps).1 (f.least, f.most, f.forward, f.short)

-- ---- 16

-- every row's
all_hold : (rows : List (List ℤ)) → have_holds rows ≡ true → (i : ℕ) → i < length rows → has_hold (get_or rows i []) ≡ true
all_hold [] e i l = absurd (omega arith)
all_hold (zs ∷ rows) e zero l = (both (has_hold zs) (have_holds rows) e).0
all_hold (zs ∷ rows) e (suc i) l = all_hold rows (both (has_hold zs) (have_holds rows) e).1 i (omega arith)

hold-all : (rows : List (List ℤ)) → ((i : ℕ) → i < length rows → has_hold (get_or rows i []) ≡ true) → have_holds rows ≡ true
hold-all [] f = refl
hold-all (zs ∷ rows) f = rw (f 0 (omega arith)) (hold-all rows (λ i l. f (suc i) (omega arith)))

module _ (tunings : List ℤ) where
  -- of the i-th tuning
  hold_at : (i : ℕ) → i < tunings_in tunings → has_hold (get_or (tuning_rows tunings) i []) ≡ is_hold (get_or tunings (19 * i + 18) (pos 0))
  hold_at i l =
      ap has_hold (row_in (take tuning_count) tuning_count (tunings_in tunings) i tunings [] l)
      ∙ ap is_hold (get_or-take 19 (drop (19 * i) tunings) 18 (pos 0) (omega arith) ∙ get_or-drop (19 * i) tunings 18 (pos 0))

  rows_count : length (tuning_rows tunings) ≡ tunings_in tunings
  rows_count = rows_long (take tuning_count) tuning_count (tunings_in tunings) tunings

  module _ (n : ℕ) where
    holds_is : have_holds (tuning_rows tunings) ≡ true → Holds (tunings_in tunings) tunings
    holds_is e i l = ((hook_hold_is n).limits (get_or tunings (19 * i + 18) (pos 0))).0 (sym (hold_at i l) ∙ all_hold (tuning_rows tunings) e i (omega (arith, rows_count, l)))

    is-holds : Holds (tunings_in tunings) tunings → have_holds (tuning_rows tunings) ≡ true
    is-holds f = hold-all (tuning_rows tunings) (λ i l. let h : i < tunings_in tunings = omega (arith, rows_count, l) in hold_at i h ∙ ((hook_hold_is n).limits (get_or tunings (19 * i + 18) (pos 0))).1 (f i h))

-- ---- the joins
abbrev nobody : Entrant
nobody = record { id = pos 0; x = pos 0; y = pos 0; column = pos 0; row = pos 0 }

-- accepted: every number is 0; refused: the first that is not
abbrev Came : (ℕ → ℕ) → ℕ → Turn Trying ℕ → Type 0
Came f bound (more v) = (i : ℕ) → i < bound → f i ≡ 0
Came f bound (stop k) = FirstRefused f bound k

-- by equal numbers
came_on : (f g : ℕ → ℕ) (bound : ℕ) → ((i : ℕ) → i < bound → f i ≡ g i) → (a : Turn Trying ℕ) → Came f bound a → Came g bound a
came_on f g bound e (more v) h = λ i l. sym (e i l) ∙ h i l
came_on f g bound e (stop k) h = record { at = h.at; within = h.within; before = λ i l. sym (e i (let m = h.within in omega (arith, m, l))) ∙ h.before i l; number = sym (e h.at h.within) ∙ h.number; refused = h.refused }

-- one more in front
lift : (f : ℕ → ℕ) (bound : ℕ) → f 0 ≡ 0 → (a : Turn Trying ℕ) → Came (λ i. f (suc i)) bound a → Came f (suc bound) a
lift f bound z (more v) h = all
  where
    all : (i : ℕ) → i < suc bound → f i ≡ 0
    all zero l = z
    all (suc i) l = h i (omega arith)
lift f bound z (stop k) h = record { at = suc h.at; within = let l = h.within in omega (arith, l); before = before; number = h.number; refused = h.refused }
  where
    before : (i : ℕ) → i < suc h.at → f i ≡ 0
    before zero l = z
    before (suc i) l = h.before i (omega arith)

module _ (n : ℕ) (s : Sides) (ts : List ℕ) where
  -- the number of the i-th of these calls, from the world w
  abbrev number_in : List Call → World → ℕ → ℕ
  number_in cs w i = (ran n s ts (after n s ts w (take i cs)) (get_or cs i (Join (pos 0) (pos 0) (pos 0)))).number

  walked : (es : List Entrant) (t : Trying) → Came (number_in (joins_of es) t.world) (length es) (enter_all n s ts es t)
  unfolding enter
  walked [] t = λ i l. absurd (omega arith)
  walked (e ∷ es) t = go (walked es) (eqb a.number 0) refl
    where
      a : Answer
      a = join n t.world s ts e.id e.x e.y

      v : Trying
      v = record { world = a.world; players = set t.players (place_of n e.id) (entered s e) }

      go : ((v : Trying) → Came (number_in (joins_of es) v.world) (length es) (enter_all n s ts es v)) → (b : Bool) → eqb a.number 0 ≡ b → Came (number_in (joins_of (e ∷ es)) t.world) (suc (length es)) (next (enter_all n s ts es) (cond b (more v) (stop a.number)))
      go rest true q = lift (number_in (joins_of (e ∷ es)) t.world) (length es) (eqb-true a.number 0 q) (enter_all n s ts es v) (rest v)
      go rest false q = record { at = 0; within = omega arith; before = λ i l. absurd (omega arith); number = refl; refused = eqb-false a.number 0 q }

  module _ (joins targets : List ℤ) (players : ℕ) (h : length joins ≡ 3 * players) (g : length targets ≡ 2 * players) where
    abbrev es : List Entrant
    es = entrants joins targets

    abbrev join_by : Entrant → Call
    join_by e = Join e.id e.x e.y

    lent : Lent joins targets players es
    lent = entrants_lent joins targets players h g

    call_at : (i : ℕ) → i < players → get_or (joins_of es) i (join_by nobody) ≡ join_of joins i
    call_at i l = get_or-map join_by es i nobody ∙ ap join_by (lent.each i l nobody)

    calls-before : (i : ℕ) → i ≤ players → take i (joins_of es) ≡ joins_before joins i
    calls-before zero l = refl
    calls-before (suc i) l =
        let m : length (joins_of es) ≡ players = length-map es join_by ∙ lent.count in
        take-suc (joins_of es) i (join_by nobody) (omega (arith, m, l)) ∙ ap₂ (λ (cs : List Call) (c : Call). cs ++ (c ∷ [])) (calls-before i (omega arith)) (call_at i (omega arith))

    number_at : (i : ℕ) → i < players → number_in (joins_of es) (fresh n) i ≡ join_number n s ts joins i
    number_at i l = ap₂ (λ (cs : List Call) (c : Call). (ran n s ts (after n s ts (fresh n) cs) c).number) (calls-before i (omega arith)) (call_at i l)

    came : Came (join_number n s ts joins) players (enter_all n s ts es (nobody_yet n))
    came = came_on (number_in (joins_of es) (fresh n)) (join_number n s ts joins) players number_at (enter_all n s ts es (nobody_yet n)) (subst (λ (k : ℕ). Came (number_in (joins_of es) (fresh n)) k (enter_all n s ts es (nobody_yet n))) lent.count (walked es (nobody_yet n)))

-- ---- the claim
module _ (n : ℕ) (s : Sides) (ts : List ℕ) (joins targets tunings : List ℤ) (steps : ℤ) (result : List ℤ) where
  -- what is left where the joins have come to a
  abbrev left_by : Turn Trying ℕ → LeftTrial
  left_by a = trial_left result (next (λ t. more (map (λ zs. tried n s ts (count steps) (tuned_to zs t)) (tuning_rows tunings))) a)

  abbrev joined : Turn Trying ℕ
  joined = enter_all n s ts (entrants joins targets) (nobody_yet n)

  number_is : (a b c d : Bool) → whole_test n joins targets tunings result ≡ a → is_map s ts ≡ b → is_trial (tunings_in tunings) steps ≡ c → have_holds (tuning_rows tunings) ≡ d → (trial_in n s ts joins targets tunings steps result).number ≡ cond a (cond b (cond c (cond d (left_by joined).number bad_hold) bad_trial) bad_map) bad_length
  unfolding trial_in trial_fault trial
  number_is a b c d p q r u = rw (p, q, r, u) (go a b c d)
    where
      go : (a b c d : Bool) → (cond a (cond b (cond (eqb (cond c (cond d 0 bad_hold) bad_trial) 0) (left_by joined) (record { number = cond c (cond d 0 bad_hold) bad_trial; result = result })) (record { number = bad_map; result = result })) (record { number = bad_length; result = result })).number ≡ cond a (cond b (cond c (cond d (left_by joined).number bad_hold) bad_trial) bad_map) bad_length
      go false b c d = refl
      go true false c d = refl
      go true true false d = refl
      go true true true false = refl
      go true true true true = refl

  abbrev numbers : ℕ → ℕ
  numbers = join_number n s ts joins

  abbrev Because : ℕ → Type 0
  Because = TrialAnswers n s ts joins targets tunings steps result

  -- ---- from the number to its reason
  by_joins : (f : Whole n joins targets tunings result) → IsMap s ts → Within f.tuned steps → Holds f.tuned tunings → (a : Turn Trying ℕ) → Came numbers f.players a → Because (left_by a).number
  by_joins f m w h (more t) c = why.TrialAnswers.accepted refl f m w h c
  by_joins f m w h (stop k) c = why.TrialAnswers.refused f m w h c

  reason : (a b c d : Bool) → whole_test n joins targets tunings result ≡ a → is_map s ts ≡ b → is_trial (tunings_in tunings) steps ≡ c → have_holds (tuning_rows tunings) ≡ d → Because (cond a (cond b (cond c (cond d (left_by joined).number bad_hold) bad_trial) bad_map) bad_length)
  unfolding whole_is
  reason false b c d p q r u = why.TrialAnswers.not_whole refl (λ f. true≢false (sym (is_whole n joins targets tunings result f) ∙ p))
  reason true false c d p q r u = why.TrialAnswers.no_map refl (whole_is n joins targets tunings result p) (is_no_map s ts q)
  reason true true false d p q r u = why.TrialAnswers.no-trial refl (whole_is n joins targets tunings result p) (map_is s ts q) (λ w. true≢false (sym (is_within (tunings_in tunings) steps w) ∙ r))
  reason true true true false p q r u = why.TrialAnswers.no_hold refl (whole_is n joins targets tunings result p) (map_is s ts q) (within_is (tunings_in tunings) steps r) (λ h. true≢false (sym (is-holds tunings n h) ∙ u))
  reason true true true true p q r u = let f = whole_is n joins targets tunings result p in by_joins f (map_is s ts q) (within_is (tunings_in tunings) steps r) (holds_is tunings n u) joined (came n s ts joins targets f.players f.joined f.aimed)

  -- ---- and back
  module _ (f : Whole n joins targets tunings result) where
    is_mapped : IsMap s ts → is_map s ts ≡ true
    is_mapped m = either_way (is_map s ts) (λ e. e) (λ e. absurd (is_no_map s ts e m))

    tested : Within f.tuned steps → is_trial (tunings_in tunings) steps ≡ true
    tested w = is_within (tunings_in tunings) steps (subst (λ (k : ℕ). Within k steps) (sym (tuned_is n joins targets tunings result f)) w)

    held : Holds f.tuned tunings → have_holds (tuning_rows tunings) ≡ true
    held h = is-holds tunings n (subst (λ (k : ℕ). Holds k tunings) (sym (tuned_is n joins targets tunings result f)) h)

    first_is : (k : ℕ) → FirstRefused numbers f.players k → (a : Turn Trying ℕ) → Came numbers f.players a → (left_by a).number ≡ k
    first_is k r (more t) c = absurd (r.refused (sym r.number ∙ c r.at r.within))
    first_is k r (stop j) c = go (ltb c.at r.at) (ltb r.at c.at) refl refl
      where
        go : (a b : Bool) → ltb c.at r.at ≡ a → ltb r.at c.at ≡ b → j ≡ k
        go true b p q = absurd (c.refused (sym c.number ∙ r.before c.at (ltb-true c.at r.at p)))
        go false true p q = absurd (r.refused (sym r.number ∙ c.before r.at (ltb-true r.at c.at q)))
        go false false p q = let x = ltb-false c.at r.at p in let y = ltb-false r.at c.at q in let e : c.at ≡ r.at = omega (arith, x, y) in sym c.number ∙ ap numbers e ∙ r.number

    none_is : ((i : ℕ) → i < f.players → numbers i ≡ 0) → (a : Turn Trying ℕ) → Came numbers f.players a → (left_by a).number ≡ 0
    none_is z (more t) c = refl
    none_is z (stop j) c = absurd (c.refused (sym c.number ∙ z c.at c.within))

    after-joins : IsMap s ts → Within f.tuned steps → Holds f.tuned tunings → (trial_in n s ts joins targets tunings steps result).number ≡ (left_by joined).number
    after-joins m w h = number_is true true true true (is_whole n joins targets tunings result f) (is_mapped m) (tested w) (held h)

    came-here : Came numbers f.players joined
    came-here = came n s ts joins targets f.players f.joined f.aimed

  answered : (k : ℕ) → Because k → (trial_in n s ts joins targets tunings steps result).number ≡ k
  answered k (why.TrialAnswers.not_whole e g) = number_is false (is_map s ts) (is_trial (tunings_in tunings) steps) (have_holds (tuning_rows tunings)) (failed (whole_test n joins targets tunings result) (λ t. g (whole_is n joins targets tunings result t))) refl refl refl ∙ sym e
  answered k (why.TrialAnswers.no_map e f g) = number_is true false (is_trial (tunings_in tunings) steps) (have_holds (tuning_rows tunings)) (is_whole n joins targets tunings result f) (failed (is_map s ts) (λ t. g (map_is s ts t))) refl refl ∙ sym e
  answered k (why.TrialAnswers.no-trial e f m g) = number_is true true false (have_holds (tuning_rows tunings)) (is_whole n joins targets tunings result f) (is_mapped f m) (failed (is_trial (tunings_in tunings) steps) (λ t. g (subst (λ (j : ℕ). Within j steps) (tuned_is n joins targets tunings result f) (within_is (tunings_in tunings) steps t)))) refl ∙ sym e
  answered k (why.TrialAnswers.no_hold e f m w g) = number_is true true true false (is_whole n joins targets tunings result f) (is_mapped f m) (tested f w) (failed (have_holds (tuning_rows tunings)) (λ t. g (subst (λ (j : ℕ). Holds j tunings) (tuned_is n joins targets tunings result f) (holds_is tunings n t)))) ∙ sym e
  answered k (why.TrialAnswers.refused f m w h r) = after-joins f m w h ∙ first_is f k r joined (came-here f)
  answered k (why.TrialAnswers.accepted e f m w h z) = after-joins f m w h ∙ none_is f z joined (came-here f) ∙ sym e

pub answers_of_trials : (n : ℕ) → AnswersOfTrials n
answers_of_trials n s ts joins targets tunings steps result k = (
  λ e. subst (TrialAnswers n s ts joins targets tunings steps result)
      (sym (number_is n s ts joins targets tunings steps result (whole_test n joins targets tunings result) (is_map s ts) (is_trial (tunings_in tunings) steps) (have_holds (tuning_rows tunings)) refl refl refl refl) ∙ e)
      (reason n s ts joins targets tunings steps result (whole_test n joins targets tunings result) (is_map s ts) (is_trial (tunings_in tunings) steps) (have_holds (tuning_rows tunings)) refl refl refl refl),
  answered n s ts joins targets tunings steps result k,
)
