-- Calls and reads by the number of a role on a world's numbers are those by the role on the world that they stand for. Assumes nothing.
use Prim.Native.Nat.{ℕ, zero, suc}
use mathlib.Core.Bool.{Bool, true, false, cond}
use mathlib.Core.List.{List, [], ◌∷◌}
use mathlib.Core.Path.{◌≡◌, refl, ap, ◌∙◌}
use lib.IntN.{ℤ, pos, negsuc}
use Rattle.game_refusals.specs.Refusals.{not_allowed}
use Rattle.map_tiles.specs.declared.tiles.Sides.{Sides}
use Rattle.character.specs.Tick.{seats}
use Rattle.world.specs.Readers.{read_of}
use Rattle.world.specs.Run.{ran}
use Rattle.world.specs.Step.{step_refused}
use Rattle.world.specs.declared.call.Call.{Call}
use Rattle.world.specs.declared.call.Call.TheVariants.{Join, Leave, Input, Step, Tune}
use Rattle.world.specs.ReadAnswer as reading
use Rattle.role_rule.specs.Roles.{allowed, role_number, may_ask}
use Rattle.role_rule.specs.declared.Ask.{Ask}
use Rattle.role_rule.specs.declared.Ask.TheVariants as ask
use Rattle.role_rule.specs.declared.Role.{Role}
use Rattle.role_rule.specs.declared.Role.TheVariants.{Referee, Seat, Board}
use Rattle.world_numbers.specs.Decoding.{decoding}
use Rattle.world_buffers.specs.Buffers.{LeftWorld, refused_in, leave_in, tune_in}
use Rattle.world_buffers.specs.Readers.{ReadTold, untold, reading_told, read_in}
use Rattle.world_buffers.specs.Stepping.{StepBuffers, step_in}
use Rattle.world_buffers.specs.Following.{left_of, left_by, left_by_all}
use Rattle.send_buffers.specs.Sends.{LeftBySend, LeftBySendStep, send_in, send_step_in}
use Rattle.send_buffers.specs.Following.{LinkNumbers, Lent, sender_lent, after_send, after_step, link_left, link_left_all}
use Rattle.send_buffers.proofs.Reached.{link_follows}
use Rattle.world_buffers.proofs.Readings.{right_lengths}
use Rattle.world_buffers.proofs.Stands.{calls_stand}
use Rattle.world_buffers.proofs.Reached.{buffer_follows}
use Rattle.ponguriena.specs.ByRole.{call_as, step_as, search_as}
use Rattle.ponguriena.specs.Standing.{left_as, StandsAs, RoleReadsStand, RoleCall, left_as_all, allowed_calls, link_left_as, link_left_as_all, RolesStand}

-- ---- the number of a role
role_asks : (r : Role) (a : Ask) → may_ask (role_number r) a ≡ allowed r a
unfolding may_ask
role_asks Referee a = refl
role_asks Board a = refl
role_asks (Seat k) a = refl

no_role : (z : ℤ) → ((r : Role) → z ≡ role_number r → ⊥) → (a : Ask) → may_ask z a ≡ false
unfolding may_ask
no_role (pos k) f a = absurd (f (Seat k) refl)
no_role (negsuc zero) f a = absurd (f Referee refl)
no_role (negsuc (suc zero)) f a = absurd (f Board refl)
no_role (negsuc (suc (suc k))) f a = refl

-- ---- one call
module _ (s : Sides) (ts : List ℕ) (b : StepBuffers) where
  -- what a call by a role leaves: the call, or nothing
  step_left : (role : ℤ) (l : List ℤ) → left_of (step_as role l b (step_in s ts l b)) ≡ call_as role Step l (left_of (step_in s ts l b))
  step_left role l = go (may_ask role (ask.Call Step))
    where
      go : (m : Bool) → left_of (cond m (step_in s ts l b) (record { number = not_allowed; world = l; told = b })) ≡ cond m (left_of (step_in s ts l b)) (refused_in l not_allowed)
      go true = refl
      go false = refl

  left_as_lem : (role : ℤ) (l : List ℤ) (c : Call) → left_as s ts b role l c ≡ call_as role c l (left_by s ts b l c)
  left_as_lem role l (Join id x y) = refl
  left_as_lem role l (Leave id) = refl
  left_as_lem role l (Input id d x y j h) = refl
  left_as_lem role l (Tune index z) = refl
  left_as_lem role l Step = step_left role l

  left_by_role : (role : Role) (l : List ℤ) (c : Call) → left_as s ts b (role_number role) l c ≡ cond (allowed role (ask.Call c)) (left_by s ts b l c) (refused_in l not_allowed)
  left_by_role role l c = left_as_lem (role_number role) l c ∙ ap (λ (m : Bool). cond m (left_by s ts b l c) (refused_in l not_allowed)) (role_asks role (ask.Call c))

  stands_as : (role : Role) (l : List ℤ) (c : Call) → (left_by s ts b l c).number ≡ (ran seats s ts (decoding seats l) c).number → decoding seats (left_by s ts b l c).world ≡ (ran seats s ts (decoding seats l) c).world → StandsAs s ts b role l c
  stands_as role l c n w = record {
    number = ap (λ (x : LeftWorld). x.number) (left_by_role role l c) ∙ number (allowed role (ask.Call c));
    world = ap (λ (x : LeftWorld). decoding seats x.world) (left_by_role role l c) ∙ next (allowed role (ask.Call c));
  }
    where
      number : (m : Bool) → (cond m (left_by s ts b l c) (refused_in l not_allowed)).number ≡ (cond m (ran seats s ts (decoding seats l) c) (step_refused seats (decoding seats l) not_allowed)).number
      number true = n
      number false = refl

      next : (m : Bool) → decoding seats (cond m (left_by s ts b l c) (refused_in l not_allowed)).world ≡ (cond m (ran seats s ts (decoding seats l) c) (step_refused seats (decoding seats l) not_allowed)).world
      next true = w
      next false = refl

  -- ---- a list
  all-allowed : (rs : List RoleCall) (l : List ℤ) → left_as_all s ts b l rs ≡ left_by_all s ts b l (allowed_calls rs)
  all-allowed [] l = refl
  all-allowed (r ∷ rs) l = ap (λ (x : LeftWorld). left_as_all s ts b x.world rs) (left_as_lem r.role l r.call) ∙ go (may_ask r.role (ask.Call r.call)) (all-allowed rs)
    where
      go : (m : Bool) → ((u : List ℤ) → left_as_all s ts b u rs ≡ left_by_all s ts b u (allowed_calls rs)) → left_as_all s ts b (cond m (left_by s ts b l r.call) (refused_in l not_allowed)).world rs ≡ left_by_all s ts b l (cond m (r.call ∷ allowed_calls rs) (allowed_calls rs))
      go true h = h (left_by s ts b l r.call).world
      go false h = h l

-- ---- beside a sender and a screen
module _ (s : Sides) (ts : List ℕ) (b : Lent) where
  -- a call on the world alone
  alone-left : (role : ℤ) (x : LinkNumbers) (c : Call) (m : Bool) → may_ask role (ask.Call c) ≡ m → record { world = (left_as s ts b.told role x.world c).world; sender = x.sender; screen = x.screen } ≡ cond m (record { world = (left_by s ts b.told x.world c).world; sender = x.sender; screen = x.screen }) x
  alone-left role x c true e = ap (λ (y : LeftWorld). record { world = y.world; sender = x.sender; screen = x.screen }) (left_as_lem s ts b.told role x.world c ∙ ap (λ (k : Bool). cond k (left_by s ts b.told x.world c) (refused_in x.world not_allowed)) e)
  alone-left role x c false e = ap (λ (y : LeftWorld). record { world = y.world; sender = x.sender; screen = x.screen }) (left_as_lem s ts b.told role x.world c ∙ ap (λ (k : Bool). cond k (left_by s ts b.told x.world c) (refused_in x.world not_allowed)) e)

  -- a leave or a tune, and a step
  sent_left : (x : LinkNumbers) (y : LeftBySend) (m : Bool) → after_send s ts b x (cond m y (record { left = refused_in x.world not_allowed; sent = sender_lent b x })) ≡ cond m (after_send s ts b x y) x
  sent_left x y true = refl
  sent_left x y false = refl

  stepped_left : (x : LinkNumbers) (y : LeftBySendStep) (m : Bool) → after_step s ts b x (cond m y (record { left = record { number = not_allowed; world = x.world; told = b.told }; sent = sender_lent b x })) ≡ cond m (after_step s ts b x y) x
  stepped_left x y true = refl
  stepped_left x y false = refl

  link_left_lem : (role : ℤ) (x : LinkNumbers) (c : Call) → link_left_as s ts b role x c ≡ cond (may_ask role (ask.Call c)) (link_left s ts b x c) x
  link_left_lem role x (Join id u v) = alone-left role x (Join id u v) (may_ask role (ask.Call (Join id u v))) refl
  link_left_lem role x (Leave id) = sent_left x (send_in (Leave id) (leave_in x.world id) x.world (sender_lent b x)) (may_ask role (ask.Call (Leave id)))
  link_left_lem role x (Input id d u v j h) = alone-left role x (Input id d u v j h) (may_ask role (ask.Call (Input id d u v j h))) refl
  link_left_lem role x (Tune index z) = sent_left x (send_in (Tune index z) (tune_in x.world index z) x.world (sender_lent b x)) (may_ask role (ask.Call (Tune index z)))
  link_left_lem role x Step = stepped_left x (send_step_in s ts x.world b.told (sender_lent b x)) (may_ask role (ask.Call Step))

  links_allowed : (rs : List RoleCall) (x : LinkNumbers) → link_left_as_all s ts b x rs ≡ link_left_all s ts b x (allowed_calls rs)
  links_allowed [] x = refl
  links_allowed (r ∷ rs) x = ap (λ (y : LinkNumbers). link_left_as_all s ts b y rs) (link_left_lem r.role x r.call) ∙ go (may_ask r.role (ask.Call r.call)) (links_allowed rs)
    where
      go : (m : Bool) → ((y : LinkNumbers) → link_left_as_all s ts b y rs ≡ link_left_all s ts b y (allowed_calls rs)) → link_left_as_all s ts b (cond m (link_left s ts b x r.call) x) rs ≡ link_left_all s ts b x (cond m (r.call ∷ allowed_calls rs) (allowed_calls rs))
      go true h = h (link_left s ts b x r.call)
      go false h = h x

-- ---- a read
reads_stand : RoleReadsStand
reads_stand role q l out h g = ap (λ (m : Bool). cond m (read_in q l out) (untold out not_allowed)) (role_asks role (ask.Read q)) ∙ go (allowed role (ask.Read q))
  where
    go : (m : Bool) → cond m (read_in q l out) (untold out not_allowed) ≡ reading_told out (cond m (read_of seats (decoding seats l) q) (reading.Refused not_allowed))
    go true = right_lengths q l out h g
    go false = refl

-- ---- a search
referee_searches : (out : List ℤ) (told : ReadTold) → search_as (role_number Referee) out told ≡ told
unfolding may_ask
referee_searches out told = refl

others_told : (z : ℤ) → (z ≡ role_number Referee → ⊥) → (out : List ℤ) (told : ReadTold) → search_as z out told ≡ untold out not_allowed
unfolding may_ask
others_told (pos k) h out told = refl
others_told (negsuc zero) h out told = absurd (h refl)
others_told (negsuc (suc zero)) h out told = refl
others_told (negsuc (suc (suc k))) h out told = refl

pub roles_stand : RolesStand
roles_stand = record {
  numbers = record { role = role_asks; none = no_role };
  calls = λ s ts b role l c h g d f. let e = calls_stand s ts b l c h g d f in stands_as s ts b role l c e.number e.world;
  reads = reads_stand;
  follows = λ s ts b rs g d. all-allowed s ts b rs _ ∙ buffer_follows s ts b (allowed_calls rs) g d;
  links = λ s ts b rs g d e. links_allowed s ts b rs _ ∙ link_follows s ts b (allowed_calls rs) g d e;
  searches = record { referee = referee_searches; others = others_told };
}
