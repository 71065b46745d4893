-- Calls that arrive in no fixed order: which may be exchanged, and which replaces which, as claims about two calls and about lists. Definitions only; proofs/Late.antt proves them.
use Rattle.std.specs.Prelude.{ℕ, List, [], ◌∷◌, ◌++◌, ◌≢◌, ◌≡◌, ℤ}
use Rattle.map_tiles.specs.declared.tiles.Sides.{Sides}
use Rattle.world.specs.declared.call.Call.{Call}
use Rattle.world.specs.declared.call.Call.TheVariants.{Join, Leave, Input, Step, Tune}
use Rattle.world.specs.Run.{ran, after, Told, told_by, told}
use Rattle.world.specs.declared.World.{World}

-- ---- which calls

-- what a call is for: the id that it names, the index of a tuning, or everything
pub data Subject : Type 0 where
  seat : ℤ → Subject
  tuning : ℤ → Subject
  everything : Subject

abbrev pub subject_of : Call → Subject
subject_of (Join id x y) = seat id
subject_of (Leave id) = seat id
subject_of (Input id d x y j h) = seat id
subject_of (Tune index z) = tuning index
subject_of Step = everything

-- different ids, different indexes, or an id and an index
abbrev pub Apart : Subject → Subject → Type 0
Apart (seat a) (seat b) = a ≡ b → ⊥
Apart (seat a) (tuning b) = Unit {0}
Apart (seat a) everything = ⊥
Apart (tuning a) (seat b) = Unit {0}
Apart (tuning a) (tuning b) = a ≡ b → ⊥
Apart (tuning a) everything = ⊥
Apart everything q = ⊥

-- joins, inputs and leaves for different ids, tunes of different indexes, a tune and any join, input or leave; a step with no call
abbrev pub MayExchange : Call → Call → Type 0
MayExchange c d = Apart (subject_of c) (subject_of d)

-- a join, a leave or an input for an id
pub data CallFor (id : ℤ) : Call → Type 0 where
  join : {x y : ℤ} → CallFor id (Join id x y)
  leave : CallFor id (Leave id)
  input : {d x y j h : ℤ} → CallFor id (Input id d x y j h)

-- that all these may be exchanged
pub record WhatMayBeExchanged : Type 0 where
  -- calls for two different ids
  pub ids : (a b : ℤ) (c d : Call) → CallFor a c → CallFor b d → a ≢ b → MayExchange c d
  -- tunes of different indexes
  pub indexes : (a b y z : ℤ) → a ≢ b → MayExchange (Tune a y) (Tune b z)
  -- a tune and every call for an id, in either order
  pub tune_first : (index z id : ℤ) (c : Call) → CallFor id c → MayExchange (Tune index z) c
  pub tune_last : (index z id : ℤ) (c : Call) → CallFor id c → MayExchange c (Tune index z)

-- an input and a later one for the same id, a tune and a later one of the same index
pub data MayReplace : Call → Call → Type 0 where
  inputs : {id d x y j h d' x' y' j' h' : ℤ} → MayReplace (Input id d x y j h) (Input id d' x' y' j' h')
  tunes : {index z z' : ℤ} → MayReplace (Tune index z) (Tune index z')

-- ---- two calls, in any world of any size

-- in either order each tells the same, its number among it, and the world after both is the same
pub record Exchanged (n : ℕ) (s : Sides) (ts : List ℕ) (w : World) (c d : Call) : Type 0 where
  pub first : told_by (ran n s ts (ran n s ts w d).world c) ≡ told_by (ran n s ts w c)
  pub second : told_by (ran n s ts (ran n s ts w c).world d) ≡ told_by (ran n s ts w d)
  pub world : after n s ts w (c ∷ d ∷ []) ≡ after n s ts w (d ∷ c ∷ [])

-- whether they are accepted or not; so both are accepted in the one order where they are in the other
abbrev pub CallsCommute : ℕ → Type 0
CallsCommute n = (s : Sides) (ts : List ℕ) (w : World) (c d : Call) → MayExchange c d → Exchanged n s ts w c d

-- the later, where it is accepted, does and tells what it would have if the earlier had never come
abbrev pub LaterReplaces : ℕ → Type 0
LaterReplaces n = (s : Sides) (ts : List ℕ) (w : World) (c d : Call) → MayReplace c d → let v = (ran n s ts w c).world in (ran n s ts v d).number ≡ 0 → ran n s ts v d ≡ ran n s ts w d

-- ---- lists of calls, from any world

-- a call, and what it told
pub record CallTold : Type 0 where
  pub call : Call
  pub told : Told

-- each call of a list
abbrev pub calls_told : ℕ → Sides → List ℕ → World → List Call → List CallTold
calls_told n s ts w [] = []
calls_told n s ts w (c ∷ cs) = record { call = c; told = told_by (ran n s ts w c) } ∷ calls_told n s ts (ran n s ts w c).world cs

-- the second list is the first with neighbours exchanged that may be, anywhere and any number of times
pub data Reordered {A : Type 0} (call : A → Call) : List A → List A → Type 0 where
  same : (xs : List A) → Reordered call xs xs
  exchange : (x y : A) (xs : List A) → MayExchange (call x) (call y) → Reordered call (x ∷ y ∷ xs) (y ∷ x ∷ xs)
  behind : (x : A) {xs ys : List A} → Reordered call xs ys → Reordered call (x ∷ xs) (x ∷ ys)
  again : {xs ys zs : List A} → Reordered call xs ys → Reordered call ys zs → Reordered call xs zs

-- the world at the end is the same, and every call tells what it told: what was told changes places with the calls
abbrev pub LateLists : ℕ → Type 0
LateLists n = (s : Sides) (ts : List ℕ) (w : World) (cs ds : List Call) → Reordered (λ c. c) cs ds
    → (after n s ts w cs ≡ after n s ts w ds) × Reordered (λ p. p.call) (calls_told n s ts w cs) (calls_told n s ts w ds)

-- c struck out between what came before and d: the world at the end is the same, and every other call tells what it told
pub record Struck (n : ℕ) (s : Sides) (ts : List ℕ) (w : World) (before : List Call) (c d : Call) (rest : List Call) : Type 0 where
  pub world : after n s ts w (before ++ (c ∷ d ∷ rest)) ≡ after n s ts w (before ++ (d ∷ rest))
  pub whole : let v = after n s ts w before in told n s ts w (before ++ (c ∷ d ∷ rest)) ≡ told n s ts w before ++ (told_by (ran n s ts v c) ∷ told n s ts v (d ∷ rest))
  pub without : let v = after n s ts w before in told n s ts w (before ++ (d ∷ rest)) ≡ told n s ts w before ++ told n s ts v (d ∷ rest)

-- a call that the next one replaces
abbrev pub StruckLists : ℕ → Type 0
StruckLists n = (s : Sides) (ts : List ℕ) (w : World) (before : List Call) (c d : Call) (rest : List Call) → MayReplace c d
    → (ran n s ts (after n s ts w (before ++ (c ∷ []))) d).number ≡ 0 → Struck n s ts w before c d rest
