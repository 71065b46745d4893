-- Calls by what they are for, on any state in which seats and tunings are set: those that may be exchanged commute. Assumes nothing.
use Prim.Native.Nat.{ℕ, ◌<◌}
use mathlib.Core.Bool.{Bool, true, false, cond}
use mathlib.Core.Path.{◌≡◌, sym, ap}
use native.Mathlib.Omega.{arith}
use lib.Dec.{ltb}
use lib.IntN.{ℤ, pos, negsuc}
use Rattle.game_tuning.specs.Tuning.{tuning_count}
use Rattle.world.specs.declared.call.Call.{Call}
use Rattle.world.specs.Calls.{place_of}
use Rattle.world_late.specs.Late.{Subject, seat, tuning, everything, Apart}
use Rattle.world_late.proofs.Changes.{Change, Commuting, commuting}

-- two ids that name one place name none
places-apart : (n : ℕ) (a b : ℤ) → (a ≡ b → ⊥) → place_of n b < n → place_of n a ≡ place_of n b → ⊥
unfolding place_of
places-apart n (pos i) (pos j) d l e = go (ltb i n) (ltb j n) l e
  where
    go : (x y : Bool) → cond y j n < n → cond x i n ≡ cond y j n → ⊥
    go true true h q = d (ap pos q)
    go true false h q = omega arith
    go false true h q = omega arith
    go false false h q = omega arith
places-apart n (negsuc i) b d l e = omega arith
places-apart n (pos i) (negsuc j) d l e = omega arith

-- an id or an index
abbrev pub Named : Subject → Type 0
Named (seat id) = Unit {0}
Named (tuning index) = Unit {0}
Named everything = ⊥

pub both_named : (p q : Subject) → Apart p q → Named p × Named q
both_named (seat a) (seat b) h = (tt, tt)
both_named (seat a) (tuning b) h = (tt, tt)
both_named (tuning a) (seat b) h = (tt, tt)
both_named (tuning a) (tuning b) h = (tt, tt)
both_named (seat a) everything h = absurd h
both_named (tuning a) everything h = absurd h
both_named everything q h = absurd h

-- an action at one of n seats, and a tuning that is set, in a state of the right size; what a call answers
module _ {S D : Type 0} (n : ℕ) (Fits : S → Type 0) (act : ℕ → D → S → S) (tuned : ℕ → ℤ → S → S) (number : Call → S → ℕ) where
  -- what an accepted call does, and what its answer does not ask: of an id, who is elsewhere, and the tunings
  pub record AtSeat (c : Call) (id : ℤ) : Type 0 where
    pub action : D
    pub elsewhere : (j : ℕ) (e : D) (s : S) → Fits s → j < n → (place_of n id ≡ j → ⊥) → number c (act j e s) ≡ number c s
    pub untuned : (i : ℕ) (z : ℤ) (s : S) → Fits s → i < tuning_count → number c (tuned i z s) ≡ number c s
    pub fits : (s : S) → number c s ≡ 0 → Fits s
    pub known : (s : S) → number c s ≡ 0 → place_of n id < n

  -- of a tuning, who is anywhere, and the tunings
  pub record AtTuning (c : Call) (index : ℤ) : Type 0 where
    pub value : ℤ
    pub anywhere : (j : ℕ) (e : D) (s : S) → Fits s → j < n → number c (act j e s) ≡ number c s
    pub untuned : (i : ℕ) (z : ℤ) (s : S) → Fits s → i < tuning_count → number c (tuned i z s) ≡ number c s
    pub fits : (s : S) → number c s ≡ 0 → Fits s
    pub known : (s : S) → number c s ≡ 0 → place_of tuning_count index < tuning_count

  abbrev pub At : Call → Subject → Type 0
  At c (seat id) = AtSeat c id
  At c (tuning index) = AtTuning c index
  At c everything = Unit {0}

  abbrev next_at : (c : Call) (p : Subject) → At c p → S → S
  next_at c (seat id) x s = act (place_of n id) x.action s
  next_at c (tuning index) x s = tuned (place_of tuning_count index) x.value s
  next_at c everything x s = s

  -- the change that a call is
  abbrev pub change_at : (c : Call) (p : Subject) → At c p → Change S
  change_at c p x = record { number = number c; next = next_at c p x }

  module _ (actions : (i j : ℕ) (e f : D) (s : S) → Fits s → i < n → j < n → (i ≡ j → ⊥) → act j f (act i e s) ≡ act i e (act j f s))
      (action_tuned : (k : ℕ) (e : D) (i : ℕ) (z : ℤ) (s : S) → Fits s → k < n → i < tuning_count → tuned i z (act k e s) ≡ act k e (tuned i z s))
      (tunings : (i j : ℕ) (y z : ℤ) (s : S) → (i ≡ j → ⊥) → tuned j z (tuned i y s) ≡ tuned i y (tuned j z s)) where
    pub subjects-commute : (c d : Call) (p q : Subject) (x : At c p) (y : At d q) → Apart p q → (s : S) → Commuting (change_at c p x) (change_at d q y) s
    subjects-commute c d (seat a) (seat b) x y h s = commuting _ _ s
        (λ z. x.elsewhere _ y.action s (y.fits s z) (y.known s z) (places-apart n a b h (y.known s z)))
        (λ z. y.elsewhere _ x.action s (x.fits s z) (x.known s z) (places-apart n b a (λ e. h (sym e)) (x.known s z)))
        (λ z t. actions _ _ x.action y.action s (x.fits s z) (x.known s z) (y.known s t) (places-apart n a b h (y.known s t)))
    subjects-commute c d (seat a) (tuning b) x y h s = commuting _ _ s
        (λ z. x.untuned _ y.value s (y.fits s z) (y.known s z))
        (λ z. y.anywhere _ x.action s (x.fits s z) (x.known s z))
        (λ z t. action_tuned _ x.action _ y.value s (x.fits s z) (x.known s z) (y.known s t))
    subjects-commute c d (tuning a) (seat b) x y h s = commuting _ _ s
        (λ z. x.anywhere _ y.action s (y.fits s z) (y.known s z))
        (λ z. y.untuned _ x.value s (x.fits s z) (x.known s z))
        (λ z t. sym (action_tuned _ y.action _ x.value s (x.fits s z) (y.known s t) (x.known s z)))
    subjects-commute c d (tuning a) (tuning b) x y h s = commuting _ _ s
        (λ z. x.untuned _ y.value s (y.fits s z) (y.known s z))
        (λ z. y.untuned _ x.value s (x.fits s z) (x.known s z))
        (λ z t. tunings _ _ x.value y.value s (places-apart tuning_count a b h (y.known s t)))
    subjects-commute c d (seat a) everything x y h s = absurd h
    subjects-commute c d (tuning a) everything x y h s = absurd h
    subjects-commute c d everything q x y h s = absurd h
