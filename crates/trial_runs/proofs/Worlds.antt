-- The numbers of a world that calls can reach, and what calls make of them. Assumes nothing.
use Prim.Native.Nat.{ℕ, ◌+◌}
use mathlib.Core.List.{List, ◌++◌}
use mathlib.Core.Path.{◌≡◌, refl, sym, ap, ◌∙◌, subst}
use native.Mathlib.Omega.{arith}
use lib.IntN.{ℤ, pos}
use lib.ListN.{length, replicate, drop, length-replicate}
use lib.Seq.{drop_at}
use borrow.Author.Tests.{eq-eqb}
use Rattle.base_rows.specs.Put.{put}
use Rattle.game_tuning.specs.Tuning.{tuning_count}
use Rattle.map_tiles.specs.declared.tiles.Sides.{Sides}
use Rattle.character.specs.Tick.{seats}
use Rattle.world.specs.Run.{ran}
use Rattle.world.specs.Settled.{Settled}
use Rattle.world.specs.Step.{step}
use Rattle.world.specs.declared.World.{World}
use Rattle.world.specs.declared.call.Call.{Call}
use Rattle.world.proofs.Settled.{answer-settled}
use Rattle.world_numbers.specs.Encoding.{world_count, records_count, each, seat_numbers, encoding, records_encoding}
use Rattle.world_numbers.specs.Decoding.{decoding}
use Rattle.world_numbers.proofs.Encoded.{decoding-encoding}
use Rattle.world_buffers.specs.Stepping.{StepBuffers, LeftByStep, left_by_step, step_in}
use Rattle.world_buffers.specs.Following.{left_by}
use Rattle.world_buffers.proofs.Reached.{encoding_proper, one, one_number}
use Rattle.trial_runs.specs.InPlace.{IsWorld}

pub is_encoding : (w : World) → Settled seats w → IsWorld (encoding w)
is_encoding w h = let e = decoding-encoding seats w h in record { numbers = ap encoding e; settled = subst (Settled seats) (sym e) h }

pub world_long : (l : List ℤ) → IsWorld l → length l ≡ world_count
world_long l h = ap length (sym h.numbers) ∙ (encoding_proper (decoding seats l) h.settled).long

-- ---- a call

-- what it makes of the numbers l, with b for a step to tell
pub record Called (s : Sides) (ts : List ℕ) (b : StepBuffers) (l : List ℤ) (c : Call) : Type 0 where
  pub kept : IsWorld (left_by s ts b l c).world
  pub world : decoding seats (left_by s ts b l c).world ≡ (ran seats s ts (decoding seats l) c).world
  pub number : (left_by s ts b l c).number ≡ (ran seats s ts (decoding seats l) c).number

pub called : (s : Sides) (ts : List ℕ) (b : StepBuffers) (l : List ℤ) (c : Call) → length b.records ≡ records_count → length b.removed ≡ seats → IsWorld l → Called s ts b l c
called s ts b l c k m h =
    let w = decoding seats l in
    let v = (ran seats s ts w c).world in
    let q = answer-settled seats s ts w c h.settled in
    let e : (left_by s ts b l c).world ≡ encoding v = ap (λ (x : List ℤ). (left_by s ts b x c).world) (sym h.numbers) ∙ one s ts b k m w c h.settled in
    record {
      kept = subst IsWorld (sym e) (is_encoding v q);
      world = ap (decoding seats) e ∙ decoding-encoding seats v q;
      number = ap (λ (x : List ℤ). (left_by s ts b x c).number) (sym h.numbers) ∙ one_number s ts b k m w c h.settled;
    }

-- where a step isn't called there is nothing to tell
abbrev pub no_buffers : StepBuffers
no_buffers = record { records = replicate records_count (pos 0); removed = replicate seats (pos 0); count = 0 }

pub called_quietly : (s : Sides) (ts : List ℕ) (l : List ℤ) (c : Call) → IsWorld l → Called s ts no_buffers l c
called_quietly s ts l c h = called s ts no_buffers l c (length-replicate records_count (pos 0)) (length-replicate seats (pos 0)) h

-- the records of an accepted step
pub told_records : (s : Sides) (ts : List ℕ) (l : List ℤ) (b : StepBuffers) (a : LeftByStep) → length l ≡ world_count → length b.records ≡ records_count → length b.removed ≡ seats → step_in s ts l b ≡ a → (step seats (decoding seats l) s ts).number ≡ 0 → a.told.records ≡ records_encoding (step seats (decoding seats l) s ts).records
unfolding step_in left_by_step
told_records s ts l b a h k m e z =
    sym (ap (λ (x : LeftByStep). x.told.records) e) ∙ rw (eq-eqb (length l) world_count h, eq-eqb (length b.records) records_count k, eq-eqb (length b.removed) seats m, eq-eqb (step seats (decoding seats l) s ts).number 0 z) refl

-- ---- other tunings

-- w with the tunings zs
abbrev pub tuned : World → List ℤ → World
tuned w zs = record { slots = w.slots; tunings = zs }

tuned_settled : (w : World) (zs : List ℤ) → length zs ≡ tuning_count → Settled seats w → Settled seats (tuned w zs)
tuned_settled w zs e h = record { seats = h.seats; tunings = e; representable = h.representable; empty = h.empty }

put_tunings : (w : World) (zs : List ℤ) → length zs ≡ length w.tunings → put (encoding w) 0 zs ≡ encoding (tuned w zs)
unfolding put encoding
put_tunings w zs e = let q : 0 + length zs ≡ length w.tunings = omega (arith, e) in ap (λ (r : List ℤ). zs ++ r) (ap (λ (n : ℕ). drop n (w.tunings ++ each seat_numbers w.slots)) q ∙ drop_at w.tunings (each seat_numbers w.slots) (length w.tunings) refl)

module _ (l zs : List ℤ) (h : IsWorld l) (e : length zs ≡ tuning_count) where
  written : put l 0 zs ≡ encoding (tuned (decoding seats l) zs)
  written = ap (λ (x : List ℤ). put x 0 zs) (sym h.numbers) ∙ put_tunings (decoding seats l) zs (e ∙ sym h.settled.tunings)

  pub tuned_kept : IsWorld (put l 0 zs)
  tuned_kept = subst IsWorld (sym written) (is_encoding (tuned (decoding seats l) zs) (tuned_settled (decoding seats l) zs e h.settled))

  pub tuned_world : decoding seats (put l 0 zs) ≡ tuned (decoding seats l) zs
  tuned_world = ap (decoding seats) written ∙ decoding-encoding seats (tuned (decoding seats l) zs) (tuned_settled (decoding seats l) zs e h.settled)
