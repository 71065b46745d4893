use mathlib.Core.Path.{refl, ap}
use mathlib.Core.List.{List}
use Prim.Native.Nat.{ℕ, ◌*◌, ◌^◌, ◌≤◌, ◌<◌}
use native.Mathlib.Nat.{mul-le-mul, lt_of_le_of_lt}
use native.Mathlib.Omega.{arith}
use lib.Dec.{lit<}
use lib.IntN.{pos}
use mir.Facts.{Fits-of_lt}
use mir.Syntax.{w32}
use mir.Val.{to_z}
use Rattle.std.specs.declared.option.Option.TheVariants.{Some}
use Rattle.text_map.specs.Reading.{MapAt}
use Rattle.text_map.specs.declared.map_text.MapPart.{MapPart}
use Rattle.text_map.proofs.Maps.{map_read}
use Rattle.text_writing.specs.Output.{answer_bytes}
use Rattle.text_writing.proofs.Sizes.{put_as}
use Rattle.world.specs.declared.World.{World}
use Rattle.session_run.specs.declared.start.Begun.{Begun}
use Rattle.session_run.specs.Line.{ended_at, goes_on}
use Rattle.session_run.specs.Start.{fault, map}
use Rattle.session_run.proofs.start.begin.Goals as goal

-- a map that was read has sides up to 1,024
sides : (s d : List ℕ) (p : MapPart) → MapAt s d (Some p) → (p.width ≤ 1024) × (p.height ≤ 1024)
sides s d p m = let k = (map_read s d p refl m).1 in (k.width.1, k.height.1)

product : (w h : ℕ) → (w ≤ 1024) × (h ≤ 1024) → w * h < 2 ^ 64
product w h p = lt_of_le_of_lt (mul-le-mul p.0 p.1) (lit< tt)

pub overflow_cast-result : goal.overflow_cast-result
overflow_cast-result c = let h = sides _ _ _ c.in-Some.ensures in Fits-of_lt (omega (arith, h.0))

pub overflow_cast-result-in-Some : goal.overflow_cast-result-in-Some
overflow_cast-result-in-Some c = let h = sides _ _ _ c.in-Some.ensures in Fits-of_lt (omega (arith, h.1))

pub overflow_mul-result : goal.overflow_mul-result
overflow_mul-result c = Fits-of_lt (product _ _ (sides _ _ _ c.in-Some.ensures))

pub returns-in-None : goal.returns-in-None
returns-in-None c =
    let made : World → Begun = λ w. record { sides = record { width = 0; height = 0 }; count = 0; first = ended_at 1 0 w c.put_answer.result } in
    fault _ _ c.in-None.ensures c.put_heading-end.ensures (put_as (ap (λ (n : ℕ). answer_bytes (pos 1) (to_z w32 n)) c.from.ensures) refl c.put_answer.ensures) (ap made c.fresh.ensures)

pub returns-in-Some : goal.returns-in-Some
returns-in-Some c =
    let p = c.in-Some.map in
    let made : World → Begun = λ w. record { sides = record { width = p.width; height = p.height }; count = p.width * p.height; first = goes_on 1 p.next w c.put_heading-end.result } in
    map p c.in-Some.ensures c.put_heading-end.ensures (ap made c.fresh-in-Some.ensures)
