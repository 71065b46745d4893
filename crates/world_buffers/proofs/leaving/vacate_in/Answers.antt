use mathlib.Core.List.{List}
use mathlib.Core.Path.{ap₂, ◌∙◌}
use Prim.Native.Nat.{ℕ}
use lib.IntN.{ℤ, pos}
use lib.ListN.{replicate}
use Rattle.base_rows.specs.Put.{put}
use Rattle.world_numbers.specs.Encoding.{seat_count}
use Rattle.world_buffers.specs.Leaving.{vacate_in}
use Rattle.world_buffers.proofs.leaving.vacate_in.Goals as goal

pub returns : goal.returns
unfolding vacate_in
returns c = c.copy.ensures ∙ ap₂ (λ (l : List ℤ) (at : ℕ). put l at (replicate seat_count (pos 0))) c.release_in.ensures c.seat_place.ensures
